-- Rectangles that are placed, and placements one after another.
use Rattle.std.proofs.Common.{◌≡◌, ℤ, ◌+ℤ◌, ◌∙◌, ap}
use Rattle.std.specs.Int.{int_min, int_max}
use Rattle.geom.specs.declared.layer.Layer.TheVariants.{Metal}
use Rattle.geom.specs.Squares.{BoxShape}
use Rattle.geom.specs.Turns.{moved, turned_x, turned_y}
use Rattle.cif_drawing.specs.declared.placement.Placement.{Placement}
use Rattle.cif_drawing.specs.declared.wide_point.WidePoint.{WidePoint}
use Rattle.cif_drawing.specs.declared.measure.Extent.{Extent}
use Rattle.cif_drawing.specs.Placements.{placed}
use Rattle.cif_drawing.specs.Measures.{extent_box}
use Rattle.cif_drawing.proofs.Placed.{box_same, IsBehind, moved_behind}

low_edge : (f l m r u v d : ℤ) → f ≡ u → l ≡ v → m ≡ int_min f l → r ≡ m +ℤ d → r ≡ int_min u v +ℤ d
low_edge f l m r u v d p q s t = t ∙ ap (λ (w : ℤ). w +ℤ d) (s ∙ (ap (λ (w : ℤ). int_min w l) p ∙ ap (λ (w : ℤ). int_min u w) q))

high_edge : (f l m r u v d : ℤ) → f ≡ u → l ≡ v → m ≡ int_max f l → r ≡ m +ℤ d → r ≡ int_max u v +ℤ d
high_edge f l m r u v d p q s t = t ∙ ap (λ (w : ℤ). w +ℤ d) (s ∙ (ap (λ (w : ℤ). int_max w l) p ∙ ap (λ (w : ℤ). int_max u w) q))

pub extent_placed : (e r : Extent) (p : Placement) (first last low high : WidePoint) → first.x ≡ turned_x p.turn e.low.x e.low.y → first.y ≡ turned_y p.turn e.low.x e.low.y
    → last.x ≡ turned_x p.turn e.high.x e.high.y → last.y ≡ turned_y p.turn e.high.x e.high.y → low.x ≡ int_min first.x last.x → low.y ≡ int_min first.y last.y
    → high.x ≡ int_max first.x last.x → high.y ≡ int_max first.y last.y → r.low.x ≡ low.x +ℤ p.by.x → r.low.y ≡ low.y +ℤ p.by.y → r.high.x ≡ high.x +ℤ p.by.x
    → r.high.y ≡ high.y +ℤ p.by.y → extent_box r ≡ placed p (extent_box e)
extent_placed e r p first last low high fx fy lx ly ax ay bx by cx cy dx dy =
    box_same Metal _ _ _ _ _ _ _ _ (low_edge first.x last.x low.x r.low.x _ _ p.by.x fx lx ax cx) (low_edge first.y last.y low.y r.low.y _ _ p.by.y fy ly ay cy)
    (high_edge first.x last.x high.x r.high.x _ _ p.by.x fx lx bx dx) (high_edge first.y last.y high.y r.high.y _ _ p.by.y fy ly by dy)

pub then_placed : (s n r : Placement) → IsBehind s.turn n.turn r.turn → r.by.x ≡ turned_x n.turn s.by.x s.by.y +ℤ n.by.x
    → r.by.y ≡ turned_y n.turn s.by.x s.by.y +ℤ n.by.y → (b : BoxShape) → placed r b ≡ placed n (placed s b)
then_placed s n r h x y b =
    ap (λ (v : ℤ). moved b r.turn v r.by.y) x
    ∙ (ap (λ (v : ℤ). moved b r.turn (turned_x n.turn s.by.x s.by.y +ℤ n.by.x) v) y
    ∙ moved_behind b s.turn n.turn r.turn s.by.x s.by.y n.by.x n.by.y h)

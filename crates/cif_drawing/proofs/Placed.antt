-- Boxes that are placed, and placed again.
use Rattle.std.proofs.Common.{◌≡◌, Bool, true, false, cond, ℤ, pos, ◌+ℤ◌, ◌∙◌, ap}
use Rattle.std.specs.Int.{int_min, int_max}
use Rattle.geom.specs.declared.layer.Layer.{Layer}
use Rattle.geom.specs.declared.orient.Orient.{Orient}
use Rattle.geom.specs.Squares.{BoxShape}
use Rattle.geom.specs.Turns.{moved, turned_x, turned_y, flipped}
use Rattle.cif_drawing.specs.declared.placement.Placement.{Placement}
use Rattle.cif_drawing.specs.Placements.{placed, IsOrdered}
use Rattle.cif_drawing.proofs.Axes.{differ, flipped_twice, low_behind, high_behind, ordered_behind, low_still, high_still, low_both, high_both}

pub box_same : (l : Layer) (a b c d a' b' c' d' : ℤ) → a ≡ a' → b ≡ b' → c ≡ c' → d ≡ d'
    → (let r : BoxShape = record { layer = l; x1 = a; y1 = b; x2 = c; y2 = d } in r)
    ≡ (let r : BoxShape = record { layer = l; x1 = a'; y1 = b'; x2 = c'; y2 = d' } in r)
box_same l a b c d a' b' c' d' p q r s =
    ap (λ (v : ℤ). record { layer = l; x1 = v; y1 = b; x2 = c; y2 = d }) p
    ∙ (ap (λ (v : ℤ). record { layer = l; x1 = a'; y1 = v; x2 = c; y2 = d }) q
    ∙ (ap (λ (v : ℤ). record { layer = l; x1 = a'; y1 = b'; x2 = v; y2 = d }) r
    ∙ ap (λ (v : ℤ). record { layer = l; x1 = a'; y1 = b'; x2 = c'; y2 = v }) s))

-- ---- one turn behind another

-- the turn r is first o, then p
pub record IsBehind (o p r : Orient) : Type 0 where
  pub across : (x y : ℤ) → turned_x r x y ≡ turned_x p (turned_x o x y) (turned_y o x y)
  pub upward : (x y : ℤ) → turned_y r x y ≡ turned_y p (turned_x o x y) (turned_y o x y)

pub moved_behind : (b : BoxShape) (o p r : Orient) (x y u v : ℤ) → IsBehind o p r
    → moved b r (turned_x p x y +ℤ u) (turned_y p x y +ℤ v) ≡ moved (moved b o x y) p u v
moved_behind b o p r x y u v h =
    box_same b.layer _ _ _ _ _ _ _ _
    (ap (λ (w : ℤ). int_min w (turned_x r b.x2 b.y2) +ℤ (turned_x p x y +ℤ u)) (h.across b.x1 b.y1)
    ∙ (ap (λ (w : ℤ). int_min (turned_x p (turned_x o b.x1 b.y1) (turned_y o b.x1 b.y1)) w +ℤ (turned_x p x y +ℤ u)) (h.across b.x2 b.y2)
    ∙ low_behind p.swap p.neg_x (turned_x o b.x1 b.y1) (turned_x o b.x2 b.y2) (turned_y o b.x1 b.y1) (turned_y o b.x2 b.y2) x y u))
    (ap (λ (w : ℤ). int_min w (turned_y r b.x2 b.y2) +ℤ (turned_y p x y +ℤ v)) (h.upward b.x1 b.y1)
    ∙ (ap (λ (w : ℤ). int_min (turned_y p (turned_x o b.x1 b.y1) (turned_y o b.x1 b.y1)) w +ℤ (turned_y p x y +ℤ v)) (h.upward b.x2 b.y2)
    ∙ low_behind p.swap p.neg_y (turned_y o b.x1 b.y1) (turned_y o b.x2 b.y2) (turned_x o b.x1 b.y1) (turned_x o b.x2 b.y2) y x v))
    (ap (λ (w : ℤ). int_max w (turned_x r b.x2 b.y2) +ℤ (turned_x p x y +ℤ u)) (h.across b.x1 b.y1)
    ∙ (ap (λ (w : ℤ). int_max (turned_x p (turned_x o b.x1 b.y1) (turned_y o b.x1 b.y1)) w +ℤ (turned_x p x y +ℤ u)) (h.across b.x2 b.y2)
    ∙ high_behind p.swap p.neg_x (turned_x o b.x1 b.y1) (turned_x o b.x2 b.y2) (turned_y o b.x1 b.y1) (turned_y o b.x2 b.y2) x y u))
    (ap (λ (w : ℤ). int_max w (turned_y r b.x2 b.y2) +ℤ (turned_y p x y +ℤ v)) (h.upward b.x1 b.y1)
    ∙ (ap (λ (w : ℤ). int_max (turned_y p (turned_x o b.x1 b.y1) (turned_y o b.x1 b.y1)) w +ℤ (turned_y p x y +ℤ v)) (h.upward b.x2 b.y2)
    ∙ high_behind p.swap p.neg_y (turned_y o b.x1 b.y1) (turned_y o b.x2 b.y2) (turned_x o b.x1 b.y1) (turned_x o b.x2 b.y2) y x v))

-- ---- there is such a turn

abbrev orient_behind : Orient → Orient → Orient
orient_behind o p = record {
  swap = differ o.swap p.swap;
  neg_x = differ (cond p.swap o.neg_y o.neg_x) p.neg_x;
  neg_y = differ (cond p.swap o.neg_x o.neg_y) p.neg_y;
}

across_of : (os ps ox oy n : Bool) (x y : ℤ)
    → flipped (differ (cond ps oy ox) n) (cond (differ os ps) y x)
    ≡ flipped n (cond ps (flipped oy (cond os x y)) (flipped ox (cond os y x)))
across_of true true ox oy n x y = flipped_twice oy n x
across_of true false ox oy n x y = flipped_twice ox n y
across_of false true ox oy n x y = flipped_twice oy n y
across_of false false ox oy n x y = flipped_twice ox n x

pub is_behind : (o p : Orient) → IsBehind o p (orient_behind o p)
is_behind o p = record {
  across = λ x y. across_of o.swap p.swap o.neg_x o.neg_y p.neg_x x y;
  upward = λ x y. across_of o.swap p.swap o.neg_y o.neg_x p.neg_y y x;
}

-- first one, then the next
abbrev pub behind : Placement → Placement → Placement
behind c p = record {
  turn = orient_behind c.turn p.turn;
  by = record { x = turned_x p.turn c.by.x c.by.y +ℤ p.by.x; y = turned_y p.turn c.by.x c.by.y +ℤ p.by.y };
}

pub placed_behind : (c p : Placement) (b : BoxShape) → placed (behind c p) b ≡ placed p (placed c b)
placed_behind c p b = moved_behind b c.turn p.turn (orient_behind c.turn p.turn) c.by.x c.by.y p.by.x p.by.y (is_behind c.turn p.turn)

-- ---- order

pub placed_ordered : (p : Placement) (b : BoxShape) → IsOrdered b → IsOrdered (placed p b)
placed_ordered p b h = record {
  across = ordered_behind p.turn.swap p.turn.neg_x b.x1 b.x2 b.y1 b.y2 p.by.x h.across h.upward;
  upward = ordered_behind p.turn.swap p.turn.neg_y b.y1 b.y2 b.x1 b.x2 p.by.y h.upward h.across;
}

-- nothing turned and nothing moved
pub placed_still : (p : Placement) (b : BoxShape) → p.turn.swap ≡ false → p.turn.neg_x ≡ false → p.turn.neg_y ≡ false → p.by.x ≡ pos 0 → p.by.y ≡ pos 0
    → IsOrdered b → placed p b ≡ b
placed_still p b s m n x y h =
    moved_as p.turn.swap p.turn.neg_x p.turn.neg_y p.by.x p.by.y s m n x y
    ∙ box_same b.layer _ _ _ _ _ _ _ _ (low_still b.x1 b.x2 h.across) (low_still b.y1 b.y2 h.upward) (high_still b.x1 b.x2 h.across) (high_still b.y1 b.y2 h.upward)
  where
    moved_as : (s m n : Bool) (x y : ℤ) → s ≡ false → m ≡ false → n ≡ false → x ≡ pos 0 → y ≡ pos 0
        → moved b (record { swap = s; neg_x = m; neg_y = n }) x y ≡ moved b (record { swap = false; neg_x = false; neg_y = false }) (pos 0) (pos 0)
    moved_as s m n x y e f g p q =
        ap (λ (v : Bool). moved b (record { swap = v; neg_x = m; neg_y = n }) x y) e
        ∙ (ap (λ (v : Bool). moved b (record { swap = false; neg_x = v; neg_y = n }) x y) f
        ∙ (ap (λ (v : Bool). moved b (record { swap = false; neg_x = false; neg_y = v }) x y) g
        ∙ (ap (λ (v : ℤ). moved b (record { swap = false; neg_x = false; neg_y = false }) v y) p
        ∙ ap (λ (v : ℤ). moved b (record { swap = false; neg_x = false; neg_y = false }) (pos 0) v) q)))

-- ---- the least rectangle round two

abbrev pub both : BoxShape → BoxShape → BoxShape
both b c = record { layer = b.layer; x1 = int_min b.x1 c.x1; y1 = int_min b.y1 c.y1; x2 = int_max b.x2 c.x2; y2 = int_max b.y2 c.y2 }

pub placed_both : (p : Placement) (b c : BoxShape) → IsOrdered b → IsOrdered c → placed p (both b c) ≡ both (placed p b) (placed p c)
placed_both p b c h k =
    box_same b.layer _ _ _ _ _ _ _ _
    (low_both p.turn.swap p.turn.neg_x b.x1 b.x2 b.y1 b.y2 c.x1 c.x2 c.y1 c.y2 p.by.x h.across h.upward k.across k.upward)
    (low_both p.turn.swap p.turn.neg_y b.y1 b.y2 b.x1 b.x2 c.y1 c.y2 c.x1 c.x2 p.by.y h.upward h.across k.upward k.across)
    (high_both p.turn.swap p.turn.neg_x b.x1 b.x2 b.y1 b.y2 c.x1 c.x2 c.y1 c.y2 p.by.x h.across h.upward k.across k.upward)
    (high_both p.turn.swap p.turn.neg_y b.y1 b.y2 b.x1 b.x2 c.y1 c.y2 c.x1 c.x2 p.by.y h.upward h.across k.upward k.across)

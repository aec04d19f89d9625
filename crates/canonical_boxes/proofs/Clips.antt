-- Rectangles and their parts in the plane.
use Rattle.std.proofs.Common.{◌≡◌, ◌↔◌, ℤ, pos, neg_ℤ, ◌^◌, ◌≤ℤ◌, ◌<ℤ◌, Bool, List, map, length, ◌∙◌, arith}
use Rattle.std.proofs.lemmas.Int.{ints}
use Rattle.std.proofs.lemmas.Grind.{common_steps}
use Rattle.geom.specs.Squares.{BoxShape}
use Rattle.canonical_boxes.specs.declared.holding.Area.{Area}
use Rattle.canonical_boxes.specs.Held.{Holds, AreHeld}
use Rattle.canonical_boxes.specs.Plane.{HoldsInPlane, AreHeldInPlane, clamped, clipped}
use Rattle.canonical_boxes.proofs.Held.{map_at}

-- ---- one direction at a time

clamped_least : (e x : ℤ) → e ≤ℤ x → neg_ℤ (pos (2 ^ 40)) ≤ℤ x → x <ℤ pos (2 ^ 40) → clamped e ≤ℤ x
clamped_least e x h low high = grind (arith, ints)

clamped_most : (e x : ℤ) → x <ℤ e → neg_ℤ (pos (2 ^ 40)) ≤ℤ x → x <ℤ pos (2 ^ 40) → x <ℤ clamped e
clamped_most e x h low high = grind (arith, ints)

least_clamped : (e f x : ℤ) → clamped e ≤ℤ x → x <ℤ clamped f → (e ≤ℤ x) × (x <ℤ f) × (neg_ℤ (pos (2 ^ 40)) ≤ℤ x) × (x <ℤ pos (2 ^ 40))
least_clamped e f x h k = (grind (arith, ints), grind (arith, ints), grind (arith, ints), grind (arith, ints))

clip_holds : (m : List BoxShape) (a : Area) → Holds m (clipped a) ↔ HoldsInPlane m a
clip_holds m a = (
  (λ h x y i p. h x y (record {
    left = clamped_least a.x1 x i.left p.left p.right;
    right = clamped_most a.x2 x i.right p.left p.right;
    bottom = clamped_least a.y1 y i.bottom p.bottom p.top;
    top = clamped_most a.y2 y i.top p.bottom p.top;
  })),
  (λ h x y i.
      let across = least_clamped a.x1 a.x2 x i.left i.right in
      let upward = least_clamped a.y1 a.y2 y i.bottom i.top in
      h x y (record { left = across.0; right = across.1; bottom = upward.0; top = upward.1 })
      (record { left = across.2; right = across.3; bottom = upward.2; top = upward.3 })),
)

pub held_in_plane : (m : List BoxShape) (areas : List Area) (held : List Bool) → AreHeld m (map clipped areas) held → AreHeldInPlane m areas held
held_in_plane m areas held h = record {
  size = h.size ∙ same;
  each = λ k a at.
      let two = h.each k (clipped a) (map_at clipped areas k a at) in
      let both = clip_holds m a in
      ((λ t. both.0 (two.0 t)), (λ t. two.1 (both.1 t)));
}
  where
    same : length (map clipped areas) ≡ length areas
    same = grind (arith, common_steps)

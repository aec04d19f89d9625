-- What is held, rectangle by rectangle.
use Rattle.std.proofs.Common.{◌≡◌, ◌↔◌, ℕ, zero, suc, ◌<◌, ◌+◌, Bool, false, IsTrue, List, [], ◌∷◌, ◌++◌, map, length, get_or, refl, sym, ◌∙◌, ap}
use Rattle.std.proofs.Common.{arith, subst}
use Rattle.std.proofs.lemmas.Grind.{common_steps}
use Rattle.geom.specs.Squares.{BoxShape}
use Rattle.canonical_boxes.specs.declared.holding.Area.{Area}
use Rattle.canonical_boxes.specs.Canonical.{IsAt}
use Rattle.canonical_boxes.specs.Held.{Holds, AreHeld}
use Rattle.canonical_boxes.proofs.Lists.{at_one, by_order}

pub map_at : {X Y : Type 0} (f : X → Y) (xs : List X) (i : ℕ) (x : X) → IsAt xs i x → IsAt (map f xs) i (f x)
map_at f [] i x h = let w : i < 0 = h.within in absurd (omega arith)
map_at f (y ∷ ys) zero x h = record { within = omega arith; is = ap f h.is }
map_at {X} f (y ∷ ys) (suc i) x h =
    let w : suc i < length (y ∷ ys) = h.within in
    let rest = map_at f ys i x (record { within = omega arith; is = h.is }) in
    let l : i < length (map f ys) = rest.within in
    record { within = omega arith; is = rest.is }

-- For each of the first rectangles there is whether it is held.
pub record AreHeldBelow (m : List BoxShape) (areas : List Area) (n : ℕ) (held : List Bool) : Type 0 where
  pub size : length held ≡ n
  pub each : (k : ℕ) (a : Area) → IsAt areas k a → k < n → IsTrue (get_or held k false) ↔ Holds m a

pub none_below : (m : List BoxShape) (areas : List Area) → AreHeldBelow m areas 0 []
none_below m areas = record { size = refl; each = λ k a at l. absurd (omega arith) }

pub held_more : (m : List BoxShape) (areas : List Area) (n : ℕ) (a : Area) (old new : List Bool) (v : Bool) → IsAt areas n a
    → new ≡ old ++ v ∷ [] → IsTrue v ↔ Holds m a
    → AreHeldBelow m areas n old → AreHeldBelow m areas (n + 1) new
held_more m areas n a old new v at e is h =
    let size : length old ≡ n = h.size in
    record {
      size = rw e (grind (arith, common_steps));
      each = λ k b q l. by_order k n
          (λ z.
          let kept : get_or (old ++ v ∷ []) k false ≡ get_or old k false = grind (arith, common_steps) in
          let P : List Bool → Type 0 = λ t. IsTrue (get_or t k false) ↔ Holds m b in
          let Q : Bool → Type 0 = λ t. IsTrue t ↔ Holds m b in
          subst P (sym e) (subst Q (sym kept) (h.each k b q z)))
          (λ z.
          let last : get_or (old ++ v ∷ []) k false ≡ v = grind (arith, common_steps) in
          let P : List Bool → Type 0 = λ t. IsTrue (get_or t k false) ↔ Holds m b in
          let Q : Bool → Type 0 = λ t. IsTrue t ↔ Holds m b in
          let R : ℕ → Type 0 = λ i. IsAt areas i b in
          let S : Area → Type 0 = λ t. IsTrue v ↔ Holds m t in
          subst P (sym e) (subst Q (sym last) (subst S (at_one areas n a b at (subst R z q)) is)))
          (λ z. absurd (omega arith));
    }

pub all_below : (m : List BoxShape) (areas : List Area) (n : ℕ) (held : List Bool) → n ≡ length areas → AreHeldBelow m areas n held
    → AreHeld m areas held
all_below m areas n held e h = record { size = h.size ∙ e; each = λ k a at. let w : k < length areas = at.within in h.each k a at (omega arith) }

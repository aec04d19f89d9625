-- The children of a node are its parts, the light one first.
use Rattle.std.proofs.Common.{◌≡◌, ◌∙◌, ℕ, ◌+◌, ◌<◌, Bool, true, false, nat_le, cond, Some, None, [], ◌∷◌, sum_by, All, refl, arith}
use Rattle.star_normal.specs.declared.node.NodeKind.{NodeKind}
use Rattle.star_normal.specs.declared.node.NodeKind.TheVariants.{Leaf, Seq, Alt}
use Rattle.star_normal.specs.Tables.{parts, is_leaf}
use Rattle.star_normal.specs.Sizes.{lighter, heavier, light_child, heavy_child}

-- a leaf has none; another node has two, which are its parts
pub data Kids (size : ℕ → ℕ) (k : ℕ) (kind : NodeKind) : Type 0 where
  none : light_child size kind ≡ None → heavy_child size kind ≡ None → is_leaf kind ≡ true → parts kind ≡ [] → Kids size k kind
  both : (l h : ℕ) → light_child size kind ≡ Some l → heavy_child size kind ≡ Some h → l < k → h < k
      → ((f : ℕ → ℕ) → sum_by f (parts kind) ≡ f l + f h) → Kids size k kind

record Weighed (k l r a b : ℕ) : Type 0 where
  light : a < k
  heavy : b < k
  same : (f : ℕ → ℕ) → f l + f r ≡ f a + f b

weighed : (k l r : ℕ) → l < k → r < k → (b : Bool) → Weighed k l r (cond b l r) (cond b r l)
weighed k l r p q true = record { light = p; heavy = q; same = λ f. refl }
weighed k l r p q false = record { light = q; heavy = p; same = λ f. omega arith }

sum_pair : (f : ℕ → ℕ) (l r : ℕ) → sum_by f (l ∷ r ∷ []) ≡ f l + f r
sum_pair f l r = omega arith

pub kids : (size : ℕ → ℕ) (k : ℕ) (kind : NodeKind) → All (λ c. c < k) (parts kind) → Kids size k kind
kids size k (Leaf s) h = none refl refl refl refl
kids size k (Seq l r) h =
    let w = weighed k l r (h 0 0 (omega arith)) (h 1 0 (omega arith)) (nat_le (size l) (size r)) in
    both (lighter size l r) (heavier size l r) refl refl w.light w.heavy (λ f. sum_pair f l r ∙ w.same f)
kids size k (Alt l r) h =
    let w = weighed k l r (h 0 0 (omega arith)) (h 1 0 (omega arith)) (nat_le (size l) (size r)) in
    both (lighter size l r) (heavier size l r) refl refl w.light w.heavy (λ f. sum_pair f l r ∙ w.same f)

-- The keys of a map with numbers as keys, after one more entry.
use Rattle.std.proofs.Common.{◌≡◌, ℕ, ◌==◌, false, List, [], ◌∷◌, refl, ap, ◌∙◌, arith}
use Rattle.std.specs.Ordering.{nat_cmp, is_eq, match_ordering}
use Rattle.std.specs.declared.cmp.Ordering.{Ordering}
use Rattle.std.specs.declared.cmp.Ordering.TheVariants.{Less, Equal, Greater}
use Rattle.std.specs.Map.{keys_of}
use Rattle.std.specs.BTreeMap.{is_at, insert_entry}
use Rattle.std.specs.BTreeSet.{insert_key}
use Rattle.std.proofs.lemmas.Bool.{ne_eqb}

numbers_equal : (a b : ℕ) → is_eq (nat_cmp a b) ≡ (a == b)
numbers_equal a b = grind arith

pub other_key : (key other : ℕ) → (key ≡ other → ⊥) → is_at (nat_cmp key) other ≡ false
other_key key other apart = numbers_equal key other ∙ ne_eqb key other apart

module _ {X : Type 0} (key : ℕ) (x : X) where
  by_order : (e : ℕ × X) (es : List (ℕ × X)) (o : Ordering)
      → keys_of (match_ordering o ((key, x) ∷ e ∷ es) ((e.0, x) ∷ es) (e ∷ insert_entry nat_cmp es key x))
      ≡ match_ordering o (key ∷ e.0 ∷ keys_of es) (e.0 ∷ keys_of es) (e.0 ∷ keys_of (insert_entry nat_cmp es key x))
  by_order e es Less = refl
  by_order e es Equal = refl
  by_order e es Greater = refl

  pub keys_more : (es : List (ℕ × X)) → keys_of (insert_entry nat_cmp es key x) ≡ insert_key nat_cmp (keys_of es) key
  keys_more [] = refl
  keys_more (e ∷ es) =
      by_order e es (nat_cmp key e.0)
      ∙ ap (λ keys. match_ordering (nat_cmp key e.0) (key ∷ e.0 ∷ keys_of es) (e.0 ∷ keys_of es) (e.0 ∷ keys)) (keys_more es)

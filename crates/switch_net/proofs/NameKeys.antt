-- Two names have equal keys exactly where they are the same.
use Rattle.std.proofs.Common.{◌≡◌, ℕ, ◌==◌, ◌&&◌, List, Option, Some, None, refl, ap₂, ◌∙◌, Bor, arith}
use Rattle.std.specs.declared.cmp.Ordering.{Ordering}
use Rattle.std.specs.declared.cmp.Ordering.TheVariants.{Less, Equal, Greater}
use Rattle.std.specs.Ordering.{is_eq, ordering_then, nat_cmp}
use Rattle.std.specs.Cmp.Lexicographic.{slice_cmp}
use Rattle.std.specs.Option.{option_cmp, option_eq}
use Rattle.std.specs.Str.{bytes_eq}
use Rattle.std.proofs.lemmas.Map.Text.{is_eq-slice_cmp}
use Rattle.rx_text.specs.Role.{NamedRole}
use Rattle.switch_net.specs.Validity.{role_number}
use Rattle.switch_net.specs.NameKeys.{NameKey, compare_keys, bytes_of, has_key}

numbers_equal : (a b : ℕ) → is_eq (nat_cmp a b) ≡ (a == b)
numbers_equal a b = grind arith

then_equal : (a b : Ordering) → is_eq (ordering_then a b) ≡ (is_eq a && is_eq b)
then_equal Less b = refl
then_equal Equal b = refl
then_equal Greater b = refl

names_equal : (a b : Option (Bor (List ℕ)))
    → is_eq (option_cmp (λ x y. slice_cmp nat_cmp x.now y.now) a b) ≡ option_eq bytes_eq (bytes_of a) (bytes_of b)
names_equal None None = refl
names_equal None (Some b) = refl
names_equal (Some a) None = refl
names_equal (Some a) (Some b) = is_eq-slice_cmp a.now b.now

keys_equal : (a b : NameKey) → is_eq (compare_keys a b) ≡ (a.0 == b.0 && option_eq bytes_eq (bytes_of a.1) (bytes_of b.1))
keys_equal a b = then_equal _ _ ∙ ap₂ (λ x y. x && y) (numbers_equal a.0 b.0) (names_equal a.1 b.1)

pub is_key : (key : NameKey) (name : NamedRole) → key.0 ≡ role_number name.role → bytes_of key.1 ≡ name.name
    → (other : NameKey) → is_eq (compare_keys key other) ≡ has_key name other
is_key key name role bytes other =
    keys_equal key other ∙ ap₂ (λ number text. number == other.0 && option_eq bytes_eq text (bytes_of other.1)) role bytes

-- Bits of masks.
use Rattle.std.proofs.Common.{◌≡◌, ◌≢◌, ◌⊎◌, ℕ, ◌<◌, Bool, true, false, ◌&&◌, ◌||◌, ◌==◌, if◌then◌else◌, bit_or, max, refl, ap, ◌∙◌, inl, inr, arith}
use Rattle.std.specs.Int.{bit_at}
use Rattle.std.proofs.lemmas.Bool.{cases_eq}
use Rattle.std.proofs.lemmas.Nat.Bits.{bit_at-zero, bit_at-lt, bit_at_or}
use Rattle.position_nfa.specs.Automaton.{has_output}

one_of : (a b : ℕ) → a < 2 → b < 2 → (a ≡ 1) ⊎ (a ≢ 1) → (max a b == 1) ≡ (a == 1 || b == 1)
one_of a b h k (inl e) =
    let m : max a b ≡ 1 = omega (arith, h, k, e) in
    rw (m, e) refl
one_of a b h k (inr ne) =
    let z : a ≡ 0 = omega (arith, h, ne) in
    let m : max a b ≡ b = omega (arith, z) in
    rw (m, z) refl

pub or_has : (a b y : ℕ) → has_output (bit_or a b) y ≡ (has_output a y || has_output b y)
or_has a b y = rw (bit_at_or a b y) (one_of (bit_at a y) (bit_at b y) (bit_at-lt a y) (bit_at-lt b y) (cases_eq (bit_at a y) 1))

pub none_has : (y : ℕ) → has_output 0 y ≡ false
none_has y = rw (bit_at-zero y) refl

pub if_has : (b : Bool) (mask y : ℕ) → has_output (if b then mask else 0) y ≡ (b && has_output mask y)
if_has true mask y = refl
if_has false mask y = none_has y

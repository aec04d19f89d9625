-- Choices whose tests are known.
use Rattle.std.proofs.Common.{◌≡◌, Bool, true, false, if◌then◌else◌, refl}

pub first_of : {X : Type 0} (t : Bool) (a b : X) → t ≡ true → (if t then a else b) ≡ a
first_of true a b e = refl
first_of false a b e = absurd (cc)

pub second_of : {X : Type 0} (t : Bool) (a b : X) → t ≡ false → (if t then a else b) ≡ b
second_of false a b e = refl
second_of true a b e = absurd (cc)

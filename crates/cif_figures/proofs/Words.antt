-- Coordinates in machine words.
use Rattle.std.proofs.Common.{◌≡◌, ◌≤◌, ◌^◌, ℤ, pos, negsuc, arith}
use mir.Syntax.{w64}
use mir.Val.{to_z, of_z}
use Rattle.std.specs.Int.RustNames.{unsigned_abs}
use Rattle.std.proofs.lemmas.Int.{ints, to_z-of_z, fits_signed_from_abs}
use Rattle.geom.specs.Turns.{IsReachable}

-- a number in a machine word
abbrev pub word : ℤ → ℤ
word v = to_z w64 (of_z w64 v)

pub near_word : (v : ℤ) → unsigned_abs v ≤ 2 ^ 55 → word v ≡ v
near_word v h = to_z-of_z w64 v (fits_signed_from_abs w64 v (omega (arith, h)))

pub number_word : (v : ℤ) → unsigned_abs v ≤ 2 ^ 52 → word v ≡ v
number_word v h = near_word v (omega (arith, h))

reachable_abs : (v : ℤ) → IsReachable v → unsigned_abs v ≤ 2 ^ 40
reachable_abs (pos n) h = let b = h.to in omega (arith, ints, b)
reachable_abs (negsuc n) h = let b = h.from in omega (arith, ints, b)

pub reachable_word : (v : ℤ) → IsReachable v → word v ≡ v
reachable_word v h = near_word v (let n = reachable_abs v h in omega (arith, n))

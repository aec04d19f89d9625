-- Bounds of sides and of areas.
use Rattle.std.proofs.Common.{◌≡◌, ℕ, zero, suc, ◌+◌, ◌*◌, ◌^◌, ◌<◌, ◌≤◌, refl, ap, ◌∙◌, inl, inr, arith}
use Rattle.std.proofs.Math.Nat.{pow-suc, mul-le-mul_left, mul-le-mul_right}
use Rattle.std.proofs.lemmas.Bool.{cases_lt}
use Rattle.rx_lang.specs.Specification.{Specification}
use Rattle.rx_lang.specs.Squares.{IsLevel, side_bound}
use Rattle.report_text.specs.Sizes.{blocks, leaves, tree_area_bound, tree_side_bound, wires}

both_le : (a b c d : ℕ) → a ≤ c → b ≤ d → a * b ≤ c * d
both_le a b c d h i = omega (arith, mul-le-mul_right b h, mul-le-mul_left c i)

square : (j : ℕ) → 2 ^ j * 2 ^ j ≡ 4 ^ j
square zero = refl
square (suc j) = by (2 ^ j) (2 ^ suc j) (4 ^ j) (4 ^ suc j) (pow-suc 2 j) (pow-suc 4 j) (square j)
  where
    by : (a b c d : ℕ) → b ≡ a * 2 → d ≡ c * 4 → a * a ≡ c → b * b ≡ d
    by a b c d e f g = rw (e, f, ← g) (omega arith)

-- a level has less than four times the room that is asked for
small : (m k : ℕ) → 2 ≤ m → IsLevel m k → 4 ^ k < 4 * m
small m zero some h = omega (arith, some)
small m (suc j) some h = elim (cases_lt (4 ^ j) m) [
  | inl lt ↦ omega (arith, lt, pow-suc 4 j)
  | inr le ↦ absurd (omega (arith, h.least j le))
]

product : (n w s p q a b : ℕ) → 3 ≤ w → p * p ≡ q → q ≤ 8 * n → s ≤ 16 * p → a ≤ s * (140 * w + 840) → b ≤ s * (140 * w + 840)
    → a * b ≤ 361267200 * (w * w) * n
product n w s p q a b wide root few bound left right =
    let u = 140 * w + 840 in
    let block : u ≤ 420 * w = omega (arith, wide) in
    let side : s * u ≤ (16 * p) * (420 * w) = both_le s u (16 * p) (420 * w) bound block in
    let one : a ≤ (16 * p) * (420 * w) = omega (arith, left, side) in
    let two : b ≤ (16 * p) * (420 * w) = omega (arith, right, side) in
    let both : a * b ≤ ((16 * p) * (420 * w)) * ((16 * p) * (420 * w)) = both_le a b ((16 * p) * (420 * w)) ((16 * p) * (420 * w)) one two in
    let same : ((16 * p) * (420 * w)) * ((16 * p) * (420 * w)) ≡ (45158400 * (w * w)) * (p * p) = omega arith in
    let more : (45158400 * (w * w)) * q ≤ (45158400 * (w * w)) * (8 * n) = mul-le-mul_left (45158400 * (w * w)) few in
    let whole : (45158400 * (w * w)) * (8 * n) ≡ 361267200 * (w * w) * n = omega arith in
    omega (arith, both, same, ap (λ x. (45158400 * (w * w)) * x) root, more, whole)

pub area_within : (spec : Specification) (level width height : ℕ) → IsLevel (blocks spec) level → 1 ≤ leaves spec → 3 ≤ wires spec
    → width ≤ tree_side_bound spec level → height ≤ tree_side_bound spec level → width * height ≤ tree_area_bound spec
area_within spec level width height is some wide left right =
    product (leaves spec) (wires spec) (side_bound level) (2 ^ level) (4 ^ level) width height wide (square level)
    (omega (arith, small (blocks spec) level (omega (arith, some)) is)) (omega arith) left right

-- the powers that bounds are made of
pub low_powers : (k : ℕ) → k ≤ 7 → (2 ^ k ≤ 128) × (6 * k + 15 ≤ 16 * 2 ^ k)
low_powers zero h = (omega arith, omega arith)
low_powers (suc zero) h = (omega arith, omega arith)
low_powers (suc (suc zero)) h = (omega arith, omega arith)
low_powers (suc (suc (suc zero))) h = (omega arith, omega arith)
low_powers (suc (suc (suc (suc zero)))) h = (omega arith, omega arith)
low_powers (suc (suc (suc (suc (suc zero))))) h = (omega arith, omega arith)
low_powers (suc (suc (suc (suc (suc (suc zero)))))) h = (omega arith, omega arith)
low_powers (suc (suc (suc (suc (suc (suc (suc zero))))))) h = (omega arith, omega arith)
low_powers (suc (suc (suc (suc (suc (suc (suc (suc k)))))))) h = absurd (omega (arith, h))

-- one more level where the room is not enough
pub next_level : (count room k : ℕ) → room ≡ 4 ^ k → k ≤ 7 → count ≤ 8192 → room < count → k + 1 ≤ 7
next_level count room k e low few less = elim (cases_lt k 7) [
  | inl lt ↦ omega (arith, lt)
  | inr le ↦ (
      let same : k ≡ 7 = omega (arith, le, low) in
      let full : room ≡ 16384 = e ∙ ap (λ n. 4 ^ n) same in
      absurd (omega (arith, full, less, few)))
]

pub more_least : (count room k : ℕ) → room ≡ 4 ^ k → room < count → ((j : ℕ) → count ≤ 4 ^ j → k ≤ j) → (j : ℕ) → count ≤ 4 ^ j → k + 1 ≤ j
more_least count room k e less least j enough = elim (cases_lt k j) [
  | inl lt ↦ omega (arith, lt)
  | inr le ↦ (
      let same : k ≡ j = omega (arith, le, least j enough) in
      absurd (omega (arith, e, less, enough, ap (λ n. 4 ^ n) same)))
]

pub more_room : (room k : ℕ) → room ≡ 4 ^ k → room * 4 ≡ 4 ^ (k + 1)
more_room room k e = let s : k + 1 ≡ suc k = omega arith in omega (arith, e, pow-suc 4 k, ap (λ n. 4 ^ n) s)

-- the bound of an area fits 64 bits
pub area_fits : (w n : ℕ) → w ≤ 64 → n ≤ 4096 → 361267200 * (w * w) * n < 2 ^ 64
area_fits w n few_wires few_leaves =
    let square : w * w ≤ 64 * 64 = both_le w w 64 64 few_wires few_wires in
    let whole : (w * w) * n ≤ (64 * 64) * 4096 = both_le (w * w) n (64 * 64) 4096 square few_leaves in
    omega (arith, whole)

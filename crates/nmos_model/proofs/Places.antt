-- Squares by column and row, and by number.
use Rattle.std.proofs.Common.{◌≡◌, ◌⊎◌, inl, inr, ℕ, zero, suc, ◌<◌, ◌≤◌, ◌+◌, ◌*◌, ◌/◌, ◌%◌, ℤ, pos, ◌+ℤ◌, arith, refl, ap, sym, subst}
use Rattle.std.proofs.Math.Nat.{mul-le-mul_right, mul_comm, div-add-mod', mod-lt, div-lt_iff_lt-mul}
use Rattle.std.proofs.lemmas.Int.{ints}
use Rattle.geom.specs.Conduction.{ShareSide}
use Rattle.nmos_model.specs.declared.raster.Frame.{Frame}
use Rattle.nmos_model.specs.Channels.{IsByRow}
use Rattle.nmos_model.specs.Rasters.{StandsAt, number_of}
use Rattle.nmos_model.proofs.Common.{below_or_above}

-- a square beside a row that ends before the next begins
below_row : (width row other column : ℕ) → column < width → row < other → row * width + column < other * width
below_row width row other column c lt =
    let whole : suc row * width ≤ other * width = mul-le-mul_right width lt in
    omega (arith, whole)

pub one_place : (width row other column place : ℕ) → column < width → place < width → row * width + column ≡ other * width + place
    → (row ≡ other) × (column ≡ place)
one_place width row other column place c p same =
    elim (below_or_above row other) [
      | inr above ↦ let h = below_row width other row place p above in absurd (omega arith)
      | inl le ↦
          elim (below_or_above other row) [
            | inr above ↦ let h = below_row width row other column c above in absurd (omega arith)
            | inl ge ↦
                let one : row ≡ other = omega arith in
                let rows = ap (λ r. r * width) one in
                (one, omega arith)
          ]
    ]

pub side_back : (x y u v : ℤ) → ShareSide x y u v → ShareSide u v x y
side_back x y u v (inl (e, inl f)) = inl (sym e, inr f)
side_back x y u v (inl (e, inr f)) = inl (sym e, inl f)
side_back x y u v (inr (e, inl f)) = inr (sym e, inr f)
side_back x y u v (inr (e, inr f)) = inr (sym e, inl f)

-- two squares of which neither comes later are one
pub by_row_once : (x y u v : ℤ) → IsByRow x y u v → IsByRow u v x y → (x ≡ u) × (y ≡ v)
by_row_once x y u v (inl a) (inl b) = absurd (omega (arith, ints))
by_row_once x y u v (inl a) (inr b) = let e = b.0 in absurd (omega (arith, ints))
by_row_once x y u v (inr a) (inl b) = let e = a.0 in absurd (omega (arith, ints))
by_row_once x y u v (inr a) (inr b) = let e = a.0 in let f = a.1 in let g = b.1 in (omega (arith, ints), omega (arith, ints))

positive : (w h cell : ℕ) → cell < w * h → 0 < w
positive zero h cell lt = absurd (omega arith)
positive (suc w) h cell lt = omega arith

module _ (frame : Frame) where
  -- the square of a number
  pub stands_at : (n : ℕ) → n < frame.width * frame.height
      → StandsAt frame (frame.x +ℤ pos (n % frame.width)) (frame.y +ℤ pos (n / frame.width)) (n % frame.width) (n / frame.width)
  stands_at n lt =
      let some = positive frame.width frame.height n lt in
      record {
        across = refl;
        upward = refl;
        column_within = mod-lt n some;
        row_within = (div-lt_iff_lt-mul some).1 (subst (λ m. n < m) (mul_comm frame.width frame.height) lt);
      }

  pub number_is : (n : ℕ) → number_of frame.width (n % frame.width) (n / frame.width) ≡ n
  number_is n = div-add-mod' n frame.width

  pub stands_once : (x y : ℤ) (c r d s : ℕ) → StandsAt frame x y c r → StandsAt frame x y d s → (c ≡ d) × (r ≡ s)
  stands_once x y c r d s one other =
      let a = one.across in let b = other.across in let u = one.upward in let v = other.upward in
      (omega (arith, ints), omega (arith, ints))

  module _ (x y u v : ℤ) (c r d s : ℕ) (one : StandsAt frame x y c r) (other : StandsAt frame u v d s) where
    pub east_side : c + 1 < frame.width → number_of frame.width d s ≡ number_of frame.width c r + 1 → ShareSide x y u v
    east_side right e =
        let next : r * frame.width + (c + 1) ≡ s * frame.width + d = omega arith in
        let same = one_place frame.width r s (c + 1) d right other.column_within next in
        let rows = same.0 in let columns = same.1 in
        let a = one.across in let b = other.across in let k = one.upward in let m = other.upward in
        inr (omega (arith, ints), inl (omega (arith, ints)))

    pub north_side : number_of frame.width d s ≡ number_of frame.width c r + frame.width → ShareSide x y u v
    north_side e =
        let next : (r + 1) * frame.width + c ≡ s * frame.width + d = omega arith in
        let same = one_place frame.width (r + 1) s c d one.column_within other.column_within next in
        let rows = same.0 in let columns = same.1 in
        let a = one.across in let b = other.across in let k = one.upward in let m = other.upward in
        inl (omega (arith, ints), inl (omega (arith, ints)))

    -- the numbers of squares that share a side
    pub side_numbers : ShareSide x y u v
        → ((number_of frame.width d s ≡ number_of frame.width c r + 1) ⊎ (number_of frame.width c r ≡ number_of frame.width d s + 1))
        ⊎ ((number_of frame.width d s ≡ number_of frame.width c r + frame.width) ⊎ (number_of frame.width c r ≡ number_of frame.width d s + frame.width))
    side_numbers (inl (same, up_or_down)) =
        let a = one.across in let b = other.across in let k = one.upward in let m = other.upward in
        let columns : c ≡ d = omega (arith, ints) in
        elim up_or_down [
          | inl up ↦
              let row : s ≡ r + 1 = omega (arith, ints) in
              let rows = ap (λ q. q * frame.width) row in
              inr (inl (omega arith))
          | inr down ↦
              let row : r ≡ s + 1 = omega (arith, ints) in
              let rows = ap (λ q. q * frame.width) row in
              inr (inr (omega arith))
        ]
    side_numbers (inr (same, right_or_left)) =
        let a = one.across in let b = other.across in let k = one.upward in let m = other.upward in
        let row : r ≡ s = omega (arith, ints) in
        let rows = ap (λ q. q * frame.width) row in
        elim right_or_left [
          | inl right ↦ let columns : d ≡ c + 1 = omega (arith, ints) in inl (inl (omega arith))
          | inr left ↦ let columns : c ≡ d + 1 = omega (arith, ints) in inl (inr (omega arith))
        ]

    -- one number is one square
    pub one_square : number_of frame.width c r ≡ number_of frame.width d s → (x ≡ u) × (y ≡ v)
    one_square e =
        let same = one_place frame.width r s c d one.column_within other.column_within e in
        let rows = same.0 in let columns = same.1 in
        let a = one.across in let b = other.across in let k = one.upward in let m = other.upward in
        (omega (arith, ints), omega (arith, ints))

    -- numbers are in row order
    pub by_row : number_of frame.width c r ≤ number_of frame.width d s → IsByRow x y u v
    by_row le =
        let a = one.across in let b = other.across in let k = one.upward in let m = other.upward in
        elim (below_or_above r s) [
          | inr above ↦ let h = below_row frame.width s r d other.column_within above in absurd (omega arith)
          | inl low ↦
              elim (below_or_above s r) [
                | inr above ↦ inl (omega (arith, ints))
                | inl high ↦
                    let same : r ≡ s = omega arith in
                    let rows = ap (λ q. q * frame.width) same in
                    let columns : c ≤ d = omega arith in
                    inr (omega (arith, ints), omega (arith, ints))
              ]
        ]

    pub by_number : IsByRow x y u v → number_of frame.width c r ≤ number_of frame.width d s
    by_number (inl lt) =
        let a = one.across in let b = other.across in let k = one.upward in let m = other.upward in
        let rows : r < s = omega (arith, ints) in
        let h = below_row frame.width r s c one.column_within rows in
        omega arith
    by_number (inr (e, le)) =
        let a = one.across in let b = other.across in let k = one.upward in let m = other.upward in
        let same : r ≡ s = omega (arith, ints) in
        let rows = ap (λ q. q * frame.width) same in
        let columns : c ≤ d = omega (arith, ints) in
        omega arith

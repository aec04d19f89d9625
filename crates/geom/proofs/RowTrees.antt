-- Columns of trees over the rows, and the bands that they leave.
use Rattle.std.proofs.Common.{◌≡◌, ℕ, suc, ◌<◌, max, ℤ, ◌≤ℤ◌, ◌<ℤ◌, Bool, true, false, if◌then◌else◌, int_lt, inl, inr, Option, Some, None, IfSome, Box, refl, sym, arith, subst}
use Rattle.std.specs.declared.alloc.Global.{Global}
use Rattle.std.specs.Int.{int_min, int_max}
use Rattle.std.proofs.lemmas.Int.{ints, by_lt_z, clamps}
use Rattle.geom.specs.declared.span.Span.{Span}
use Rattle.geom.specs.declared.row_tree.Band.{Band}
use Rattle.geom.specs.declared.row_tree.Parts.{Parts}
use Rattle.geom.specs.declared.row_tree.RowTree.{RowTree}
use Rattle.geom.specs.declared.row_tree.RowTree.TheVariants.{Flat, Parted, Parted'}
use Rattle.geom.specs.Spans.{InSpan, InRows, IsEdge, Restricts}
use Rattle.geom.specs.RowTrees.{column_at, least_of, greatest_of, IsSound, IsCut, IsEven, InBand, Leaves}

is_true : (a b : ℤ) → a <ℤ b → int_lt a b ≡ true
is_true a b h = grind (arith, ints)

is_false : (a b : ℤ) → b ≤ℤ a → int_lt a b ≡ false
is_false a b h = grind (arith, ints)

least_chosen : (v : Bool) (a b c d floor : ℤ) → c ≤ℤ a → d ≤ℤ b → int_max (int_min c d) floor ≤ℤ int_max (if v then a else b) floor
least_chosen true a b c d floor h k = omega (arith, ints, clamps)
least_chosen false a b c d floor h k = omega (arith, ints, clamps)

greatest_chosen : (v : Bool) (a b c d floor : ℤ) → a ≤ℤ c → b ≤ℤ d → int_max (if v then a else b) floor ≤ℤ int_max (int_max c d) floor
greatest_chosen true a b c d floor h k = omega (arith, ints, clamps)
greatest_chosen false a b c d floor h k = omega (arith, ints, clamps)

pub at_least : (t : RowTree) (y : ℤ) → IsSound t → least_of t ≤ℤ column_at t y
at_least (Flat column) y h = omega (arith, ints)
at_least (Parted' p floor least greatest middle low high) y h =
    rw (h.0) (least_chosen (int_lt y middle) (column_at low y) (column_at high y) (least_of low) (least_of high) floor (at_least low y h.2) (at_least high y h.3))

pub at_most : (t : RowTree) (y : ℤ) → IsSound t → column_at t y ≤ℤ greatest_of t
at_most (Flat column) y h = omega (arith, ints)
at_most (Parted' p floor least greatest middle low high) y h =
    rw (h.1) (greatest_chosen (int_lt y middle) (column_at low y) (column_at high y) (greatest_of low) (greatest_of high) floor (at_most low y h.2) (at_most high y h.3))

-- a column that is not above the least raises no row
pub stays_raised : (t : RowTree) (column y : ℤ) → IsSound t → column ≤ℤ least_of t → column_at t y ≡ int_max (column_at t y) column
stays_raised t column y sound h = let a : least_of t ≤ℤ column_at t y = at_least t y sound in omega (arith, ints, clamps)

-- a tree of one column has it at every row
pub even_at : (t : RowTree) (column y : ℤ) → IsEven t column → column_at t y ≡ column
even_at t column y h =
    let a : least_of t ≤ℤ column_at t y = at_least t y h.sound in
    let b : column_at t y ≤ℤ greatest_of t = at_most t y h.sound in
    let c : least_of t ≡ column = h.least in
    let d : greatest_of t ≡ column = h.greatest in
    omega (arith, ints)

-- the columns of a tree, raised to a floor
abbrev pub raised : RowTree → ℤ → ℤ → ℤ
raised t floor y = int_max (column_at t y) floor

-- Every row of a tree has a column of a band that has its least and its greatest.
pub all_stay : (t : RowTree) (floor : ℤ) (band : Band) (row limit : ℤ) → IsSound t → row ≤ℤ limit → InBand band (int_max (least_of t) floor) → InBand band (int_max (greatest_of t) floor)
    → Leaves (raised t floor) band row limit limit
all_stay t floor band row limit sound order low high = record {
  from = order;
  within = omega (arith, ints);
  inside = λ y a b.
      let l : least_of t ≤ℤ column_at t y = at_least t y sound in
      let g : column_at t y ≤ℤ greatest_of t = at_most t y sound in
      let p : band.least ≤ℤ int_max (least_of t) floor = low.least in
      let q : int_max (greatest_of t) floor ≤ℤ band.greatest = high.greatest in
      record { least = omega (arith, ints, clamps); greatest = omega (arith, ints, clamps) };
  outside = λ less. absurd (omega (arith, ints));
}

-- The column that a flat tree has at every row leaves the band at once.
pub none_stays : (t : RowTree) (column floor : ℤ) (band : Band) (row limit : ℤ) → t ≡ Flat column → row ≤ℤ limit
    → (InBand band (int_max (least_of t) floor) × InBand band (int_max (greatest_of t) floor) → ⊥) → Leaves (raised t floor) band row limit row
none_stays t column floor band row limit is order out = record {
  from = omega (arith, ints);
  within = order;
  inside = λ y a b. absurd (omega (arith, ints));
  outside = λ less h.
      let P : RowTree → Type 0 = λ v. (InBand band (int_max (least_of v) floor) × InBand band (int_max (greatest_of v) floor) → ⊥) × InBand band (int_max (column_at v row) floor) in
      let p : P (Flat column) = subst P is (out, h) in
      p.0 (p.1, p.1);
}

-- the trees on the longest way down
abbrev pub height : RowTree → ℕ
height (Flat column) = 0
height (Parted' p floor least greatest middle low high) = suc (max (height low) (height high))

-- A parted tree has the columns of its two trees, on either side of the middle.
module _ (t : RowTree) (b : Box Parts Global) (is : t ≡ Parted b) where
  pub lower_low : height b.value.low < height t
  lower_low = rw is (omega arith)

  pub lower_high : height b.value.high < height t
  lower_high = rw is (omega arith)

  pub sound_parts : IsSound t → IsSound (Parted b)
  sound_parts h = let P : RowTree → Type 0 = λ v. IsSound v in subst P is h

  pub column_low : (y : ℤ) → y <ℤ b.value.middle → column_at t y ≡ int_max (column_at b.value.low y) b.value.floor
  column_low y h = rw (is, is_true y b.value.middle h) refl

  pub column_high : (y : ℤ) → b.value.middle ≤ℤ y → column_at t y ≡ int_max (column_at b.value.high y) b.value.floor
  column_high y h = rw (is, is_false y b.value.middle h) refl

  raised_low : (floor y : ℤ) → y <ℤ b.value.middle → raised t floor y ≡ raised b.value.low (int_max floor b.value.floor) y
  raised_low floor y h = let e : _ = column_low y h in omega (arith, ints, clamps)

  raised_high : (floor y : ℤ) → b.value.middle ≤ℤ y → raised t floor y ≡ raised b.value.high (int_max floor b.value.floor) y
  raised_high floor y h = let e : _ = column_high y h in omega (arith, ints, clamps)

  -- what leaves the band below the middle
  pub left_low : (floor : ℤ) (band : Band) (row limit found : ℤ) → Leaves (raised b.value.low (int_max floor b.value.floor)) band row (int_min limit b.value.middle) found
      → found <ℤ b.value.middle → Leaves (raised t floor) band row limit found
  left_low floor band row limit found l below =
      let P : ℤ → Type 0 = λ v. InBand band v in
      let within : found ≤ℤ int_min limit b.value.middle = l.within in
      record {
        from = l.from;
        within = omega (arith, ints, clamps);
        inside = λ y a c. subst P (sym (raised_low floor y (omega (arith, ints)))) (l.inside y a c);
        outside = λ less h. l.outside (omega (arith, ints, clamps)) (subst P (raised_low floor found below) h);
      }

  -- what leaves it from the middle on
  pub left_high : (floor : ℤ) (band : Band) (row limit end : ℤ) → b.value.middle ≤ℤ row → Leaves (raised b.value.high (int_max floor b.value.floor)) band row limit end
      → Leaves (raised t floor) band row limit end
  left_high floor band row limit end above l =
      let P : ℤ → Type 0 = λ v. InBand band v in
      let from : row ≤ℤ end = l.from in
      record {
        from = from;
        within = l.within;
        inside = λ y a c. subst P (sym (raised_high floor y (omega (arith, ints)))) (l.inside y a c);
        outside = λ less h. l.outside less (subst P (raised_high floor end (omega (arith, ints))) h);
      }

  -- what leaves it from the middle on, where nothing does below
  pub left_behind : (floor : ℤ) (band : Band) (row limit found end : ℤ) → Leaves (raised b.value.low (int_max floor b.value.floor)) band row (int_min limit b.value.middle) found
      → row <ℤ b.value.middle → b.value.middle ≤ℤ found → Leaves (raised b.value.high (int_max floor b.value.floor)) band b.value.middle limit end → Leaves (raised t floor) band row limit end
  left_behind floor band row limit found end low below past l =
      let P : ℤ → Type 0 = λ v. InBand band v in
      let from : b.value.middle ≤ℤ end = l.from in
      record {
        from = omega (arith, ints);
        within = l.within;
        inside = λ y a c. by_lt_z y b.value.middle
            (λ k. subst P (sym (raised_low floor y k)) (low.inside y a (omega (arith, ints))))
            (λ k. subst P (sym (raised_high floor y k)) (l.inside y k c));
        outside = λ less h. l.outside less (subst P (raised_high floor end from) h);
      }

-- no column is below the least
pub left_bare : (t : RowTree) (band : Band) (row limit end : ℤ) → IsSound t → Leaves (raised t (least_of t)) band row limit end → Leaves (column_at t) band row limit end
left_bare t band row limit end sound l =
    let P : ℤ → Type 0 = λ v. InBand band v in
    record {
      from = l.from;
      within = l.within;
      inside = λ y a c. subst P (bare y) (l.inside y a c);
      outside = λ less h. l.outside less (subst P (sym (bare end)) h);
    }
  where
    bare : (y : ℤ) → raised t (least_of t) y ≡ column_at t y
    bare y = let h : least_of t ≤ℤ column_at t y = at_least t y sound in omega (arith, ints, clamps)

-- A flat tree can be raised in no rows but all.
pub flat_rows : (t : RowTree) (column : ℤ) (rows : Option Span) (span : Span) → t ≡ Flat column → rows ≡ Some span → ((y : ℤ) → IsEdge rows y → IsCut t y) → (y : ℤ) → InRows rows y
flat_rows t column rows span is some cut y =
    let P : RowTree → Type 0 = λ v. (z : ℤ) → IsEdge (Some span) z → IsCut v z in
    let Q : Option Span → Type 0 = λ v. (z : ℤ) → IsEdge v z → IsCut t z in
    let R : Option Span → Type 0 = λ v. InRows v y in
    let none : P (Flat column) = subst P is (subst Q some cut) in
    subst R (sym some) (record { from = if_none span.from (λ v. v ≤ℤ y) (λ v e. none v (inl e)); to = if_none span.to (λ v. y <ℤ v) (λ v e. none v (inr e)) })
  where
    if_none : (o : Option ℤ) (P : ℤ → Type 0) → ((v : ℤ) → o ≡ Some v → ⊥) → IfSome o P
    if_none None P h = tt
    if_none (Some v) P h = absurd (h v refl)

module _ (t : RowTree) (b : Box Parts Global) (is : t ≡ Parted b) (column : ℤ) where
  pub lifted_at : (y : ℤ) → int_max (if int_lt y b.value.middle then column_at b.value.low y else column_at b.value.high y) (int_max b.value.floor column) ≡ int_max (column_at t y) column
  lifted_at y = rw is (lifts (if int_lt y b.value.middle then column_at b.value.low y else column_at b.value.high y))
    where
      lifts : (v : ℤ) → int_max v (int_max b.value.floor column) ≡ int_max (int_max v b.value.floor) column
      lifts v = omega (arith, ints, clamps)

  module _ (rows : Option Span) (span : Span) (some : rows ≡ Some span) where
    module _ (cut : (y : ℤ) → IsEdge rows y → IsCut t y) where
      cut_parts : (y : ℤ) → IsEdge (Some span) y → IsCut (Parted b) y
      cut_parts y e =
          let P : RowTree → Type 0 = λ v. IsCut v y in
          let Q : Option Span → Type 0 = λ v. IsEdge v y in
          subst P is (cut y (subst Q (sym some) e))

      pub cut_low : (below : Option Span) → Restricts span b.value.middle (λ y. y <ℤ b.value.middle) below → (y : ℤ) → IsEdge below y → IsCut b.value.low y
      cut_low below in_low y e =
          let r : _ = in_low.edges y e in
          let side : y <ℤ b.value.middle = r.1 in
          elim (cut_parts y r.0) [
            | inl k ↦ absurd (r.2 k)
            | inr k ↦ elim k [ inl h ↦ h.1 | inr h ↦ (let l : b.value.middle <ℤ y = h.0 in absurd (omega (arith, ints))) ]
          ]

      pub cut_high : (above : Option Span) → Restricts span b.value.middle (λ y. b.value.middle ≤ℤ y) above → (y : ℤ) → IsEdge above y → IsCut b.value.high y
      cut_high above in_high y e =
          let r : _ = in_high.edges y e in
          let side : b.value.middle ≤ℤ y = r.1 in
          elim (cut_parts y r.0) [
            | inl k ↦ absurd (r.2 k)
            | inr k ↦ elim k [ inl h ↦ (let l : y <ℤ b.value.middle = h.0 in absurd (omega (arith, ints))) | inr h ↦ h.1 ]
          ]

    -- the trees of the parts, raised in their rows of the span
    module _ (below above : Option Span) (in_low : Restricts span b.value.middle (λ y. y <ℤ b.value.middle) below) (in_high : Restricts span b.value.middle (λ y. b.value.middle ≤ℤ y) above)
        (low high : RowTree)
        (low_inside : (y : ℤ) → InRows below y → column_at low y ≡ int_max (column_at b.value.low y) column)
        (low_outside : (y : ℤ) → (InRows below y → ⊥) → column_at low y ≡ column_at b.value.low y)
        (high_inside : (y : ℤ) → InRows above y → column_at high y ≡ int_max (column_at b.value.high y) column)
        (high_outside : (y : ℤ) → (InRows above y → ⊥) → column_at high y ≡ column_at b.value.high y)
      where
        abbrev new_at : ℤ → ℤ
        new_at y = int_max (if int_lt y b.value.middle then column_at low y else column_at high y) b.value.floor

        pub parts_inside : (y : ℤ) → InRows rows y → new_at y ≡ int_max (column_at t y) column
        parts_inside y h =
            let Q : Option Span → Type 0 = λ v. InRows v y in
            let i : InSpan span y = subst Q some h in
            by_lt_z y b.value.middle
            (λ k. let e : _ = column_low t b is y k in let n : _ = low_inside y ((in_low.rows y k).1 i) in rw (is_true y b.value.middle k) (omega (arith, ints, clamps)))
            (λ k. let e : _ = column_high t b is y k in let n : _ = high_inside y ((in_high.rows y k).1 i) in rw (is_false y b.value.middle k) (omega (arith, ints, clamps)))

        pub parts_outside : (y : ℤ) → (InRows rows y → ⊥) → new_at y ≡ column_at t y
        parts_outside y out =
            let Q : Option Span → Type 0 = λ v. InRows v y in
            by_lt_z y b.value.middle
            (λ k. let e : _ = column_low t b is y k in let n : _ = low_outside y (λ i. out (subst Q (sym some) ((in_low.rows y k).0 i))) in rw (is_true y b.value.middle k) (omega (arith, ints, clamps)))
            (λ k. let e : _ = column_high t b is y k in let n : _ = high_outside y (λ i. out (subst Q (sym some) ((in_high.rows y k).0 i))) in rw (is_false y b.value.middle k) (omega (arith, ints, clamps)))

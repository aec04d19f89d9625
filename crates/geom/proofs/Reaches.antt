-- Rows with one column, and rows that reach one.
use Rattle.std.proofs.Common.{◌≡◌, ℤ, ◌≤ℤ◌, ◌<ℤ◌, inl, inr, Some, ◌∙◌, arith, subst}
use Rattle.std.specs.Int.{int_max}
use Rattle.std.proofs.lemmas.Int.{ints, by_lt_z}
use Rattle.geom.specs.declared.row_tree.RowTree.{RowTree}
use Rattle.geom.specs.declared.row_tree.Band.{Band}
use Rattle.geom.specs.RowTrees.{column_at, greatest_of, IsSound, InBand, Leaves}
use Rattle.geom.specs.Spans.{InRows}
use Rattle.geom.specs.Reaches.{IsLevel, IsReached, Raises}
use Rattle.geom.proofs.RowTrees.{at_most}

-- a row whose column belongs to the band is not the one that leaves it
further : (column : ℤ → ℤ) (band : Band) (row limit end : ℤ) → row <ℤ limit → InBand band (column row) → Leaves column band row limit end → row <ℤ end
further column band row limit end order holds l =
    let from : row ≤ℤ end = l.from in
    by_lt_z row end (λ h. h) (λ h.
    let e : row ≡ end = omega (arith, ints) in
    let P : ℤ → Type 0 = λ y. InBand band (column y) in
    absurd (l.outside (omega (arith, ints)) (subst P e holds)))

pub level_of : (t : RowTree) (row limit value end : ℤ) → row <ℤ limit → value ≡ column_at t row
    → Leaves (column_at t) (record { least = value; greatest = value }) row limit end → IsLevel t row (record { value = value; end = end })
level_of t row limit value end order is l = record {
  later = further (column_at t) (record { least = value; greatest = value }) row limit end order (record { least = omega (arith, ints); greatest = omega (arith, ints) }) l;
  alike = λ y a b.
      let h : InBand (record { least = value; greatest = value }) (column_at t y) = l.inside y a b in
      let low : value ≤ℤ column_at t y = h.least in
      let high : column_at t y ≤ℤ value = h.greatest in
      omega (arith, ints);
}

pub reached_of : (t : RowTree) (column row limit end : ℤ) → IsSound t → row <ℤ limit → column ≤ℤ column_at t row
    → Leaves (column_at t) (record { least = column; greatest = greatest_of t }) row limit end → IsReached t column row limit end
reached_of t column row limit end sound order reached l = record {
  later = further (column_at t) (record { least = column; greatest = greatest_of t }) row limit end order (record { least = reached; greatest = at_most t row sound }) l;
  within = l.within;
  reached = λ y a b. (l.inside y a b).least;
}

pub raised_rows : (t u n : RowTree) (from to column : ℤ) → ((y : ℤ) → column_at u y ≡ column_at t y)
    → ((y : ℤ) → InRows (Some (record { from = Some from; to = Some to })) y → column_at n y ≡ int_max (column_at u y) column)
    → ((y : ℤ) → (InRows (Some (record { from = Some from; to = Some to })) y → ⊥) → column_at n y ≡ column_at u y) → Raises t from to column n
raised_rows t u n from to column same inside outside = record {
  inside = λ y a b. rw (← same y) (inside y (record { from = a; to = b }));
  outside = λ y side. outside y (λ i. elim side [
    | inl l ↦ (let a : from ≤ℤ y = i.from in omega (arith, ints))
    | inr l ↦ (let b : y <ℤ to = i.to in omega (arith, ints))
  ]) ∙ same y;
}

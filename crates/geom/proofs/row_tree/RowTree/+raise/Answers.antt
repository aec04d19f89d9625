-- Both trees of the parts are raised in their rows of the span.
use Rattle.std.proofs.Common.{rules, ◌≡◌, ◌<◌, ℤ, ◌≤ℤ◌, ◌<ℤ◌, refl, arith, w64, to_z, of_z}
use Rattle.geom.specs.declared.row_tree.RowTree.TheVariants.{Parted}
use Rattle.std.specs.Int.{int_max}
use Rattle.geom.specs.RowTrees.{IsSound, column_at, least_of}
use Rattle.geom.specs.Spans.{Restricts, InRows}
use Rattle.geom.proofs.RowTrees.{height, lower_low, lower_high, sound_parts, stays_raised, flat_rows, lifted_at, cut_low, cut_high, parts_inside, parts_outside}
use Rattle.geom.proofs.row_tree.RowTree.+raise.Goals as goal

pub returns-then-column-least-clause-inside : goal.returns-then-column-least-clause-inside
returns-then-column-least-clause-inside t c = λ y h.
    let low : c.args.column ≤ℤ least_of c.args.self.now = search rules in
    stays_raised c.args.self.now c.args.column y c.requires.sound low

pub returns-in-Flat-clause-outside : goal.returns-in-Flat-clause-outside
returns-in-Flat-clause-outside t c = λ y out. absurd (out (flat_rows c.args.self.now c.in-Flat.all c.args.rows c.in-Some.span c.in-Flat.is c.in-Some.is c.requires.cut y))

pub returns-then-is_all-clause-inside : goal.returns-then-is_all-clause-inside
returns-then-is_all-clause-inside t c = λ y h.
    let k : to_z w64 (of_z w64 c.args.column) ≡ c.args.column = search rules in
    rw (c.lift.ensures, k, c.deref_mut.ensures.value) (lifted_at c.args.self.now c.in-Parted.parts c.in-Parted.is c.args.column y)

pub raise-requires : goal.raise-requires
raise-requires t c =
    let k : to_z w64 (of_z w64 c.args.column) ≡ c.args.column = search rules in
    let m : to_z w64 (of_z w64 c.deref.result.now.middle) ≡ c.deref.result.now.middle = search rules in
    let below : Restricts c.in-Some.span c.in-Parted.parts.value.middle (λ y. y <ℤ c.in-Parted.parts.value.middle) c.below.result = rw (← c.deref.ensures, ← m) c.below.ensures in
    let p : IsSound (Parted c.in-Parted.parts) = sound_parts c.args.self.now c.in-Parted.parts c.in-Parted.is c.requires.sound in
    let d : height c.in-Parted.parts.value.low < height c.args.self.now = lower_low c.args.self.now c.in-Parted.parts c.in-Parted.is in
    rw c.deref_mut-else-is_all.ensures.value
    (omega (arith, c.decreases, d), (p.2, cut_low c.args.self.now c.in-Parted.parts c.in-Parted.is c.args.column c.args.rows c.in-Some.span c.in-Some.is c.requires.cut c.below.result below))

pub raise-requires-else-is_all : goal.raise-requires-else-is_all
raise-requires-else-is_all t c =
    let k : to_z w64 (of_z w64 c.args.column) ≡ c.args.column = search rules in
    let m : to_z w64 (of_z w64 c.deref.result.now.middle) ≡ c.deref.result.now.middle = search rules in
    let above : Restricts c.in-Some.span c.in-Parted.parts.value.middle (λ y. c.in-Parted.parts.value.middle ≤ℤ y) c.above.result = rw (← c.deref.ensures, ← m) c.above.ensures in
    let p : IsSound (Parted c.in-Parted.parts) = sound_parts c.args.self.now c.in-Parted.parts c.in-Parted.is c.requires.sound in
    let d : height c.in-Parted.parts.value.high < height c.args.self.now = lower_high c.args.self.now c.in-Parted.parts c.in-Parted.is in
    rw (c.deref_mut-else-is_all-2.ensures.value, c.deref_mut-else-is_all.ensures.value)
    (omega (arith, c.decreases, d), (p.3, cut_high c.args.self.now c.in-Parted.parts c.in-Parted.is c.args.column c.args.rows c.in-Some.span c.in-Some.is c.requires.cut c.above.result above))

pub returns-else-is_all-clause-inside : goal.returns-else-is_all-clause-inside
returns-else-is_all-clause-inside t c =
    let k : to_z w64 (of_z w64 c.args.column) ≡ c.args.column = search rules in
    let m : to_z w64 (of_z w64 c.deref.result.now.middle) ≡ c.deref.result.now.middle = search rules in
    let below : Restricts c.in-Some.span c.in-Parted.parts.value.middle (λ y. y <ℤ c.in-Parted.parts.value.middle) c.below.result = rw (← c.deref.ensures, ← m) c.below.ensures in
    let above : Restricts c.in-Some.span c.in-Parted.parts.value.middle (λ y. c.in-Parted.parts.value.middle ≤ℤ y) c.above.result = rw (← c.deref.ensures, ← m) c.above.ensures in
    let low_inside : (y : ℤ) → InRows c.below.result y → column_at c.raise.new.self y ≡ int_max (column_at c.in-Parted.parts.value.low y) c.args.column =
    rw (← c.deref_mut-else-is_all.ensures.value, ← k) c.raise.ensures.inside in
    let low_outside : (y : ℤ) → (InRows c.below.result y → ⊥) → column_at c.raise.new.self y ≡ column_at c.in-Parted.parts.value.low y =
    rw (← c.deref_mut-else-is_all.ensures.value) c.raise.ensures.outside in
    let same : c.deref_mut-else-is_all-2.result.now.high ≡ c.in-Parted.parts.value.high = rw (c.deref_mut-else-is_all-2.ensures.value, c.deref_mut-else-is_all.ensures.value) refl in
    let high_inside : (y : ℤ) → InRows c.above.result y → column_at c.raise-else-is_all.new.self y ≡ int_max (column_at c.in-Parted.parts.value.high y) c.args.column =
    rw (← same, ← k) c.raise-else-is_all.ensures.inside in
    let high_outside : (y : ℤ) → (InRows c.above.result y → ⊥) → column_at c.raise-else-is_all.new.self y ≡ column_at c.in-Parted.parts.value.high y =
    rw (← same) c.raise-else-is_all.ensures.outside in
    rw (c.settle.ensures, c.deref_mut-else-is_all-3.ensures.value, c.deref_mut-else-is_all-2.ensures.value, c.deref_mut-else-is_all.ensures.value) (parts_inside c.args.self.now c.in-Parted.parts c.in-Parted.is c.args.column c.args.rows c.in-Some.span c.in-Some.is
    c.below.result c.above.result below above c.raise.new.self c.raise-else-is_all.new.self low_inside low_outside high_inside high_outside)

pub returns-else-is_all-clause-outside : goal.returns-else-is_all-clause-outside
returns-else-is_all-clause-outside t c =
    let k : to_z w64 (of_z w64 c.args.column) ≡ c.args.column = search rules in
    let m : to_z w64 (of_z w64 c.deref.result.now.middle) ≡ c.deref.result.now.middle = search rules in
    let below : Restricts c.in-Some.span c.in-Parted.parts.value.middle (λ y. y <ℤ c.in-Parted.parts.value.middle) c.below.result = rw (← c.deref.ensures, ← m) c.below.ensures in
    let above : Restricts c.in-Some.span c.in-Parted.parts.value.middle (λ y. c.in-Parted.parts.value.middle ≤ℤ y) c.above.result = rw (← c.deref.ensures, ← m) c.above.ensures in
    let low_inside : (y : ℤ) → InRows c.below.result y → column_at c.raise.new.self y ≡ int_max (column_at c.in-Parted.parts.value.low y) c.args.column =
    rw (← c.deref_mut-else-is_all.ensures.value, ← k) c.raise.ensures.inside in
    let low_outside : (y : ℤ) → (InRows c.below.result y → ⊥) → column_at c.raise.new.self y ≡ column_at c.in-Parted.parts.value.low y =
    rw (← c.deref_mut-else-is_all.ensures.value) c.raise.ensures.outside in
    let same : c.deref_mut-else-is_all-2.result.now.high ≡ c.in-Parted.parts.value.high = rw (c.deref_mut-else-is_all-2.ensures.value, c.deref_mut-else-is_all.ensures.value) refl in
    let high_inside : (y : ℤ) → InRows c.above.result y → column_at c.raise-else-is_all.new.self y ≡ int_max (column_at c.in-Parted.parts.value.high y) c.args.column =
    rw (← same, ← k) c.raise-else-is_all.ensures.inside in
    let high_outside : (y : ℤ) → (InRows c.above.result y → ⊥) → column_at c.raise-else-is_all.new.self y ≡ column_at c.in-Parted.parts.value.high y =
    rw (← same) c.raise-else-is_all.ensures.outside in
    rw (c.settle.ensures, c.deref_mut-else-is_all-3.ensures.value, c.deref_mut-else-is_all-2.ensures.value, c.deref_mut-else-is_all.ensures.value) (parts_outside c.args.self.now c.in-Parted.parts c.in-Parted.is c.args.column c.args.rows c.in-Some.span c.in-Some.is
    c.below.result c.above.result below above c.raise.new.self c.raise-else-is_all.new.self low_inside low_outside high_inside high_outside)

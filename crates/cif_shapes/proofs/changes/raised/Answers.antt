-- The columns of the corners, sorted, each that occurs an odd number of times.
use Rattle.std.proofs.Common.{List, ℤ, take, subst}
use Rattle.cif_shapes.specs.Changes.{AreOddOnes}
use Rattle.cif_shapes.proofs.OddOnes.{changes_sorted}
use Rattle.cif_shapes.proofs.changes.raised.Goals as goal

pub returns-clause-changes : goal.returns-clause-changes
returns-clause-changes c =
    let P : List ℤ → Type 0 = λ l. AreOddOnes l c.in_ok-odd_ones.field-0.items in
    changes_sorted (take c.in_ok-next.next c.args.corners.now) c.gather.new.columns.items c.sort.new.numbers.items c.in_ok-odd_ones.field-0.items
    c.in_ok-next.ensures.have c.in_ok-sort.ensures.same (subst P c.deref.ensures.value c.in_ok-odd_ones.ensures)

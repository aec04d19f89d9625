-- A tree of one column has it at every row, also when it is parted.
use Rattle.std.proofs.Common.{rules, ◌≡◌}
use Rattle.geom.specs.RowTrees.{column_at}
use Rattle.geom.proofs.RowTrees.{even_at}
use Rattle.geom.proofs.row_tree.RowTree.+cut.Goals as goal

pub returns-in_ok-self-in-Flat-clause-same : goal.returns-in_ok-self-in-Flat-clause-same
returns-in_ok-self-in-Flat-clause-same t c = λ y.
    let e : column_at c.in_ok-self-in-Flat.field-0 y ≡ c.in-Flat.column = even_at c.in_ok-self-in-Flat.field-0 c.in-Flat.column y (search rules) in
    rw (c.in-Flat.is) e

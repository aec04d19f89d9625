-- A tree of one column has it at every row.
use Rattle.geom.proofs.RowTrees.{even_at}
use Rattle.geom.proofs.reach.Reach.new.Goals as goal

pub returns : goal.returns
returns c = λ y. even_at c.in_ok-flat.field-0 _ y c.in_ok-flat.ensures

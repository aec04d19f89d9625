-- Both distances add up.
use Rattle.std.proofs.Common.{arith}
use Rattle.std.proofs.lemmas.Int.{ints}
use Rattle.cif_drawing.proofs.Near.{near_plus}
use Rattle.cif_drawing.proofs.wide_point.WidePoint.plus.Goals as goal

pub returns-clause-across : goal.returns-clause-across
returns-clause-across c = omega (arith, ints)

pub returns-clause-upward : goal.returns-clause-upward
returns-clause-upward c = omega (arith, ints)

pub returns-clause-near : goal.returns-clause-near
returns-clause-near c = λ m n h k. near_plus m n c.args.self c.args.by _ (returns-clause-across c) (returns-clause-upward c) h k

-- The corner of near points is near.
use Rattle.std.proofs.Common.{rules}
use Rattle.std.proofs.lemmas.Int.{ints, to_z-of_z}
use Rattle.cif_drawing.proofs.Near.{near_min}
use Rattle.cif_drawing.proofs.wide_point.WidePoint.least.Goals as goal

pub returns-clause-across : goal.returns-clause-across
returns-clause-across c = search (rules, ints, to_z-of_z)

pub returns-clause-upward : goal.returns-clause-upward
returns-clause-upward c = search (rules, ints, to_z-of_z)

pub returns-clause-near : goal.returns-clause-near
returns-clause-near c = λ n h k. near_min n c.args.self c.args.other _ (returns-clause-across c) (returns-clause-upward c) h k

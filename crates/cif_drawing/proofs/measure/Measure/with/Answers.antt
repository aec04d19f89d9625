-- Both lists of boxes are measured.
use Rattle.std.proofs.Common.{◌≡◌, ◌+◌, min, arith}
use Rattle.cif_drawing.proofs.Near.{near_both}
use Rattle.cif_drawing.proofs.Measured.{measures_both}
use Rattle.cif_drawing.proofs.measure.Measure.with.Goals as goal

pub returns-clause-measures : goal.returns-clause-measures
returns-clause-measures c = λ xs ys a b.
    let count : c.min.result ≡ min (c.args.self.count + c.args.other.count) 8000001 = omega (arith, c.saturating_add.ensures, c.min.ensures) in
    measures_both c.args.self c.args.other (record { count = c.min.result; extent = c.with.result }) xs ys count c.with.ensures a b

pub returns-clause-near : goal.returns-clause-near
returns-clause-near c = λ n a b. near_both n c.args.self.extent c.args.other.extent c.with.result c.with.ensures a b

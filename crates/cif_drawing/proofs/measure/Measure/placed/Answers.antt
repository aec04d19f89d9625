-- The boxes are as many as before, and one call farther away.
use Rattle.std.proofs.Common.{◌+◌, ◌*◌, ◌^◌, refl, arith}
use Rattle.cif_drawing.proofs.Near.{near_more}
use Rattle.cif_drawing.proofs.Measured.{measures_called}
use Rattle.cif_drawing.proofs.measure.Measure.placed.Goals as goal

pub returns-clause-measures : goal.returns-clause-measures
returns-clause-measures c = λ boxes a.
    measures_called c.args.self (record { count = c.args.self.count; extent = c.placed.result }) c.args.placement boxes refl c.placed.ensures.placed a

pub returns-clause-near : goal.returns-clause-near
returns-clause-near c = λ n a. record {
  low = near_more ((n + 1) * 2 ^ 103 + 2 ^ 103) ((n + 1 + 1) * 2 ^ 103) c.placed.result.low (omega arith) (c.placed.ensures.low_near ((n + 1) * 2 ^ 103) (2 ^ 103) a.low a.high c.requires.near);
  high = near_more ((n + 1) * 2 ^ 103 + 2 ^ 103) ((n + 1 + 1) * 2 ^ 103) c.placed.result.high (omega arith) (c.placed.ensures.high_near ((n + 1) * 2 ^ 103) (2 ^ 103) a.low a.high c.requires.near);
}

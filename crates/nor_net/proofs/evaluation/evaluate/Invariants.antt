use Rattle.std.proofs.Common.{◌≡◌, drop}
use Rattle.nor_net.specs.Evaluation.{evaluated}
use Rattle.nor_net.proofs.evaluation.evaluate.Given as goal

abbrev pub invariant-loop-at : goal.invariant-loop-at
invariant-loop-at l =
    evaluated l.net l.drive (drop l.at-index l.at-items) l.values ≡ evaluated l.net l.drive l.at-items l.fn.values

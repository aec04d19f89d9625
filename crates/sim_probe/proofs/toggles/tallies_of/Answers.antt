use Rattle.std.proofs.Common.{take, arith}
use Rattle.std.proofs.lemmas.List.{length-take-le}
use Rattle.sim_probe.proofs.Tallies.{few_counted}
use Rattle.sim_probe.proofs.toggles.tallies_of.Goals as goal

pub count_sample-requires : goal.count_sample-requires
count_sample-requires c =
    let at = c.loop-sample.sample-index in
    let size = length-take-le at c.args.samples.now (omega arith) in
    few_counted c.loop-sample.tallies (take at c.args.samples.now) 18446744073709551615 c.loop-sample.invariant (omega arith)

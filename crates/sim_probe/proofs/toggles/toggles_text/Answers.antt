use Rattle.std.proofs.Common.{◌∙◌}
use Rattle.sim_probe.proofs.Tallies.{lines_are}
use Rattle.sim_probe.proofs.toggles.toggles_text.Goals as goal

pub returns : goal.returns
returns c = c.in_ok-text.ensures.lines ∙ lines_are c.in_ok-tallies.tallies c.args.samples.now c.in_ok-tallies.ensures c.in_ok-text.ensures.found

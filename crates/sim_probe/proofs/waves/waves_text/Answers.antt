use Rattle.std.proofs.Common.{◌∙◌}
use Rattle.sim_probe.proofs.Dumps.{text_is}
use Rattle.sim_probe.proofs.waves.waves_text.Goals as goal

pub returns : goal.returns
returns c = c.in_ok-text.ensures ∙ text_is c.in_ok-changes.changes c.args.samples.now c.in_ok-changes.ensures.follows c.in_ok-changes.ensures.lines

use Rattle.std.proofs.Common.{◌∙◌}
use Rattle.nor_net.proofs.Building.{loads_more}
use Rattle.nor_net.proofs.switch_form.loads.Goals as goal

pub loop-at-preserved : goal.loop-at-preserved
loop-at-preserved c =
    let known = c.in_ok-outputs.ensures.1 c.loop-at.at (rw (← c.nets-at-end.ensures.nets) c.loop-at-test.true) in
    c.in_ok-add_load.ensures ∙ rw (c.value_at.ensures, c.deref.ensures.value, ← known)
    (loads_more c.args.net.now.gates c.loop-at.at c.loop-at.devices.items c.loop-at.invariant)

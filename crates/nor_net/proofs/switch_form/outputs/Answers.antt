use Rattle.std.proofs.Common.{sym}
use Rattle.std.proofs.lemmas.List.{take_all}
use Rattle.nor_net.proofs.Building.{outputs_more}
use Rattle.nor_net.proofs.switch_form.outputs.Goals as goal

pub loop-gate-preserved : goal.loop-gate-preserved
loop-gate-preserved c =
    rw (c.out.ensures)
    (outputs_more c.gates-gate-items.result.now c.loop-gate.gate-index c.gate-item.result c.loop-gate-test.true (sym c.gate-item.is)
    c.loop-gate.outputs.items c.args.net.now.nets c.loop-gate.invariant)

pub returns : goal.returns
returns c =
    let items = c.gates-gate-items.result.now in
    rw (← c.gates-gate-items.ensures.gates, ← take_all c.loop-gate.gate-index items c.loop-gate-test.false) c.loop-gate.invariant

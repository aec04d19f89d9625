use Rattle.cell_network.specs.Shapes.{numbered, mark_gate}
use Rattle.cell_network.proofs.Adding.{gains, pieces_more}
use Rattle.cell_network.proofs.shapes.add_mark_gates.Goals as goal

pub loop-y-preserved : goal.loop-y-preserved
loop-y-preserved c =
    gains (numbered c.args.numbers.now) c.args.gates.now.items c.loop-y.gates.items _ _ (mark_gate c.args.node c.loop-y.y) _
    c.loop-y.invariant c.in_ok-add_mark_gate.ensures (pieces_more (mark_gate c.args.node) c.loop-y.y)

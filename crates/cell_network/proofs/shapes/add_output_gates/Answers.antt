use Rattle.std.proofs.Common.{[], ◌∷◌}
use Rattle.cell_network.specs.Shapes.{numbered, output_gate}
use Rattle.cell_network.proofs.Adding.{gains, one_more}
use Rattle.cell_network.proofs.shapes.add_output_gates.Goals as goal

pub loop-y-preserved : goal.loop-y-preserved
loop-y-preserved c =
    gains (numbered c.args.numbers.now) c.args.gates.now.items c.loop-y.gates.items _ _ (output_gate c.loop-y.y ∷ []) _
    c.loop-y.invariant c.in_ok-add_gate.ensures (one_more output_gate c.loop-y.y)

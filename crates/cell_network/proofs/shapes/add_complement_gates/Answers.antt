use Rattle.std.proofs.Common.{[], ◌∷◌}
use Rattle.cell_network.specs.Shapes.{numbered, complement_gate}
use Rattle.cell_network.proofs.Adding.{gains, one_more}
use Rattle.cell_network.proofs.shapes.add_complement_gates.Goals as goal

pub loop-line-preserved : goal.loop-line-preserved
loop-line-preserved c =
    gains (numbered c.args.numbers.now) c.args.gates.now.items c.loop-line.gates.items _ _ (complement_gate c.loop-line.line ∷ []) _
    c.loop-line.invariant c.in_ok-add_gate.ensures (one_more complement_gate c.loop-line.line)

use Rattle.std.proofs.Common.{map}
use Rattle.position_nfa.specs.Registers.{state_named, step_named, step_at}
use Rattle.position_nfa.proofs.Adding.{extends, pieces_more}
use Rattle.position_nfa.proofs.steps.add_steps.Goals as goal

pub loop-symbol-preserved : goal.loop-symbol-preserved
loop-symbol-preserved c =
    extends (map step_named c.args.steps.now.items) (map step_named c.loop-symbol.steps.items) _ _ (step_at c.args.nfa.now (state_named c.args.state) c.loop-symbol.symbol) _
    c.loop-symbol.invariant c.in_ok-add_step.ensures (pieces_more (step_at c.args.nfa.now (state_named c.args.state)) c.loop-symbol.symbol)

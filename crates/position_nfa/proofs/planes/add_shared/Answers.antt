use Rattle.std.proofs.lemmas.List.{length-map}
use Rattle.std.proofs.Common.{[], ◌∷◌, map, refl, ◌∙◌}
use Rattle.position_nfa.specs.Registers.{state_named, shared_gate}
use Rattle.position_nfa.proofs.Adding.{extends, one_more}
use Rattle.position_nfa.proofs.planes.add_shared.Goals as goal

pub loop-output-preserved : goal.loop-output-preserved
loop-output-preserved c =
    extends c.args.gates.now.items c.loop-output.gates.items _ _
    (shared_gate c.args.counts c.args.nfa.now c.args.from (map state_named c.args.marked.now) c.loop-output.output ∷ []) _ c.loop-output.invariant
    (c.in_ok-push.ensures.items ∙ rw (c.new.ensures, c.shared_net.ensures, c.in_ok-inputs.ensures, length-map c.args.marked.now state_named) refl)
    (one_more (shared_gate c.args.counts c.args.nfa.now c.args.from (map state_named c.args.marked.now)) c.loop-output.output)

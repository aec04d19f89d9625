use Rattle.std.proofs.Common.{◌∷◌, ◌++◌, [], length, ap, ◌∙◌}
use Rattle.std.specs.Prelude.{reverse}
use Rattle.demo_spec.specs.Generator.{on_top}
use Rattle.demo_spec.specs.Piles.{piled, signed, stack_of}
use Rattle.demo_spec.proofs.Growing.{as_stack, sign_step}
use Rattle.demo_spec.proofs.pile.Pile.with_sign.Goals as goal

pub with_node-requires-clause-pile : goal.with_node-requires-clause-pile
with_node-requires-clause-pile c =
    rw c.node.ensures (sign_step c.self.inside.nodes.items c.self.inside.numbers.items c.take-top.new.numbers.items c.take-top.result
    c.args.sign c.take-top.ensures c.requires.declared c.self.invariant).pile

pub returns-clause-stack : goal.returns-clause-stack
returns-clause-stack c =
    let nodes = c.self.inside.nodes.items in
    let grows = sign_step nodes c.self.inside.numbers.items c.take-top.new.numbers.items c.take-top.result
    c.args.sign c.take-top.ensures c.requires.declared c.self.invariant in
    as_stack _ _ _ c.with_node.ensures
    (ap (λ node. piled (nodes ++ (node ∷ [])) (length nodes ∷ reverse c.take-top.new.numbers.items)) c.node.ensures
    ∙ grows.same ∙ ap (λ pile. on_top (signed c.args.sign) (stack_of pile)) c.self.view_is)

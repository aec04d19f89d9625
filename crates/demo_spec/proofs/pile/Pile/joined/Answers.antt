use Rattle.std.proofs.Common.{◌∷◌, ◌++◌, [], length, ap, ◌∙◌}
use Rattle.std.specs.Prelude.{reverse}
use Rattle.demo_spec.specs.Generator.{joined}
use Rattle.demo_spec.specs.Piles.{piled, stack_of}
use Rattle.demo_spec.proofs.Growing.{as_stack, join_step}
use Rattle.demo_spec.proofs.pile.Pile.joined.Goals as goal

pub with_node-requires-clause-pile : goal.with_node-requires-clause-pile
with_node-requires-clause-pile c =
    rw c.join_node.ensures (join_step c.self.inside.nodes.items c.self.inside.numbers.items c.take-right.new.numbers.items
    c.take-left.new.numbers.items c.args.draw c.take-left.result c.take-right.result c.take-right.ensures c.take-left.ensures
    c.self.invariant).pile

pub returns-clause-stack : goal.returns-clause-stack
returns-clause-stack c =
    let nodes = c.self.inside.nodes.items in
    let grows = join_step nodes c.self.inside.numbers.items c.take-right.new.numbers.items c.take-left.new.numbers.items
    c.args.draw c.take-left.result c.take-right.result c.take-right.ensures c.take-left.ensures c.self.invariant in
    as_stack _ _ _ c.with_node.ensures
    (ap (λ node. piled (nodes ++ (node ∷ [])) (length nodes ∷ reverse c.take-left.new.numbers.items)) c.join_node.ensures
    ∙ grows.same ∙ ap (λ pile. joined c.args.draw (stack_of pile)) c.self.view_is)

use Rattle.std.proofs.Common.{◌∷◌, ap, ◌∙◌}
use Rattle.rx_lang.specs.Expression.{symbol}
use Rattle.demo_spec.specs.Piles.{stack_of}
use Rattle.demo_spec.proofs.Growing.{as_stack, symbol_step}
use Rattle.demo_spec.proofs.pile.Pile.with_symbol.Goals as goal

pub with_node-requires-clause-pile : goal.with_node-requires-clause-pile
with_node-requires-clause-pile c =
    (symbol_step c.self.inside.nodes.items c.self.inside.numbers.items c.args.number c.requires.declared c.self.invariant).pile

pub returns-clause-stack : goal.returns-clause-stack
returns-clause-stack c =
    let grows = symbol_step c.self.inside.nodes.items c.self.inside.numbers.items c.args.number c.requires.declared c.self.invariant in
    as_stack _ _ _ c.with_node.ensures (grows.same ∙ ap (λ pile. symbol c.args.number ∷ stack_of pile) c.self.view_is)

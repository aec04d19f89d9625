use Rattle.std.proofs.Common.{◌<◌, ap, arith}
use Rattle.demo_spec.specs.Piles.{Made, leaf_count, stack_of}
use Rattle.demo_spec.proofs.Makings.{small_pushed}
use Rattle.demo_spec.proofs.maker.Maker.pushed.Goals as goal

-- src/maker.rt
pub invariant_of-result : goal.invariant_of-result
invariant_of-result c =
    let few : leaf_count (stack_of c.self.inside.pile) < 4096 =
    omega (arith, ap (λ (m : Made). leaf_count (stack_of m.pile)) c.self.view_is, c.requires) in
    small_pushed c.self.inside.pile c.in_ok-with_symbol.field-0 c.in_ok-pile.pile c.draw-postfix.result _ c.self.invariant few
    c.in_ok-with_symbol.ensures.stack c.in_ok-with_symbol.ensures.nodes c.in_ok-pile.ensures.stack c.in_ok-pile.ensures.nodes

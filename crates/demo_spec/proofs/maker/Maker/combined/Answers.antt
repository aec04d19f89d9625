use Rattle.std.proofs.Common.{◌≤◌, length, ap, arith}
use Rattle.demo_spec.specs.Piles.{Made}
use Rattle.demo_spec.proofs.Makings.{small_combined}
use Rattle.demo_spec.proofs.maker.Maker.combined.Goals as goal

-- src/maker.rt
pub invariant_of-result : goal.invariant_of-result
invariant_of-result c =
    let two : 2 ≤ length c.self.inside.pile.numbers = omega (arith, ap (λ (m : Made). length m.pile.numbers) c.self.view_is, c.requires) in
    small_combined c.self.inside.pile c.in_ok-joined.field-0 c.in_ok-pile.pile c.draw-join.result c.draw-postfix.result c.self.invariant two
    c.in_ok-joined.ensures.stack c.in_ok-joined.ensures.nodes c.in_ok-pile.ensures.stack c.in_ok-pile.ensures.nodes

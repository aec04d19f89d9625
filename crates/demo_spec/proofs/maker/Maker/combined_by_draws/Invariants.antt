use Rattle.std.proofs.Common.{◌≡◌, ◌-◌, length}
use Rattle.demo_spec.specs.Generator.{combined_by_draws}
use Rattle.demo_spec.specs.Piles.{making}
use Rattle.demo_spec.proofs.maker.Maker.combined_by_draws.Given as goal

abbrev pub invariant-loop-maker : goal.invariant-loop-maker
invariant-loop-maker l =
    combined_by_draws (length l.maker.pile.numbers - 1) (making l.maker)
    ≡ combined_by_draws (length l.fn.self.pile.numbers - 1) (making l.fn.self)

abbrev pub decreases-loop-maker : goal.decreases-loop-maker
decreases-loop-maker l = length l.maker.pile.numbers

use Rattle.std.proofs.Common.{◌≡◌, length}
use Rattle.demo_spec.specs.Generator.{combined_all}
use Rattle.demo_spec.specs.Piles.{making}
use Rattle.demo_spec.proofs.maker.Maker.combined_all.Given as goal

abbrev pub invariant-loop-maker : goal.invariant-loop-maker
invariant-loop-maker l = combined_all (making l.maker) ≡ combined_all (making l.fn.self)

abbrev pub decreases-loop-maker : goal.decreases-loop-maker
decreases-loop-maker l = length l.maker.pile.numbers

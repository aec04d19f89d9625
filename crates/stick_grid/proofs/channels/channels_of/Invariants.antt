-- The channels so far are those of the tiles so far.
use Rattle.stick_grid.specs.Plans.{plan_of}
use Rattle.stick_grid.proofs.Listed.{AreListed}
use Rattle.stick_grid.proofs.channels.channels_of.Given as goal

abbrev pub invariant-loop-before : goal.invariant-loop-before
invariant-loop-before l = AreListed (plan_of l.grid) l.before l.channels.items

use Rattle.std.proofs.Common.{Bool, true, false}
use Rattle.nmos_model.specs.Regions.{HasEnds}
use Rattle.nmos_model.proofs.terminals.direction.Goals as goal

pub returns-else-are_terminals-2-clause-none : goal.returns-else-are_terminals-2-clause-none
returns-else-are_terminals-2-clause-none c = neither
  where
    neither : (upright : Bool) → HasEnds c.args.squares.now upright c.args.block → ⊥
    neither true ends =
        let vertical = rw (c.above_and_below-vertical.ensures, c.left_and_right-horizontal.ensures) at c.are_terminals.ensures in
        let yes = vertical.1 ends in let no = c.if-are_terminals.false in cc
    neither false ends =
        let horizontal = rw (c.above_and_below-vertical.ensures, c.left_and_right-horizontal.ensures) at c.are_terminals-else-are_terminals.ensures in
        let yes = horizontal.1 ends in let no = c.if-are_terminals-2.false in cc

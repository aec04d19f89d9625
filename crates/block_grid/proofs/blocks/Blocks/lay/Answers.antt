use Rattle.std.proofs.Common.{subst}
use Rattle.block_grid.specs.Sheets.{IsSheet}
use Rattle.block_grid.proofs.Walks.{may_draw}
use Rattle.block_grid.proofs.blocks.Blocks.lay.Goals as goal

pub lay_turns-requires : goal.lay_turns-requires
lay_turns-requires c = may_draw _ _ (subst IsSheet c.self.view_is c.self.invariant) c.requires

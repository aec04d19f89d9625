-- The number of a net leads back to its tile.
use Rattle.std.proofs.Common.{ap, ◌∙◌}
use Rattle.stick_grid.specs.Tilings.{Tiling}
use Rattle.stick_grid.proofs.Numbering.{place_is}
use Rattle.stick_grid.proofs.piece_graph.Pieces.place.Goals as goal

pub returns-clause-place : goal.returns-clause-place
returns-clause-place c =
    let cols = c.cols.ensures.number ∙ ap (λ (t : Tiling). t.cols) c.self.view_is in
    place_is c.args.self.now c.args.number c.cols.result c.place_of.result cols c.place_of.ensures.number c.place_of.ensures.is_col

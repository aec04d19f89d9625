-- The link of a number is one of its list.
use Rattle.stick_grid.specs.declared.piece_graph.TheConstants.{EXITS}
use Rattle.stick_grid.specs.PieceGraph.{link_over}
use Rattle.stick_grid.proofs.Exits.{image_at}
use Rattle.stick_grid.proofs.piece_graph.PiecesGraph.link.Goals as goal

pub returns : goal.returns
returns c = rw c.link_over.ensures (image_at (link_over c.args.self.now c.args.node) EXITS c.args.at _ c.requires.link)

use Rattle.node_cell.proofs.Fitting.{parts_fit}
use Rattle.node_cell.proofs.fits.parts_fit_blocks.Goals as goal

pub returns : goal.returns
returns c = parts_fit c.trees_have_parts.ensures c.parts_have_shapes.ensures

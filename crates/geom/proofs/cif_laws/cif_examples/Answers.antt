use Rattle.geom.proofs.CifSmall.{turned, wire, no_layer, unknown_symbol, end_within, off_grid, behind_end}
use Rattle.geom.proofs.cif_laws.cif_examples.Goals as goal

pub returns-clause-draw : goal.returns-clause-draw
returns-clause-draw c = record { turned = turned; wire = wire }

pub returns-clause-refused : goal.returns-clause-refused
returns-clause-refused c = record {
  no_layer = no_layer;
  unknown_symbol = unknown_symbol;
  end_within = end_within;
  off_grid = off_grid;
  behind_end = behind_end;
}

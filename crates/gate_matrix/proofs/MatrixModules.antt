-- A gate matrix is a module.
use Rattle.stick_grid.specs.Names.{PlansHavePaths}
use Rattle.gate_matrix.specs.Matrices.{MatricesArePlans}
use Rattle.gate_matrix.specs.Cells.{matrix_plan}
use Rattle.gate_matrix.specs.MatrixNets.{MatricesAreModules}
use Rattle.gate_matrix.proofs.MatrixNames.{are_names}
use Rattle.gate_matrix.proofs.MatrixDevices.{drawn, are_drawn, as_listed}
use Rattle.gate_matrix.proofs.Outlets.{border_is}
use Rattle.std.proofs.Common.{arith}
use Rattle.std.proofs.lemmas.List.Sorted.{IsPermutation-map}
use Rattle.switch_net.specs.Circuit.{ascending}
use Rattle.gate_matrix.specs.MatrixNets.{matrix_devices}

pub matrices_are_modules : MatricesArePlans → PlansHavePaths → MatricesAreModules
matrices_are_modules plans paths matrix nets count vdd is = record {
  is_plan = plans matrix (record {
    columns = is.columns;
    rows = λ r below. record { follows = (is.south r (omega arith)).follows; begun = is.begun r below; ended = is.ended r below };
  });
  names = are_names matrix nets count vdd is (paths (matrix_plan matrix));
  drawn = drawn matrix nets count vdd is;
  transistors = are_drawn matrix nets count vdd is;
  as_drawn =
      IsPermutation-map ascending (drawn matrix nets count vdd is) (matrix_devices matrix nets) (as_listed matrix nets count vdd is);
  border_is = border_is matrix nets count vdd is;
}

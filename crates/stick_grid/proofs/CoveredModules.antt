-- Modules that cover a plan make it a module.
use Rattle.stick_grid.specs.PlacedModules.{CoveringsAreModules}
use Rattle.stick_grid.proofs.CoveredPlans.{is_plan}
use Rattle.stick_grid.proofs.CoveredNames.{are_names}
use Rattle.stick_grid.proofs.CoveredBorders.{border_is}
use Rattle.stick_grid.proofs.CoveredDevices.{whole_drawn, are_drawn, are_listed}

pub coverings_are_modules : CoveringsAreModules
coverings_are_modules whole count vdd modules n c = record {
  is_plan = is_plan whole count vdd modules n c;
  names = are_names whole count vdd modules n c;
  drawn = whole_drawn whole count vdd modules n c;
  transistors = are_drawn whole count vdd modules n c;
  as_drawn = are_listed whole count vdd modules n c;
  border_is = border_is whole count vdd modules n c;
}

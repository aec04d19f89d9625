-- Modules without devices.
use Rattle.stick_grid.proofs.PlainModules as modules
use Rattle.stick_grid.proofs.laws.plain_modules.Goals as goal

pub returns-clause-empty : goal.returns-clause-empty
returns-clause-empty c = modules.empty_plans

pub returns-clause-poly : goal.returns-clause-poly
returns-clause-poly c = modules.poly_rows

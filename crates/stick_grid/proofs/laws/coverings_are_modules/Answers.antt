-- Modules that cover a plan make a module.
use Rattle.stick_grid.proofs.CoveredModules as modules
use Rattle.stick_grid.proofs.laws.coverings_are_modules.Goals as goal

pub returns : goal.returns
returns c = modules.coverings_are_modules

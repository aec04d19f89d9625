-- Mirror images of modules are modules.
use Rattle.stick_grid.proofs.MirroredModules as modules
use Rattle.stick_grid.proofs.laws.mirrors_are_modules.Goals as goal

pub returns : goal.returns
returns c = modules.mirrors_are_modules c.transposes_are_mirrored.ensures

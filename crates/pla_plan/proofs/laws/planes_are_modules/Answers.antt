use Rattle.pla_plan.proofs.PlanesModules as modules
use Rattle.pla_plan.proofs.laws.planes_are_modules.Goals as goal

pub returns : goal.returns
returns c =
    modules.planes_are_modules c.columns_are_of_nets.ensures c.parts_fill_rows.ensures c.matrices_are_modules.ensures c.mirrors_are_modules.ensures
    c.plain_modules.ensures.empty c.plain_modules.ensures.poly c.parts_are_modules.ensures c.coverings_are_modules.ensures

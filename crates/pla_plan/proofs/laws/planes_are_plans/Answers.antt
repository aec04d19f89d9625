-- A module is a plan.
use Rattle.pla_plan.proofs.laws.planes_are_plans.Goals as goal

pub returns : goal.returns
returns c planes array = (c.planes_are_modules.ensures planes array).is_module.is_plan

use Rattle.switch_sim.proofs.ServedRuns.{none_served}
use Rattle.switch_sim.proofs.run.run_trace.Goals as goal

pub returns-in-Some-clause-front : goal.returns-in-Some-clause-front
returns-in-Some-clause-front g c =
    none_served c.args.network.now c.args.asked c.ternary_runs_exist.ensures.run c.pads_of-pads.ensures.valid c.args.trace.now _ _

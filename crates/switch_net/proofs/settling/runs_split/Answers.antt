use Rattle.switch_net.proofs.SplitRuns as runs
use Rattle.switch_net.proofs.settling.runs_split.Goals as goal

pub returns-clause-pads_have_drives : goal.returns-clause-pads_have_drives
returns-clause-pads_have_drives c = runs.pads_have_drives

pub returns-clause-clocks_split : goal.returns-clause-clocks_split
returns-clause-clocks_split c = runs.clocks_split

pub returns-clause-runs_split : goal.returns-clause-runs_split
returns-clause-runs_split c = runs.runs_split

pub returns-clause-clocks_have_values : goal.returns-clause-clocks_have_values
returns-clause-clocks_have_values c = runs.clocks_have_values

pub returns-clause-runs_have_values : goal.returns-clause-runs_have_values
returns-clause-runs_have_values c = runs.runs_have_values

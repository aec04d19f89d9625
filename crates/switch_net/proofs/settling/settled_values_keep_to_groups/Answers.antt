use Rattle.switch_net.proofs.SettledGroups as groups
use Rattle.switch_net.proofs.settling.settled_values_keep_to_groups.Goals as goal

pub returns-clause-fixed_nets_are_driven : goal.returns-clause-fixed_nets_are_driven
returns-clause-fixed_nets_are_driven c = groups.fixed_nets_are_driven

pub returns-clause-groups_are_alike : goal.returns-clause-groups_are_alike
returns-clause-groups_are_alike c = groups.groups_are_alike

pub returns-clause-pulled_values_forget_charges : goal.returns-clause-pulled_values_forget_charges
returns-clause-pulled_values_forget_charges c = groups.pulled_values_forget_charges

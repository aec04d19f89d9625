use Rattle.switch_net.proofs.OtherGate.{other_gate}
use Rattle.switch_net.proofs.Renamings as renamings
use Rattle.switch_net.proofs.same.same_networks_agree.Goals as goal

pub returns-clause-reflexive : goal.returns-clause-reflexive
returns-clause-reflexive c = renamings.reflexive

pub returns-clause-symmetric : goal.returns-clause-symmetric
returns-clause-symmetric c = renamings.symmetric

pub returns-clause-transitive : goal.returns-clause-transitive
returns-clause-transitive c = renamings.transitive

pub returns-clause-renamed : goal.returns-clause-renamed
returns-clause-renamed c = renamings.renamed

pub returns-clause-permuted : goal.returns-clause-permuted
returns-clause-permuted c = renamings.permuted

pub returns-clause-exchanged : goal.returns-clause-exchanged
returns-clause-exchanged c = renamings.exchanged

pub returns-clause-as_many : goal.returns-clause-as_many
returns-clause-as_many c = renamings.as_many

pub returns-clause-other_gate : goal.returns-clause-other_gate
returns-clause-other_gate c = other_gate

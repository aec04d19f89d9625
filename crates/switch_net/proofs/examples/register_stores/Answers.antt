use Rattle.switch_net.proofs.RegisterCircuit as register
use Rattle.switch_net.proofs.examples.register_stores.Goals as goal

pub returns-clause-stores : goal.returns-clause-stores
returns-clause-stores c = register.stores

pub returns-clause-runs : goal.returns-clause-runs
returns-clause-runs c = register.runs

pub returns-clause-follows : goal.returns-clause-follows
returns-clause-follows c = register.follows

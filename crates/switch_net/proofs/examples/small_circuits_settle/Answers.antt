use Rattle.switch_net.proofs.SmallCircuits as small
use Rattle.switch_net.proofs.examples.small_circuits_settle.Goals as goal

pub returns-clause-inverter_inverts : goal.returns-clause-inverter_inverts
returns-clause-inverter_inverts c = small.inverter_inverts

pub returns-clause-inverter_settles : goal.returns-clause-inverter_settles
returns-clause-inverter_settles c = small.inverter_settles

pub returns-clause-ground_beats_load : goal.returns-clause-ground_beats_load
returns-clause-ground_beats_load c = small.ground_beats_load

pub returns-clause-sampler_holds : goal.returns-clause-sampler_holds
returns-clause-sampler_holds c = small.sampler_holds

pub returns-clause-open_circuit_holds : goal.returns-clause-open_circuit_holds
returns-clause-open_circuit_holds c = small.open_circuit_holds

pub returns-clause-charge_is_shared : goal.returns-clause-charge_is_shared
returns-clause-charge_is_shared c = small.charge_is_shared

pub returns-clause-shared_charge_is_free : goal.returns-clause-shared_charge_is_free
returns-clause-shared_charge_is_free c = small.shared_charge_is_free

pub returns-clause-fixed_net_blocks : goal.returns-clause-fixed_net_blocks
returns-clause-fixed_net_blocks c = small.fixed_net_blocks

-- Netlists whose registers the reset clears, so that nothing is unknown after the reset clock.
use Rattle.std.specs.Prelude.{◌≡◌, ◌⊎◌, ℕ, zero, suc, ◌==◌, ◌&&◌, ◌||◌, not, Bool, true, All}
use Rattle.std.specs.List.{list_any, list_all}
use Rattle.rx_text.specs.declared.pad_name.Role.{Role}
use Rattle.rx_text.specs.declared.pad_name.Role.TheVariants.{Phi1, Phi2, Reset, Output}
use Rattle.switch_net.specs.ClockedLogic.{is_fixed}
use Rattle.switch_net.specs.Validity.{is_same_role}
use Rattle.nor_net.specs.Netlist.{Netlist}
use Rattle.nor_net.specs.Evaluation.{is_output}
use Rattle.nor_net.specs.SwitchForm.{net_of}

-- the reset is an input of a gate with this output
abbrev pub is_cleared : Netlist → ℕ → Bool
is_cleared netlist net =
    list_any (λ gate. gate.out == net && list_any (λ input. input == net_of netlist.pads Reset) gate.inputs) netlist.gates

-- a transfer of this clock leads to the net
abbrev pub is_target : Netlist → Role → ℕ → Bool
is_target netlist clock net = list_any (λ transfer. is_same_role transfer.clock clock && transfer.to == net) netlist.transfers

-- the net is a gate's output, and all inputs of its gates are stored while PHI1 is high
abbrev pub follows_store : Netlist → ℕ → Bool
follows_store netlist net =
    is_output netlist.gates net
    && list_all (λ gate. not (gate.out == net) || list_all (is_target netlist Phi1) gate.inputs) netlist.gates

-- a pad, a gate or a transfer drives the net
abbrev pub is_driven : Netlist → ℕ → Bool
is_driven netlist net =
    is_fixed netlist.pads net || (is_output netlist.gates net || (is_target netlist Phi1 net || is_target netlist Phi2 net))

-- What is stored while PHI1 is high is the reset, or a gate that the reset pulls low; what is stored while PHI2 is high is a gate
-- of nets stored before. Every input of a gate and every output pad is driven.
pub record ClearsByReset (netlist : Netlist) : Type 0 where
  pub first : All (λ transfer. transfer.clock ≡ Phi1 → (transfer.from ≡ net_of netlist.pads Reset) ⊎ (is_cleared netlist transfer.from ≡ true)) netlist.transfers
  pub second : All (λ transfer. transfer.clock ≡ Phi2 → follows_store netlist transfer.from ≡ true) netlist.transfers
  pub inputs : All (λ gate. All (λ input. is_driven netlist input ≡ true) gate.inputs) netlist.gates
  pub outputs : All (λ pad. pad.name.role ≡ Output → is_driven netlist pad.net.0 ≡ true) netlist.pads

-- Known while the reset is high, whatever is stored: what a pad fixes, what the reset clears, and, in so many rounds after that, the
-- outputs of gates whose inputs are all known.
abbrev pub is_known_in : Netlist → ℕ → ℕ → Bool
is_known_in netlist zero net = is_fixed netlist.pads net || is_cleared netlist net
is_known_in netlist (suc rounds) net =
    is_known_in netlist rounds net
    || (is_output netlist.gates net && list_all (λ gate. not (gate.out == net) || list_all (is_known_in netlist rounds) gate.inputs) netlist.gates)

-- What is stored while PHI1 is high is known under the reset; what is stored while PHI2 is high is a gate of nets stored before. Every
-- input of a gate and every output pad is driven. Where the reset clears registers, no round is needed.
pub record IsKnownByReset (netlist : Netlist) (rounds : ℕ) : Type 0 where
  pub first : All (λ transfer. transfer.clock ≡ Phi1 → is_known_in netlist rounds transfer.from ≡ true) netlist.transfers
  pub second : All (λ transfer. transfer.clock ≡ Phi2 → follows_store netlist transfer.from ≡ true) netlist.transfers
  pub inputs : All (λ gate. All (λ input. is_driven netlist input ≡ true) gate.inputs) netlist.gates
  pub outputs : All (λ pad. pad.name.role ≡ Output → is_driven netlist pad.net.0 ≡ true) netlist.pads

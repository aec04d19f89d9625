-- The equations of a netlist: what holds of its values in one settling and in one clock, whatever the order of evaluation.
use Rattle.std.specs.Prelude.{◌≡◌, ℕ, ◌<◌, not, Bool, true, false, List, Some, None, length, Contains, if◌then◌else◌}
use Rattle.switch_net.specs.Settling.{fixed_level}
use Rattle.switch_net.specs.ClockedLogic.{is_fixed}
use Rattle.switch_net.specs.Clock.{Drive, drives_of}
use Rattle.nor_net.specs.Netlist.{Netlist, IsNetlist}
use Rattle.nor_net.specs.Evaluation.{value_at, is_output, is_pulled, is_high, transfer_to, phase, clocked}
use Rattle.nor_net.specs.declared.gate.Transfer.{Transfer}

-- The new values solve the equations while the pads are driven so: a pad's net has the level that drives it, a gate's output is
-- the NOR of its gates' inputs, the target of a transfer follows its source while the clock is high, else keeps its value, and a net
-- that nothing drives keeps its value.
pub record Solves (netlist : Netlist) (drive : Drive) (old new : List Bool) : Type 0 where
  pub size : length new ≡ netlist.nets
  pub pads : (net : ℕ) (level : Bool) → net < netlist.nets → fixed_level netlist.pads (drives_of drive netlist.pads) net ≡ Some level
      → value_at new net ≡ level
  pub gates : (net : ℕ) → net < netlist.nets → is_output netlist.gates net ≡ true
      → value_at new net ≡ not (is_pulled netlist.gates new net)
  pub transfers : (transfer : Transfer) → Contains netlist.transfers transfer
      → value_at new transfer.to ≡ (if is_high drive transfer.clock then value_at new transfer.from else value_at old transfer.to)
  pub undriven : (net : ℕ) → net < netlist.nets → is_fixed netlist.pads net ≡ false → is_output netlist.gates net ≡ false
      → transfer_to netlist.transfers net ≡ None → value_at new net ≡ value_at old net

-- Values through one clock: the lines and the reset change while both clocks are low, then PHI1 is high and low, and PHI2 high
-- and low.
pub record ClockSolves (netlist : Netlist) (reset : Bool) (lines : List Bool) (old new : List Bool) : Type 0 where
  pub changed : List Bool
  pub first : List Bool
  pub between : List Bool
  pub second : List Bool
  pub settles : Solves netlist (phase reset lines false false) old changed
  pub phi1_high : Solves netlist (phase reset lines true false) changed first
  pub phi1_low : Solves netlist (phase reset lines false false) first between
  pub phi2_high : Solves netlist (phase reset lines false true) between second
  pub phi2_low : Solves netlist (phase reset lines false false) second new

-- the values after one clock solve the equations
abbrev pub ClocksSolve : Type 0
ClocksSolve = (netlist : Netlist) → IsNetlist netlist → (reset : Bool) (lines state : List Bool) → length state ≡ netlist.nets
    → ClockSolves netlist reset lines state (clocked netlist reset lines state)

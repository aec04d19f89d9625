-- The values of a netlist after one settling and after one clock solve its equations.
use Rattle.std.proofs.Common.{◌≡◌, ◌≢◌, ℕ, ◌<◌, not, Bool, true, false, cond, List, length, slice_index_or, Some, refl, ap, sym, ◌∙◌}
use Rattle.std.specs.List.{AllByRecursion}
use Rattle.std.proofs.lemmas.List.Elements.{recursion_from_All}
use Rattle.rx_text.specs.declared.pad_name.Role.{Role}
use Rattle.rx_text.specs.declared.pad_name.Role.TheVariants.{Phi1, Phi2}
use Rattle.switch_net.specs.Settling.{Values}
use Rattle.switch_net.specs.Clock.{Drive, drives_of}
use Rattle.switch_net.specs.ClockedLogic.{SettlesAsLogic, LogicSettles, FollowsLogic}
use Rattle.switch_net.specs.ClockedLogic.NetKind.{stored}
use Rattle.nor_net.specs.Netlist.{NorGate, Netlist, IsTransfer, IsOrder, IsNetlist}
use Rattle.nor_net.specs.Evaluation.{value_at, is_output, is_pulled, is_high, transfer_to, evaluated, driven, phase, settled, clocked}
use Rattle.nor_net.specs.Equations.{Solves, ClockSolves}
use Rattle.nor_net.specs.SwitchForm.{net_of, switch_form, Lists}
use Rattle.nor_net.specs.declared.gate.Transfer.{Transfer}
use Rattle.nor_net.proofs.Pads.{drives_sized}
use Rattle.nor_net.proofs.NetKinds as kinds
use Rattle.nor_net.proofs.NetKinds.{kind_of}
use Rattle.nor_net.proofs.FormDevices.{form_pulls}
use Rattle.nor_net.proofs.FormLogic as logic
use Rattle.nor_net.proofs.FormLogic.{low, is_logic, finds_at}
use Rattle.nor_net.proofs.Order.{pulled_alike}
use Rattle.nor_net.proofs.Clocks.{IsOnly, only_phi1, only_phi2, phase_exists, phase_gives}

module _ (settles_as : SettlesAsLogic) (settles : LogicSettles) (netlist : Netlist) (valid : IsNetlist netlist) where
  module _ (drive : Drive) (old new : List Bool) (q v : Values) (before : Lists netlist.nets old q) (after : Lists netlist.nets new v)
      (follows : FollowsLogic (switch_form netlist) (low netlist valid) (kind_of netlist) (drives_of drive netlist.pads) q v) where
    inputs_alike : (net : ℕ)
        → AllByRecursion (λ (g : NorGate). g.out ≡ net → AllByRecursion (λ input. value_at new input ≡ v input) g.inputs) netlist.gates
    inputs_alike net =
        recursion_from_All (λ (g : NorGate). g.out ≡ net → AllByRecursion (λ input. value_at new input ≡ v input) g.inputs) netlist.gates
        (λ k d l e. recursion_from_All (λ input. value_at new input ≡ v input) (slice_index_or netlist.gates k d).inputs
        (λ j i jl. sym (after.1 _ ((valid.gates k d l).inputs_below j i jl))))

    not_lows : AllByRecursion (λ (transfer : Transfer). transfer.to ≢ low netlist valid) netlist.transfers
    not_lows = recursion_from_All (λ (transfer : Transfer). transfer.to ≢ low netlist valid) netlist.transfers
        (λ k d l. logic.not_low netlist valid _ (valid.transfers k d l))

    gate_solved : (net : ℕ) → net < netlist.nets → is_output netlist.gates net ≡ true → value_at new net ≡ not (is_pulled netlist.gates new net)
    gate_solved net lt e =
        sym (after.1 net lt) ∙ follows.gates net lt (kinds.output_kind netlist valid net e)
        ∙ ap not (form_pulls netlist v net not_lows ∙ sym (pulled_alike new v net netlist.gates (inputs_alike net)))

    transfer_solved : (transfer : Transfer) → IsTransfer netlist transfer → transfer_to netlist.transfers transfer.to ≡ Some transfer
        → value_at new transfer.to ≡ cond (is_high drive transfer.clock) (value_at new transfer.from) (value_at old transfer.to)
    transfer_solved transfer h e = by_clock (is_high drive transfer.clock) refl
      where
        kind : kind_of netlist transfer.to ≡ stored (net_of netlist.pads transfer.clock) transfer.from
        kind = kinds.target_kind netlist valid transfer h e

        level : v (net_of netlist.pads transfer.clock) ≡ is_high drive transfer.clock
        level = follows.pads _ _ (logic.clock_below netlist valid transfer h) (logic.clock_level netlist valid drive transfer h)

        by_clock : (high : Bool) → is_high drive transfer.clock ≡ high
            → value_at new transfer.to ≡ cond high (value_at new transfer.from) (value_at old transfer.to)
        by_clock true up =
            sym (after.1 _ h.to_below) ∙ follows.follows _ _ _ h.to_below kind (level ∙ up)
            ∙ after.1 _ (logic.source_below netlist valid transfer h)
        by_clock false down =
            sym (after.1 _ h.to_below) ∙ follows.held _ _ _ h.to_below kind (level ∙ down) ∙ before.1 _ h.to_below

    solved : Solves netlist drive old new
    solved = record {
      size = after.0;
      pads = λ net level lt e. sym (after.1 net lt) ∙ follows.pads net level lt e;
      gates = gate_solved;
      transfers = λ transfer c. at_place c.0 transfer c.1 c.2;
      undriven = λ net lt unfixed no_gate no_transfer.
          sym (after.1 net lt) ∙ follows.isolated net lt (rw (unfixed, no_gate, no_transfer) refl) ∙ before.1 net lt;
    }
      where
        at_place : (k : ℕ) (transfer : Transfer) → k < length netlist.transfers → slice_index_or netlist.transfers k transfer ≡ transfer
            → value_at new transfer.to ≡ cond (is_high drive transfer.clock) (value_at new transfer.from) (value_at old transfer.to)
        at_place k transfer lt e =
            transfer_solved transfer (rw e at (valid.transfers k transfer lt))
            (rw e at (finds_at netlist.transfers valid.one_transfer k transfer lt))

  -- one settling
  module _ (drive : Drive) (clock : Role) (only : IsOnly settles_as settles netlist valid drive clock) (order : List ℕ)
      (ordered : IsOrder netlist clock order) (state : List Bool) (sized : length state ≡ netlist.nets) where
    evaluation_solves : Solves netlist drive state (evaluated netlist drive order (driven netlist.pads (drives_of drive netlist.pads) state))
    evaluation_solves =
        let lists : Lists netlist.nets state (value_at state) = (sized, λ net lt. refl) in
        let v = phase_exists settles_as settles netlist valid drive clock only order ordered (value_at state) in
        let follows = (settles_as (switch_form netlist) (low netlist valid) (kind_of netlist) (is_logic netlist valid)
        (drives_of drive netlist.pads) (drives_sized drive drive.lines netlist.pads) (value_at state) v.0).0 v.1 in
        solved drive state _ (value_at state) v.0 lists
        (phase_gives settles_as settles netlist valid drive clock only order ordered (value_at state) v.0 state v.1 lists) follows

  module _ (reset : Bool) (lines : List Bool) where
    first_solves : (phi1 : Bool) (state : List Bool) → length state ≡ netlist.nets
        → Solves netlist (phase reset lines phi1 false) state (settled netlist (phase reset lines phi1 false) state)
    first_solves phi1 state sized =
        evaluation_solves (phase reset lines phi1 false) Phi1 (only_phi1 settles_as settles netlist valid reset lines phi1) netlist.order1
        valid.first_order state sized

    second_solves : (state : List Bool) → length state ≡ netlist.nets
        → Solves netlist (phase reset lines false true) state (settled netlist (phase reset lines false true) state)
    second_solves state sized =
        evaluation_solves (phase reset lines false true) Phi2 (only_phi2 settles_as settles netlist valid reset lines true) netlist.order2
        valid.second_order state sized

    pub clock_solves : (state : List Bool) → length state ≡ netlist.nets → ClockSolves netlist reset lines state (clocked netlist reset lines state)
    clock_solves state sized =
        let changed = first_solves false state sized in
        let first = first_solves true _ changed.size in
        let between = first_solves false _ first.size in
        let second = second_solves _ between.size in
        let last = first_solves false _ second.size in
        record {
          changed = settled netlist (phase reset lines false false) state;
          first = _;
          between = _;
          second = _;
          settles = changed;
          phi1_high = first;
          phi1_low = between;
          phi2_high = second;
          phi2_low = last;
        }

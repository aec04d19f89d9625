-- The switch form of a netlist has clocks from all charges, and each one leaves the values of the netlist.
use Rattle.std.proofs.Common.{◌≡◌, ◌⊎◌, inl, inr, ℕ, ◌<◌, Bool, true, false, List, All}
use Rattle.std.proofs.lemmas.List.Elements.{recursion_from_All}
use Rattle.rx_text.specs.declared.pad_name.Role.{Role}
use Rattle.rx_text.specs.declared.pad_name.Role.TheVariants.{Phi1, Phi2}
use Rattle.switch_net.specs.Settling.{Values, Settled}
use Rattle.switch_net.specs.Clock.{Drive, drives_of, Phase, Clock}
use Rattle.switch_net.specs.ClockedLogic.{SettlesAsLogic, LogicSettles}
use Rattle.nor_net.specs.Netlist.{Netlist, place, IsOrder, IsNetlist}
use Rattle.nor_net.specs.Evaluation.{is_high, evaluated, driven, phase, settled, clocked}
use Rattle.nor_net.specs.SwitchForm.{switch_form, Lists, Computes}
use Rattle.nor_net.proofs.Pads.{drives_sized}
use Rattle.nor_net.proofs.NetKinds.{kind_of}
use Rattle.nor_net.proofs.FormLogic.{low, is_logic, has_order}
use Rattle.nor_net.proofs.Order.{evaluation_gives}

module _ (settles_as : SettlesAsLogic) (settles : LogicSettles) (netlist : Netlist) (valid : IsNetlist netlist) where
  -- no clock but this one is high
  abbrev pub IsOnly : Drive → Role → Type 0
  IsOnly drive clock = (role : Role) → (role ≡ Phi1) ⊎ (role ≡ Phi2) → is_high drive role ≡ true → role ≡ clock

  module _ (drive : Drive) (clock : Role) (only : IsOnly drive clock) (order : List ℕ) (ordered : IsOrder netlist clock order) where
    open_ordered : All (λ transfer. is_high drive transfer.clock ≡ true → place order transfer.from < place order transfer.to) netlist.transfers
    open_ordered k d lt high = ordered.transfers k d lt (only _ (valid.transfers k d lt).clocked high)

    pub phase_exists : (q : Values) → (v : Values) × Settled (switch_form netlist) (drives_of drive netlist.pads) q v
    phase_exists q =
        settles (switch_form netlist) (low netlist valid) (kind_of netlist) (is_logic netlist valid) (drives_of drive netlist.pads)
        (drives_sized drive drive.lines netlist.pads) (place order) (has_order netlist valid drive order ordered.gates open_ordered) q

    pub phase_gives : (q v : Values) (state : List Bool) → Settled (switch_form netlist) (drives_of drive netlist.pads) q v
        → Lists netlist.nets state q
        → Lists netlist.nets (evaluated netlist drive order (driven netlist.pads (drives_of drive netlist.pads) state)) v
    phase_gives q v state h lists =
        let follows =
        (settles_as (switch_form netlist) (low netlist valid) (kind_of netlist) (is_logic netlist valid) (drives_of drive netlist.pads)
        (drives_sized drive drive.lines netlist.pads) q v).0 h in
        evaluation_gives netlist valid drive order ordered.gates open_ordered ordered.complete q v follows state lists
        (recursion_from_All (λ net. net < netlist.nets) order ordered.below)

  pub only_phi1 : (reset : Bool) (lines : List Bool) (phi1 : Bool) → IsOnly (phase reset lines phi1 false) Phi1
  only_phi1 reset lines phi1 role (inl e) high = e
  only_phi1 reset lines phi1 role (inr e) high =
      let f : is_high (phase reset lines phi1 false) Phi2 ≡ true = rw e at high in absurd (cc)

  pub only_phi2 : (reset : Bool) (lines : List Bool) (phi2 : Bool) → IsOnly (phase reset lines false phi2) Phi2
  only_phi2 reset lines phi2 role (inr e) high = e
  only_phi2 reset lines phi2 role (inl e) high =
      let f : is_high (phase reset lines false phi2) Phi1 ≡ true = rw e at high in absurd (cc)

  module _ (reset : Bool) (lines : List Bool) where
    first_exists : (phi1 : Bool) (q : Values) → (v : Values) × Phase (switch_form netlist) reset lines phi1 false q v
    first_exists phi1 q = phase_exists (phase reset lines phi1 false) Phi1 (only_phi1 reset lines phi1) netlist.order1 valid.first_order q

    second_exists : (q : Values) → (v : Values) × Phase (switch_form netlist) reset lines false true q v
    second_exists q = phase_exists (phase reset lines false true) Phi2 (only_phi2 reset lines true) netlist.order2 valid.second_order q

    first_gives : (phi1 : Bool) (q v : Values) (state : List Bool) → Phase (switch_form netlist) reset lines phi1 false q v → Lists netlist.nets state q
        → Lists netlist.nets (settled netlist (phase reset lines phi1 false) state) v
    first_gives phi1 q v state h lists =
        phase_gives (phase reset lines phi1 false) Phi1 (only_phi1 reset lines phi1) netlist.order1 valid.first_order q v state h lists

    second_gives : (q v : Values) (state : List Bool) → Phase (switch_form netlist) reset lines false true q v → Lists netlist.nets state q
        → Lists netlist.nets (settled netlist (phase reset lines false true) state) v
    second_gives q v state h lists =
        phase_gives (phase reset lines false true) Phi2 (only_phi2 reset lines true) netlist.order2 valid.second_order q v state h lists

    clock_exists : (q : Values) → (v : Values) × Clock (switch_form netlist) reset lines q v
    clock_exists q =
        let changed = first_exists false q in
        let first = first_exists true changed.0 in
        let between = first_exists false first.0 in
        let second = second_exists between.0 in
        let last = first_exists false second.0 in (
          last.0,
          record {
            changed = changed.0;
            first = first.0;
            between = between.0;
            second = second.0;
            settles = changed.1;
            phi1_high = first.1;
            phi1_low = between.1;
            phi2_high = second.1;
            phi2_low = last.1;
          },
        )

    clock_gives : (q v : Values) (state : List Bool) → Clock (switch_form netlist) reset lines q v → Lists netlist.nets state q
        → Lists netlist.nets (clocked netlist reset lines state) v
    clock_gives q v state clock lists =
        let changed = first_gives false q clock.changed state clock.settles lists in
        let first = first_gives true clock.changed clock.first _ clock.phi1_high changed in
        let between = first_gives false clock.first clock.between _ clock.phi1_low first in
        let second = second_gives clock.between clock.second _ clock.phi2_high between in
        first_gives false clock.second v _ clock.phi2_low second

  pub computes : Computes (switch_form netlist) netlist
  computes = record {
    runs = clock_exists;
    gives = λ reset lines q v state clock lists. clock_gives reset lines q v state clock lists;
  }

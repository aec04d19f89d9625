-- The squares of an automaton's array with its labels stand for the switch network of its registers.
use Rattle.std.proofs.Common.{◌+◌, ◌<◌, ◌≤◌, inl, inr, List, ◌++◌, map, length, refl, arith}
use Rattle.rx_text.specs.declared.pad_name.Role.{Role}
use Rattle.rx_text.specs.declared.pad_name.Role.TheVariants.{Vdd, Gnd, Phi1, Phi2, Reset, Input, Output}
use Rattle.geom.specs.Rows.{Among}
use Rattle.rx_lang.specs.Tables.{Tables, IsSpecification}
use Rattle.switch_net.specs.SameNetworks.{SameIsTransitive}
use Rattle.switch_net.specs.Validity.{AreDistinct}
use Rattle.switch_net.specs.declared.network.Pad.{Pad}
use Rattle.nmos_model.specs.Pads.{IsNeeded, HasLabel}
use Rattle.stick_grid.specs.Plans.{Covers}
use Rattle.stick_grid.specs.LabelledModules.{StandsForSame, ModulesStandForNetworks}
use Rattle.nor_net.specs.SwitchForm.{switch_form, devices_of}
use Rattle.gate_matrix.specs.Columns.{ColumnsAreOfNets}
use Rattle.position_nfa.specs.declared.array_nets.ArrayCounts.{ArrayCounts}
use Rattle.position_nfa.specs.Automaton.{Automaton, IsAutomaton}
use Rattle.position_nfa.specs.Registers.{AreFew, array_counts, array_pads, part_nets, register_netlist}
use Rattle.pla_plan.specs.Planes.{PlaneTables, planes_plan}
use Rattle.pla_plan.specs.Fits.{IsArray}
use Rattle.pla_plan.specs.PlaneModules.{planes_devices, PlanesAreModules}
use Rattle.pla_plan.specs.ArrayOf.{array_of, AutomataMakeArrays}
use Rattle.pla_plan.specs.ArrayNetworks.{array_labels}
use Rattle.pla_plan.proofs.Pieces.{Pairs}
use Rattle.pla_plan.proofs.ArrayPads.{pads_below, pads_differ}
use Rattle.pla_plan.proofs.PadLabels.{pairs_first, pairs_second, each_among, agreeing, firsts}
use Rattle.pla_plan.proofs.ArrayLabels as drawn
use Rattle.pla_plan.proofs.ArrayDevices.{devices_are}
use Rattle.pla_plan.proofs.ArraySame.{same_network}

-- no two pads have one name or one net
pub pads_apart : (nfa : Automaton) (tables : Tables) → IsSpecification tables → Pairs AreDistinct (array_pads (array_counts nfa tables) tables)
pads_apart nfa tables specification =
    pads_differ (array_counts nfa tables) tables refl refl
    (pairs_first tables.lines (map (λ s. s.name) tables.symbols)
    (pairs_first (tables.lines ++ map (λ s. s.name) tables.symbols) tables.outputs specification.names_differ))
    (pairs_second (tables.lines ++ map (λ s. s.name) tables.symbols) tables.outputs specification.names_differ)

module _ (nfa : Automaton) (tables : Tables) (automaton : IsAutomaton nfa) (specification : IsSpecification tables) (few : length nfa.symbols ≤ 256)
    (arrays : AutomataMakeArrays) (modules : PlanesAreModules) (columns : ColumnsAreOfNets) (networks : ModulesStandForNetworks)
    (transitive : SameIsTransitive) where
  abbrev c : ArrayCounts
  c = array_counts nfa tables

  abbrev planes : PlaneTables
  planes = array_of nfa tables

  abbrev pads : List Pad
  pads = array_pads c tables

  is_array : IsArray planes
  is_array = arrays nfa tables automaton specification few

  few_nets : AreFew c
  few_nets = record { lines = specification.few_lines; positions = automaton.few; outputs = specification.few_outputs }

  below : (pad : Pad) → Among pads pad → pad.net.0 < planes.part.nets
  below pad h = let lt = each_among (λ (p : Pad). p.net.0 < part_nets c + 0) pads pad (pads_below c tables 0) h in omega arith

  needed : (role : Role) → IsNeeded role → HasLabel (array_labels nfa tables) role
  needed Vdd h = (_, inl refl, refl)
  needed Gnd h = (_, inr (inl refl), refl)
  needed Phi1 h = (_, inr (inr (inl refl)), refl)
  needed Phi2 h = (_, inr (inr (inr (inl refl))), refl)
  needed Reset h = (_, inr (inr (inr (inr (inl refl)))), refl)
  needed Input h = absurd h
  needed Output h = absurd h

  stands : StandsForSame (Covers (planes_plan planes)) (array_labels nfa tables)
      (record { nets = planes.part.nets + length planes.terms; pads = pads; devices = planes_devices planes })
  stands =
      drawn.stand planes is_array (columns planes.at planes.cols is_array.part_fits.columns) pads below (agreeing pads (pads_apart nfa tables specification)) needed
      (firsts planes.at pads (pads_apart nfa tables specification)) (_, inl refl, refl, refl) networks (modules planes is_array)

  pub registers_drawn : StandsForSame (Covers (planes_plan planes)) (array_labels nfa tables) (switch_form (register_netlist nfa tables))
  registers_drawn = record {
    drawn = stands.drawn;
    stands = stands.stands;
    same = transitive stands.drawn _ _ stands.same
        (same_network (planes.part.nets + length planes.terms) pads (planes_devices planes) (devices_of (register_netlist nfa tables))
        (devices_are nfa tables few_nets));
  }

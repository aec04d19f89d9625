-- The switch network of the cells of a tree is a network.
use Rattle.std.proofs.Common.{◌≡◌, ◌⊎◌, inl, inr, ℕ, ◌<◌, ◌++◌, map, IsPermutation, refl, sym, subst, arith}
use Rattle.std.specs.Prelude.{flat_map}
use Rattle.std.specs.List.{range_with_len}
use Rattle.std.proofs.lemmas.List.Sorted.{All-permutation}
use Rattle.rx_text.specs.declared.pad_name.Role.{Role}
use Rattle.rx_text.specs.declared.pad_name.Role.TheVariants.{Phi1, Phi2}
use Rattle.geom.specs.Rows.{Among}
use Rattle.rx_lang.specs.Tables.{Tables}
use Rattle.star_normal.specs.Tables.{TreeTable}
use Rattle.switch_net.specs.Circuit.{renamed_device}
use Rattle.switch_net.specs.ClockedLogic.{NamesBelow}
use Rattle.switch_net.specs.Validity.{IsNetwork}
use Rattle.switch_net.specs.declared.network.Device.{Device}
use Rattle.switch_net.specs.declared.network.Device.TheVariants.{Pass, Load}
use Rattle.nor_net.specs.Netlist.{NorGate, IsNetlist}
use Rattle.nor_net.specs.SwitchForm.{at, pull_downs, switch_form}
use Rattle.nor_net.specs.Part.{PartTables, IsPart, IsPartGate, IsPartTransfer, supply_nets, clock_net, clocked_device, part_devices}
use Rattle.nor_net.specs.Assembly.{part_net, devices_by, assembled_devices}
use Rattle.cell_network.specs.Parts.{counts_of, part_of}
use Rattle.cell_network.specs.Home.{whole_nets}
use Rattle.cell_network.specs.Whole.{cells_of}
use Rattle.cell_network.specs.Assembled.{part_home, part_count, AreDriven}
use Rattle.cell_network.specs.TreeParts.{AreParts}
use Rattle.tree_chip.proofs.Members.{all_among, all_from_among, among_append, among_mapped, among_flat_mapped, among_ranged}

-- ---- the nets of a part's devices are the part's

module _ (part : PartTables) (is : IsPart part) where
  supply_below : (net : ℕ) → Among (supply_nets part) net → net < part.nets
  supply_below net m = all_among (λ n. n < part.nets) (supply_nets part) net is.supplies_below m

  clock_below : (role : Role) → (role ≡ Phi1) ⊎ (role ≡ Phi2) → clock_net part role < part.nets
  clock_below role (inl e) = subst (λ r. clock_net part r < part.nets) (sym e) (supply_below part.phi1 (inr (inr (inl refl))))
  clock_below role (inr e) = subst (λ r. clock_net part r < part.nets) (sym e) (supply_below part.phi2 (inr (inr (inr (inl refl)))))

  abbrev Named : Device → Type 0
  Named = NamesBelow part.nets

  pull_below : (gate : NorGate) → Among part.gates gate → (device : Device) → Among (pull_downs part.gnd gate) device → Named device
  pull_below gate m device k =
      let own = all_among (IsPartGate part.nets) part.gates gate is.gates m in
      let input = among_mapped (λ (i : ℕ). Pass (at i) (at gate.out) (at part.gnd)) gate.inputs device k in
      subst Named input.2
      (all_among (λ i. i < part.nets) gate.inputs input.0 own.inputs_below input.1, own.out_below, supply_below part.gnd (inr (inl refl)))

  load_below : (device : Device) → Among (map (λ (net : ℕ). Load (at net)) part.loads) device → Named device
  load_below device k =
      let net = among_mapped (λ (n : ℕ). Load (at n)) part.loads device k in
      subst Named net.2 (all_among (λ n. n < part.nets) part.loads net.0 is.loads_below net.1)

  transfer_below : (device : Device) → Among (map (clocked_device part) part.transfers) device → Named device
  transfer_below device k =
      let t = among_mapped (clocked_device part) part.transfers device k in
      let own = all_among (IsPartTransfer part.nets) part.transfers t.0 is.transfers t.1 in
      subst Named t.2 (clock_below (t.0).clock own.clocked, own.from_below, own.to_below)

  pub device_below : (device : Device) → Among (part_devices part) device → Named device
  device_below device m = elim (among_append (flat_map (pull_downs part.gnd) part.gates ++ map (λ (net : ℕ). Load (at net)) part.loads)
      (map (clocked_device part) part.transfers) device (front m)) as (λ _. Named device) [
        | inl k ↦ elim (among_append (flat_map (pull_downs part.gnd) part.gates) (map (λ (net : ℕ). Load (at net)) part.loads) device k) as
            (λ _. Named device) [
              | inl h ↦ let g = among_flat_mapped (pull_downs part.gnd) part.gates device h in pull_below g.0 g.1 device g.2
              | inr h ↦ load_below device h
            ]
        | inr k ↦ transfer_below device k
      ]
    where
      front : Among (part_devices part) device → Among ((flat_map (pull_downs part.gnd) part.gates ++ map (λ (net : ℕ). Load (at net)) part.loads)
          ++ map (clocked_device part) part.transfers) device
      front m = m

-- a device on renamed nets
renamed_below : (low high : ℕ) (rename : ℕ → ℕ) → ((net : ℕ) → net < low → rename net < high) → (device : Device) → NamesBelow low device
    → NamesBelow high (renamed_device rename device)
renamed_below low high rename below (Pass gate a b) h = (below gate.0 h.0, below a.0 h.1, below b.0 h.2)
renamed_below low high rename below (Load net) h = below net.0 h

module _ (tree : TreeTable) (tables : Tables) (driven : AreDriven tree tables) (parts : AreParts tree tables) (netlist : IsNetlist
    (cells_of tree tables))
    (same : IsPermutation (assembled_devices (part_of tree tables) (part_count tree) (part_home tree tables)) (switch_form
    (cells_of tree tables)).devices) where
  all_below : (device : Device) → Among (assembled_devices (part_of tree tables) (part_count tree) (part_home tree tables)) device
      → NamesBelow (whole_nets (counts_of tree tables)) device
  all_below device m =
      let of = among_flat_mapped (devices_by (part_of tree tables) (part_home tree tables)) (range_with_len 0 (part_count tree)) device m in
      let v = of.0 in
      let lt = (among_ranged 0 (part_count tree) v of.1).1 in
      let own = among_mapped (renamed_device (λ net. part_home tree tables (part_net v net))) (part_devices (part_of tree tables v)) device of.2 in
      let is = (parts.wired v (omega arith)).is_part in
      subst (NamesBelow (whole_nets (counts_of tree tables))) own.2
      (renamed_below (part_of tree tables v).nets (whole_nets (counts_of tree tables)) (λ net. part_home tree tables (part_net v net))
      (λ net below. driven.below (part_net v net) (record { known = omega arith; below = below })) own.0
      (device_below (part_of tree tables v) is own.0 own.1))

  pub cells_network : IsNetwork (switch_form (cells_of tree tables))
  cells_network = record {
    pads_below = netlist.pads.pads_below;
    devices_below = All-permutation (NamesBelow (whole_nets (counts_of tree tables))) _ _ same
        (all_from_among (NamesBelow (whole_nets (counts_of tree tables))) _ all_below);
    distinct = netlist.pads.distinct;
    vdd = netlist.pads.vdd;
    gnd = netlist.pads.gnd;
    phi1 = netlist.pads.phi1;
    phi2 = netlist.pads.phi2;
    reset = netlist.pads.reset;
  }

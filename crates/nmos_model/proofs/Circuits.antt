-- Pads and devices on known nets are a network.
use Rattle.std.proofs.Common.{◌≡◌, ℕ, ◌<◌, Bool, true, false, if◌then◌else◌, List, [], ◌∷◌, ◌++◌, All, AllPairs, Any, Some, None, sym, ap, subst, ◌∙◌}
use Rattle.geom.specs.Rows.{Among}
use Rattle.geom.specs.declared.chip.Label.{Label}
use Rattle.rx_text.specs.declared.pad_name.Role.{Role}
use Rattle.rx_text.specs.declared.pad_name.Role.TheVariants.{Vdd, Gnd, Phi1, Phi2, Reset}
use Rattle.switch_net.specs.ClockedLogic.{NamesBelow}
use Rattle.switch_net.specs.Validity.{AreDistinct, HasRole, IsNetwork}
use Rattle.switch_net.specs.declared.network.Pad.{Pad}
use Rattle.switch_net.specs.declared.network.Device.{Device}
use Rattle.switch_net.specs.declared.network.Device.TheVariants.{Load}
use Rattle.nmos_model.specs.declared.channel.Channel.{Channel}
use Rattle.rx_text.specs.declared.place.Place.{Place}
use Rattle.nmos_model.specs.declared.refusal.ExtractCode.{ExtractCode}
use Rattle.nmos_model.specs.declared.refusal.ReadChipFault.{ReadChipFault}
use Rattle.nmos_model.specs.declared.refusal.ReadChipFault.TheVariants.{Fault, NoMemory}
use Rattle.nmos_model.specs.Pads.{AreNamed, NetAt, ArePads, AreSound, IsNeeded, IsPadOf, first_labels}
use Rattle.nmos_model.specs.Devices.{AreDevices, IsDeviceOf, IsSupply, device_on, is_load}
use Rattle.nmos_model.specs.Unsound.{AreBelow, IsSupplyNet, IsUnsound, IsUnsoundBy, IsOddLoadBy}
use Rattle.nmos_model.specs.Unsound.IsUnsound.{label_on_nothing, labels_disagree, missing_pad, odd_load}
use Rattle.nmos_model.proofs.Matching.{among_get, source_of}
use Rattle.nmos_model.proofs.Naming.{first_among}

module _ (count : ℕ) (net : NetAt) (below : AreBelow count net) where
  pub pads_below : (labels : List Label) (pads : List Pad) → ArePads net labels pads → All (λ pad. pad.net.0 < count) pads
  pads_below labels pads are k d lt =
      let own = source_of (IsPadOf net) (first_labels [] labels) pads _ are (among_get pads k d lt) in
      below own.0.layer own.0.x own.0.y _ own.2.number

  load_below : (net : ℕ) → net < count → NamesBelow count (Load (record { 0 = net }))
  load_below net lt = lt

  device_below : (vdd : ℕ) (depletion : Bool) (gate first second : ℕ) (device : Device) → gate < count → first < count → second < count
      → device_on depletion vdd gate first second ≡ Some device → NamesBelow count device
  device_below vdd false gate first second device g f s e = subst (λ d. NamesBelow count d) (some_device _ _ e) (g, f, s)
    where
      some_device : (a b : Device) → Some a ≡ Some b → a ≡ b
      some_device a b e = cc
  device_below vdd true gate first second device g f s e = go (is_load vdd gate first second) (is_load vdd gate second first) e
    where
      go : (a b : Bool) → (if a then Some (Load (record { 0 = first })) else if b then Some (Load (record { 0 = second })) else None) ≡ Some device
          → NamesBelow count device
      go true b e = let same : Load (record { 0 = first }) ≡ device = cc in subst (λ d. NamesBelow count d) same f
      go false true e = let same : Load (record { 0 = second }) ≡ device = cc in subst (λ d. NamesBelow count d) same s
      go false false e = absurd (cc)

  pub devices_below : (vdd : ℕ) (channels : List Channel) (devices : List Device) → AreDevices net vdd channels devices → All (NamesBelow count) devices
  devices_below vdd channels devices are k d lt =
      let own = source_of (IsDeviceOf net vdd) channels devices _ are (among_get devices k d lt) in
      let nets = own.2.nets in
      device_below vdd own.0.depletion nets.gate nets.first nets.second _ (below _ _ _ _ nets.gate_is) (below _ _ _ _ nets.first_is)
      (below _ _ _ _ nets.second_is) own.2.is

  pub is_network : (labels : List Label) (pads : List Pad) (vdd : ℕ) (channels : List Channel) (devices : List Device) → ArePads net labels pads
      → AllPairs AreDistinct pads → ((role : Role) → IsNeeded role → HasRole pads role) → AreDevices net vdd channels devices
      → IsNetwork (record { nets = count; pads = pads; devices = devices })
  is_network labels pads vdd channels devices named distinct roles are = record {
    pads_below = pads_below labels pads named;
    devices_below = devices_below vdd channels devices are;
    distinct = distinct;
    vdd = roles Vdd tt;
    gnd = roles Gnd tt;
    phi1 = roles Phi1 tt;
    phi2 = roles Phi2 tt;
    reset = roles Reset tt;
  }

-- a pad of the supply at some place
pub is_supply : (pads : List Pad) (vdd : ℕ) → Any (λ pad. (pad.name.role ≡ Vdd) × (pad.net.0 ≡ vdd)) pads → IsSupply pads vdd
is_supply pads vdd (k, pad, lt, at, h) = (pad, subst (λ p. Among pads p) at (among_get pads k pad lt), h.0, h.1)

-- the net of the supply's pad is that of a label
pub supply_net : (net : NetAt) (labels : List Label) (pads : List Pad) (vdd : ℕ) → AreSound net labels → ArePads net labels pads → IsSupply pads vdd
    → IsSupplyNet net labels vdd
supply_net net labels pads vdd sound named (pad, w, role, is) =
    let own = source_of (IsPadOf net) (first_labels [] labels) pads pad named w in
    (own.0, first_among [] labels own.0 own.1, ap (λ n. n.role) (sym own.2.name) ∙ role, own.2.number ∙ ap (λ n. Some n) is)

-- what is wrong with labels alone is wrong with channels beside them
pub unsound_labels : (net : NetAt) (channels : List Channel) (labels : List Label) (fault : ReadChipFault) → IsUnsoundBy net [] labels fault
    → IsUnsoundBy net channels labels fault
unsound_labels net channels labels NoMemory h = tt
unsound_labels net channels labels (Fault fault) h = go fault.code fault.place h
  where
    no_cut : (earlier later : List Channel) (c : Channel) → [] ≡ earlier ++ c ∷ later → ⊥
    no_cut [] later c e = cc
    no_cut (d ∷ earlier) later c e = cc

    go : (code : ExtractCode) (place : Place) → IsUnsound net [] labels code place → IsUnsound net channels labels code place
    go code place (label_on_nothing x y first) = label_on_nothing x y first
    go code place (labels_disagree x y stand first) = labels_disagree x y stand first
    go code place (missing_pad stand agree lacks) = missing_pad stand agree lacks
    go code place (odd_load x y vdd named sound supply first) = absurd (no_cut first.earlier first.later first.channel first.whole)

-- a depletion device that is no load is wrong with sound labels
pub unsound_channels : (net : NetAt) (vdd : ℕ) (channels : List Channel) (labels : List Label) (fault : ReadChipFault) → AreNamed labels → AreSound net labels
    → IsSupplyNet net labels vdd → IsOddLoadBy net vdd channels fault → IsUnsoundBy net channels labels fault
unsound_channels net vdd channels labels NoMemory named sound supply h = tt
unsound_channels net vdd channels labels (Fault fault) named sound supply (x, y, is, first) =
    subst (λ f. IsUnsound net channels labels f.code f.place) (sym is) (odd_load x y vdd named sound supply first)

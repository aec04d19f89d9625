-- A network that a drawing stands for names nets of its own, and its pads differ where those of the same network do.
use Rattle.std.proofs.Common.{◌≡◌, ℕ, zero, suc, ◌<◌, Bool, true, false, if◌then◌else◌, List, [], ◌∷◌, map, length, get_or, AllPairs, Some, None, refl, sym, ap, subst, ◌∙◌, arith}
use Rattle.std.specs.Prelude.{ℤ}
use Rattle.std.specs.List.{AllByRecursion}
use Rattle.std.proofs.lemmas.List.{get_or-map, length-map}
use Rattle.std.proofs.lemmas.List.Elements.{All-from_recursion}
use Rattle.rx_text.specs.declared.pad_name.Role.{Role}
use Rattle.rx_text.specs.declared.pad_name.Role.TheVariants.{Vdd, Gnd, Phi1, Phi2, Reset}
use Rattle.geom.specs.declared.chip.Label.{Label}
use Rattle.geom.specs.declared.layer.Layer.{Layer}
use Rattle.geom.specs.Conduction.{Drawing}
use Rattle.switch_net.specs.Circuit.{Circuit, IsSameNetwork, renamed_pad}
use Rattle.switch_net.specs.ClockedLogic.{NamesBelow}
use Rattle.switch_net.specs.Validity.{AreDistinct, HasRole, IsNetwork}
use Rattle.switch_net.specs.declared.network.Net.{Net}
use Rattle.switch_net.specs.declared.network.Pad.{Pad}
use Rattle.switch_net.specs.declared.network.Device.{Device}
use Rattle.switch_net.specs.declared.network.Device.TheVariants.{Load}
use Rattle.nmos_model.specs.declared.channel.Channel.{Channel}
use Rattle.nmos_model.specs.Lists.{Matched}
use Rattle.nmos_model.specs.Nets.{AreNets}
use Rattle.nmos_model.specs.Pads.{NetAt, IsPadOf, first_labels}
use Rattle.nmos_model.specs.Devices.{IsDeviceOf, device_on, is_load}
use Rattle.nmos_model.specs.Networks.{StandsFor}

same_some : {X : Type 0} (a b : X) → Some a ≡ Some b → a ≡ b
same_some a b e = cc

module _ (Drawn : Drawing) (count : ℕ) (net : NetAt) (nets : AreNets Drawn count net) where
  below : (layer : Layer) (x y : ℤ) (n : ℕ) → net layer x y ≡ Some n → n < count
  below layer x y n e =
      let some = nets.some layer x y (nets.conducts layer x y n e) in
      let same = same_some n some.0 (sym e ∙ some.1) in
      subst (λ k. k < count) (sym same) some.2

  pads_below : (labels : List Label) (pads : List Pad) → Matched (IsPadOf net) labels pads → AllByRecursion (λ (pad : Pad). pad.net.0 < count) pads
  pads_below [] [] h = tt
  pads_below [] (pad ∷ pads) h = absurd h
  pads_below (label ∷ labels) [] h = absurd h
  pads_below (label ∷ labels) (pad ∷ pads) h = (below label.layer label.x label.y pad.net.0 h.0.number, pads_below labels pads h.1)

  device_below : (vdd : ℕ) (depletion : Bool) (gate first second : ℕ) (device : Device) → gate < count → first < count → second < count
      → device_on depletion vdd gate first second ≡ Some device → NamesBelow count device
  device_below vdd false gate first second device g f s e = subst (λ d. NamesBelow count d) (same_some _ device e) (g, f, s)
  device_below vdd true gate first second device g f s e = go (is_load vdd gate first second) (is_load vdd gate second first) e
    where
      go : (a b : Bool) → (if a then Some (Load (record { 0 = first })) else if b then Some (Load (record { 0 = second })) else None) ≡ Some device
          → NamesBelow count device
      go true b e = let same : Load (record { 0 = first }) ≡ device = cc in subst (λ d. NamesBelow count d) same f
      go false true e = let same : Load (record { 0 = second }) ≡ device = cc in subst (λ d. NamesBelow count d) same s
      go false false e = absurd (cc)

  devices_below : (vdd : ℕ) (channels : List Channel) (devices : List Device) → Matched (IsDeviceOf net vdd) channels devices
      → AllByRecursion (NamesBelow count) devices
  devices_below vdd [] [] h = tt
  devices_below vdd [] (device ∷ devices) h = absurd h
  devices_below vdd (channel ∷ channels) [] h = absurd h
  devices_below vdd (channel ∷ channels) (device ∷ devices) h =
      let own = h.0 in
      let on = own.nets in (
        device_below vdd channel.depletion on.gate on.first on.second device (below _ _ _ on.gate on.gate_is) (below _ _ _ on.first on.first_is)
            (below _ _ _ on.second on.second_is) own.is,
        devices_below vdd channels devices h.1,
      )

-- ---- pads that another numbering keeps apart

module _ (rename : ℕ → ℕ) (pads : List Pad) where
  abbrev renamed : List Pad
  renamed = map (renamed_pad rename) pads

  apart : AllPairs AreDistinct renamed → AllPairs AreDistinct pads
  apart h i j d l lt =
      let long = length-map pads (renamed_pad rename) in
      let inside : i < length pads = omega arith in
      let one = get_or-map (renamed_pad rename) pads i d d inside in
      let other = get_or-map (renamed_pad rename) pads j d d lt in
      let given = h i j d l (omega arith) in (
        λ e. given.0 (ap (λ (p : Pad). p.name) one ∙ e ∙ ap (λ (p : Pad). p.name) (sym other)),
        λ e. given.1 (ap (λ (p : Pad). p.net) one ∙ ap (λ (n : Net). record { 0 = rename n.0 }) e ∙ ap (λ (p : Pad). p.net) (sym other)),
      )

  other_default : (xs : List Pad) (k : ℕ) (d e : Pad) → k < length xs → get_or xs k d ≡ get_or xs k e
  other_default [] k d e lt = absurd (omega arith)
  other_default (x ∷ xs) zero d e lt = refl
  other_default (x ∷ xs) (suc k) d e lt = other_default xs k d e (omega arith)

  role_kept : (role : Role) → HasRole renamed role → HasRole pads role
  role_kept role h =
      let k = h.0 in
      let long = length-map pads (renamed_pad rename) in
      let lt : k < length pads = (let given = h.2 in omega arith) in
      let own = get_or pads k h.1 in
      let there = get_or-map (renamed_pad rename) pads k h.1 h.1 lt in
      (k, own, lt, other_default pads k own h.1 lt, ap (λ (p : Pad). p.name.role) (sym there ∙ h.3) ∙ h.4)

-- What a drawing stands for is a network, where it is the same as one.
pub drawn_is_network : (Drawn : Drawing) (labels : List Label) (drawn circuit : Circuit) → StandsFor Drawn labels drawn → IsSameNetwork drawn circuit
    → IsNetwork circuit → IsNetwork drawn
drawn_is_network Drawn labels drawn circuit stands same network =
    let pads = sym same.pads in
    let roles : (role : Role) → HasRole circuit.pads role → HasRole drawn.pads role =
    λ role h. role_kept same.rename drawn.pads role (subst (λ (ps : List Pad). HasRole ps role) pads h) in
    record {
      pads_below = All-from_recursion (λ (pad : Pad). pad.net.0 < drawn.nets) drawn.pads
          (pads_below Drawn drawn.nets stands.net stands.nets (first_labels [] labels) drawn.pads stands.connects.pads);
      devices_below = All-from_recursion (NamesBelow drawn.nets) drawn.devices
          (devices_below Drawn drawn.nets stands.net stands.nets stands.connects.vdd stands.channels drawn.devices stands.connects.devices);
      distinct = apart same.rename drawn.pads (subst (AllPairs AreDistinct) pads network.distinct);
      vdd = roles Vdd network.vdd;
      gnd = roles Gnd network.gnd;
      phi1 = roles Phi1 network.phi1;
      phi2 = roles Phi2 network.phi2;
      reset = roles Reset network.reset;
    }

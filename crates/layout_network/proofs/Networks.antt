-- What a drawing with labels stands for is a network.
use Rattle.std.proofs.Common.{◌≡◌, ◌≢◌, inl, inr, ℕ, suc, ◌<◌, Bool, true, false, if◌then◌else◌, List, [], ◌∷◌, ◌++◌, AllPairs, Some, None, refl, sym, ap, ◌∙◌, subst, arith}
use Rattle.std.specs.List.{AllByRecursion}
use Rattle.std.specs.Prelude.{ℤ, Any}
use Rattle.std.proofs.lemmas.List.Elements.{All-from_recursion}
use Rattle.std.proofs.lemmas.List.Kept.{AllPairs-cons}
use Rattle.rx_text.specs.declared.pad_name.Role.{Role}
use Rattle.rx_text.specs.declared.pad_name.Role.TheVariants.{Vdd, Gnd, Phi1, Phi2, Reset}
use Rattle.geom.specs.declared.chip.Label.{Label}
use Rattle.geom.specs.declared.layer.Layer.{Layer}
use Rattle.geom.specs.Conduction.{Drawing}
use Rattle.geom.specs.Rows.{Among}
use Rattle.switch_net.specs.Circuit.{Circuit}
use Rattle.switch_net.specs.ClockedLogic.{NamesBelow}
use Rattle.switch_net.specs.Validity.{AreDistinct, HasRole, IsNetwork}
use Rattle.switch_net.specs.declared.network.Pad.{Pad}
use Rattle.switch_net.specs.declared.network.Device.{Device}
use Rattle.switch_net.specs.declared.network.Device.TheVariants.{Load}
use Rattle.nmos_model.specs.declared.channel.Channel.{Channel}
use Rattle.nmos_model.specs.Lists.{Matched}
use Rattle.nmos_model.specs.Nets.{AreNets}
use Rattle.nmos_model.specs.Pads.{AreSound, IsNeeded, IsPadOf, NetAt, first_labels, is_named}
use Rattle.nmos_model.specs.Devices.{IsDeviceOf, device_on, is_load}
use Rattle.nmos_model.specs.Networks.{StandsFor}
use Rattle.layout_network.proofs.FlatBoxes.{among_right}
use Rattle.layout_network.proofs.FirstLabels.{first_among, first_apart, first_bears}

same_some : {X : Type 0} (a b : X) → Some a ≡ Some b → a ≡ b
same_some a b e = cc

-- ---- what pads and devices name is a net

module _ (Drawn : Drawing) (count : ℕ) (net : NetAt) (nets : AreNets Drawn count net) where
  below : (layer : Layer) (x y : ℤ) (n : ℕ) → net layer x y ≡ Some n → n < count
  below layer x y n e =
      let some = nets.some layer x y (nets.conducts layer x y n e) in
      let same = same_some n some.0 (sym e ∙ some.1) in
      subst (λ k. k < count) (sym same) some.2

  pads_below : (labels : List Label) (pads : List Pad) → Matched (IsPadOf net) labels pads → AllByRecursion (λ (pad : Pad). pad.net.0 < count) pads
  pads_below [] [] h = tt
  pads_below [] (pad ∷ pads) h = absurd h
  pads_below (label ∷ labels) [] h = absurd h
  pads_below (label ∷ labels) (pad ∷ pads) h = (below label.layer label.x label.y pad.net.0 h.0.number, pads_below labels pads h.1)

  device_below : (vdd : ℕ) (depletion : Bool) (gate first second : ℕ) (device : Device) → gate < count → first < count → second < count
      → device_on depletion vdd gate first second ≡ Some device → NamesBelow count device
  device_below vdd false gate first second device g f s e = subst (λ d. NamesBelow count d) (same_some _ device e) (g, f, s)
  device_below vdd true gate first second device g f s e = go (is_load vdd gate first second) (is_load vdd gate second first) e
    where
      go : (a b : Bool) → (if a then Some (Load (record { 0 = first })) else if b then Some (Load (record { 0 = second })) else None) ≡ Some device
          → NamesBelow count device
      go true b e = let same : Load (record { 0 = first }) ≡ device = cc in subst (λ d. NamesBelow count d) same f
      go false true e = let same : Load (record { 0 = second }) ≡ device = cc in subst (λ d. NamesBelow count d) same s
      go false false e = absurd (cc)

  devices_below : (vdd : ℕ) (channels : List Channel) (devices : List Device) → Matched (IsDeviceOf net vdd) channels devices
      → AllByRecursion (NamesBelow count) devices
  devices_below vdd [] [] h = tt
  devices_below vdd [] (device ∷ devices) h = absurd h
  devices_below vdd (channel ∷ channels) [] h = absurd h
  devices_below vdd (channel ∷ channels) (device ∷ devices) h =
      let own = h.0 in
      let on = own.nets in (
        device_below vdd channel.depletion on.gate on.first on.second device (below _ _ _ on.gate on.gate_is) (below _ _ _ on.first on.first_is)
            (below _ _ _ on.second on.second_is) own.is,
        devices_below vdd channels devices h.1,
      )

-- ---- pads

-- what holds of each pad of a label holds of all pads
each_pad : (net : NetAt) (P : Pad → Type 0) (labels : List Label) (pads : List Pad) → Matched (IsPadOf net) labels pads
    → ((label : Label) (pad : Pad) → Among labels label → IsPadOf net label pad → P pad) → AllByRecursion P pads
each_pad net P [] [] h each = tt
each_pad net P [] (pad ∷ pads) h each = absurd h
each_pad net P (label ∷ labels) [] h each = absurd h
each_pad net P (label ∷ labels) (pad ∷ pads) h each =
    (each label pad (inl refl) h.0, each_pad net P labels pads h.1 (λ l p at is. each l p (inr at) is))

-- some pad is that of the label
some_pad : (net : NetAt) (P : Pad → Type 0) (labels : List Label) (pads : List Pad) → Matched (IsPadOf net) labels pads → (label : Label)
    → Among labels label → ((pad : Pad) → IsPadOf net label pad → P pad) → Any P pads
some_pad net P [] pads h label at holds = absurd at
some_pad net P (first ∷ labels) [] h label at holds = absurd h
some_pad net P (first ∷ labels) (pad ∷ pads) h label (inl e) holds =
    (0, pad, omega arith, refl, holds pad (subst (λ l. IsPadOf net l pad) e h.0))
some_pad net P (first ∷ labels) (pad ∷ pads) h label (inr at) holds =
    let later = some_pad net P labels pads h.1 label at holds in
    (suc later.0, later.1, omega (arith, later.2), later.3, later.4)

module _ (net : NetAt) (whole : List Label) (sound : AreSound net whole) where
  -- pads of labels with different names differ in name and net
  pads_apart : (a b : Label) (pad other : Pad) → Among whole a → Among whole b → IsPadOf net a pad → IsPadOf net b other → a.pad ≢ b.pad
      → AreDistinct pad other
  pads_apart a b pad other at there one two apart = (
    λ same. apart (sym one.name ∙ same ∙ two.name),
    λ same. apart ((sound.agree a b at there).1 (one.number ∙ ap (λ n. Some n.0) same ∙ sym two.number)),
  )

  all_apart : (earlier labels : List Label) (pads : List Pad) → ((label : Label) → Among labels label → Among whole label)
      → Matched (IsPadOf net) (first_labels earlier labels) pads → AllPairs AreDistinct pads
  all_apart earlier [] [] inside h = λ i j d less long. absurd (omega (arith, less, long))
  all_apart earlier [] (pad ∷ pads) inside h = absurd h
  all_apart earlier (first ∷ labels) pads inside h =
      go (is_named earlier first) pads (λ ps more. all_apart (earlier ++ first ∷ []) labels ps (λ label at. inside label (inr at)) more) h
    where
      later : (pad : Pad) → IsPadOf net first pad → (label : Label) (other : Pad) → Among (first_labels (earlier ++ first ∷ []) labels) label
          → IsPadOf net label other → AreDistinct pad other
      later pad is label other at there =
          pads_apart first label pad other (inside first (inl refl)) (inside label (inr (first_among (earlier ++ first ∷ []) labels label at))) is there
          (first_apart (earlier ++ first ∷ []) labels first (among_right earlier (first ∷ []) first (inl refl)) label at)

      go : (known : Bool) (ps : List Pad)
          → ((qs : List Pad) → Matched (IsPadOf net) (first_labels (earlier ++ first ∷ []) labels) qs → AllPairs AreDistinct qs)
          → Matched (IsPadOf net) (if known then first_labels (earlier ++ first ∷ []) labels else first ∷ first_labels (earlier ++ first ∷ []) labels) ps
          → AllPairs AreDistinct ps
      go true ps rest more = rest ps more
      go false [] rest more = absurd more
      go false (pad ∷ ps) rest more =
          AllPairs-cons AreDistinct pad ps
          (All-from_recursion (AreDistinct pad) ps (each_pad net (AreDistinct pad) (first_labels (earlier ++ first ∷ []) labels) ps more.1 (later pad more.0)))
          (rest ps more.1)

  has_role : (pads : List Pad) → Matched (IsPadOf net) (first_labels [] whole) pads → (role : Role) → IsNeeded role → HasRole pads role
  has_role pads h role needed =
      let label = sound.needed role needed in
      elim (first_bears [] whole label.0 label.1) [
        | inl old ↦ absurd old.1
        | inr one ↦ some_pad net (λ pad. pad.name.role ≡ role) (first_labels [] whole) pads h one.0 one.1
            (λ pad is. ap (λ n. n.role) (is.name ∙ one.2) ∙ label.2)
      ]

-- a drawing and its labels stand for a network
pub stands_for_network : (Drawn : Drawing) (labels : List Label) (circuit : Circuit) → StandsFor Drawn labels circuit → IsNetwork circuit
stands_for_network Drawn labels circuit stands =
    let pads = stands.connects.pads in
    let role : (r : Role) → IsNeeded r → HasRole circuit.pads r = has_role stands.net labels stands.sound circuit.pads pads in
    record {
      pads_below = All-from_recursion (λ (pad : Pad). pad.net.0 < circuit.nets) circuit.pads
          (pads_below Drawn circuit.nets stands.net stands.nets (first_labels [] labels) circuit.pads pads);
      devices_below = All-from_recursion (NamesBelow circuit.nets) circuit.devices
          (devices_below Drawn circuit.nets stands.net stands.nets stands.connects.vdd stands.channels circuit.devices stands.connects.devices);
      distinct = all_apart stands.net labels stands.sound [] labels circuit.pads (λ label at. at) pads;
      vdd = role Vdd tt;
      gnd = role Gnd tt;
      phi1 = role Phi1 tt;
      phi2 = role Phi2 tt;
      reset = role Reset tt;
    }

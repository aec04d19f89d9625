-- When networks are the same.
use Rattle.std.proofs.Common.{◌≡◌, ℕ, ◌==◌, nat_le, if◌then◌else◌, List, [], ◌∷◌, ◌++◌, map, flat_map, length, IsPermutation, refl, sym, ap, subst, ◌∙◌, inl, inr, arith}
use Rattle.std.proofs.lemmas.Bool.{cases_Bool, leb-true, leb-false, eqb-true, eqb-false, cond-true, cond-false}
use Rattle.std.proofs.lemmas.List.Sorted.{IsPermutation-refl, IsPermutation-sym, IsPermutation-trans, IsPermutation-map, length_permutation, Contains-permutation}
use Rattle.std.proofs.lemmas.Simd.{map-map}
use Rattle.std.proofs.lemmas.List.{length-map}
use Rattle.switch_net.proofs.Members.{In, contains_in, in_contains, in_left, in_right, in_either, in_map, map_in, in_flat, flat_in, map_agree, map-self}
use Rattle.switch_net.specs.Circuit.{Circuit, device_nets, touched, renamed_pad, renamed_device, ascending, IsSameNetwork}
use Rattle.switch_net.specs.SameNetworks.{SameIsReflexive, SameIsSymmetric, SameIsTransitive, RenamedIsSame, PermutedIsSame, ExchangedIsSame, SameAsMany}
use Rattle.switch_net.specs.declared.network.Net.{Net}
use Rattle.switch_net.specs.declared.network.Pad.{Pad}
use Rattle.switch_net.specs.declared.network.Device.{Device}
use Rattle.switch_net.specs.declared.network.Device.TheVariants.{Pass, Load}

-- ---- one device

-- the order of the ends does not matter
ascending-exchange : (gate a b : Net) → ascending (Pass gate a b) ≡ ascending (Pass gate b a)
ascending-exchange gate a b =
    elim (cases_Bool (nat_le a.0 b.0)) [
      | inl up ↦ elim (cases_Bool (nat_le b.0 a.0)) [
        | inl down ↦
            let below = leb-true _ _ up in
            let above = leb-true _ _ down in
            let level : a.0 ≡ b.0 = omega arith in
            let net_of : ℕ → Net = λ n. record { 0 = n } in
            let same : a ≡ b = ap net_of level in
            rw (up, down) (cc)
        | inr not_down ↦ rw (up, not_down) refl
      ]
      | inr not_up ↦ elim (cases_Bool (nat_le b.0 a.0)) [
        | inl down ↦ rw (not_up, down) refl
        | inr not_down ↦
            let above = leb-false _ _ not_up in
            let below = leb-false _ _ not_down in
            absurd (omega arith)
      ]
    ]

-- nor does it before a renaming
ascending-renamed : (rename : ℕ → ℕ) (device : Device)
    → ascending (renamed_device rename (ascending device)) ≡ ascending (renamed_device rename device)
ascending-renamed rename (Load net) = refl
ascending-renamed rename (Pass gate a b) =
    elim (cases_Bool (nat_le a.0 b.0)) [
      | inl up ↦ rw up refl
      | inr down ↦ rw down (ascending-exchange _ _ _)
    ]

renamed-self : (device : Device) → renamed_device (λ net. net) device ≡ device
renamed-self (Load net) = refl
renamed-self (Pass gate a b) = refl

renamed-renamed : (f g : ℕ → ℕ) (device : Device)
    → renamed_device g (renamed_device f device) ≡ renamed_device (λ net. g (f net)) device
renamed-renamed f g (Load net) = refl
renamed-renamed f g (Pass gate a b) = refl

-- renamings that agree on a device's nets rename it alike
renamed-agree : (f g : ℕ → ℕ) (device : Device) → ((net : ℕ) → In net (device_nets device) → f net ≡ g net)
    → renamed_device f device ≡ renamed_device g device
renamed-agree f g (Load net) h =
    let e = h net.0 (inl refl) in rw e refl
renamed-agree f g (Pass gate a b) h =
    let e = h gate.0 (inl refl) in
    let e' = h a.0 (inr (inl refl)) in
    let e'' = h b.0 (inr (inr (inl refl))) in
    rw (e, e', e'') refl

nets_exchange : (gate a b : Net) (net : ℕ) → In net (device_nets (Pass gate a b)) → In net (device_nets (Pass gate b a))
nets_exchange gate a b net (inl e) = inl e
nets_exchange gate a b net (inr (inl e)) = inr (inr (inl e))
nets_exchange gate a b net (inr (inr (inl e))) = inr (inl e)
nets_exchange gate a b net (inr (inr (inr h))) = absurd h

-- a device touches the same nets with its ends in order
ascending_nets : (device : Device) (net : ℕ) → In net (device_nets device) → In net (device_nets (ascending device))
ascending_nets (Load at) net h = h
ascending_nets (Pass gate a b) net h =
    elim (cases_Bool (nat_le a.0 b.0)) [
      | inl up ↦ rw up h
      | inr down ↦ rw down (nets_exchange gate a b net h)
    ]

nets_ascending : (device : Device) (net : ℕ) → In net (device_nets (ascending device)) → In net (device_nets device)
nets_ascending (Load at) net h = h
nets_ascending (Pass gate a b) net h =
    elim (cases_Bool (nat_le a.0 b.0)) [
      | inl up ↦ rw up at h
      | inr down ↦ nets_exchange gate b a net (rw down at h)
    ]

-- and the renamed nets after a renaming
renamed_nets : (rename : ℕ → ℕ) (device : Device) (net : ℕ) → In net (device_nets device)
    → In (rename net) (device_nets (renamed_device rename device))
renamed_nets rename (Load at) net (inl e) = inl (ap rename e)
renamed_nets rename (Load at) net (inr h) = absurd h
renamed_nets rename (Pass gate a b) net (inl e) = inl (ap rename e)
renamed_nets rename (Pass gate a b) net (inr (inl e)) = inr (inl (ap rename e))
renamed_nets rename (Pass gate a b) net (inr (inr (inl e))) = inr (inr (inl (ap rename e)))
renamed_nets rename (Pass gate a b) net (inr (inr (inr h))) = absurd h

nets_renamed : (rename : ℕ → ℕ) (device : Device) (net : ℕ) → In net (device_nets (renamed_device rename device))
    → (from : ℕ) × In from (device_nets device) × (rename from ≡ net)
nets_renamed rename (Load at) net (inl e) = (at.0, inl refl, e)
nets_renamed rename (Load at) net (inr h) = absurd h
nets_renamed rename (Pass gate a b) net (inl e) = (gate.0, inl refl, e)
nets_renamed rename (Pass gate a b) net (inr (inl e)) = (a.0, inr (inl refl), e)
nets_renamed rename (Pass gate a b) net (inr (inr (inl e))) = (b.0, inr (inr (inl refl)), e)
nets_renamed rename (Pass gate a b) net (inr (inr (inr h))) = absurd h

-- ---- the same network on other lists of devices

same_devices : (circuit : Circuit) (devices : List Device)
    → IsPermutation (map ascending circuit.devices) (map ascending devices)
    → IsSameNetwork circuit (record circuit { devices = devices })
same_devices circuit devices h = record {
  rename = λ net. net;
  apart = λ a b _ _ e. e;
  pads = map-self _ circuit.pads (λ pad _. refl);
  devices =
      rw (map_agree (λ device. ascending (renamed_device (λ net. net) device)) ascending circuit.devices
      (λ device _. ap ascending (renamed-self device)))
      h;
}

pub permuted : PermutedIsSame
permuted circuit devices h = same_devices circuit devices (IsPermutation-map ascending circuit.devices devices h)

pub reflexive : SameIsReflexive
reflexive circuit = permuted circuit circuit.devices (IsPermutation-refl circuit.devices)

map-exchange : (before after : List Device) (gate a b : Net)
    → map ascending (before ++ Pass gate a b ∷ after) ≡ map ascending (before ++ Pass gate b a ∷ after)
map-exchange [] after gate a b = ap (λ device. device ∷ map ascending after) (ascending-exchange gate a b)
map-exchange (device ∷ before) after gate a b =
    ap (λ devices. ascending device ∷ devices) (map-exchange before after gate a b)

pub exchanged : ExchangedIsSame
exchanged circuit before after gate a b e =
    same_devices circuit (before ++ Pass gate b a ∷ after)
    (subst (IsPermutation (map ascending circuit.devices)) (ap (map ascending) e ∙ map-exchange before after gate a b)
    (IsPermutation-refl (map ascending circuit.devices)))

pub renamed : RenamedIsSame
renamed circuit rename nets apart = record {
  rename = rename;
  apart = apart;
  pads = refl;
  devices = rw (map-map ascending (renamed_device rename) circuit.devices) (IsPermutation-refl _);
}

pub as_many : SameAsMany
as_many one other s = (
  sym (length-map one.pads (renamed_pad s.rename)) ∙ ap length s.pads,
  sym (length-map one.devices (λ device. ascending (renamed_device s.rename device)))
      ∙ sym (length_permutation _ _ s.devices) ∙ length-map other.devices ascending,
)

-- ---- what a renaming carries over

-- the renamed devices of the one network
abbrev pub placed : (ℕ → ℕ) → Device → Device
placed rename device = ascending (renamed_device rename device)

module _ (one other : Circuit) (s : IsSameNetwork one other) where
  nets_of_pads : map (λ pad. s.rename pad.net.0) one.pads ≡ map (λ pad. pad.net.0) other.pads
  nets_of_pads = sym (map-map (λ pad. pad.net.0) (renamed_pad s.rename) one.pads) ∙ ap (map (λ pad. pad.net.0)) s.pads

  -- a device of the one network stands in the other
  pub device_carried : (device : Device) → In device one.devices
      → (there : Device) × In there other.devices × (ascending there ≡ placed s.rename device)
  device_carried device at =
      map_in ascending (placed s.rename device) other.devices
      (contains_in _ _ (Contains-permutation _ _ _ s.devices (in_contains _ _ (in_map (placed s.rename) device one.devices at))))

  -- and the other way round
  pub device_brought : (there : Device) → In there other.devices
      → (device : Device) × In device one.devices × (placed s.rename device ≡ ascending there)
  device_brought there at =
      map_in (placed s.rename) (ascending there) one.devices
      (contains_in _ _ (Contains-permutation _ _ _ (IsPermutation-sym _ _ s.devices)
      (in_contains _ _ (in_map ascending there other.devices at))))

  -- a touched net is renamed to a touched net
  pad_carried : (net : ℕ) → In net (map (λ pad. pad.net.0) one.pads) → In (s.rename net) (map (λ pad. pad.net.0) other.pads)
  pad_carried net at =
      let pad = map_in (λ pad. pad.net.0) net one.pads at in
      let there = in_map (λ pad. s.rename pad.net.0) pad.0 one.pads pad.1 in
      rw (← nets_of_pads, ← pad.2) there

  pub carried : (net : ℕ) → In net (touched one) → In (s.rename net) (touched other)
  carried net at =
      elim (in_either net (map (λ pad. pad.net.0) one.pads) (flat_map device_nets one.devices) at) [
        | inl pad ↦ in_left _ _ _ (pad_carried net pad)
        | inr among ↦
            let device = flat_in device_nets net one.devices among in
            let there = device_carried device.0 device.1 in
            let named = ascending_nets _ _ (renamed_nets s.rename device.0 net device.2) in
            in_right _ _ _ (in_flat device_nets there.0 _ other.devices there.1 (nets_ascending _ _ (rw there.2 named)))
      ]

  -- and each touched net of the other network is one
  pub brought : (net : ℕ) → In net (touched other) → (from : ℕ) × In from (touched one) × (s.rename from ≡ net)
  brought net at =
      elim (in_either net (map (λ pad. pad.net.0) other.pads) (flat_map device_nets other.devices) at) [
        | inl there ↦
            let pad = map_in (λ pad. s.rename pad.net.0) net one.pads (rw nets_of_pads there) in
            (pad.0.net.0, in_left _ _ _ (in_map (λ pad. pad.net.0) pad.0 one.pads pad.1), pad.2)
        | inr among ↦
            let there = flat_in device_nets net other.devices among in
            let device = device_brought there.0 there.1 in
            let named = nets_ascending (renamed_device s.rename device.0) net (rw device.2 (ascending_nets there.0 net there.2)) in
            let from = nets_renamed s.rename device.0 net named in
            (from.0, in_right _ _ _ (in_flat device_nets device.0 from.0 one.devices device.1 from.1), from.2)
      ]

-- ---- one renaming after another, and back

placed-placed : (f g : ℕ → ℕ) (device : Device) → placed g (placed f device) ≡ placed (λ net. g (f net)) device
placed-placed f g device = ascending-renamed g (renamed_device f device) ∙ ap ascending (renamed-renamed f g device)

placed_ascending : (rename : ℕ → ℕ) (devices : List Device)
    → map (placed rename) (map ascending devices) ≡ map (placed rename) devices
placed_ascending rename devices =
    map-map (placed rename) ascending devices
    ∙ map_agree _ _ devices (λ device _. ascending-renamed rename device)

placed_placed : (f g : ℕ → ℕ) (devices : List Device)
    → map (placed g) (map (placed f) devices) ≡ map (placed (λ net. g (f net))) devices
placed_placed f g devices =
    map-map (placed g) (placed f) devices ∙ map_agree _ _ devices (λ device _. placed-placed f g device)

along : (xs xs' ys ys' : List Device) → xs ≡ xs' → ys ≡ ys' → IsPermutation xs ys → IsPermutation xs' ys'
along xs xs' ys ys' e e' h = rw (← e, ← e') h

pub transitive : SameIsTransitive
transitive one other third s t = record {
  rename = λ net. t.rename (s.rename net);
  apart = λ a b touches touches' e.
      s.apart a b touches touches'
      (t.apart (s.rename a) (s.rename b)
      (in_contains _ _ (carried one other s a (contains_in _ _ touches)))
      (in_contains _ _ (carried one other s b (contains_in _ _ touches'))) e);
  pads = sym (map-map (renamed_pad t.rename) (renamed_pad s.rename) one.pads) ∙ ap (map (renamed_pad t.rename)) s.pads ∙ t.pads;
  devices =
      IsPermutation-trans _ _ _
      (along _ _ _ _ (placed_placed s.rename t.rename one.devices) (placed_ascending t.rename other.devices)
      (IsPermutation-map (placed t.rename) _ _ s.devices))
      t.devices;
}

-- a net of the list that the renaming takes to this one
abbrev back : (ℕ → ℕ) → List ℕ → ℕ → ℕ
back rename [] net = 0
back rename (from ∷ rest) net = if rename from == net then from else back rename rest net

back_in : (rename : ℕ → ℕ) (nets : List ℕ) (net : ℕ) → In net nets
    → In (back rename nets (rename net)) nets × (rename (back rename nets (rename net)) ≡ rename net)
back_in rename [] net at = absurd at
back_in rename (from ∷ rest) net at =
    elim (cases_Bool (rename from == rename net)) [
      | inl same ↦
          let taken : back rename (from ∷ rest) (rename net) ≡ from = cond-true _ _ _ same in
          (inl (sym taken), ap rename taken ∙ eqb-true _ _ same)
      | inr other ↦ elim at [
        | inl e ↦ absurd (eqb-false _ _ other (ap rename e))
        | inr later ↦
            let found = back_in rename rest net later in
            let passed : back rename (from ∷ rest) (rename net) ≡ back rename rest (rename net) = cond-false _ _ _ other in
            (inr (subst (λ n. In n rest) (sym passed) found.0), ap rename passed ∙ found.1)
      ]
    ]

module _ (one other : Circuit) (s : IsSameNetwork one other) where
  abbrev inverse : ℕ → ℕ
  inverse = back s.rename (touched one)

  returns : (net : ℕ) → In net (touched one) → inverse (s.rename net) ≡ net
  returns net at =
      let found = back_in s.rename (touched one) net at in
      s.apart _ net (in_contains _ _ found.0) (in_contains _ _ at) found.1

  inverse_apart : (a b : ℕ) → In a (touched other) → In b (touched other) → inverse a ≡ inverse b → a ≡ b
  inverse_apart a b at at' e =
      let from = brought one other s a at in
      let from' = brought one other s b at' in
      let same = returns from.0 from.1 in
      let same' = returns from'.0 from'.1 in
      let equal : from.0 ≡ from'.0 =
      sym same ∙ ap inverse from.2 ∙ e ∙ ap inverse (sym from'.2) ∙ same' in
      sym from.2 ∙ ap s.rename equal ∙ from'.2

  pad_returns : (pad : Pad) → In pad one.pads → renamed_pad inverse (renamed_pad s.rename pad) ≡ pad
  pad_returns pad at =
      let on : ℕ → Pad = λ n. record { name = pad.name; net = record { 0 = n } } in
      ap on (returns pad.net.0 (in_left _ _ _ (in_map (λ pad. pad.net.0) pad one.pads at)))

  device_returns : (device : Device) → In device one.devices
      → placed (λ net. inverse (s.rename net)) device ≡ ascending device
  device_returns device at =
      ap ascending
      (renamed-agree (λ net. inverse (s.rename net)) (λ net. net) device
      (λ net named. returns net (in_right _ _ _ (in_flat device_nets device net one.devices at named)))
      ∙ renamed-self device)

  pub inverted : IsSameNetwork other one
  inverted = record {
    rename = inverse;
    apart = λ a b touches touches' e. inverse_apart a b (contains_in _ _ touches) (contains_in _ _ touches') e;
    pads =
        ap (map (renamed_pad inverse)) (sym s.pads)
        ∙ map-map (renamed_pad inverse) (renamed_pad s.rename) one.pads
        ∙ map-self _ one.pads pad_returns;
    devices =
        along _ _ _ _ (placed_ascending inverse other.devices)
        (placed_placed s.rename inverse one.devices ∙ map_agree _ _ one.devices device_returns)
        (IsPermutation-map (placed inverse) _ _ (IsPermutation-sym _ _ s.devices));
  }

  -- the renaming of the way back takes a renamed net to itself
  pub goes_back : (net : ℕ) → In net (touched one) → inverted.rename (s.rename net) ≡ net
  unfolding inverted
  goes_back net at = returns net at

pub symmetric : SameIsSymmetric
symmetric one other s = inverted one other s

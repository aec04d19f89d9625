-- What a renaming of nets carries over: fixed levels, groups, and what pulls them.
use Rattle.std.proofs.Common.{◌≡◌, ◌↔◌, ◌⊎◌, inl, inr, ℕ, ◌<◌, ◌==◌, nat_le, Bool, true, false, List, [], ◌∷◌, map, flat_map, Some, refl, sym, ap, ◌∙◌, subst}
use Rattle.std.proofs.lemmas.Bool.{cases_Bool, eqb-true, eqb-false, eq-eqb, ne_eqb}
use Rattle.std.proofs.lemmas.List.Elements.{recursion_from_All}
use Rattle.std.specs.List.{AllByRecursion}
use Rattle.switch_net.proofs.Members.{In, in_contains, in_left, in_right, in_either, in_map, map_in, in_flat, flat_in}
use Rattle.switch_net.proofs.Renamings.{device_carried, device_brought, carried}
use Rattle.switch_net.specs.Circuit.{Circuit, device_nets, touched, renamed_pad, renamed_device, ascending, IsSameNetwork}
use Rattle.switch_net.specs.Clock.{Drive, pad_drive, bits_behind, drives_from, drives_of}
use Rattle.switch_net.specs.ClockedLogic.{NamesBelow}
use Rattle.switch_net.specs.Settling.{Values, fixed_level, Joins, HasLoad, IsFree, Grouped, Source, IsPulledHigh}
use Rattle.switch_net.specs.Settling.Grouped.{here, step}
use Rattle.switch_net.specs.Validity.{IsNetwork}
use Rattle.switch_net.specs.declared.network.Device.{Device}
use Rattle.switch_net.specs.declared.network.Device.TheVariants.{Pass, Load}
use Rattle.switch_net.specs.declared.network.Pad.{Pad}

-- ---- touched nets

all_in : {X : Type 0} (P : X → Type 0) (xs : List X) (x : X) → AllByRecursion P xs → In x xs → P x
all_in P [] x all at = absurd at
all_in P (y ∷ ys) x all (inl e) = subst P e all.0
all_in P (y ∷ ys) x all (inr at) = all_in P ys x all.1 at

device_net_below : (nets : ℕ) (device : Device) (net : ℕ) → NamesBelow nets device → In net (device_nets device) → net < nets
device_net_below nets (Load at) net below (inl e) = subst (λ n. n < nets) e below
device_net_below nets (Load at) net below (inr none) = absurd none
device_net_below nets (Pass gate a b) net below (inl e) = subst (λ n. n < nets) e below.0
device_net_below nets (Pass gate a b) net below (inr (inl e)) = subst (λ n. n < nets) e below.1
device_net_below nets (Pass gate a b) net below (inr (inr (inl e))) = subst (λ n. n < nets) e below.2
device_net_below nets (Pass gate a b) net below (inr (inr (inr none))) = absurd none

pub touched_below : (circuit : Circuit) → IsNetwork circuit → (net : ℕ) → In net (touched circuit) → net < circuit.nets
touched_below circuit valid net at =
    elim (in_either net (map (λ pad. pad.net.0) circuit.pads) (flat_map device_nets circuit.devices) at) [
      | inl among ↦
          let pad = map_in (λ pad. pad.net.0) net circuit.pads among in
          subst (λ n. n < circuit.nets) pad.2
          (all_in (λ pad. pad.net.0 < circuit.nets) circuit.pads pad.0
          (recursion_from_All (λ pad. pad.net.0 < circuit.nets) circuit.pads valid.pads_below) pad.1)
      | inr among ↦
          let device = flat_in device_nets net circuit.devices among in
          device_net_below circuit.nets device.0 net
          (all_in (NamesBelow circuit.nets) circuit.devices device.0
          (recursion_from_All (NamesBelow circuit.nets) circuit.devices valid.devices_below) device.1) device.2
    ]

pub device_touched : (circuit : Circuit) (device : Device) (net : ℕ) → In device circuit.devices → In net (device_nets device) → In net (touched circuit)
device_touched circuit device net at named = in_right net (map (λ pad. pad.net.0) circuit.pads) _ (in_flat device_nets device net circuit.devices at named)

fixed_pad : (pads : List Pad) (drives : List Bool) (net : ℕ) (level : Bool) → fixed_level pads drives net ≡ Some level → In net (map (λ pad. pad.net.0) pads)
fixed_pad [] drives net level e = absurd (cc)
fixed_pad (pad ∷ pads) [] net level e = absurd (cc)
fixed_pad (pad ∷ pads) (drive ∷ drives) net level e =
    elim (cases_Bool (pad.net.0 == net)) [
      | inl same ↦ inl (eqb-true _ _ same)
      | inr other ↦ inr (fixed_pad pads drives net level (rw other at e))
    ]

pub fixed_touched : (circuit : Circuit) (drives : List Bool) (net : ℕ) (level : Bool) → fixed_level circuit.pads drives net ≡ Some level → In net (touched circuit)
fixed_touched circuit drives net level e = in_left net (map (λ pad. pad.net.0) circuit.pads) _ (fixed_pad circuit.pads drives net level e)

-- ---- pads

fixed_renamed : (rename : ℕ → ℕ) (pads : List Pad) (drives : List Bool) (net : ℕ) → ((pad : Pad) → In pad pads → rename pad.net.0 ≡ rename net → pad.net.0 ≡ net)
    → fixed_level (map (renamed_pad rename) pads) drives (rename net) ≡ fixed_level pads drives net
fixed_renamed rename [] drives net apart = refl
fixed_renamed rename (pad ∷ pads) [] net apart = refl
fixed_renamed rename (pad ∷ pads) (drive ∷ drives) net apart =
    elim (cases_Bool (pad.net.0 == net)) [
      | inl same ↦
          let there : (rename pad.net.0 == rename net) ≡ true = eq-eqb _ _ (ap rename (eqb-true _ _ same)) in
          rw (same, there) refl
      | inr other ↦
          let there : (rename pad.net.0 == rename net) ≡ false = ne_eqb _ _ (λ e. eqb-false _ _ other (apart pad (inl refl) e)) in
          rw (other, there) (fixed_renamed rename pads drives net (λ p at. apart p (inr at)))
    ]

drives_renamed : (rename : ℕ → ℕ) (drive : Drive) (bits : List Bool) (pads : List Pad) → drives_from drive bits (map (renamed_pad rename) pads) ≡ drives_from drive bits pads
drives_renamed rename drive bits [] = refl
drives_renamed rename drive bits (pad ∷ pads) =
    ap (λ more. pad_drive drive bits pad.name.role ∷ more) (drives_renamed rename drive (bits_behind bits pad.name.role) pads)

-- ---- devices

-- the device, whose gate is high, joins these nets
abbrev Links : Device → Values → ℕ → ℕ → Type 0
Links (Load net) v a b = ⊥
Links (Pass gate x y) v a b = (v gate.0 ≡ true) × (((x.0 ≡ a) × (y.0 ≡ b)) ⊎ ((y.0 ≡ a) × (x.0 ≡ b)))

-- the device is a load of the net
abbrev IsLoadOf : Device → ℕ → Type 0
IsLoadOf (Load at) net = at.0 ≡ net
IsLoadOf (Pass gate x y) net = ⊥

joins_links : (devices : List Device) (v : Values) (a b : ℕ) → Joins devices v a b → (device : Device) × In device devices × Links device v a b
joins_links [] v a b h = absurd h
joins_links (Load net ∷ devices) v a b h = let k = joins_links devices v a b h in (k.0, inr k.1, k.2)
joins_links (Pass gate x y ∷ devices) v a b (inl h) = (Pass gate x y, inl refl, h)
joins_links (Pass gate x y ∷ devices) v a b (inr h) = let k = joins_links devices v a b h in (k.0, inr k.1, k.2)

links_join : (devices : List Device) (v : Values) (a b : ℕ) (device : Device) → In device devices → Links device v a b → Joins devices v a b
links_join [] v a b device at h = absurd at
links_join (Load net ∷ devices) v a b device (inl e) h = absurd (subst (λ d. Links d v a b) (sym e) h)
links_join (Load net ∷ devices) v a b device (inr at) h = links_join devices v a b device at h
links_join (Pass gate x y ∷ devices) v a b device (inl e) h = inl (subst (λ d. Links d v a b) (sym e) h)
links_join (Pass gate x y ∷ devices) v a b device (inr at) h = inr (links_join devices v a b device at h)

load_links : (devices : List Device) (net : ℕ) → HasLoad devices net → (device : Device) × In device devices × IsLoadOf device net
load_links [] net h = absurd h
load_links (Pass gate x y ∷ devices) net h = let k = load_links devices net h in (k.0, inr k.1, k.2)
load_links (Load at ∷ devices) net (inl e) = (Load at, inl refl, e)
load_links (Load at ∷ devices) net (inr h) = let k = load_links devices net h in (k.0, inr k.1, k.2)

links_load : (devices : List Device) (net : ℕ) (device : Device) → In device devices → IsLoadOf device net → HasLoad devices net
links_load [] net device at h = absurd at
links_load (Pass gate x y ∷ devices) net device (inl e) h = absurd (subst (λ d. IsLoadOf d net) (sym e) h)
links_load (Pass gate x y ∷ devices) net device (inr at) h = links_load devices net device at h
links_load (Load net' ∷ devices) net device (inl e) h = inl (subst (λ d. IsLoadOf d net) (sym e) h)
links_load (Load net' ∷ devices) net device (inr at) h = inr (links_load devices net device at h)

other_end : {A B : Type 0} → A ⊎ B → B ⊎ A
other_end (inl a) = inr a
other_end (inr b) = inl b

links_ascending : (device : Device) (v : Values) (a b : ℕ) → Links device v a b ↔ Links (ascending device) v a b
links_ascending (Load net) v a b = (λ h. h, λ h. h)
links_ascending (Pass gate x y) v a b =
    elim (cases_Bool (nat_le x.0 y.0)) [
      | inl up ↦ rw up (λ h. h, λ h. h)
      | inr down ↦ rw down (λ h. (h.0, other_end h.1), λ h. (h.0, other_end h.1))
    ]

load_ascending : (device : Device) (net : ℕ) → IsLoadOf device net ↔ IsLoadOf (ascending device) net
load_ascending (Load at) net = (λ h. h, λ h. h)
load_ascending (Pass gate x y) net =
    elim (cases_Bool (nat_le x.0 y.0)) [
      | inl up ↦ rw up (λ h. h, λ h. h)
      | inr down ↦ rw down (λ h. h, λ h. h)
    ]

links_named : (device : Device) (v : Values) (a b : ℕ) → Links device v a b → In a (device_nets device) × In b (device_nets device)
links_named (Load net) v a b h = absurd h
links_named (Pass gate x y) v a b (on, inl h) = (inr (inl h.0), inr (inr (inl h.1)))
links_named (Pass gate x y) v a b (on, inr h) = (inr (inr (inl h.0)), inr (inl h.1))

load_named : (device : Device) (net : ℕ) → IsLoadOf device net → In net (device_nets device)
load_named (Load at) net h = inl h
load_named (Pass gate x y) net h = absurd h

module _ (rename : ℕ → ℕ) (v w : Values) where
  abbrev Agree : Device → Type 0
  Agree device = (net : ℕ) → In net (device_nets device) → w (rename net) ≡ v net

  links_renamed : (device : Device) (a b : ℕ) → Agree device → Links device v a b → Links (renamed_device rename device) w (rename a) (rename b)
  links_renamed (Load net) a b agree h = absurd h
  links_renamed (Pass gate x y) a b agree (on, inl h) = (agree gate.0 (inl refl) ∙ on, inl (ap rename h.0, ap rename h.1))
  links_renamed (Pass gate x y) a b agree (on, inr h) = (agree gate.0 (inl refl) ∙ on, inr (ap rename h.0, ap rename h.1))

  -- nets of the device that are renamed to these, and that it joins
  abbrev LinksFrom : Device → ℕ → ℕ → Type 0
  LinksFrom device c d = (a : ℕ) × (b : ℕ) × Links device v a b × (rename a ≡ c) × (rename b ≡ d)

  links_unrenamed : (device : Device) (c d : ℕ) → Agree device → Links (renamed_device rename device) w c d → LinksFrom device c d
  links_unrenamed (Load net) c d agree h = absurd h
  links_unrenamed (Pass gate x y) c d agree (on, inl h) =
      (x.0, y.0, (sym (agree gate.0 (inl refl)) ∙ on, inl (refl, refl)), h.0, h.1)
  links_unrenamed (Pass gate x y) c d agree (on, inr h) =
      (y.0, x.0, (sym (agree gate.0 (inl refl)) ∙ on, inr (refl, refl)), h.0, h.1)

load_renamed : (rename : ℕ → ℕ) (device : Device) (net : ℕ) → IsLoadOf device net → IsLoadOf (renamed_device rename device) (rename net)
load_renamed rename (Load at) net h = ap rename h
load_renamed rename (Pass gate x y) net h = absurd h

load_unrenamed : (rename : ℕ → ℕ) (device : Device) (net : ℕ) → IsLoadOf (renamed_device rename device) net → (from : ℕ) × IsLoadOf device from × (rename from ≡ net)
load_unrenamed rename (Load at) net h = (at.0, refl, h)
load_unrenamed rename (Pass gate x y) net h = absurd h

pub joins_touched : (circuit : Circuit) (v : Values) (a b : ℕ) → Joins circuit.devices v a b → In a (touched circuit)
joins_touched circuit v a b h =
    let link = joins_links circuit.devices v a b h in
    device_touched circuit link.0 a link.1 (links_named link.0 v a b link.2).0

pub load_touched : (circuit : Circuit) (net : ℕ) → HasLoad circuit.devices net → In net (touched circuit)
load_touched circuit net h =
    let link = load_links circuit.devices net h in
    device_touched circuit link.0 net link.1 (load_named link.0 net link.2)

-- ---- same networks

module _ (one other : Circuit) (valid : IsNetwork one) (valid_other : IsNetwork other) (s : IsSameNetwork one other) where
  abbrev pub Touched : ℕ → Type 0
  Touched net = In net (touched one)

  pub apart : (a b : ℕ) → Touched a → Touched b → s.rename a ≡ s.rename b → a ≡ b
  apart a b at at' e = s.apart a b (in_contains a (touched one) at) (in_contains b (touched one) at') e

  pub same_fixed : (drives : List Bool) (net : ℕ) → Touched net → fixed_level other.pads drives (s.rename net) ≡ fixed_level one.pads drives net
  same_fixed drives net at =
      subst (λ pads. fixed_level pads drives (s.rename net) ≡ fixed_level one.pads drives net) s.pads
      (fixed_renamed s.rename one.pads drives net (λ pad among e.
      apart pad.net.0 net (in_left pad.net.0 (map (λ p. p.net.0) one.pads) _ (in_map (λ p. p.net.0) pad one.pads among)) at e))

  pub same_drives : (drive : Drive) → drives_of drive other.pads ≡ drives_of drive one.pads
  same_drives drive =
      subst (λ pads. drives_of drive pads ≡ drives_of drive one.pads) s.pads (drives_renamed s.rename drive drive.lines one.pads)

  module _ (v w : Values) (agree : (net : ℕ) → Touched net → w (s.rename net) ≡ v net) where
    pub joins_there : (a b : ℕ) → Joins one.devices v a b → Touched a × Touched b × Joins other.devices w (s.rename a) (s.rename b)
    joins_there a b h =
        let link = joins_links one.devices v a b h in
        let named = links_named link.0 v a b link.2 in
        let there = device_carried one other s link.0 link.1 in
        let renamed = links_renamed s.rename v w link.0 a b (λ net k. agree net (device_touched one link.0 net link.1 k)) link.2 in (
          device_touched one link.0 a link.1 named.0,
          device_touched one link.0 b link.1 named.1,
          links_join other.devices w (s.rename a) (s.rename b) there.0 there.1
              ((links_ascending there.0 w (s.rename a) (s.rename b)).1
              (subst (λ d. Links d w (s.rename a) (s.rename b)) (sym there.2)
              ((links_ascending (renamed_device s.rename link.0) w (s.rename a) (s.rename b)).0 renamed))),
        )

    pub joins_here : (a y : ℕ) → Touched a → Joins other.devices w (s.rename a) y
        → (b : ℕ) × Touched b × (s.rename b ≡ y) × Joins one.devices v a b
    joins_here a y at h =
        let link = joins_links other.devices w (s.rename a) y h in
        let from = device_brought one other s link.0 link.1 in
        let renamed : Links (renamed_device s.rename from.0) w (s.rename a) y =
        (links_ascending (renamed_device s.rename from.0) w (s.rename a) y).1
        (subst (λ d. Links d w (s.rename a) y) (sym from.2) ((links_ascending link.0 w (s.rename a) y).0 link.2)) in
        let back = links_unrenamed s.rename v w from.0 (s.rename a) y (λ net k. agree net (device_touched one from.0 net from.1 k)) renamed in
        let named = links_named from.0 v back.0 back.1 back.2 in
        let same : back.0 ≡ a = apart back.0 a (device_touched one from.0 back.0 from.1 named.0) at back.3 in (
          back.1,
          device_touched one from.0 back.1 from.1 named.1,
          back.4,
          subst (λ n. Joins one.devices v n back.1) same (links_join one.devices v back.0 back.1 from.0 from.1 back.2),
        )

  pub load_there : (net : ℕ) → HasLoad one.devices net → Touched net × HasLoad other.devices (s.rename net)
  load_there net h =
      let link = load_links one.devices net h in
      let there = device_carried one other s link.0 link.1 in (
        device_touched one link.0 net link.1 (load_named link.0 net link.2),
        links_load other.devices (s.rename net) there.0 there.1
            ((load_ascending there.0 (s.rename net)).1
            (subst (λ d. IsLoadOf d (s.rename net)) (sym there.2)
            ((load_ascending (renamed_device s.rename link.0) (s.rename net)).0 (load_renamed s.rename link.0 net link.2)))),
      )

  pub load_here : (net : ℕ) → Touched net → HasLoad other.devices (s.rename net) → HasLoad one.devices net
  load_here net at h =
      let link = load_links other.devices (s.rename net) h in
      let from = device_brought one other s link.0 link.1 in
      let renamed : IsLoadOf (renamed_device s.rename from.0) (s.rename net) =
      (load_ascending (renamed_device s.rename from.0) (s.rename net)).1
      (subst (λ d. IsLoadOf d (s.rename net)) (sym from.2) ((load_ascending link.0 (s.rename net)).0 link.2)) in
      let back = load_unrenamed s.rename from.0 (s.rename net) renamed in
      let same : back.0 ≡ net = apart back.0 net (device_touched one from.0 back.0 from.1 (load_named from.0 back.0 back.1)) at back.2 in
      subst (HasLoad one.devices) same (links_load one.devices back.0 from.0 from.1 back.1)

  module _ (drives : List Bool) where
    pub free_there : (net : ℕ) → Touched net → IsFree one drives net → IsFree other drives (s.rename net)
    free_there net at free = (touched_below other valid_other (s.rename net) (carried one other s net at), same_fixed drives net at ∙ free.1)

    pub free_here : (net : ℕ) → Touched net → IsFree other drives (s.rename net) → IsFree one drives net
    free_here net at free = (touched_below one valid net at, sym (same_fixed drives net at) ∙ free.1)

    module _ (v w : Values) (agree : (net : ℕ) → Touched net → w (s.rename net) ≡ v net) where
      pub grouped_there : (a c : ℕ) → Touched a → Grouped one drives v a c → Touched c × Grouped other drives w (s.rename a) (s.rename c)
      grouped_there _ _ at (here a) = (at, here (s.rename a))
      grouped_there _ _ at (step a b c j f r) =
          let join = joins_there v w agree a b j in
          let rest = grouped_there b c join.1 r in
          (rest.0, step (s.rename a) (s.rename b) (s.rename c) join.2 (free_there b join.1 f) rest.1)

      -- a net of the first that is renamed to this one, in the group
      abbrev GroupedHere : ℕ → ℕ → Type 0
      GroupedHere a y = (c : ℕ) × Touched c × (s.rename c ≡ y) × Grouped one drives v a c

      pub grouped_here : (x y : ℕ) → Grouped other drives w x y → (a : ℕ) → s.rename a ≡ x → Touched a → GroupedHere a y
      grouped_here _ _ (here x) a e at = (a, at, e, here a)
      grouped_here _ _ (step x m y j f r) a e at =
          let join = joins_here v w agree a m at (subst (λ n. Joins other.devices w n m) (sym e) j) in
          let rest = grouped_here m y r join.0 join.2 join.1 in
          let free = free_here join.0 join.1 (subst (IsFree other drives) (sym join.2) f) in
          (rest.0, rest.1, rest.2, step a join.0 rest.0 join.3 free rest.3)

      pub source_there : (level : Bool) (net : ℕ) → Touched net → Source one drives v level net → Source other drives w level (s.rename net)
      source_there level net at h =
          let grouped = grouped_there net h.from at h.grouped in
          let join = joins_there v w agree h.from h.to h.joined in
          record {
            from = s.rename h.from;
            to = s.rename h.to;
            grouped = grouped.1;
            joined = join.2;
            fixed = same_fixed drives h.to join.1 ∙ h.fixed;
          }

      pub source_here : (level : Bool) (net : ℕ) → Touched net → Source other drives w level (s.rename net) → Source one drives v level net
      source_here level net at h =
          let grouped = grouped_here (s.rename net) h.from h.grouped net refl at in
          let join = joins_here v w agree grouped.0 h.to grouped.1 (subst (λ n. Joins other.devices w n h.to) (sym grouped.2) h.joined) in
          record {
            from = grouped.0;
            to = join.0;
            grouped = grouped.3;
            joined = join.3;
            fixed = sym (same_fixed drives join.0 join.1) ∙ ap (fixed_level other.pads drives) join.2 ∙ h.fixed;
          }

      pub high_there : (net : ℕ) → Touched net → IsPulledHigh one drives v net → IsPulledHigh other drives w (s.rename net)
      high_there net at (inl h) = inl (source_there true net at h)
      high_there net at (inr h) =
          let grouped = grouped_there net h.at at h.grouped in
          inr (record { at = s.rename h.at; grouped = grouped.1; load = (load_there h.at h.load).1 })

      pub high_here : (net : ℕ) → Touched net → IsPulledHigh other drives w (s.rename net) → IsPulledHigh one drives v net
      high_here net at (inl h) = inl (source_here true net at h)
      high_here net at (inr h) =
          let grouped = grouped_here (s.rename net) h.at h.grouped net refl at in
          inr (record {
            at = grouped.0;
            grouped = grouped.3;
            load = load_here grouped.0 grouped.1 (subst (HasLoad other.devices) (sym grouped.2) h.load);
          })

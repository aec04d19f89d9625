-- The network in which the named nets have their numbers: it is the same network, and settles alike.
use Rattle.std.proofs.Common.{◌≡◌, ◌⊎◌, inl, inr, ℕ, zero, suc, ◌+◌, ◌<◌, ◌≤◌, Bool, true, false, List, [], ◌∷◌, ◌++◌, map, flat_map, Option, Some, None, length, get_or, Contains, IsPermutation, refl, sym, ap, ◌∙◌, subst, arith}
use Rattle.std.specs.Prelude.{replicate}
use Rattle.std.specs.List.{AllPairs}
use Rattle.std.proofs.lemmas.Bool.{ne_eqb}
use Rattle.std.proofs.lemmas.List.{get_or-map, length-map}
use Rattle.std.proofs.lemmas.List.Elements.{All-map}
use Rattle.std.proofs.lemmas.List.Sorted.{IsPermutation-refl}
use Rattle.std.proofs.lemmas.Simd.{map-map}
use Rattle.rx_text.specs.declared.pad_name.Role.{Role}
use Rattle.switch_net.specs.Circuit.{Circuit, touched, device_nets, renamed_pad, renamed_device, ascending, IsSameNetwork}
use Rattle.switch_net.specs.ClockedLogic.{NamesBelow}
use Rattle.switch_net.specs.LeastLevels.{SettledLevelsAlike}
use Rattle.switch_net.specs.SameNetworks.{renamed}
use Rattle.switch_net.specs.SameRuns.{SameSettleAlike}
use Rattle.switch_net.specs.Settling.{Values, fixed_level, Joins, HasLoad, IsFree, Grouped, Source, IsPulledHigh}
use Rattle.switch_net.specs.Settling.Grouped.{here, step}
use Rattle.switch_net.specs.Ternary.{Levels, level_of, sure, SettledLevels}
use Rattle.switch_net.specs.Validity.{AreDistinct, IsNetwork, HasRole}
use Rattle.switch_net.specs.declared.network.Device.{Device}
use Rattle.switch_net.specs.declared.network.Device.TheVariants.{Pass, Load}
use Rattle.switch_net.specs.declared.network.Level.{Level}
use Rattle.switch_net.specs.declared.network.Level.TheVariants.{Unknown}
use Rattle.switch_net.specs.declared.network.Net.{Net}
use Rattle.switch_net.specs.declared.network.Pad.{Pad}
use Rattle.switch_sim.specs.Naming.{place, place_or_zero, number, AreNames, level_by, levels_from}
use Rattle.switch_sim.specs.Simulation.{level_at}
use Rattle.switch_sim.specs.Waiting.{Waits}
use Rattle.switch_sim.proofs.Grouping.{waits_number, number_waits, waits_front}
use Rattle.switch_sim.proofs.Naming.{contains_at, at_contains, place_is, no_place, rising_least}
use Rattle.switch_sim.proofs.RightlyTold.{waits_or_not}

-- ---- touched nets

waits_back : (xs ys : List ℕ) (m : ℕ) → Waits ys m → Waits (xs ++ ys) m
waits_back [] ys m w = w
waits_back (x ∷ xs) ys m w = inr (waits_back xs ys m w)

pub contains_waits : (xs : List ℕ) (net : ℕ) → Contains xs net → Waits xs net
contains_waits xs net h = let k = contains_at xs net h in subst (Waits xs) k.2 (number_waits xs k.0 k.1)

pub waits_contains : (xs : List ℕ) (net : ℕ) → Waits xs net → Contains xs net
waits_contains xs net w = let k = waits_number xs net w in at_contains xs net k.0 k.1 k.2

pad_waits : (pads : List Pad) (k : ℕ) (d : Pad) → k < length pads → Waits (map (λ pad. pad.net.0) pads) (get_or pads k d).net.0
pad_waits [] k d lt = absurd (omega arith)
pad_waits (pad ∷ pads) zero d lt = inl refl
pad_waits (pad ∷ pads) (suc k) d lt = inr (pad_waits pads k d (omega arith))

device_waits : (devices : List Device) (k : ℕ) (d : Device) → k < length devices → (net : ℕ) → Waits (device_nets (get_or devices k d)) net
    → Waits (flat_map device_nets devices) net
device_waits [] k d lt net w = absurd (omega arith)
device_waits (device ∷ devices) zero d lt net w = waits_front (device_nets device) (flat_map device_nets devices) net w
device_waits (device ∷ devices) (suc k) d lt net w =
    waits_back (device_nets device) (flat_map device_nets devices) net (device_waits devices k d (omega arith) net w)

joins_waits : (devices : List Device) (v : Values) (a b : ℕ) → Joins devices v a b → Waits (flat_map device_nets devices) a
joins_waits [] v a b h = absurd h
joins_waits (Load at ∷ devices) v a b h = inr (joins_waits devices v a b h)
joins_waits (Pass gate x y ∷ devices) v a b (inl h) = elim h.1 [ inl e ↦ inr (inl e.0) | inr e ↦ inr (inr (inl e.0)) ]
joins_waits (Pass gate x y ∷ devices) v a b (inr h) = inr (inr (inr (joins_waits devices v a b h)))

load_waits : (devices : List Device) (a : ℕ) → HasLoad devices a → Waits (flat_map device_nets devices) a
load_waits [] a h = absurd h
load_waits (Load at ∷ devices) a (inl e) = inl e
load_waits (Load at ∷ devices) a (inr h) = inr (load_waits devices a h)
load_waits (Pass gate x y ∷ devices) a h = inr (inr (inr (load_waits devices a h)))

unfixed : (pads : List Pad) (drives : List Bool) (net : ℕ) → (Waits (map (λ pad. pad.net.0) pads) net → ⊥) → fixed_level pads drives net ≡ None
unfixed [] drives net none = refl
unfixed (pad ∷ pads) [] net none = refl
unfixed (pad ∷ pads) (drive ∷ drives) net none =
    rw (ne_eqb pad.net.0 net (λ e. none (inl e))) (unfixed pads drives net (λ w. none (inr w)))

waits_either : (xs ys : List ℕ) (m : ℕ) → Waits (xs ++ ys) m → Waits xs m ⊎ Waits ys m
waits_either [] ys m w = inr w
waits_either (x ∷ xs) ys m (inl e) = inl (inl e)
waits_either (x ∷ xs) ys m (inr w) = elim (waits_either xs ys m w) [ inl v ↦ inl (inr v) | inr v ↦ inr v ]

pads_below : (n : ℕ) (pads : List Pad) → ((k : ℕ) (d : Pad) → k < length pads → (get_or pads k d).net.0 < n) → (net : ℕ)
    → Waits (map (λ pad. pad.net.0) pads) net → net < n
pads_below n [] below net w = absurd w
pads_below n (pad ∷ pads) below net (inl e) = subst (λ m. m < n) e (below 0 pad (omega arith))
pads_below n (pad ∷ pads) below net (inr w) = pads_below n pads (λ k d lt. below (suc k) d (omega arith)) net w

device_below : (n : ℕ) (device : Device) → NamesBelow n device → (net : ℕ) → Waits (device_nets device) net → net < n
device_below n (Load at) below net (inl e) = subst (λ m. m < n) e below
device_below n (Load at) below net (inr w) = absurd w
device_below n (Pass gate a b) below net (inl e) = subst (λ m. m < n) e below.0
device_below n (Pass gate a b) below net (inr (inl e)) = subst (λ m. m < n) e below.1
device_below n (Pass gate a b) below net (inr (inr (inl e))) = subst (λ m. m < n) e below.2
device_below n (Pass gate a b) below net (inr (inr (inr w))) = absurd w

devices_below : (n : ℕ) (devices : List Device) → ((k : ℕ) (d : Device) → k < length devices → NamesBelow n (get_or devices k d)) → (net : ℕ)
    → Waits (flat_map device_nets devices) net → net < n
devices_below n [] below net w = absurd w
devices_below n (device ∷ devices) below net w =
    elim (waits_either (device_nets device) (flat_map device_nets devices) net w) [
      | inl v ↦ device_below n device (below 0 device (omega arith)) net v
      | inr v ↦ devices_below n devices (λ k d lt. below (suc k) d (omega arith)) net v
    ]

touched_below : (circuit : Circuit) → IsNetwork circuit → (net : ℕ) → Waits (touched circuit) net → net < circuit.nets
touched_below circuit valid net w =
    elim (waits_either (map (λ pad. pad.net.0) circuit.pads) (flat_map device_nets circuit.devices) net w) [
      | inl v ↦ pads_below circuit.nets circuit.pads valid.pads_below net v
      | inr v ↦ devices_below circuit.nets circuit.devices valid.devices_below net v
    ]

-- ---- the levels of all nets

pub at_levels : (names : List ℕ) (levels : List Level) (from count k net : ℕ) → k < count → net ≡ from + k
    → level_at (levels_from names levels from count) k ≡ level_by levels (place names net)
at_levels names levels from zero k net lt e = absurd (omega arith)
at_levels names levels from (suc count) zero net lt e =
    let is : from ≡ net = omega (arith, e) in
    ap (λ n. level_by levels (place names n)) is
at_levels names levels from (suc count) (suc k) net lt e = at_levels names levels (suc from) count k net (omega arith) (omega (arith, e))

unknown_level : (levels : List Level) → ((k : ℕ) → level_at levels k ≡ Unknown) → (at : Option ℕ) → level_by levels at ≡ Unknown
unknown_level levels unknown None = refl
unknown_level levels unknown (Some at) = unknown at

pub all_unknown : (names : List ℕ) (levels : List Level) → ((k : ℕ) → level_at levels k ≡ Unknown) → (from count : ℕ)
    → levels_from names levels from count ≡ replicate count Unknown
all_unknown names levels unknown from zero = refl
all_unknown names levels unknown from (suc count) =
    rw (unknown_level levels unknown (place names from), all_unknown names levels unknown (suc from) count) refl

pub level_replicate : (count k : ℕ) → level_at (replicate count Unknown) k ≡ Unknown
level_replicate zero k = refl
level_replicate (suc count) zero = refl
level_replicate (suc count) (suc k) = level_replicate count k

-- ---- numbers

module _ (circuit : Circuit) (names : List ℕ) (are : AreNames circuit names) where
  abbrev Touched : ℕ → Type 0
  Touched = Waits (touched circuit)

  pub numbered_at : (net : ℕ) → Touched net → (place names net ≡ Some (number names net)) × (number names net < length names)
      × (get_or names (number names net) 0 ≡ net)
  numbered_at net w =
      let k = contains_at names net (are.all net (waits_contains (touched circuit) net w)) in
      let is = place_is names are.rising net k.0 k.1 k.2 in
      let number_is : k.0 ≡ number names net = sym (ap place_or_zero is) in
      subst (λ n. (place names net ≡ Some n) × (n < length names) × (get_or names n 0 ≡ net)) number_is (is, k.1, k.2)

  pub number_apart : (a b : ℕ) → Touched a → Touched b → number names a ≡ number names b → a ≡ b
  number_apart a b at_a at_b e = sym (numbered_at a at_a).2 ∙ ap (λ n. get_or names n 0) e ∙ (numbered_at b at_b).2

  pad_touched : (k : ℕ) (d : Pad) → k < length circuit.pads → Touched (get_or circuit.pads k d).net.0
  pad_touched k d lt = waits_front (map (λ pad. pad.net.0) circuit.pads) (flat_map device_nets circuit.devices) _ (pad_waits circuit.pads k d lt)

  device_touched : (k : ℕ) (d : Device) → k < length circuit.devices → (net : ℕ) → Waits (device_nets (get_or circuit.devices k d)) net → Touched net
  device_touched k d lt net w =
      waits_back (map (λ pad. pad.net.0) circuit.pads) (flat_map device_nets circuit.devices) net (device_waits circuit.devices k d lt net w)

  below_numbers : (device : Device) → ((net : ℕ) → Waits (device_nets device) net → Touched net)
      → NamesBelow (length names) (renamed_device (number names) device)
  below_numbers (Load at) all = (numbered_at at.0 (all at.0 (inl refl))).1
  below_numbers (Pass gate a b) all = (
    (numbered_at gate.0 (all gate.0 (inl refl))).1,
    (numbered_at a.0 (all a.0 (inr (inl refl)))).1,
    (numbered_at b.0 (all b.0 (inr (inr (inl refl))))).1,
  )

  has_role : (role : Role) → HasRole circuit.pads role → HasRole (map (renamed_pad (number names)) circuit.pads) role
  has_role role h = (
    h.0,
    renamed_pad (number names) h.1,
    (let size = length-map circuit.pads (renamed_pad (number names)) in let lt = h.2 in omega (arith, size, lt)),
    get_or-map (renamed_pad (number names)) circuit.pads h.0 h.1 (renamed_pad (number names) h.1) h.2 ∙ ap (renamed_pad (number names)) h.3,
    h.4,
  )

  still_distinct : IsNetwork circuit → AllPairs AreDistinct (map (renamed_pad (number names)) circuit.pads)
  still_distinct valid i j d less lt =
      let size = length-map circuit.pads (renamed_pad (number names)) in
      let lt_j : j < length circuit.pads = omega (arith, size, lt) in
      let lt_i : i < length circuit.pads = omega (arith, less, lt_j) in
      let apart = valid.distinct i j d less lt_j in
      subst (λ p. AreDistinct p (get_or (map (renamed_pad (number names)) circuit.pads) j d)) (sym (get_or-map (renamed_pad (number names)) circuit.pads i d d lt_i))
      (subst (λ q. AreDistinct (renamed_pad (number names) (get_or circuit.pads i d)) q) (sym (get_or-map (renamed_pad (number names)) circuit.pads j d d lt_j))
      (apart.0, λ e. apart.1 (same_net _ _ (number_apart _ _ (pad_touched i d lt_i) (pad_touched j d lt_j) (ap (λ (n : Net). n.0) e)))))
    where
      same_net : (a b : Net) → a.0 ≡ b.0 → a ≡ b
      same_net a b e = ap (λ (n : ℕ). record { 0 = n }) e

  pub is_network : IsNetwork circuit → IsNetwork (renamed (number names) (length names) circuit)
  is_network valid = record {
    pads_below = All-map (λ pad. pad.net.0 < length names) (renamed_pad (number names)) circuit.pads
        (λ k d lt. (numbered_at (get_or circuit.pads k d).net.0 (pad_touched k d lt)).1);
    devices_below = All-map (NamesBelow (length names)) (renamed_device (number names)) circuit.devices
        (λ k d lt. below_numbers (get_or circuit.devices k d) (device_touched k d lt));
    distinct = still_distinct valid;
    vdd = has_role _ valid.vdd;
    gnd = has_role _ valid.gnd;
    phi1 = has_role _ valid.phi1;
    phi2 = has_role _ valid.phi2;
    reset = has_role _ valid.reset;
  }

  pub is_same : IsSameNetwork circuit (renamed (number names) (length names) circuit)
  is_same = record {
    rename = number names;
    apart = λ a b at_a at_b e. number_apart a b (contains_waits (touched circuit) a at_a) (contains_waits (touched circuit) b at_b) e;
    pads = refl;
    devices = subst (IsPermutation (map (λ device. ascending (renamed_device (number names) device)) circuit.devices))
        (sym (map-map ascending (renamed_device (number names)) circuit.devices)) (IsPermutation-refl _);
  }

  -- there are no more names than nets
  pub few_names : IsNetwork circuit → length names ≤ circuit.nets
  few_names valid = by (length names) refl
    where
      by : (n : ℕ) → length names ≡ n → n ≤ circuit.nets
      by zero e = omega arith
      by (suc n) e =
          let lt : n < length names = omega (arith, e) in
          let least = rising_least names are.rising n lt in
          let most : get_or names n 0 < circuit.nets = touched_below circuit valid (get_or names n 0) (contains_waits (touched circuit) (get_or names n 0) (are.only (get_or names n 0)
          (at_contains names (get_or names n 0) n lt refl))) in
          omega (arith, least, most)

  -- ---- the levels of all nets

  abbrev Whole : List Level → List Level
  Whole levels = levels_from names levels 0 circuit.nets

  pub level_named : (levels : List Level) (net : ℕ) → net < circuit.nets → level_at (Whole levels) net ≡ level_by levels (place names net)
  level_named levels net lt = at_levels names levels 0 circuit.nets net net lt (omega arith)

  level_numbered : IsNetwork circuit → (levels : List Level) (net : ℕ) → Touched net → level_at (Whole levels) net ≡ level_at levels (number names net)
  level_numbered valid levels net w = level_named levels net (touched_below circuit valid net w) ∙ ap (level_by levels) (numbered_at net w).0

  unnumbered : (net : ℕ) → ¬ Touched net → place names net ≡ None
  unnumbered net none =
      no_place names net (λ i lt e. none (contains_waits (touched circuit) net (are.only net (at_contains names net i lt e))))

  -- ---- a net that nothing names keeps its charge
  module _ (drives : List Bool) (net : ℕ) (none : ¬ Touched net) where
    not_joined : (v : Values) (b : ℕ) → Joins circuit.devices v net b → ⊥
    not_joined v b j =
        none (waits_back (map (λ pad. pad.net.0) circuit.pads) (flat_map device_nets circuit.devices) net (joins_waits circuit.devices v net b j))

    not_loaded : HasLoad circuit.devices net → ⊥
    not_loaded h =
        none (waits_back (map (λ pad. pad.net.0) circuit.pads) (flat_map device_nets circuit.devices) net (load_waits circuit.devices net h))

    alone : (v : Values) (a m : ℕ) → a ≡ net → Grouped circuit drives v a m → m ≡ net
    alone v _ _ e (here a) = e
    alone v _ _ e (step a b m j f r) = absurd (not_joined v b (subst (λ k. Joins circuit.devices v k b) e j))

    no_source : (v : Values) (level : Bool) → Source circuit drives v level net → ⊥
    no_source v level s =
        let e = alone v net s.from refl s.grouped in
        not_joined v s.to (subst (λ k. Joins circuit.devices v k s.to) e s.joined)

    not_high : (v : Values) → IsPulledHigh circuit drives v net → ⊥
    not_high v (inl s) = no_source v true s
    not_high v (inr l) = not_loaded (subst (HasLoad circuit.devices) (alone v net l.at refl l.grouped) l.load)

    free : net < circuit.nets → IsFree circuit drives net
    free lt = (
      lt,
      unfixed circuit.pads drives net
          (λ w. none (waits_front (map (λ pad. pad.net.0) circuit.pads) (flat_map device_nets circuit.devices) net w)),
    )

    stays_unknown : (q v : Levels) → net < circuit.nets → q net ≡ Unknown → SettledLevels circuit drives q v → v net ≡ Unknown
    stays_unknown q v lt unknown settled =
        (settled.2.free net (free lt)).unknown (no_source (sure settled.0) false) (λ r. not_high (sure settled.0) r.high)
        (λ level k. known level (sym unknown ∙ k.charge net (here net)))
      where
        known : (level : Bool) → Unknown ≡ level_of level → ⊥
        known true e = cc
        known false e = cc

  -- ---- what the numbered network settles to

  module _ (same : SameSettleAlike) (alike : SettledLevelsAlike) (valid : IsNetwork circuit) where
    pub settled_by_numbers : (drives : List Bool) (old new : List Level)
        → SettledLevels (renamed (number names) (length names) circuit) drives (level_at old) (level_at new)
        → SettledLevels circuit drives (level_at (Whole old)) (level_at (Whole new))
    unfolding is_same
    settled_by_numbers drives old new settled =
        let both = (same circuit (renamed (number names) (length names) circuit) valid (is_network valid) is_same drives).1 (level_at (Whole old)) (level_at old)
        (λ net h. sym (level_numbered valid old net (contains_waits (touched circuit) net h))) in
        let run = both.1 (level_at new) settled in
        alike circuit valid drives (level_at (Whole old)) run.0 (level_at (Whole new)) (λ net lt. elim (waits_or_not (touched circuit) net) [
          | inl w ↦ sym (run.2 net (waits_contains (touched circuit) net w)) ∙ sym (level_numbered valid new net w)
          | inr none ↦
              stays_unknown drives net none (level_at (Whole old)) run.0 lt (level_named old net lt ∙ ap (level_by old) (unnumbered net none)) run.1
              ∙ sym (level_named new net lt ∙ ap (level_by new) (unnumbered net none))
        ]) run.1

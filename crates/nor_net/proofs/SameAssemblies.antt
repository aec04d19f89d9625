-- Circuits that are put together from the same parts are the same network.
use Rattle.std.specs.Prelude.{flat_map}
use Rattle.std.proofs.Common.{◌≡◌, inl, inr, ℕ, zero, suc, ◌+◌, ◌<◌, ◌≤◌, ◌==◌, ◌&&◌, nat_lt, nat_le, Bool, true, false, if◌then◌else◌, List, [], ◌∷◌, ◌++◌, map, All, IsPermutation, refl, ap, sym, subst, ◌∙◌, arith, eq-eqb, eqb-true, lt-ltb}
use Rattle.std.specs.List.{AllByRecursion, range_with_len}
use Rattle.std.proofs.lemmas.Bool.{cases_eq, cases_Bool, and_parts, ltb-true, leb-true, leb-false}
use Rattle.std.proofs.lemmas.List.{map-append}
use Rattle.std.proofs.lemmas.List.Elements.{All-from_recursion, recursion_from_All, All-contains}
use Rattle.std.proofs.lemmas.List.Sorted.{IsPermutation-map, IsPermutation-sym, IsPermutation-trans, All-permutation}
use Rattle.switch_net.specs.Circuit.{Circuit, device_nets, touched, renamed_pad, renamed_device, ascending, IsSameNetwork}
use Rattle.switch_net.specs.declared.network.Net.{Net}
use Rattle.switch_net.specs.declared.network.Pad.{Pad}
use Rattle.switch_net.specs.declared.network.Device.{Device}
use Rattle.switch_net.specs.declared.network.Device.TheVariants.{Pass, Load}
use Rattle.nor_net.specs.Netlist.{NorGate}
use Rattle.nor_net.specs.SwitchForm.{at, pull_downs}
use Rattle.nor_net.specs.Part.{PartTables, IsPart, IsPartGate, IsPartTransfer, clock_net, clocked_device, part_devices}
use Rattle.nor_net.specs.Assembly.{PartNet, part_net, IsPartNet, PartPad, pad_by, devices_by, assembled_devices, IsAssembly, AssembliesAreSame}
use Rattle.nor_net.specs.declared.gate.Transfer.{Transfer}

-- ---- lists

module _ {X : Type 0} (P : X → Type 0) where
  each_append : (xs ys : List X) → AllByRecursion P xs → AllByRecursion P ys → AllByRecursion P (xs ++ ys)
  each_append [] ys h k = k
  each_append (x ∷ xs) ys h k = (h.0, each_append xs ys h.1 k)

  each_weaker : (Q : X → Type 0) → ((x : X) → P x → Q x) → (xs : List X) → AllByRecursion P xs → AllByRecursion Q xs
  each_weaker Q f [] h = tt
  each_weaker Q f (x ∷ xs) h = (f x h.0, each_weaker Q f xs h.1)

-- ---- a number below another one for which a test holds

abbrev last_below : (ℕ → Bool) → ℕ → ℕ
last_below p zero = zero
last_below p (suc m) = if p m then m else last_below p m

last_holds : (p : ℕ → Bool) (m k : ℕ) → k < m → p k ≡ true → (p (last_below p m) ≡ true) × (last_below p m < m)
last_holds p zero k lt e = absurd (omega (arith, lt))
last_holds p (suc m) k lt e = elim (cases_Bool (p m)) [
  | inl f ↦ rw f (f, omega arith)
  | inr f ↦
      elim (cases_eq k m) [
        | inl same ↦ let bad : true ≡ false = sym (rw same at e) ∙ f in absurd (cc)
        | inr ne ↦
            let h = last_holds p m k (omega (arith, lt, ne)) e in
            let below = h.1 in
            rw f (h.0, omega (arith, below))
      ]
]

-- ---- devices

exchanged : (g a b : Net) → ascending (Pass g a b) ≡ ascending (Pass g b a)
exchanged g a b = elim (cases_Bool (nat_le a.0 b.0)) [
  | inl e ↦
      elim (cases_Bool (nat_le b.0 a.0)) [
        | inl f ↦
            let same : a.0 ≡ b.0 = omega (arith, leb-true a.0 b.0 e, leb-true b.0 a.0 f) in
            let nets : a ≡ b = ap at same in
            rw nets refl
        | inr f ↦ rw (e, f) refl
      ]
  | inr e ↦
      elim (cases_Bool (nat_le b.0 a.0)) [
        | inl f ↦ rw (e, f) refl
        | inr f ↦ absurd (omega (arith, leb-false a.0 b.0 e, leb-false b.0 a.0 f))
      ]
]

renamed_ascending : (r : ℕ → ℕ) (d : Device) → ascending (renamed_device r (ascending d)) ≡ ascending (renamed_device r d)
renamed_ascending r (Load net) = refl
renamed_ascending r (Pass g a b) = elim (cases_Bool (nat_le a.0 b.0)) [
  | inl e ↦ rw e refl
  | inr e ↦ rw e (exchanged (at (r g.0)) (at (r b.0)) (at (r a.0)))
]

all_renamed_ascending : (r : ℕ → ℕ) (ds : List Device)
    → map (λ d. ascending (renamed_device r d)) (map ascending ds) ≡ map (λ d. ascending (renamed_device r d)) ds
all_renamed_ascending r [] = refl
all_renamed_ascending r (d ∷ ds) = rw (renamed_ascending r d, all_renamed_ascending r ds) refl

module _ (P : ℕ → Type 0) where
  -- what holds of the nets of a device
  abbrev OfNets : Device → Type 0
  OfNets d = AllByRecursion P (device_nets d)

  of_ascending : (d : Device) → OfNets d → OfNets (ascending d)
  of_ascending (Load net) h = h
  of_ascending (Pass g a b) h = elim (cases_Bool (nat_le a.0 b.0)) [
    | inl e ↦ rw e h
    | inr e ↦ rw e (h.0, (h.1.1.0, (h.1.0, tt)))
  ]

  from_ascending : (d : Device) → OfNets (ascending d) → OfNets d
  from_ascending (Load net) h = h
  from_ascending (Pass g a b) h = elim (cases_Bool (nat_le a.0 b.0)) [
    | inl e ↦ rw e at h
    | inr e ↦ let k : OfNets (Pass g b a) = rw e at h in (k.0, (k.1.1.0, (k.1.0, tt)))
  ]

  all_ascending : (ds : List Device) → AllByRecursion OfNets ds → AllByRecursion OfNets (map ascending ds)
  all_ascending [] h = tt
  all_ascending (d ∷ ds) h = (of_ascending d h.0, all_ascending ds h.1)

  all_from_ascending : (ds : List Device) → AllByRecursion OfNets (map ascending ds) → AllByRecursion OfNets ds
  all_from_ascending [] h = tt
  all_from_ascending (d ∷ ds) h = (from_ascending d h.0, all_from_ascending ds h.1)

  touched_of : (ds : List Device) → AllByRecursion OfNets ds → AllByRecursion P (flat_map device_nets ds)
  touched_of [] h = tt
  touched_of (d ∷ ds) h = each_append P (device_nets d) (flat_map device_nets ds) h.0 (touched_of ds h.1)

-- ---- the nets of a part's devices

module _ (part : PartTables) (is : IsPart part) where
  abbrev Below : ℕ → Type 0
  Below net = net < part.nets

  supplies : AllByRecursion Below (part.vdd ∷ part.gnd ∷ part.phi1 ∷ part.phi2 ∷ [])
  supplies = recursion_from_All Below (part.vdd ∷ part.gnd ∷ part.phi1 ∷ part.phi2 ∷ []) is.supplies_below

  pulls : (out : ℕ) (inputs : List ℕ) → out < part.nets → AllByRecursion Below inputs
      → AllByRecursion (OfNets Below) (map (λ (input : ℕ). Pass (at input) (at out) (at part.gnd)) inputs)
  pulls out [] o h = tt
  pulls out (x ∷ inputs) o h = ((h.0, (o, (supplies.1.0, tt))), pulls out inputs o h.1)

  gate_nets : (gates : List NorGate) → AllByRecursion (IsPartGate part.nets) gates → AllByRecursion (OfNets Below) (flat_map (pull_downs part.gnd) gates)
  gate_nets [] h = tt
  gate_nets (g ∷ gates) h =
      each_append (OfNets Below) (pull_downs part.gnd g) (flat_map (pull_downs part.gnd) gates)
      (pulls g.out g.inputs h.0.out_below (recursion_from_All Below g.inputs h.0.inputs_below)) (gate_nets gates h.1)

  load_nets : (loads : List ℕ) → AllByRecursion Below loads → AllByRecursion (OfNets Below) (map (λ (net : ℕ). Load (at net)) loads)
  load_nets [] h = tt
  load_nets (x ∷ loads) h = ((h.0, tt), load_nets loads h.1)

  clock_below : (transfer : Transfer) → IsPartTransfer part.nets transfer → clock_net part transfer.clock < part.nets
  clock_below transfer h = elim h.clocked [
    | inl e ↦ rw e (supplies.1.1.0)
    | inr e ↦ rw e (supplies.1.1.1.0)
  ]

  transfer_nets : (transfers : List Transfer) → AllByRecursion (IsPartTransfer part.nets) transfers
      → AllByRecursion (OfNets Below) (map (clocked_device part) transfers)
  transfer_nets [] h = tt
  transfer_nets (x ∷ transfers) h = ((clock_below x h.0, (h.0.from_below, (h.0.to_below, tt))), transfer_nets transfers h.1)

  part_nets : AllByRecursion (OfNets Below) (part_devices part)
  part_nets =
      each_append (OfNets Below) _ (map (clocked_device part) part.transfers)
      (each_append (OfNets Below) (flat_map (pull_downs part.gnd) part.gates) (map (λ (net : ℕ). Load (at net)) part.loads)
      (gate_nets part.gates (recursion_from_All (IsPartGate part.nets) part.gates is.gates))
      (load_nets part.loads (recursion_from_All Below part.loads is.loads_below)))
      (transfer_nets part.transfers (recursion_from_All (IsPartTransfer part.nets) part.transfers is.transfers))

-- ---- two circuits

module _ (parts : ℕ → PartTables) (n : ℕ) (meets : ℕ → ℕ → ℕ → ℕ → Bool) (pads : List PartPad) (one other : Circuit)
    (are : (k : ℕ) → k < n → IsPart (parts k)) (stand : All (λ pad. IsPartNet parts n pad.net) pads)
    (a : IsAssembly parts n meets pads one) (b : IsAssembly parts n meets pads other) where
  -- a net of a part by its net of the first circuit
  abbrev net_in : ℕ → ℕ → ℕ
  net_in x k = last_below (λ net. a.home (part_net k net) == x) (parts k).nets

  abbrev holds : ℕ → ℕ → Bool
  holds x k = nat_lt (net_in x k) (parts k).nets && (a.home (part_net k (net_in x k)) == x)

  abbrev found : ℕ → PartNet
  found x = part_net (last_below (holds x) n) (net_in x (last_below (holds x) n))

  -- a known net of a part that is this net of the first circuit
  record IsHome (x : ℕ) (p : PartNet) : Type 0 where
    known : IsPartNet parts n p
    is : a.home p ≡ x

  found_is : (p : PartNet) → IsPartNet parts n p → IsHome (a.home p) (found (a.home p))
  found_is p h =
      let inner = last_holds (λ net. a.home (part_net p.which net) == a.home p) (parts p.which).nets p.net h.below (eq-eqb (a.home p) (a.home p) refl) in
      let here : holds (a.home p) p.which ≡ true = rw (lt-ltb (net_in (a.home p) p.which) (parts p.which).nets inner.1) inner.0 in
      let outer = last_holds (holds (a.home p)) n p.which h.known here in
      let both = and_parts _ _ outer.0 in
      record {
        known = record { known = outer.1; below = ltb-true _ _ both.0 };
        is = eqb-true _ _ both.1;
      }

  abbrev rename : ℕ → ℕ
  rename x = b.home (found x)

  renames : (p : PartNet) → IsPartNet parts n p → rename (a.home p) ≡ b.home p
  renames p h =
      let f = found_is p h in
      (b.joined (found (a.home p)) p f.known h).1 ((a.joined (found (a.home p)) p f.known h).0 f.is)

  -- ---- nets that are touched

  -- the net is one of a part's
  record IsBorne (x : ℕ) : Type 0 where
    by : PartNet
    known : IsPartNet parts n by
    is : a.home by ≡ x

  borne_apart : (x y : ℕ) → IsBorne x → IsBorne y → rename x ≡ rename y → x ≡ y
  borne_apart x y p q e =
      let first : rename x ≡ b.home p.by = rw (← p.is) (renames p.by p.known) in
      let second : rename y ≡ b.home q.by = rw (← q.is) (renames q.by q.known) in
      let same : b.home p.by ≡ b.home q.by = sym first ∙ e ∙ second in
      sym p.is ∙ (a.joined p.by q.by p.known q.known).1 ((b.joined p.by q.by p.known q.known).0 same) ∙ q.is

  abbrev home_in : ℕ → ℕ → ℕ
  home_in k net = a.home (part_net k net)

  device_borne : (k : ℕ) → k < n → (ds : List Device) → AllByRecursion (OfNets (λ net. net < (parts k).nets)) ds
      → AllByRecursion (OfNets IsBorne) (map (renamed_device (home_in k)) ds)
  device_borne k lt [] h = tt
  device_borne k lt (d ∷ ds) h = (one_borne d h.0, device_borne k lt ds h.1)
    where
      borne : (net : ℕ) → net < (parts k).nets → IsBorne (home_in k net)
      borne net l = record { by = part_net k net; known = record { known = lt; below = l }; is = refl }

      one_borne : (e : Device) → OfNets (λ net. net < (parts k).nets) e → OfNets IsBorne (renamed_device (home_in k) e)
      one_borne (Pass g x y) m = (borne g.0 m.0, (borne x.0 m.1.0, (borne y.0 m.1.1.0, tt)))
      one_borne (Load net) m = (borne net.0 m.0, tt)

  all_borne : (from k : ℕ) → from + k ≤ n → AllByRecursion (OfNets IsBorne) (flat_map (devices_by parts a.home) (range_with_len from k))
  all_borne from zero le = tt
  all_borne from (suc k) le =
      each_append (OfNets IsBorne) (devices_by parts a.home from) (flat_map (devices_by parts a.home) (range_with_len (from + 1) k))
      (device_borne from (omega (arith, le)) (part_devices (parts from)) (part_nets (parts from) (are from (omega (arith, le)))))
      (all_borne (from + 1) k (omega (arith, le)))

  abbrev first_devices : List Device
  first_devices = assembled_devices parts n a.home

  one_borne : AllByRecursion (OfNets IsBorne) one.devices
  one_borne =
      all_from_ascending IsBorne one.devices
      (recursion_from_All (OfNets IsBorne) (map ascending one.devices)
      (All-permutation (OfNets IsBorne) (map ascending first_devices) (map ascending one.devices) a.devices
      (All-from_recursion (OfNets IsBorne) (map ascending first_devices) (all_ascending IsBorne first_devices (all_borne 0 n (omega arith))))))

  pads_borne : (ps : List PartPad) → AllByRecursion (λ (pad : PartPad). IsPartNet parts n pad.net) ps
      → AllByRecursion IsBorne (map (λ (pad : Pad). pad.net.0) (map (pad_by a.home) ps))
  pads_borne [] h = tt
  pads_borne (pad ∷ ps) h = (record { by = pad.net; known = h.0; is = refl }, pads_borne ps h.1)

  each_pad : AllByRecursion (λ (pad : PartPad). IsPartNet parts n pad.net) pads
  each_pad = recursion_from_All (λ (pad : PartPad). IsPartNet parts n pad.net) pads stand

  touched_borne : AllByRecursion IsBorne (touched one)
  touched_borne =
      each_append IsBorne (map (λ (pad : Pad). pad.net.0) one.pads) (flat_map device_nets one.devices)
      (subst (λ (ps : List Pad). AllByRecursion IsBorne (map (λ (pad : Pad). pad.net.0) ps)) a.pads_stand (pads_borne pads each_pad)) (touched_of IsBorne one.devices one_borne)

  -- ---- pads and devices

  pads_renamed : (ps : List PartPad) → AllByRecursion (λ (pad : PartPad). IsPartNet parts n pad.net) ps
      → map (renamed_pad rename) (map (pad_by a.home) ps) ≡ map (pad_by b.home) ps
  pads_renamed [] h = refl
  pads_renamed (pad ∷ ps) h = rw (renames pad.net h.0, pads_renamed ps h.1) refl

  abbrev moved : Device → Device
  moved d = ascending (renamed_device rename d)

  devices_renamed : (k : ℕ) → k < n → (ds : List Device) → AllByRecursion (OfNets (λ net. net < (parts k).nets)) ds
      → map moved (map (renamed_device (home_in k)) ds) ≡ map ascending (map (renamed_device (λ net. b.home (part_net k net))) ds)
  devices_renamed k lt [] h = refl
  devices_renamed k lt (d ∷ ds) h = rw (one_moved d h.0, devices_renamed k lt ds h.1) refl
    where
      net_moved : (net : ℕ) → net < (parts k).nets → rename (home_in k net) ≡ b.home (part_net k net)
      net_moved net l = renames (part_net k net) (record { known = lt; below = l })

      one_moved : (e : Device) → OfNets (λ net. net < (parts k).nets) e
          → moved (renamed_device (home_in k) e) ≡ ascending (renamed_device (λ net. b.home (part_net k net)) e)
      one_moved (Pass g x y) m = rw (net_moved g.0 m.0, net_moved x.0 m.1.0, net_moved y.0 m.1.1.0) refl
      one_moved (Load net) m = rw (net_moved net.0 m.0) refl

  all_renamed : (from k : ℕ) → from + k ≤ n
      → map moved (flat_map (devices_by parts a.home) (range_with_len from k)) ≡ map ascending (flat_map (devices_by parts b.home) (range_with_len from k))
  all_renamed from zero le = refl
  all_renamed from (suc k) le =
      map-append moved (devices_by parts a.home from) (flat_map (devices_by parts a.home) (range_with_len (from + 1) k))
      ∙ rw (
        devices_renamed from (omega (arith, le)) (part_devices (parts from)) (part_nets (parts from) (are from (omega (arith, le)))),
        all_renamed (from + 1) k (omega (arith, le)),
      )
      (sym (map-append ascending (devices_by parts b.home from) (flat_map (devices_by parts b.home) (range_with_len (from + 1) k))))

  moved_devices : IsPermutation (map moved one.devices) (map ascending other.devices)
  moved_devices =
      let back : IsPermutation (map moved (map ascending one.devices)) (map moved (map ascending first_devices)) =
      IsPermutation-map moved (map ascending one.devices) (map ascending first_devices) (IsPermutation-sym _ _ a.devices) in
      let plain : IsPermutation (map moved one.devices) (map moved first_devices) =
      rw (all_renamed_ascending rename one.devices, all_renamed_ascending rename first_devices) at back in
      IsPermutation-trans _ _ _ plain (rw (all_renamed 0 n (omega arith)) b.devices)

  pub same : IsSameNetwork one other
  same = record {
    rename = rename;
    apart = λ x y l r e.
        let all = All-from_recursion IsBorne (touched one) touched_borne in
        borne_apart x y (All-contains IsBorne (touched one) x all l) (All-contains IsBorne (touched one) y all r) e;
    pads = subst (λ (ps : List Pad). map (renamed_pad rename) ps ≡ other.pads) a.pads_stand (pads_renamed pads each_pad ∙ b.pads_stand);
    devices = moved_devices;
  }

pub assemblies_are_same : AssembliesAreSame
assemblies_are_same parts n meets pads one other are stand a b = same parts n meets pads one other are stand a b

-- Parts without a fault are a network, and the other way round.
use Rattle.std.proofs.Common.{◌≡◌, ℕ, zero, suc, ◌≤◌, ◌==◌, Bool, true, false, ◌||◌, not, cond, if◌then◌else◌, List, [], ◌∷◌, ◌++◌, length, get_or, All, AllPairs, position, Option, Some, None, Decides, option_map, refl, sym, ap, ap₂, ◌∙◌, arith}
use Rattle.std.specs.List.{prefix_len}
use Rattle.std.specs.Option.{option_eq, option_or}
use Rattle.std.specs.Str.{bytes_eq}
use Rattle.std.proofs.lemmas.Bool.{leb-false, lt-leb, or_parts, or_from, eqb-false, ne_eqb, not-true, not-false, not_from_true, ltb-false, le-ltb, cond-false, false_from_ne_true}
use Rattle.std.proofs.lemmas.Bool.Decides.{Decides-and, Decides-eqb, Decides-like, not_from_Decides}
use Rattle.std.proofs.lemmas.List.Elements.{All-cons, All-head, All-tail, All-nil, All-weaker}
use Rattle.std.proofs.lemmas.List.Folds.{list_any-append, Any-from_list_any, list_any-from_Any}
use Rattle.std.proofs.lemmas.List.Sums.{prefix_len_passes}
use Rattle.std.proofs.lemmas.Slice.Eq.{bytes_eq-Decides}
use Rattle.rx_text.specs.Role.{NamedRole}
use Rattle.rx_text.specs.declared.pad_name.Role.{Role}
use Rattle.rx_text.specs.declared.pad_name.Role.TheVariants.{Vdd, Gnd, Phi1, Phi2, Reset, Input, Output}
use Rattle.switch_net.specs.Circuit.{Circuit}
use Rattle.switch_net.specs.ClockedLogic.{NamesBelow}
use Rattle.switch_net.specs.Validity.{AreDistinct, HasRole, IsNetwork, is_pad_outside, is_device_outside, first_outside, role_number, is_same_role, is_same_name, shares, repeats, first_repeat, has_role, first_missing, first_fault, FaultlessIsNetwork}
use Rattle.switch_net.specs.declared.network.Net.{Net}
use Rattle.switch_net.specs.declared.network.Pad.{Pad}
use Rattle.switch_net.specs.declared.network.Device.{Device}
use Rattle.switch_net.specs.declared.network.Device.TheVariants.{Pass, Load}

-- ---- searches that find nothing

unfound : {X : Type 0} (b : Bool) (x : X) (o : Option X) → cond b (Some x) o ≡ None → (b ≡ false) × (o ≡ None)
unfound true x o e = cc
unfound false x o e = (refl, e)

found_none : {X : Type 0} (b : Bool) (x : X) (o : Option X) → b ≡ false → o ≡ None → cond b (Some x) o ≡ None
found_none b x o fails e = cond-false b (Some x) o fails ∙ e

module _ {X : Type 0} (p : X → Bool) where
  prefix_len-all : (xs : List X) → All (λ x. p x ≡ false) xs → prefix_len (λ x. not (p x)) xs ≡ length xs
  prefix_len-all [] h = refl
  prefix_len-all (x ∷ xs) h =
      let rest = prefix_len-all xs (All-tail (λ x. p x ≡ false) x xs h) in
      let first : p x ≡ false = All-head (λ x. p x ≡ false) x xs h in
      rw first (omega (arith, rest))

  position-all : (xs : List X) → All (λ x. p x ≡ false) xs → position p xs ≡ None
  position-all xs h =
      let stops : length xs ≤ prefix_len (λ x. not (p x)) xs = omega (arith, prefix_len-all xs h) in
      cond-false _ _ _ (le-ltb _ _ stops)

  all-position : (xs : List X) → position p xs ≡ None → All (λ x. p x ≡ false) xs
  all-position xs e k d lt =
      let stops : length xs ≤ prefix_len (λ x. not (p x)) xs = ltb-false _ _ (unfound _ _ _ e).0 in
      not-true _ (prefix_len_passes (λ x. not (p x)) xs k d (omega arith))

module _ {X : Type 0} where
  option_or-None : (o p : Option X) → option_or o p ≡ None → (o ≡ None) × (p ≡ None)
  option_or-None None p e = (refl, e)
  option_or-None (Some x) p e = cc

  option_or-none : (o p : Option X) → o ≡ None → p ≡ None → option_or o p ≡ None
  option_or-none None p d e = e
  option_or-none (Some x) p d e = d

  option_map-None : {Y : Type 0} (f : X → Y) (o : Option X) → option_map f o ≡ None → o ≡ None
  option_map-None f None e = refl
  option_map-None f (Some x) e = cc

  option_map-none : {Y : Type 0} (f : X → Y) (o : Option X) → o ≡ None → option_map f o ≡ None
  option_map-none f None e = refl
  option_map-none f (Some x) e = cc

-- ---- nets below their number

device-inside : (nets : ℕ) (device : Device) → is_device_outside nets device ≡ false → NamesBelow nets device
device-inside nets (Load net) e = leb-false _ _ e
device-inside nets (Pass gate a b) e =
    let l = or_parts _ _ e in
    let r = or_parts _ _ l.0 in
    (leb-false _ _ r.0, leb-false _ _ r.1, leb-false _ _ l.1)

inside-device : (nets : ℕ) (device : Device) → NamesBelow nets device → is_device_outside nets device ≡ false
inside-device nets (Load net) h = lt-leb _ _ h
inside-device nets (Pass gate a b) h =
    or_from _ _ (or_from _ _ (lt-leb _ _ h.0) (lt-leb _ _ h.1)) (lt-leb _ _ h.2)

-- ---- names and roles

role_at : ℕ → Role
role_at n =
    if n == 0 then Vdd
    else (if n == 1 then Gnd
    else (if n == 2 then Phi1 else (if n == 3 then Phi2 else (if n == 4 then Reset else (if n == 5 then Input else Output)))))

role_at-number : (r : Role) → role_at (role_number r) ≡ r
unfolding role_at
role_at-number Vdd = refl
role_at-number Gnd = refl
role_at-number Phi1 = refl
role_at-number Phi2 = refl
role_at-number Reset = refl
role_at-number Input = refl
role_at-number Output = refl

decides_role : (a b : Role) → Decides (is_same_role a b) (a ≡ b)
decides_role a b =
    Decides-like _ (λ e. sym (role_at-number a) ∙ ap role_at e ∙ role_at-number b) (λ e. ap (λ r. role_number r) e)
    (Decides-eqb (role_number a) (role_number b))

decides_text : (a b : Option (List ℕ)) → Decides (option_eq bytes_eq a b) (a ≡ b)
decides_text None None = (λ _. refl, λ _. refl)
decides_text None (Some y) = (λ e. cc, λ e. cc)
decides_text (Some x) None = (λ e. cc, λ e. cc)
decides_text (Some x) (Some y) = Decides-like _ (λ e. ap (λ z. Some z) e) (λ e. cc) (bytes_eq-Decides x y)

decides_name : (a b : NamedRole) → Decides (is_same_name a b) (a ≡ b)
decides_name a b =
    let name_of : Role → Option (List ℕ) → NamedRole = λ r n. record { role = r; name = n } in
    Decides-like _ (λ h. ap₂ name_of h.0 h.1) (λ e. (ap (λ n. n.role) e, ap (λ n. n.name) e))
    (Decides-and _ _ (decides_role a.role b.role) (decides_text a.name b.name))

distinct-shares : (a b : Pad) → shares a b ≡ false → AreDistinct a b
distinct-shares a b e =
    let parts = or_parts _ _ e in
    (not_from_Decides _ (decides_name a.name b.name) parts.0, λ same. eqb-false _ _ parts.1 (ap (λ n. n.0) same))

shares-distinct : (a b : Pad) → AreDistinct a b → shares a b ≡ false
shares-distinct a b h =
    let net_of : ℕ → Net = λ n. record { 0 = n } in
    let apart : is_same_name a.name b.name ≡ false = false_from_ne_true _ (λ e. h.0 ((decides_name a.name b.name).0 e)) in
    let off : (a.net.0 == b.net.0) ≡ false = ne_eqb _ _ (λ e. h.1 (ap net_of e)) in
    or_from _ _ apart off

-- ---- pads that repeat others

module _ {X : Type 0} (R : X → X → Type 0) where
  AllPairs-cons : (x : X) (xs : List X) → All (λ y. R x y) xs → AllPairs R xs → AllPairs R (x ∷ xs)
  AllPairs-cons x xs first rest i zero d below within = absurd (omega arith)
  AllPairs-cons x xs first rest zero (suc j) d below within = first j d (omega arith)
  AllPairs-cons x xs first rest (suc i) (suc j) d below within = rest i j d (omega arith) (omega arith)

  AllPairs-head : (x : X) (xs : List X) → AllPairs R (x ∷ xs) → All (λ y. R x y) xs
  AllPairs-head x xs h k d lt = h 0 (suc k) d (omega arith) (omega arith)

  AllPairs-tail : (x : X) (xs : List X) → AllPairs R (x ∷ xs) → AllPairs R xs
  AllPairs-tail x xs h i j d below within = h (suc i) (suc j) d (omega arith) (omega arith)

abbrev AreApart : Pad → Pad → Type 0
AreApart a b = shares a b ≡ false

repeats-push : (earlier : List Pad) (one pad : Pad) → repeats (earlier ++ one ∷ []) pad ≡ (repeats earlier pad || (shares one pad || false))
repeats-push earlier one pad = list_any-append (λ e. shares e pad) earlier (one ∷ [])

apart : (earlier pads : List Pad) → first_repeat earlier pads ≡ None
    → All (λ pad. repeats earlier pad ≡ false) pads × AllPairs AreApart pads
apart earlier [] e = (All-nil _, λ i j d below within. absurd (omega arith))
apart earlier (pad ∷ pads) e =
    let step = unfound (repeats earlier pad) (length earlier) (first_repeat (earlier ++ pad ∷ []) pads) e in
    let rest = apart (earlier ++ pad ∷ []) pads step.1 in
    let each : (one : Pad) → repeats (earlier ++ pad ∷ []) one ≡ false → (repeats earlier one ≡ false) × (shares pad one ≡ false) =
    λ one h. let parts = or_parts _ _ (sym (repeats-push earlier pad one) ∙ h) in (parts.0, (or_parts _ _ parts.1).0) in
    let before = All-weaker _ (λ one. repeats earlier one ≡ false) (λ one h. (each one h).0) pads rest.0 in
    let first = All-weaker _ (λ one. AreApart pad one) (λ one h. (each one h).1) pads rest.0 in
    (All-cons (λ one. repeats earlier one ≡ false) pad pads step.0 before, AllPairs-cons AreApart pad pads first rest.1)

apart-first_repeat : (earlier pads : List Pad) → All (λ pad. repeats earlier pad ≡ false) pads → AllPairs AreApart pads
    → first_repeat earlier pads ≡ None
apart-first_repeat earlier [] before among = refl
apart-first_repeat earlier (pad ∷ pads) before among =
    let here : repeats earlier pad ≡ false = All-head (λ one. repeats earlier one ≡ false) pad pads before in
    let later = All-tail (λ one. repeats earlier one ≡ false) pad pads before in
    let first = AllPairs-head AreApart pad pads among in
    let each : All (λ one. repeats (earlier ++ pad ∷ []) one ≡ false) pads =
    λ k d lt. repeats-push earlier pad (get_or pads k d) ∙ or_from _ _ (later k d lt) (or_from _ _ (first k d lt) refl) in
    found_none (repeats earlier pad) (length earlier) (first_repeat (earlier ++ pad ∷ []) pads) here
    (apart-first_repeat (earlier ++ pad ∷ []) pads each (AllPairs-tail AreApart pad pads among))

-- ---- roles without a pad

decides_has : (pads : List Pad) (role : Role) → Decides (has_role pads role) (HasRole pads role)
decides_has pads role =
    let test : Pad → Bool = λ pad. is_same_role pad.name.role role in (
      λ e. let some = Any-from_list_any test pads e in
          (some.0, some.1, some.2, some.3, (decides_role some.1.name.role role).0 some.4),
      λ h. list_any-from_Any test pads (h.0, h.1, h.2, h.3, (decides_role h.1.name.role role).1 h.4),
    )

-- ---- the whole

pub no_fault : (nets : ℕ) (pads : List Pad) (devices : List Device) → first_outside nets pads devices ≡ None
    → first_repeat [] pads ≡ None → first_missing pads ≡ None → first_fault nets pads devices ≡ None
no_fault nets pads devices outside repeat missing =
    option_or-none _ _ (option_map-none _ _ outside)
    (option_or-none _ _ (option_map-none _ _ repeat) (option_map-none _ _ missing))

pub faultless : FaultlessIsNetwork
faultless circuit = (λ h. sound circuit h, λ e. complete circuit e)
  where
    sound : (circuit : Circuit) → IsNetwork circuit → first_fault circuit.nets circuit.pads circuit.devices ≡ None
    sound circuit h =
        let pads = position-all (is_pad_outside circuit.nets) circuit.pads (λ k d lt. lt-leb _ _ (h.pads_below k d lt)) in
        let devices = position-all (is_device_outside circuit.nets) circuit.devices
        (λ k d lt. inside-device circuit.nets _ (h.devices_below k d lt)) in
        let outside : first_outside circuit.nets circuit.pads circuit.devices ≡ None =
        option_or-none _ _ pads (option_map-none _ _ devices) in
        let repeat : first_repeat [] circuit.pads ≡ None = apart-first_repeat [] circuit.pads (λ k d lt. refl)
        (λ i j d below within. shares-distinct _ _ (h.distinct i j d below within)) in
        let has : (role : Role) → HasRole circuit.pads role → not (has_role circuit.pads role) ≡ false =
        λ role some. not_from_true _ ((decides_has circuit.pads role).1 some) in
        let missing : first_missing circuit.pads ≡ None =
        found_none _ _ _ (has Vdd h.vdd) (found_none _ _ _ (has Gnd h.gnd) (found_none _ _ _ (has Phi1 h.phi1)
        (found_none _ _ _ (has Phi2 h.phi2) (found_none _ _ _ (has Reset h.reset) refl)))) in
        no_fault circuit.nets circuit.pads circuit.devices outside repeat missing

    complete : (circuit : Circuit) → first_fault circuit.nets circuit.pads circuit.devices ≡ None → IsNetwork circuit
    complete circuit e =
        let faults = option_or-None _ _ e in
        let outside = option_or-None _ _ (option_map-None _ _ faults.0) in
        let others = option_or-None _ _ faults.1 in
        let pads = all-position (is_pad_outside circuit.nets) circuit.pads outside.0 in
        let devices = all-position (is_device_outside circuit.nets) circuit.devices (option_map-None _ _ outside.1) in
        let distinct = (apart [] circuit.pads (option_map-None _ _ others.0)).1 in
        let missing = option_map-None _ _ others.1 in
        let vdd = unfound _ _ _ missing in
        let gnd = unfound _ _ _ vdd.1 in
        let phi1 = unfound _ _ _ gnd.1 in
        let phi2 = unfound _ _ _ phi1.1 in
        let reset = unfound _ _ _ phi2.1 in
        let has : (role : Role) → not (has_role circuit.pads role) ≡ false → HasRole circuit.pads role =
        λ role fails. (decides_has circuit.pads role).0 (not-false _ fails) in
        record {
          pads_below = λ k d lt. leb-false _ _ (pads k d lt);
          devices_below = λ k d lt. device-inside circuit.nets _ (devices k d lt);
          distinct = λ i j d below within. distinct-shares _ _ (distinct i j d below within);
          vdd = has Vdd vdd.0;
          gnd = has Gnd gnd.0;
          phi1 = has Phi1 phi1.0;
          phi2 = has Phi2 phi2.0;
          reset = has Reset reset.0;
        }

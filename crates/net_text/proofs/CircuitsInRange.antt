-- A circuit has its nets in range, where its first fault is another.
use Rattle.std.proofs.Common.{◌≡◌, ℕ, ◌+◌, ◌<◌, ◌≤◌, Bool, true, false, ◌||◌, not, cond, nat_le, List, [], All, position, Option, Some, None, option_map, length, refl, sym, arith}
use Rattle.std.proofs.lemmas.Bool.{ltb-false, leb-false, not-true, or_parts}
use Rattle.std.proofs.lemmas.List.Sums.{prefix_len_passes}
use Rattle.std.specs.List.{prefix_len}
use Rattle.std.specs.Option.{option_or}
use Rattle.switch_net.specs.Circuit.{Circuit}
use Rattle.switch_net.specs.ClockedLogic.{NamesBelow}
use Rattle.switch_net.specs.Validity.{is_pad_outside, is_device_outside, first_outside, first_repeat, first_missing, first_fault}
use Rattle.switch_net.specs.declared.network.Device.{Device}
use Rattle.switch_net.specs.declared.network.Device.TheVariants.{Pass, Load}
use Rattle.switch_net.specs.declared.network.BadNetwork.{BadNetwork}
use Rattle.switch_net.specs.declared.network.BadNetwork.TheVariants.{NetOutOfRange, DoublePad, MissingPad}

-- no element passes where there is no first that does
none_at : {X : Type 0} (p : X → Bool) (xs : List X) → position p xs ≡ None → All (λ x. p x ≡ false) xs
none_at p xs e k d lt =
    let stops : length xs ≤ prefix_len (λ x. not (p x)) xs = ltb-false _ _ (unfound _ _ e) in
    not-true _ (prefix_len_passes (λ x. not (p x)) xs k d (omega (arith, stops, lt)))
  where
    unfound : {X : Type 0} (b : Bool) (x : X) → cond b (Some x) None ≡ None → b ≡ false
    unfound true x e = cc
    unfound false x e = refl

device_below : (nets : ℕ) (device : Device) → is_device_outside nets device ≡ false → NamesBelow nets device
device_below nets (Pass gate a b) e =
    let last = or_parts (nat_le nets gate.0 || nat_le nets a.0) (nat_le nets b.0) e in
    let others = or_parts (nat_le nets gate.0) (nat_le nets a.0) last.0 in
    (leb-false _ _ others.0, leb-false _ _ others.1, leb-false _ _ last.1)
device_below nets (Load net) e = leb-false _ _ e

-- the nets of pads and devices are in range
abbrev pub InRangeParts : Circuit → Type 0
InRangeParts circuit = All (λ pad. pad.net.0 < circuit.nets) circuit.pads × All (NamesBelow circuit.nets) circuit.devices

pub in_range_of_fault : (circuit : Circuit) (bad : BadNetwork) → first_fault circuit.nets circuit.pads circuit.devices ≡ Some bad
    → ((at : ℕ) → bad ≡ NetOutOfRange at → ⊥) → InRangeParts circuit
in_range_of_fault circuit bad e other =
    let outside = by_outside (first_outside circuit.nets circuit.pads circuit.devices) refl e in
    let parts = both_none _ _ outside in (
      λ k d lt. leb-false _ _ (none_at (is_pad_outside circuit.nets) circuit.pads parts.0 k d lt),
      λ k d lt. device_below circuit.nets _ (none_at (is_device_outside circuit.nets) circuit.devices (map_none (λ at. length circuit.pads + at) _ parts.1) k d lt),
    )
  where
    by_outside : (o : Option ℕ) → first_outside circuit.nets circuit.pads circuit.devices ≡ o
        → option_or (option_map (λ at. NetOutOfRange at) o)
        (option_or (option_map (λ at. DoublePad at) (first_repeat [] circuit.pads)) (option_map (λ role. MissingPad role) (first_missing circuit.pads)))
        ≡ Some bad
        → first_outside circuit.nets circuit.pads circuit.devices ≡ None
    by_outside None f h = f
    by_outside (Some at) f h = let same : NetOutOfRange at ≡ bad = cc in absurd (other at (sym same))

    both_none : {X : Type 0} (o p : Option X) → option_or o p ≡ None → (o ≡ None) × (p ≡ None)
    both_none None p e = (refl, e)
    both_none (Some x) p e = cc

    map_none : {X Y : Type 0} (f : X → Y) (o : Option X) → option_map f o ≡ None → o ≡ None
    map_none f None e = refl
    map_none f (Some x) e = cc

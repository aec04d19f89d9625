-- Faults of lines that were read to the end, whose nets are all in range.
use Rattle.std.proofs.Common.{◌≡◌, ℕ, ◌+◌, ◌<◌, ◌≤◌, Bool, true, false, not, List, [], ◌∷◌, ◌++◌, Option, Some, None, option_map, position, length, take, refl, sym, ap, ◌∙◌, arith}
use Rattle.std.proofs.lemmas.Bool.{le-ltb, lt-leb}
use Rattle.std.proofs.lemmas.List.{length-append, length-take-le}
use Rattle.std.proofs.lemmas.List.Elements.{recursion_from_All}
use Rattle.std.specs.Prelude.{codes}
use Rattle.std.specs.List.{AllByRecursion, prefix_len}
use Rattle.std.specs.Option.{option_or}
use Rattle.rx_text.specs.declared.pad_name.Role.{Role}
use Rattle.rx_text.specs.declared.place.Place.TheVariants.{Text}
use Rattle.switch_net.specs.ClockedLogic.{NamesBelow}
use Rattle.switch_net.specs.Validity.{is_pad_outside, is_device_outside, first_outside, repeats, first_repeat, first_missing, first_fault, FaultlessIsNetwork}
use Rattle.switch_net.specs.declared.network.Pad.{Pad}
use Rattle.switch_net.specs.declared.network.Device.{Device}
use Rattle.switch_net.specs.declared.network.Device.TheVariants.{Pass, Load}
use Rattle.switch_net.specs.declared.network.BadNetwork.{BadNetwork}
use Rattle.switch_net.specs.declared.network.BadNetwork.TheVariants.{NetOutOfRange, DoublePad, MissingPad}
use Rattle.net_text.specs.NetworkText.{IsNetworkText, IsTextOf}
use Rattle.net_text.specs.NetRefusals.{CircuitFault}
use Rattle.net_text.specs.Steps.{IsRead, fault_in_line, fault_of_pads}
use Rattle.net_text.specs.declared.net_fault.NetFault.{NetFault}
use Rattle.net_text.specs.declared.net_fault.NetCode.TheVariants.{N3, N4}

-- where no element passes there is no first that does
position_none : {X : Type 0} (p : X → Bool) (xs : List X) → AllByRecursion (λ x. p x ≡ false) xs → position p xs ≡ None
position_none p xs h = let e = none_passes xs h in rw (le-ltb (prefix_len (λ x. not (p x)) xs) (length xs) (omega (arith, e))) refl
  where
    none_passes : (xs : List _) → AllByRecursion (λ x. p x ≡ false) xs → prefix_len (λ x. not (p x)) xs ≡ length xs
    none_passes [] h = refl
    none_passes (x ∷ xs) h = rw h.0 (omega (arith, none_passes xs h.1))

-- no net is out of range
device_inside : (nets : ℕ) (device : Device) → NamesBelow nets device → is_device_outside nets device ≡ false
device_inside nets (Pass gate a b) h = rw (lt-leb _ _ h.0, lt-leb _ _ h.1, lt-leb _ _ h.2) refl
device_inside nets (Load net) h = lt-leb _ _ h

-- the pad that repeats another is one of the pads
pub repeat_within : (before ps : List Pad) (at : ℕ) → first_repeat before ps ≡ Some at → at < length before + length ps
repeat_within before [] at e = absurd (cc)
repeat_within before (p ∷ ps) at e = by_test (repeats before p) refl (repeat_within (before ++ p ∷ []) ps at)
  where
    by_test : (b : Bool) → repeats before p ≡ b → (first_repeat (before ++ p ∷ []) ps ≡ Some at → at < length (before ++ p ∷ []) + length ps)
        → at < length before + length (p ∷ ps)
    by_test true t later = let said = rw t at e in let same : length before ≡ at = cc in omega (arith, same)
    by_test false t later = let h = later (rw t at e) in omega (arith, rw length-append at h)

module _ (text : List ℕ) (nets : ℕ) (pads : List Pad) (devices : List Device) (read : IsRead text nets pads devices) where
  outside_none : first_outside nets pads devices ≡ None
  outside_none =
      let none_pad = position_none (is_pad_outside nets) pads (recursion_from_All _ pads (λ k d h. lt-leb _ _ (read.parts.pads_below k d h))) in
      let none_device = position_none (is_device_outside nets) devices
      (recursion_from_All _ devices (λ k d h. device_inside nets _ (read.parts.devices_below k d h))) in
      rw (none_pad, none_device) refl

  -- a fault is none of nets
  pub in_range : (bad : BadNetwork) → Some bad ≡ first_fault nets pads devices → (at : ℕ) → bad ≡ NetOutOfRange at → ⊥
  in_range bad e at is = by_parts (first_repeat [] pads) (first_missing pads) (rw outside_none at (sym (ap (λ b. Some b) is) ∙ e))
    where
      by_parts : (r : Option ℕ) (m : Option Role)
          → Some (NetOutOfRange at) ≡ option_or (option_map (λ at. DoublePad at) r) (option_map (λ role. MissingPad role) m) → ⊥
      by_parts None None h = cc
      by_parts None (Some role) h = let clash : NetOutOfRange at ≡ MissingPad role = cc in cc
      by_parts (Some n) m h = let clash : NetOutOfRange at ≡ DoublePad n = cc in cc

  -- how many pads and devices stand in the text
  pub few_lines : length pads + length devices + 6 ≤ length text
  few_lines =
      let size : length text ≡ length (take read.before text ++ codes "end\n") = ap length read.whole in
      omega (arith, read.parts.few_parts, rw length-append at size, length-take-le read.before text read.parts.within)

  -- the text is that of the circuit
  pub text_of : IsTextOf text (record { nets = nets; pads = pads; devices = devices })
  text_of = record {
    text = read.whole ∙ ap (λ l. l ++ codes "end\n") read.parts.front;
    named = read.parts.named;
    few_nets = read.parts.few_nets;
  }

  -- the fault of the pads is the circuit's
  pub circuit_fault : (last : ℕ) (fault : NetFault) → Some fault ≡ fault_of_pads pads last → last ≡ length pads + length devices + 3
      → CircuitFault fault.code (record { nets = nets; pads = pads; devices = devices }) fault.place
  circuit_fault last fault e l = by_parts (first_repeat [] pads) (first_missing pads) refl refl e
    where
      by_parts : (r : Option ℕ) (m : Option Role) → first_repeat [] pads ≡ r → first_missing pads ≡ m
          → Some fault ≡ option_or (option_map (λ at. fault_in_line N3 (at + 3)) r) (option_map (λ role. fault_in_line N4 last) m)
          → CircuitFault fault.code (record { nets = nets; pads = pads; devices = devices }) fault.place
      by_parts None None f g h = cc
      by_parts (Some at) m f g h =
          let is : fault ≡ fault_in_line N3 (at + 3) = cc in
          rw is (at, rw (outside_none, f) refl, refl)
      by_parts None (Some role) f g h =
          let is : fault ≡ fault_in_line N4 last = cc in
          rw is (role, rw (outside_none, f, g) refl, ap (λ line. Text line 1) l)

  -- pads without a fault leave the circuit without one
  pub faultless : (last : ℕ) → None ≡ fault_of_pads pads last → first_fault nets pads devices ≡ None
  faultless last e = by_parts (first_repeat [] pads) (first_missing pads) refl refl e
    where
      by_parts : (r : Option ℕ) (m : Option Role) → first_repeat [] pads ≡ r → first_missing pads ≡ m
          → None ≡ option_or (option_map (λ at. fault_in_line N3 (at + 3)) r) (option_map (λ role. fault_in_line N4 last) m)
          → first_fault nets pads devices ≡ None
      by_parts None None f g h = rw (outside_none, f, g) refl
      by_parts (Some at) m f g h = cc
      by_parts None (Some role) f g h = cc

  -- without a fault it is a network's
  pub is_network_text : FaultlessIsNetwork → None ≡ first_fault nets pads devices → IsNetworkText text (record { nets = nets; pads = pads; devices = devices })
  is_network_text law e = record {
    text_of = text_of;
    network = (law (record { nets = nets; pads = pads; devices = devices })).1 (sym e);
  }

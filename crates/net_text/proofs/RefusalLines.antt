-- A refusal stands in a line of its text, or in the one behind the last.
use Rattle.std.proofs.Common.{◌≡◌, inl, inr, ℕ, ◌+◌, ◌<◌, ◌≤◌, List, [], ◌∷◌, ◌++◌, Option, Some, None, option_map, flat_map, length, refl, ap, ◌∙◌, arith}
use Rattle.std.proofs.lemmas.List.{length-append}
use Rattle.std.proofs.lemmas.List.Sums.{count_by-le-length}
use Rattle.std.specs.Prelude.{codes}
use Rattle.std.specs.Option.{option_or}
use Rattle.rx_text.specs.TextPlace.{is_line_feed}
use Rattle.rx_text.specs.declared.place.Place.TheVariants.{Text}
use Rattle.rx_text.specs.declared.pad_name.Role.{Role}
use Rattle.switch_net.specs.Circuit.{Circuit}
use Rattle.switch_net.specs.Validity.{first_outside, first_repeat, first_missing, first_fault}
use Rattle.switch_net.specs.declared.network.Pad.{Pad}
use Rattle.switch_net.specs.declared.network.Device.{Device}
use Rattle.switch_net.specs.declared.network.Device.TheVariants.{Pass, Load}
use Rattle.switch_net.specs.declared.network.BadNetwork.TheVariants.{NetOutOfRange, DoublePad, MissingPad}
use Rattle.net_text.specs.NetworkText.{network_text, head_lines, pad_line, device_line, role_word, name_part, number_part}
use Rattle.net_text.specs.NetRefusals.{CircuitFault, NetRefusal}
use Rattle.net_text.specs.declared.net_fault.NetCode.{NetCode}
use Rattle.net_text.specs.declared.net_fault.NetCode.TheVariants.{N1, N2, N3, N4, N5, N6}
use Rattle.net_text.proofs.CircuitFaults.{repeat_within}

-- a list of lines that are not empty has as many bytes as lines
flat_lines : {X : Type 0} (f : X → List ℕ) → ((x : X) → 1 ≤ length (f x)) → (xs : List X) → length xs ≤ length (flat_map f xs)
flat_lines f some [] = omega arith
flat_lines f some (x ∷ xs) =
    let first = some x in
    let rest = flat_lines f some xs in
    let size = length-append (f x) (flat_map f xs) in
    omega arith

-- bytes that end in a line feed
ends : (front : List ℕ) → 1 ≤ length (front ++ codes "\n")
ends front = let size = length-append front (codes "\n") in omega arith

pad_bytes : (pad : Pad) → 1 ≤ length (pad_line pad)
pad_bytes pad = ends (role_word pad.name.role ++ name_part pad.name.name ++ number_part pad.net.0)

device_bytes : (device : Device) → 1 ≤ length (device_line device)
device_bytes (Pass gate a b) = omega arith
device_bytes (Load net) = omega arith

-- a text has as many bytes as lines
text_lines : (circuit : Circuit) → length circuit.pads + length circuit.devices + 3 ≤ length (network_text circuit)
text_lines circuit =
    let pads = flat_map pad_line circuit.pads in
    let devices = flat_map device_line circuit.devices in
    let a = length-append (head_lines circuit.nets ++ pads ++ devices) (codes "end\n") in
    let b = length-append (head_lines circuit.nets ++ pads) devices in
    let c = length-append (head_lines circuit.nets) pads in
    let some_pads = flat_lines pad_line pad_bytes circuit.pads in
    let some_devices = flat_lines device_line device_bytes circuit.devices in
    omega arith

-- a pad that repeats another is one of the pads
double_within : (nets : ℕ) (pads : List Pad) (devices : List Device) (at : ℕ) → first_fault nets pads devices ≡ Some (DoublePad at) → at < length pads
double_within nets pads devices at e = by (first_outside nets pads devices) (first_repeat [] pads) (first_missing pads) refl e
  where
    by : (o r : Option ℕ) (m : Option Role) → first_repeat [] pads ≡ r
        → option_or (option_map (λ at. NetOutOfRange at) o) (option_or (option_map (λ at. DoublePad at) r) (option_map (λ role. MissingPad role) m))
        ≡ Some (DoublePad at) → at < length pads
    by (Some n) r m f h = let clash : NetOutOfRange n ≡ DoublePad at = cc in absurd (cc)
    by None None None f h = absurd (cc)
    by None None (Some role) f h = let clash : MissingPad role ≡ DoublePad at = cc in absurd (cc)
    by None (Some n) m f h =
        let same : DoublePad n ≡ DoublePad at = cc in
        let number : n ≡ at = cc in
        let below = repeat_within [] pads n f in
        omega arith

same_line : (line column a b : ℕ) → Text line column ≡ Text a b → line ≡ a
same_line line column a b e = cc

circuit_line : (code : NetCode) (circuit : Circuit) (line column : ℕ) → CircuitFault code circuit (Text line column) → line ≤ length (network_text circuit) + 1
circuit_line N1 circuit line column fault = absurd fault
circuit_line N2 circuit line column fault = absurd fault
circuit_line N5 circuit line column fault = absurd fault
circuit_line N6 circuit line column fault = absurd fault
circuit_line N3 circuit line column fault =
    let below = double_within circuit.nets circuit.pads circuit.devices fault.0 fault.1 in
    let is = same_line line column (fault.0 + 3) 1 fault.2 in
    let size = text_lines circuit in
    omega arith
circuit_line N4 circuit line column fault =
    let is = same_line line column (length circuit.pads + length circuit.devices + 3) 1 fault.2 in
    let size = text_lines circuit in
    omega arith

pub refusal_within : (text : List ℕ) (code : NetCode) (line column : ℕ) → NetRefusal text code (Text line column) → line ≤ length text + 1
refusal_within text code line column (inl stands) =
    let is = same_line line column _ _ stands.at_place in
    let feeds = count_by-le-length is_line_feed stands.front in
    let size = ap length stands.whole ∙ length-append stands.front stands.rest in
    omega arith
refusal_within text code line column (inr none) =
    let size = ap length none.text_of.text in
    let within = circuit_line code none.circuit line column none.fault in
    omega arith

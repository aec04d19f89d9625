-- A text is the text of one network at most.
use Rattle.std.proofs.Common.{◌≡◌, ◌≢◌, ℕ, ◌<◌, ◌≤◌, List, [], ◌∷◌, ◌++◌, All, refl, sym, ◌∙◌, arith, append_assoc}
use Rattle.std.proofs.lemmas.List.Elements.{recursion_from_All}
use Rattle.std.specs.Prelude.{codes}
use Rattle.std.specs.Fmt.{decimal}
use Rattle.std.specs.List.{AllByRecursion, flat_map}
use Rattle.switch_net.specs.Circuit.{Circuit}
use Rattle.switch_net.specs.ClockedLogic.{NamesBelow}
use Rattle.switch_net.specs.Validity.{IsNetwork}
use Rattle.switch_net.specs.declared.network.Pad.{Pad}
use Rattle.switch_net.specs.declared.network.Device.{Device}
use Rattle.switch_net.specs.declared.network.Device.TheVariants.{Pass, Load}
use Rattle.net_text.specs.NetworkText.{network_text, device_line, pad_line, IsNamed, IsNetworkText, TextIsOfOneNetwork}
use Rattle.net_text.proofs.ReadBack.{IsPlain, IsShort, kind, kind-pad_line, kind-device_line, pad_line_same, device_line_same, number_same, line_feed_ends, lines_same}

-- pads of a network are short enough to be read back
plain_pads : (pads : List Pad) (nets : ℕ) → All IsNamed pads → All (λ pad. pad.net.0 < nets) pads → nets ≤ 16777216 → AllByRecursion IsPlain pads
plain_pads pads nets named below few = recursion_from_All IsPlain pads (λ k d h. (named k d h, omega (arith, below k d h, few)))

-- so are its devices
short : (d : Device) (nets : ℕ) → NamesBelow nets d → nets ≤ 16777216 → IsShort d
short (Pass gate a b) nets below few = (omega arith, omega arith, omega arith)
short (Load net) nets below few = omega arith

-- so are all of them
short_devices : (devices : List Device) (nets : ℕ) → All (NamesBelow nets) devices → nets ≤ 16777216 → AllByRecursion IsShort devices
short_devices devices nets below few = recursion_from_All IsShort devices (λ k d h. short _ nets (below k d h) few)

-- after the pads no pad's line begins
no_pad : (devices : List Device) → kind (flat_map device_line devices ++ codes "end\n") ≢ 0
no_pad [] e = let clash : ◌≡◌ {A = ℕ} 2 0 = e in absurd (omega arith)
no_pad (d ∷ devices) e =
    let device : kind ((device_line d ++ flat_map device_line devices) ++ codes "end\n") ≡ 1 = rw append_assoc (kind-device_line d _) in
    let clash : ◌≡◌ {A = ℕ} 1 0 = sym device ∙ e in
    absurd (omega arith)

-- after the devices no device's line begins
no_device : kind (codes "end\n") ≢ 1
no_device e = let clash : ◌≡◌ {A = ℕ} 2 1 = e in absurd (omega arith)

-- circuits of the same parts are the same
circuit_of_same : (m n : ℕ) (ps qs : List Pad) (ds es : List Device) → m ≡ n → ps ≡ qs → ds ≡ es
    → ◌≡◌ {A = Circuit} (record { nets = m; pads = ps; devices = ds }) (record { nets = n; pads = qs; devices = es })
circuit_of_same m n ps qs ds es e f g = cc

-- the text of a circuit is that of one alone, where names are where they belong and nets are in range
pub same_circuit : (a b : Circuit) → network_text a ≡ network_text b → All IsNamed a.pads → All IsNamed b.pads
    → All (λ pad. pad.net.0 < a.nets) a.pads → All (λ pad. pad.net.0 < b.nets) b.pads → All (NamesBelow a.nets) a.devices → All (NamesBelow b.nets) b.devices
    → a.nets ≤ 16777216 → b.nets ≤ 16777216 → a ≡ b
same_circuit a b same names_a names_b pads_a pads_b devices_a devices_b few_a few_b =
    let lines = simp append_assoc at same in
    let numbers : decimal a.nets ++ (10 ∷ (flat_map pad_line a.pads ++ (flat_map device_line a.devices ++ codes "end\n")))
    ≡ decimal b.nets ++ (10 ∷ (flat_map pad_line b.pads ++ (flat_map device_line b.devices ++ codes "end\n"))) =
    cc lines in
    let nets = number_same a.nets b.nets 10 _ _ (omega arith) (omega arith) line_feed_ends numbers in
    let pads =
    lines_same pad_line IsPlain 0 kind-pad_line pad_line_same a.pads b.pads _ _
    (plain_pads _ _ names_a pads_a few_a) (plain_pads _ _ names_b pads_b few_b)
    (no_pad a.devices) (no_pad b.devices) nets.1 in
    let devices =
    lines_same device_line IsShort 1 kind-device_line device_line_same a.devices b.devices (codes "end\n") (codes "end\n")
    (short_devices _ _ devices_a few_a) (short_devices _ _ devices_b few_b)
    no_device no_device pads.1 in
    circuit_of_same a.nets b.nets a.pads b.pads a.devices b.devices nets.0 pads.0 devices.0

pub one_network : TextIsOfOneNetwork
one_network bytes a b text_a text_b =
    same_circuit a b (sym text_a.text_of.text ∙ text_b.text_of.text) text_a.text_of.named text_b.text_of.named
    text_a.network.pads_below text_b.network.pads_below text_a.network.devices_below text_b.network.devices_below
    text_a.text_of.few_nets text_b.text_of.few_nets

-- the text that is written of a network is that of this network alone
pub read_back : (circuit : Circuit) → IsNetwork circuit → All IsNamed circuit.pads → circuit.nets ≤ 16777216
    → IsNetworkText (network_text circuit) circuit × ((other : Circuit) → IsNetworkText (network_text circuit) other → other ≡ circuit)
read_back circuit network named few =
    let own : IsNetworkText (network_text circuit) circuit =
    record { text_of = record { text = refl; named = named; few_nets = few }; network = network } in
    (own, λ other text. one_network (network_text circuit) other circuit text own)

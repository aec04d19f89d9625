-- What a compiled circuit promises: its pads, and at each output the language of that output.
use Rattle.std.specs.Prelude.{◌≡◌, ◌↔◌, ◌⊎◌, ℕ, Bool, true, List, [], ◌∷◌, ◌++◌, Some, None, All, length, map, take, slice_get}
use Rattle.rx_text.specs.Role.{NamedRole}
use Rattle.rx_text.specs.declared.pad_name.Role.{Role}
use Rattle.rx_text.specs.declared.pad_name.Role.TheVariants.{Vdd, Gnd, Phi1, Phi2, Reset, Input, Output}
use Rattle.switch_net.specs.Circuit.{Circuit}
use Rattle.switch_net.specs.Settling.{Values}
use Rattle.switch_net.specs.Clock.{Run}
use Rattle.switch_net.specs.Ternary.{Levels, RunLevels, nothing_known}
use Rattle.switch_net.specs.declared.network.Level.TheVariants.{Low, High}
use Rattle.switch_net.specs.declared.network.Pad.{Pad}

-- a supply, a clock or the reset
abbrev pub plain_pad : Role → NamedRole
plain_pad role = record { role = role; name = None }

-- the pad of a line or an output
abbrev pub named_pad : Role → List ℕ → NamedRole
named_pad role name = record { role = role; name = Some name }

-- the names of a compiled circuit's pads, in order: supplies, clocks, reset, lines, outputs
abbrev pub pad_names : List (List ℕ) → List (List ℕ) → List NamedRole
pad_names lines outputs =
    plain_pad Vdd ∷ plain_pad Gnd ∷ plain_pad Phi1 ∷ plain_pad Phi2 ∷ plain_pad Reset
    ∷ (map (named_pad Input) lines ++ map (named_pad Output) outputs)

-- the circuit's pads bear the names of these lines and outputs, in order
abbrev pub HasPads : Circuit → List (List ℕ) → List (List ℕ) → Type 0
HasPads circuit lines outputs = map (λ pad. pad.name) circuit.pads ≡ pad_names lines outputs

-- the net in front of the others where the role is an output's
abbrev pub before_outputs : Role → ℕ → List ℕ → List ℕ
before_outputs Output net nets = net ∷ nets
before_outputs Vdd net nets = nets
before_outputs Gnd net nets = nets
before_outputs Phi1 net nets = nets
before_outputs Phi2 net nets = nets
before_outputs Reset net nets = nets
before_outputs Input net nets = nets

-- the nets of the outputs, in the order of the pads
abbrev pub output_nets : List Pad → List ℕ
output_nets [] = []
output_nets (pad ∷ pads) = before_outputs pad.name.role pad.net.0 (output_nets pads)

-- one vector for each clock, with this many bits
abbrev pub IsWordOf : ℕ → List (List Bool) → Type 0
IsWordOf width u = All (λ x. length x ≡ width) u

-- From all charges the circuit runs, and in every run each output is high after t clocks exactly where the first t vectors
-- lie in its language. After 0 clocks is after the reset clock.
pub record Recognises (circuit : Circuit) (width : ℕ) (language : ℕ → List (List Bool) → Type 0) : Type 0 where
  pub runs : (q : Values) (lines : List Bool) (u : List (List Bool)) → length lines ≡ width → IsWordOf width u
      → (vs : List Values) × Run circuit q lines u vs
  pub shows : (q : Values) (lines : List Bool) (u : List (List Bool)) → length lines ≡ width → IsWordOf width u
      → (vs : List Values) → Run circuit q lines u vs
      → (t output net : ℕ) (v : Values) → slice_get vs t ≡ Some v → slice_get (output_nets circuit.pads) output ≡ Some net
      → (v net ≡ true) ↔ language output (take t u)

-- In a ternary run from charges of which nothing is known each output is high or low after t clocks, and high exactly where
-- the first t vectors lie in its language.
abbrev pub ShowsSurely : Circuit → ℕ → (ℕ → List (List Bool) → Type 0) → Type 0
ShowsSurely circuit width language = (lines : List Bool) (u : List (List Bool)) → length lines ≡ width → IsWordOf width u
    → (ls : List Levels) → RunLevels circuit nothing_known lines u ls
    → (t output net : ℕ) (l : Levels) → slice_get ls t ≡ Some l → slice_get (output_nets circuit.pads) output ≡ Some net
    → ((l net ≡ High) × language output (take t u)) ⊎ ((l net ≡ Low) × (language output (take t u) → ⊥))

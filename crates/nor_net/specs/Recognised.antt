-- What a netlist's outputs say of the words that it reads.
use Rattle.std.specs.Prelude.{◌≡◌, ◌↔◌, ℕ, Bool, true, false, List, [], ◌∷◌, Some, length, take, slice_get}
use Rattle.switch_net.specs.Recognition.{output_nets, IsWordOf}
use Rattle.nor_net.specs.Netlist.{Netlist}
use Rattle.nor_net.specs.Evaluation.{value_at, clocked}

-- the values after each vector of the word, from these values on
abbrev pub clocked_along : Netlist → List (List Bool) → List Bool → List (List Bool)
clocked_along netlist [] values = []
clocked_along netlist (x ∷ u) values = clocked netlist false x values ∷ clocked_along netlist u (clocked netlist false x values)

-- the values after the reset clock, and after each vector of the word
abbrev pub clocked_run : Netlist → List Bool → List (List Bool) → List Bool → List (List Bool)
clocked_run netlist lines u values = clocked netlist true lines values ∷ clocked_along netlist u (clocked netlist true lines values)

-- From all values each output is high after t clocks exactly where the first t vectors lie in its language.
abbrev pub ShowsByClocks : Netlist → ℕ → (ℕ → List (List Bool) → Type 0) → Type 0
ShowsByClocks netlist width language = (state lines : List Bool) (u : List (List Bool)) → length state ≡ netlist.nets
    → length lines ≡ width → IsWordOf width u → (t output net : ℕ) (values : List Bool)
    → slice_get (clocked_run netlist lines u state) t ≡ Some values → slice_get (output_nets netlist.pads) output ≡ Some net
    → (value_at values net ≡ true) ↔ language output (take t u)

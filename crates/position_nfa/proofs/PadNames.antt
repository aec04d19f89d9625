-- The names of the pads of the registers, and how many nets there are.
use Rattle.std.proofs.Common.{◌≡◌, ℕ, suc, ◌+◌, ◌≤◌, List, [], ◌∷◌, ◌++◌, map, length, slice_index_or, refl, ap, ap₂, ◌∙◌, arith}
use Rattle.std.specs.List.{range_with_len}
use Rattle.std.proofs.lemmas.List.{map-append}
use Rattle.rx_text.specs.Role.{NamedRole}
use Rattle.rx_text.specs.declared.pad_name.Role.{Role}
use Rattle.rx_text.specs.declared.pad_name.Role.TheVariants.{Vdd, Gnd, Phi1, Phi2, Reset, Input, Output}
use Rattle.rx_lang.specs.Tables.{Tables, IsSpecification}
use Rattle.switch_net.specs.Recognition.{plain_pad, named_pad, pad_names}
use Rattle.switch_net.specs.declared.network.Pad.{Pad}
use Rattle.position_nfa.specs.Automaton.{Automaton, IsAutomaton}
use Rattle.position_nfa.specs.Registers.{array_counts, line_pad, output_pad, array_pads, register_netlist, steps, marked_states}
use Rattle.position_nfa.proofs.StateSteps.{few_steps, few_marked}
use Rattle.position_nfa.proofs.RegisterNetlist.{size}

no_more : (a : ℕ) → a ≡ a + 0
no_more a = omega arith

one_later : (a i : ℕ) → (a + 1) + i ≡ a + suc i
one_later a i = omega arith

from_none : (i : ℕ) → 0 + i ≡ i
from_none i = omega arith

-- a function of the elements by their places
by_place : {X : Type 0} (f : ℕ → X) (g : List ℕ → X) (names : List (List ℕ)) (first : ℕ)
    → ((i : ℕ) → f (first + i) ≡ g (slice_index_or names i [])) → map f (range_with_len first (length names)) ≡ map g names
by_place f g [] first h = refl
by_place f g (name ∷ names) first h =
    let here : f first ≡ g name = ap f (no_more first) ∙ h 0 in
    ap₂ ◌∷◌ here (by_place f g names (first + 1) (λ i. ap f (one_later first i) ∙ h (suc i)))

map_twice : {X Y Z : Type 0} (f : X → Y) (g : Y → Z) (xs : List X) → map g (map f xs) ≡ map (λ x. g (f x)) xs
map_twice f g [] = refl
map_twice f g (x ∷ xs) = ap (λ ys. g (f x) ∷ ys) (map_twice f g xs)

named : (pad : ℕ → Pad) (role : Role) (names : List (List ℕ)) → ((i : ℕ) → (pad i).name ≡ named_pad role (slice_index_or names i []))
    → map (λ (p : Pad). p.name) (map pad (range_with_len 0 (length names))) ≡ map (named_pad role) names
named pad role names h =
    map_twice pad (λ (p : Pad). p.name) (range_with_len 0 (length names))
    ∙ by_place (λ i. (pad i).name) (named_pad role) names 0 (λ i. ap (λ k. (pad k).name) (from_none i) ∙ h i)

pub names_of_pads : (nfa : Automaton) (tables : Tables) → map (λ (pad : Pad). pad.name) (register_netlist nfa tables).pads ≡ pad_names tables.lines tables.outputs
names_of_pads nfa tables =
    ap (λ (names : List NamedRole). plain_pad Vdd ∷ plain_pad Gnd ∷ plain_pad Phi1 ∷ plain_pad Phi2 ∷ plain_pad Reset ∷ names)
    (map-append (λ (pad : Pad). pad.name) (map (line_pad (array_counts nfa tables) tables.lines) (range_with_len 0 (length tables.lines)))
    (map (output_pad (array_counts nfa tables) tables.outputs) (range_with_len 0 (length tables.outputs)))
    ∙ ap₂ ◌++◌ (named (line_pad (array_counts nfa tables) tables.lines) Input tables.lines (λ i. refl))
    (named (output_pad (array_counts nfa tables) tables.outputs) Output tables.outputs (λ i. refl)))

pub few_nets : (nfa : Automaton) (tables : Tables) → IsAutomaton nfa → IsSpecification tables → (register_netlist nfa tables).nets ≤ 16777216
few_nets nfa tables automaton spec =
    let p = automaton.few in
    let l = spec.few_lines in
    let o = spec.few_outputs in
    let s = few_steps (length tables.symbols) nfa spec.few_symbols p in
    let m = few_marked nfa p in
    omega (arith, size nfa tables automaton spec, p, l, o, s, m)

-- The names of the pads, and how many nets there are.
use Rattle.std.proofs.Common.{◌≡◌, ℕ, suc, ◌+◌, ◌≤◌, List, [], ◌∷◌, ◌++◌, map, length, slice_index_or, refl, ap, ap₂, ◌∙◌, arith}
use Rattle.std.specs.List.{range_with_len}
use Rattle.std.proofs.lemmas.List.{map-append}
use Rattle.rx_text.specs.Role.{NamedRole}
use Rattle.rx_text.specs.declared.pad_name.Role.{Role}
use Rattle.rx_text.specs.declared.pad_name.Role.TheVariants.{Vdd, Gnd, Phi1, Phi2, Reset, Input, Output}
use Rattle.rx_lang.specs.Tables.{Tables}
use Rattle.switch_net.specs.Recognition.{plain_pad, named_pad, pad_names}
use Rattle.switch_net.specs.declared.network.Pad.{Pad}
use Rattle.cell_network.specs.declared.numbering.Counts.{Counts}
use Rattle.cell_network.specs.Home.{AreFew, line_net, output_net, whole_nets}
use Rattle.cell_network.specs.Whole.{pad_at, pads_from, pads_of}

no_more : (a : ℕ) → a ≡ a + 0
no_more a = omega arith

one_later : (a i : ℕ) → (a + 1) + i ≡ a + suc i
one_later a i = omega arith

from_none : (i : ℕ) → 0 + i ≡ i
from_none i = omega arith

-- a function of the elements by their places
by_place : {X : Type 0} (f : ℕ → X) (g : List ℕ → X) (names : List (List ℕ)) (first : ℕ)
    → ((i : ℕ) → f (first + i) ≡ g (slice_index_or names i [])) → map f (range_with_len first (length names)) ≡ map g names
by_place f g [] first h = refl
by_place f g (name ∷ names) first h =
    let here : f first ≡ g name = ap f (no_more first) ∙ h 0 in
    ap₂ ◌∷◌ here (by_place f g names (first + 1) (λ i. ap f (one_later first i) ∙ h (suc i)))

map_twice : {X Y Z : Type 0} (f : X → Y) (g : Y → Z) (xs : List X) → map g (map f xs) ≡ map (λ x. g (f x)) xs
map_twice f g [] = refl
map_twice f g (x ∷ xs) = ap (λ ys. g (f x) ∷ ys) (map_twice f g xs)

named : (role : Role) (net : ℕ) (names : List (List ℕ)) → map (λ (pad : Pad). pad.name) (pads_from role net names) ≡ map (named_pad role) names
named role net names =
    map_twice (pad_at role net names) (λ (pad : Pad). pad.name) (range_with_len 0 (length names))
    ∙ by_place (λ i. named_pad role (slice_index_or names i [])) (named_pad role) names 0 (λ i. ap (λ k. named_pad role (slice_index_or names k [])) (from_none i))

pub names_of_pads : (c : Counts) (tables : Tables) → map (λ (pad : Pad). pad.name) (pads_of c tables) ≡ pad_names tables.lines tables.outputs
names_of_pads c tables =
    ap (λ (names : List NamedRole). plain_pad Vdd ∷ plain_pad Gnd ∷ plain_pad Phi1 ∷ plain_pad Phi2 ∷ plain_pad Reset ∷ names)
    (map-append (λ (pad : Pad). pad.name) (pads_from Input (line_net c) tables.lines) (pads_from Output (output_net c) tables.outputs)
    ∙ ap₂ ◌++◌ (named Input (line_net c) tables.lines) (named Output (output_net c) tables.outputs))

pub few_nets : (c : Counts) → AreFew c → whole_nets c ≤ 16777216
few_nets c few = omega (arith, few.lines, few.symbols, few.outputs, few.nodes)

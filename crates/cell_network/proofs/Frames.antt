-- One more mismatch and one more symbol, as at the steps of the loops that decode symbols.
use Rattle.std.specs.Prelude.{flat_map}
use Rattle.std.proofs.Common.{◌≡◌, ℕ, ◌+◌, ◌<◌, List, [], ◌∷◌, ◌++◌, map, length, slice_index_or, refl, sym, ◌∙◌}
use Rattle.std.specs.List.{range_with_len}
use Rattle.std.proofs.lemmas.List.{get_or_default}
use Rattle.rx_lang.specs.declared.pattern.PatternBit.{PatternBit}
use Rattle.rx_lang.specs.declared.pattern.PatternBit.TheVariants.{Any}
use Rattle.rx_lang.specs.Specification.{NamedPattern}
use Rattle.nor_net.specs.Netlist.{NorGate}
use Rattle.cell_network.specs.declared.numbering.Numbering.{Numbering}
use Rattle.cell_network.specs.declared.part_net.PartNet.{PartNet}
use Rattle.cell_network.specs.declared.part_net.PartNet.TheVariants.{Symbol}
use Rattle.cell_network.specs.Shapes.{gate, numbered, mismatch, mismatches, symbol_gate}
use Rattle.cell_network.proofs.Adding.{gains, pieces_more, one_more}

pub mismatch_more : (pattern : List PatternBit) (i : ℕ) (d : PatternBit) (now later : List PartNet) → i < length pattern
    → now ≡ flat_map (λ line. mismatch line (slice_index_or pattern line Any)) (range_with_len 0 i)
    → later ≡ now ++ mismatch i (slice_index_or pattern i d)
    → later ≡ flat_map (λ line. mismatch line (slice_index_or pattern line Any)) (range_with_len 0 (i + 1))
mismatch_more pattern i d now later lt before step =
    step ∙ rw (before, get_or_default pattern i d Any lt)
    (sym (pieces_more (λ (line : ℕ). mismatch line (slice_index_or pattern line Any)) i))

pub symbol_more : (n : Numbering) (symbols : List NamedPattern) (s : ℕ) (one : NamedPattern) (inputs : List PartNet) (start now later : List NorGate)
    → s < length symbols → one ≡ slice_index_or symbols s one → inputs ≡ mismatches one.pattern
    → now ≡ start ++ map (numbered n) (map (symbol_gate symbols) (range_with_len 0 s))
    → later ≡ now ++ numbered n (gate (Symbol s) inputs) ∷ []
    → later ≡ start ++ map (numbered n) (map (symbol_gate symbols) (range_with_len 0 (s + 1)))
symbol_more n symbols s one inputs start now later lt here spelled before step =
    gains (numbered n) start now later _ (symbol_gate symbols s ∷ []) _ before
    (step ∙ rw (spelled, at) refl)
    (one_more (symbol_gate symbols) s)
  where
    at : one ≡ slice_index_or symbols s (record { name = []; pattern = [] })
    at = here ∙ get_or_default symbols s one (record { name = []; pattern = [] }) lt

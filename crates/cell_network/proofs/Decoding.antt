-- The wire of a symbol is high exactly where the vector matches the symbol's pattern.
use Rattle.std.specs.Prelude.{flat_map}
use Rattle.std.proofs.Common.{◌≡◌, ◌↔◌, ℕ, zero, suc, ◌+◌, ◌<◌, ◌&&◌, ◌||◌, not, Bool, true, false, List, [], ◌∷◌, map, length, drop, slice_get, slice_index_or, Option, Some, None, refl, ap, sym, ◌∙◌, arith, drop-cons}
use Rattle.std.specs.List.{list_any, range_with_len}
use Rattle.std.proofs.lemmas.Bool.{and_parts, and_from}
use Rattle.std.proofs.lemmas.List.{map-append}
use Rattle.std.proofs.lemmas.List.Folds.{list_any-append}
use Rattle.std.proofs.lemmas.Option.{slice_get-get_or}
use Rattle.rx_lang.specs.declared.pattern.PatternBit.{PatternBit}
use Rattle.rx_lang.specs.declared.pattern.PatternBit.TheVariants.{Zero, One, Any}
use Rattle.rx_lang.specs.Vector.{Bits, Agrees, Matches}
use Rattle.rx_lang.specs.Specification.{NamedPattern, MatchesSymbol}
use Rattle.rx_lang.specs.Tables.{Tables, IsSpecification}
use Rattle.star_normal.specs.Tables.{TreeTable, IsTree}
use Rattle.switch_net.specs.Clock.{Drive}
use Rattle.nor_net.specs.Evaluation.{value_at}
use Rattle.nor_net.specs.Equations.{Solves}
use Rattle.cell_network.specs.declared.numbering.Counts.{Counts}
use Rattle.cell_network.specs.declared.part_net.PartNet.{PartNet}
use Rattle.cell_network.specs.Laws.{TestsSymbols}
use Rattle.cell_network.specs.Shapes.{number, mismatch, mismatches, pattern_at}
use Rattle.cell_network.specs.Parts.{counts_of}
use Rattle.cell_network.specs.Home.{complement_net, symbol_net, frame_home}
use Rattle.cell_network.specs.Whole.{cells_of}
use Rattle.cell_network.proofs.Named.{NamesSymbols}
use Rattle.cell_network.proofs.PadNets as pads
use Rattle.cell_network.proofs.Wired.{complement_nor, symbol_nor}
use Rattle.cell_network.proofs.Solved.{nor_value, inverted}

-- ---- a test for matching

-- the bit is what this place of a pattern asks for
abbrev pub agrees : PatternBit → Bool → Bool
agrees Zero bit = not bit
agrees One bit = bit
agrees Any bit = true

abbrev pub matches : List PatternBit → Bits → Bool
matches [] [] = true
matches [] (bit ∷ x) = false
matches (place ∷ pattern) [] = false
matches (place ∷ pattern) (bit ∷ x) = agrees place bit && matches pattern x

abbrev pub matches_of : Option NamedPattern → Bits → Bool
matches_of None x = false
matches_of (Some declared) x = matches declared.pattern x

-- the vector matches the pattern of the symbol
abbrev pub passes : List NamedPattern → ℕ → Bits → Bool
passes symbols s x = matches_of (slice_get symbols s) x

agrees_tells : (place : PatternBit) (bit : Bool) → (agrees place bit ≡ true) ↔ Agrees place bit
agrees_tells Zero true = (λ e. absurd (cc), λ e. absurd (cc))
agrees_tells Zero false = (λ e. refl, λ e. refl)
agrees_tells One bit = (λ e. e, λ e. e)
agrees_tells Any bit = (λ e. tt, λ e. refl)

matches_tells : (pattern : List PatternBit) (x : Bits) → (matches pattern x ≡ true) ↔ Matches pattern x
matches_tells [] [] = (λ e. tt, λ e. refl)
matches_tells [] (bit ∷ x) = (λ e. absurd (cc), λ h. absurd h)
matches_tells (place ∷ pattern) [] = (λ e. absurd (cc), λ h. absurd h)
matches_tells (place ∷ pattern) (bit ∷ x) = (
  λ e. let both = and_parts (agrees place bit) (matches pattern x) e in ((agrees_tells place bit).0 both.0, (matches_tells pattern x).0 both.1),
  λ h. and_from (agrees place bit) (matches pattern x) ((agrees_tells place bit).1 h.0) ((matches_tells pattern x).1 h.1),
)

pub tests_symbols : (symbols : List NamedPattern) → TestsSymbols symbols (passes symbols)
tests_symbols symbols s x = by_entry (slice_get symbols s) refl
  where
    by_entry : (entry : Option NamedPattern) → slice_get symbols s ≡ entry → (matches_of (slice_get symbols s) x ≡ true) ↔ MatchesSymbol symbols s x
    by_entry None e = (λ h. let f : false ≡ true = rw e at h in absurd (cc), λ h. let clash : None ≡ Some h.0 = sym e ∙ h.1 in absurd (cc))
    by_entry (Some declared) e = (
      λ h. (declared, e, (matches_tells declared.pattern x).0 (rw e at h)),
      λ h. let same : declared ≡ h.0 = (let g : Some declared ≡ Some h.0 = sym e ∙ h.1 in cc) in rw e ((matches_tells declared.pattern x).1 (rw same h.2)),
    )

-- ---- the wires

not_or : (a b : Bool) → not (a || b) ≡ (not a && not b)
not_or true b = refl
not_or false b = refl

module _ (tree : TreeTable) (tables : Tables) (t : IsTree tree) (spec : IsSpecification tables) (named : NamesSymbols (length tables.symbols) tree.nodes) where
  abbrev c : Counts
  c = counts_of tree tables

  module _ (drive : Drive) (old new : List Bool) (h : Solves (cells_of tree tables) drive old new) where
    abbrev val : ℕ → Bool
    val net = value_at new net

    line_value : (i : ℕ) → i < length tables.lines → val (5 + i) ≡ slice_index_or drive.lines i false
    line_value i lt = h.pads (5 + i) (slice_index_or drive.lines i false) (omega arith) (pads.line_fixed c tables refl refl drive i lt)

    pub reset_value : val 4 ≡ drive.reset
    reset_value = h.pads 4 drive.reset (omega arith) (pads.reset_fixed c tables refl refl drive)

    complement_value : (i : ℕ) → i < length tables.lines → val (complement_net c + i) ≡ not (slice_index_or drive.lines i false)
    complement_value i lt =
        inverted tree tables t spec named drive old new h (complement_net c + i) (5 + i) (omega arith) (complement_nor tree tables t spec named i lt)
        ∙ ap not (line_value i lt)

    abbrev nets : List PartNet → List ℕ
    nets xs = map (number (frame_home c tree.root)) xs

    mismatch_any : (i : ℕ) (place : PatternBit) → i < length tables.lines
        → not (list_any (value_at new) (nets (mismatch i place))) ≡ agrees place (slice_index_or drive.lines i false)
    mismatch_any i Zero lt = rw (line_value i lt) (not_or (slice_index_or drive.lines i false) false ∙ last (not (slice_index_or drive.lines i false)))
      where
        last : (b : Bool) → (b && true) ≡ b
        last true = refl
        last false = refl
    mismatch_any i One lt = rw (complement_value i lt) (not_or (not (slice_index_or drive.lines i false)) false ∙ last (slice_index_or drive.lines i false))
      where
        last : (b : Bool) → (not (not b) && true) ≡ b
        last true = refl
        last false = refl
    mismatch_any i Any lt = refl

    -- the places from one on, and the bits of their lines
    mismatches_any : (pattern : List PatternBit) → length pattern ≡ length tables.lines → length drive.lines ≡ length tables.lines → (k n : ℕ) → k + n ≡ length pattern
        → not (list_any (value_at new) (nets (flat_map (λ i. mismatch i (slice_index_or pattern i Any)) (range_with_len k n))))
        ≡ matches (drop k pattern) (drop k drive.lines)
    mismatches_any pattern size wide k zero e =
        rw (all_dropped pattern k (omega (arith, e)), all_dropped drive.lines k (omega (arith, e, size, wide))) refl
      where
        all_dropped : {X : Type 0} (xs : List X) (j : ℕ) → length xs ≡ j → drop j xs ≡ []
        all_dropped [] zero f = refl
        all_dropped [] (suc j) f = refl
        all_dropped (x ∷ xs) zero f = absurd (omega (arith, f))
        all_dropped (x ∷ xs) (suc j) f = all_dropped xs j (omega (arith, f))
    mismatches_any pattern size wide k (suc n) e =
        let p : PatternBit = slice_index_or pattern k Any in
        let next : suc k ≡ k + 1 = omega arith in
        let later : List PartNet = flat_map (λ i. mismatch i (slice_index_or pattern i Any)) (range_with_len (k + 1) n) in
        rw (
          drop-cons pattern k Any (omega (arith, e)),
          drop-cons drive.lines k false (omega (arith, e, size, wide)),
          map-append (number (frame_home c tree.root)) (mismatch k p) later,
          list_any-append (value_at new) (nets (mismatch k p)) (nets later),
          not_or (list_any (value_at new) (nets (mismatch k p))) (list_any (value_at new) (nets later)),
          mismatch_any k p (omega (arith, e, size)),
          mismatches_any pattern size wide (k + 1) n (omega (arith, e)),
        )
        (ap (λ (j : ℕ). agrees p (slice_index_or drive.lines k false) && matches (drop j pattern) (drop j drive.lines)) (sym next))

    pub symbol_value : (s : ℕ) → s < length tables.symbols → length drive.lines ≡ length tables.lines → val (symbol_net c + s) ≡ passes tables.symbols s drive.lines
    symbol_value s lt wide =
        let size : length (pattern_at tables.symbols s) ≡ length tables.lines = spec.place_per_line s (record { name = []; pattern = [] }) lt in
        nor_value tree tables t spec named drive old new h (symbol_net c + s) (nets (mismatches (pattern_at tables.symbols s))) (omega arith)
        (symbol_nor tree tables t spec named s lt)
        ∙ mismatches_any (pattern_at tables.symbols s) size wide 0 (length (pattern_at tables.symbols s)) (omega arith)
        ∙ sym (ap (λ (entry : Option NamedPattern). matches_of entry drive.lines) (slice_get-get_or tables.symbols s (record { name = []; pattern = [] }) lt))

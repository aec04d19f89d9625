-- The literals of a symbol's pattern are all low exactly where the vector matches it.
use Rattle.std.specs.Prelude.{flat_map}
use Rattle.std.proofs.Common.{◌≡◌, ◌↔◌, ℕ, zero, suc, ◌+◌, ◌<◌, ◌&&◌, ◌||◌, not, Bool, true, false, List, [], ◌∷◌, map, length, drop, slice_get, slice_index_or, Option, Some, None, refl, ap, sym, ◌∙◌, arith, drop-cons}
use Rattle.std.specs.List.{list_any, range_with_len}
use Rattle.std.proofs.lemmas.Bool.{and_parts, and_from}
use Rattle.std.proofs.lemmas.List.Folds.{list_any-append}
use Rattle.std.proofs.lemmas.Option.{slice_get-get_or}
use Rattle.rx_lang.specs.declared.pattern.PatternBit.{PatternBit}
use Rattle.rx_lang.specs.declared.pattern.PatternBit.TheVariants.{Zero, One, Any}
use Rattle.rx_lang.specs.Vector.{Bits, Agrees, Matches}
use Rattle.rx_lang.specs.Specification.{NamedPattern, MatchesSymbol}
use Rattle.nor_net.specs.Evaluation.{value_at}
use Rattle.position_nfa.specs.declared.array_nets.ArrayCounts.{ArrayCounts}
use Rattle.position_nfa.specs.Registers.{line_net, complement_net, literal, literals, pattern_at}

-- the bit is what this place of a pattern asks for
abbrev pub agrees : PatternBit → Bool → Bool
agrees Zero bit = not bit
agrees One bit = bit
agrees Any bit = true

abbrev pub matches : List PatternBit → Bits → Bool
matches [] [] = true
matches [] (bit ∷ x) = false
matches (place ∷ pattern) [] = false
matches (place ∷ pattern) (bit ∷ x) = agrees place bit && matches pattern x

agrees_tells : (place : PatternBit) (bit : Bool) → (agrees place bit ≡ true) ↔ Agrees place bit
agrees_tells Zero true = (λ e. absurd (cc), λ e. absurd (cc))
agrees_tells Zero false = (λ e. refl, λ e. refl)
agrees_tells One bit = (λ e. e, λ e. e)
agrees_tells Any bit = (λ e. tt, λ e. refl)

pub matches_tells : (pattern : List PatternBit) (x : Bits) → (matches pattern x ≡ true) ↔ Matches pattern x
matches_tells [] [] = (λ e. tt, λ e. refl)
matches_tells [] (bit ∷ x) = (λ e. absurd (cc), λ h. absurd h)
matches_tells (place ∷ pattern) [] = (λ e. absurd (cc), λ h. absurd h)
matches_tells (place ∷ pattern) (bit ∷ x) = (
  λ e. let both = and_parts (agrees place bit) (matches pattern x) e in ((agrees_tells place bit).0 both.0, (matches_tells pattern x).0 both.1),
  λ h. and_from (agrees place bit) (matches pattern x) ((agrees_tells place bit).1 h.0) ((matches_tells pattern x).1 h.1),
)

not_or : (a b : Bool) → not (a || b) ≡ (not a && not b)
not_or true b = refl
not_or false b = refl

last_low : (b : Bool) → (not b && true) ≡ not b
last_low true = refl
last_low false = refl

last_high : (b : Bool) → (not (not b) && true) ≡ b
last_high true = refl
last_high false = refl

module _ (c : ArrayCounts) (lines : Bits) (values : List Bool) (wide : length lines ≡ c.lines)
    (line : (i : ℕ) → i < c.lines → value_at values (line_net c i) ≡ slice_index_or lines i false)
    (complement : (i : ℕ) → i < c.lines → value_at values (complement_net c i) ≡ not (slice_index_or lines i false)) where
  literal_any : (i : ℕ) (place : PatternBit) → i < c.lines → not (list_any (value_at values) (literal c i place)) ≡ agrees place (slice_index_or lines i false)
  literal_any i Zero lt = rw (line i lt) (not_or (slice_index_or lines i false) false ∙ last_low (slice_index_or lines i false))
  literal_any i One lt = rw (complement i lt) (not_or (not (slice_index_or lines i false)) false ∙ last_high (slice_index_or lines i false))
  literal_any i Any lt = refl

  all_dropped : {X : Type 0} (xs : List X) (j : ℕ) → length xs ≡ j → drop j xs ≡ []
  all_dropped [] zero f = refl
  all_dropped [] (suc j) f = refl
  all_dropped (x ∷ xs) zero f = absurd (omega (arith, f))
  all_dropped (x ∷ xs) (suc j) f = all_dropped xs j (omega (arith, f))

  literals_any : (pattern : List PatternBit) → length pattern ≡ c.lines → (k n : ℕ) → k + n ≡ length pattern
      → not (list_any (value_at values) (flat_map (λ i. literal c i (slice_index_or pattern i Any)) (range_with_len k n))) ≡ matches (drop k pattern) (drop k lines)
  literals_any pattern size k zero e = rw (all_dropped pattern k (omega (arith, e)), all_dropped lines k (omega (arith, e, size, wide))) refl
  literals_any pattern size k (suc n) e =
      let p : PatternBit = slice_index_or pattern k Any in
      let next : suc k ≡ k + 1 = omega arith in
      let later : List ℕ = flat_map (λ i. literal c i (slice_index_or pattern i Any)) (range_with_len (k + 1) n) in
      rw (
        drop-cons pattern k Any (omega (arith, e)),
        drop-cons lines k false (omega (arith, e, size, wide)),
        list_any-append (value_at values) (literal c k p) later,
        not_or (list_any (value_at values) (literal c k p)) (list_any (value_at values) later),
        literal_any k p (omega (arith, e, size)),
        literals_any pattern size (k + 1) n (omega (arith, e)),
      )
      (ap (λ (j : ℕ). agrees p (slice_index_or lines k false) && matches (drop j pattern) (drop j lines)) (sym next))

  pub literals_tell : (pattern : List PatternBit) → length pattern ≡ c.lines → not (list_any (value_at values) (literals c pattern)) ≡ matches pattern lines
  literals_tell pattern size = literals_any pattern size 0 (length pattern) (omega arith)

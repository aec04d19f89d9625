-- The inputs of the gate that decodes a symbol: each line once, or its complement.
use Rattle.std.proofs.Common.{◌≡◌, ◌≢◌, ◌⊎◌, inl, inr, ℕ, ◌+◌, ◌<◌, List, length, slice_index_or, refl, arith}
use Rattle.std.specs.List.{AllByRecursion}
use Rattle.rx_lang.specs.declared.pattern.PatternBit.{PatternBit}
use Rattle.rx_lang.specs.declared.pattern.PatternBit.TheVariants.{Zero, One, Any}
use Rattle.cell_network.specs.declared.numbering.Numbering.{Numbering}
use Rattle.cell_network.specs.declared.part_net.PartNet.{PartNet}
use Rattle.cell_network.specs.declared.part_net.PartNet.TheVariants.{Line, Complement}
use Rattle.cell_network.specs.Shapes.{number, mismatch, mismatches}
use Rattle.cell_network.proofs.Ranges.{Pairs, each_piece, each_across, pairs_pieces}

-- what holds of a line and of its complement holds of a mismatch of it
mismatch_each : (P : PartNet → Type 0) (line : ℕ) (place : PatternBit) → P (Line line) → P (Complement line) → AllByRecursion P (mismatch line place)
mismatch_each P line Zero h k = (h, tt)
mismatch_each P line One h k = (k, tt)
mismatch_each P line Any h k = tt

pub mismatches_each : (P : PartNet → Type 0) (pattern : List PatternBit) → ((line : ℕ) → line < length pattern → P (Line line) × P (Complement line))
    → AllByRecursion P (mismatches pattern)
mismatches_each P pattern h =
    each_piece P (λ line. mismatch line (slice_index_or pattern line Any)) 0 (length pattern)
    (λ line l lt. let both = h line (omega arith) in mismatch_each P line (slice_index_or pattern line Any) both.0 both.1)

-- where the complements are numbered on from the lines
module _ (n : Numbering) (count : ℕ) (behind : n.complements ≡ n.lines + count) where
  abbrev OfLine : ℕ → PartNet → Type 0
  OfLine line net = (number n net ≡ n.lines + line) ⊎ (number n net ≡ n.complements + line)

  lines_differ : (i j : ℕ) → i < j → j < count → (a b : PartNet) → OfLine i a → OfLine j b → number n a ≢ number n b
  lines_differ i j lt jl a b (inl e) (inl f) same = omega (arith, e, f, same)
  lines_differ i j lt jl a b (inl e) (inr f) same = omega (arith, e, f, same)
  lines_differ i j lt jl a b (inr e) (inl f) same = omega (arith, e, f, same)
  lines_differ i j lt jl a b (inr e) (inr f) same = omega (arith, e, f, same)

  lone : (line : ℕ) (place : PatternBit) → Pairs (λ (a b : PartNet). number n a ≢ number n b) (mismatch line place)
  lone line Zero = (tt, tt)
  lone line One = (tt, tt)
  lone line Any = tt

  pub mismatches_distinct : (pattern : List PatternBit) → length pattern ≡ count → Pairs (λ (a b : PartNet). number n a ≢ number n b) (mismatches pattern)
  mismatches_distinct pattern size =
      pairs_pieces (λ (a b : PartNet). number n a ≢ number n b) (λ line. mismatch line (slice_index_or pattern line Any)) 0 (length pattern)
      (λ line l lt. lone line (slice_index_or pattern line Any))
      (λ i j l lt jl.
      each_across (OfLine i) (OfLine j) (λ (a b : PartNet). number n a ≢ number n b) (lines_differ i j lt (omega (arith, jl, size)))
      (mismatch i (slice_index_or pattern i Any)) (mismatch j (slice_index_or pattern j Any))
      (mismatch_each (OfLine i) i (slice_index_or pattern i Any) (inl refl) (inr refl))
      (mismatch_each (OfLine j) j (slice_index_or pattern j Any) (inl refl) (inr refl)))

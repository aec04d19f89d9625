-- Input vectors, and the patterns that they match.
use Rattle.std.specs.Prelude.{◌≡◌, ℕ, Bool, true, false, ◌==◌, List, [], ◌∷◌, map, ⊤}
use Rattle.std.specs.List.{range_with_len}
use Rattle.std.specs.Int.{bit_at}
use Rattle.rx_lang.specs.declared.vector.Vector.{Vector}
use Rattle.rx_lang.specs.declared.pattern.PatternBit.{PatternBit}
use Rattle.rx_lang.specs.declared.pattern.PatternBit.TheVariants.{Zero, One, Any}

-- An input vector has one bit for each line.
abbrev pub Bits : Type 0
Bits = List Bool

-- the bits of so many lines, the first line's first
abbrev pub bits_of : ℕ → Vector → Bits
bits_of lines vector = map (λ line. bit_at vector.bits line == 1) (range_with_len 0 lines)

-- the bit is what this place of a pattern asks for
abbrev pub Agrees : PatternBit → Bool → Type 0
Agrees Zero bit = bit ≡ false
Agrees One bit = bit ≡ true
Agrees Any bit = ⊤

-- The vector has a bit for each place of the pattern, and agrees with it there.
abbrev pub Matches : List PatternBit → Bits → Type 0
Matches [] [] = ⊤
Matches [] (bit ∷ x) = ⊥
Matches (place ∷ pattern) [] = ⊥
Matches (place ∷ pattern) (bit ∷ x) = Agrees place bit × Matches pattern x

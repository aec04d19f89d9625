-- Steps of reading a trace.
use Rattle.std.specs.Prelude.{◌≡◌, ℕ, zero, suc, ◌+◌, ◌<◌, ◌==◌, not, Bool, true, List, [], ◌∷◌, ◌++◌, map, take, drop, length, All, Option, Some, None, Result, Ok, Err, if◌then◌else◌}
use Rattle.rx_text.specs.TextPlace.{is_line_feed}
use Rattle.switch_sim.specs.TraceCuts.{cut, AreEnds}
use Rattle.switch_sim.specs.TraceTexts.{is_bit, is_chip, line_fault, chip_word, lines_of, first_fault}
use Rattle.switch_sim.specs.declared.trace.Line.{Line}
use Rattle.switch_sim.specs.declared.trace.Line.TheVariants.{Chip, Vector}
use Rattle.switch_sim.specs.declared.trace_code.TraceSpot.{TraceSpot}

abbrev pub not_line_feed : ℕ → Bool
not_line_feed byte = not (is_line_feed byte)

-- the bits of a line
abbrev pub bits_in : List ℕ → List Bool
bits_in line = map (λ byte. byte == 49) line

-- a line of a vector stands at the front of the rest, and the faults are those of what is behind it
pub record IsVectorLine (rest : List ℕ) (at count width : ℕ) : Type 0 where
  pub below : width < length rest
  pub cut : rest ≡ take width rest ++ 10 ∷ drop (width + 1) rest
  pub bits : All (λ byte. is_bit byte ≡ true) (take width rest)
  pub filled : 0 < width
  pub few : count < 10000
  pub later : first_fault count at (lines_of rest) ≡ first_fault (count + 1) (at + width + 1) (lines_of (drop (width + 1) rest))

-- the line `chip` stands at the front of the rest
pub record IsChipLine (rest : List ℕ) (at count : ℕ) : Type 0 where
  pub within : 4 < length rest
  pub cut : rest ≡ chip_word ++ 10 ∷ drop 5 rest
  pub faultless : first_fault count at (lines_of rest) ≡ None

-- what stands at the front of the rest, where so many lines are before it and it begins at this place
abbrev pub LineAt : List ℕ → ℕ → ℕ → Line → Type 0
LineAt rest at count Chip = IsChipLine rest at count
LineAt rest at count (Vector width) = IsVectorLine rest at count width

abbrev pub unless_fault : Option TraceSpot → ℕ → Result Line TraceSpot
unless_fault None width = Ok (Vector width)
unless_fault (Some spot) width = Err spot

-- what a line is that a line feed ends
abbrev pub ended_line : ℕ → ℕ → List ℕ → Result Line TraceSpot
ended_line count at line = if is_chip line then Ok Chip else unless_fault (line_fault count at line) (length line)

-- ---- the vectors of a trace so far

-- where the vector of this number begins
abbrev pub start_from : ℕ → List ℕ → ℕ → ℕ
start_from from ends zero = from
start_from from [] (suc at) = from
start_from from (end ∷ ends) (suc at) = start_from end ends at

-- one more vector
pub record TakesVector (ends : List ℕ) (bits : List Bool) (ends_new : List ℕ) (bits_new vector : List Bool) : Type 0 where
  pub cuts : AreEnds 0 ends_new bits_new
  pub vectors : cut 0 ends_new bits_new ≡ cut 0 ends bits ++ vector ∷ []
  pub count : length ends_new ≡ length ends + 1

-- Symbols by their numbers.
use Rattle.std.specs.Prelude.{◌≡◌, ◌≢◌, ℕ, ◌<◌, List, length, Option, Some, None, slice_index_or}
use Rattle.geom.specs.Rows.{Among}
use Rattle.cif_drawing.specs.declared.ink.Symbol.{Symbol}

-- The symbol at this index alone has the number.
pub record IsIndex (symbols : List Symbol) (n k : ℕ) : Type 0 where
  pub within : k < length symbols
  pub has : (d : Symbol) → (slice_index_or symbols k d).number ≡ n
  pub alone : (j : ℕ) (d : Symbol) → j < length symbols → (slice_index_or symbols j d).number ≡ n → j ≡ k

-- The index of the symbol of this number, or none where no symbol has it.
abbrev pub IsIndexOf : List Symbol → ℕ → Option ℕ → Type 0
IsIndexOf symbols n None = (s : Symbol) → Among symbols s → s.number ≢ n
IsIndexOf symbols n (Some k) = IsIndex symbols n k

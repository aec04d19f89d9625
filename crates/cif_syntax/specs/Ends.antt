-- Where sentences of CIF texts end, or break.
use Rattle.std.specs.Prelude.{◌≡◌, ◌⊎◌, ℕ, ◌-◌, ◌≤◌, ◌<◌, List, length, take, drop}
use Rattle.geom.specs.CifRefusals.{IsSentence, BreaksCommand, CutsCommand}

-- the bytes from one place up to another
abbrev pub between : List ℕ → ℕ → ℕ → List ℕ
between text from to = take (to - from) (drop from text)

-- The bytes from one place up to another are a sentence.
pub record EndsAt (text : List ℕ) (from to : ℕ) : Type 0 where
  pub order : from ≤ to
  pub within : to ≤ length text
  pub sentence : IsSentence (between text from to)

-- The byte at this place breaks the sentence that begins at the other, or the text ends there, within a sentence.
pub record BreaksAt (text : List ℕ) (from at : ℕ) : Type 0 where
  pub order : from ≤ at
  pub within : at ≤ length text
  pub how : ((at < length text) × BreaksCommand (between text from at) (drop at text)) ⊎ ((at ≡ length text) × CutsCommand (drop from text))

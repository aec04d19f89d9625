-- What a call did to the bytes that a source has left and to those that a sink holds, where they are known.
use Rattle.std.specs.Prelude.{◌≡◌, ℕ, ◌+◌, ◌<◌, ◌≤◌, List, [], ◌++◌, length, Option, Result, None, Some, IfOk, ⊤}
use Rattle.std.specs.Io.KnownBytes.{Appends, Consumes}

-- `write(piece)` took at least one byte at `Ok`, if the piece has any
abbrev pub TakesSome : {E : Type 0} → Result ℕ E → List ℕ → Type 0
TakesSome result piece = IfOk result (λ count. 0 < length piece → 0 < count)

-- known bytes grow by a front of the piece, perhaps by none of it
pub record AppendsFront (old new : Option (List ℕ)) (piece : List ℕ) : Type 0 where
  pub front : List ℕ
  pub rest : List ℕ
  pub whole : piece ≡ front ++ rest
  pub appends : Appends old new front

-- known bytes lose a front of at most this many
pub record LosesUpTo (old new : Option (List ℕ)) (most : ℕ) : Type 0 where
  pub front : List ℕ
  pub consumes : Consumes old new front
  pub within : length front ≤ most

-- how many bytes one read of a whole source asks for
abbrev pub read_size : ℕ
read_size = 65536

-- known bytes lose a front of more than this many, by at most so many
pub record LosesBeyond (old new : Option (List ℕ)) (most more : ℕ) : Type 0 where
  pub front : List ℕ
  pub consumes : Consumes old new front
  pub beyond : most < length front
  pub within : length front ≤ most + more

-- the known bytes are these, and none is left
abbrev pub GivesAll : Option (List ℕ) → Option (List ℕ) → List ℕ → Type 0
GivesAll None new bytes = ⊤
GivesAll (Some text) new bytes = (bytes ≡ text) × (new ≡ Some [])

-- there are more than this many bytes, if they are known
abbrev pub IsLongerThan : Option (List ℕ) → ℕ → Type 0
IsLongerThan None most = ⊤
IsLongerThan (Some text) most = most < length text

-- What a sink takes of pieces.
use Rattle.std.specs.Prelude.{ℕ, List, Option, Result, MatchResult}
use Rattle.std.specs.Io.KnownBytes.{Appends}
use Rattle.rx_io.specs.Streams.{AppendsFront}

-- the sink took the text at `Ok`, and a front of it at `Err`
abbrev pub TakesText : {E : Type 0} → Result Unit E → Option (List ℕ) → Option (List ℕ) → List ℕ → Type 0
TakesText result held_old held_new text = MatchResult result (λ _. Appends held_old held_new text) (λ _. AppendsFront held_old held_new text)

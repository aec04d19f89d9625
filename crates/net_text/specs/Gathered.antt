-- What a sink has gained while bytes for it are gathered in front of it.
use Rattle.std.specs.Prelude.{◌≡◌, ℕ, List, ◌++◌, Option, Result, MatchResult}
use Rattle.std.specs.Io.KnownBytes.{Appends}
use Rattle.rx_io.specs.Streams.{AppendsFront}

-- The sink gained bytes. With those that wait now they are those that waited before, and then the text.
pub record Gathers (held_old held_new : Option (List ℕ)) (waiting_old waiting_new text : List ℕ) : Type 0 where
  pub gained : List ℕ
  pub appended : Appends held_old held_new gained
  pub in_order : waiting_old ++ text ≡ gained ++ waiting_new

-- the text was gathered at `Ok`; at `Err` the sink gained a front of the bytes that waited and the text
abbrev pub PutsBehind : {A E : Type 0} → Result A E → Option (List ℕ) → Option (List ℕ) → List ℕ → List ℕ → List ℕ → Type 0
PutsBehind result held_old held_new waiting_old waiting_new text =
    MatchResult result
    (λ _. Gathers held_old held_new waiting_old waiting_new text)
    (λ _. AppendsFront held_old held_new (waiting_old ++ text))

-- What a command does with its input.
use Rattle.std.specs.Prelude.{◌≡◌, ◌⊎◌, ℕ, ◌<◌, Bool, true, List, length}
use Rattle.rx_text.specs.declared.place.Place.{Place}
use Rattle.rx_text.specs.declared.place.Place.TheVariants.{Whole}
use Rattle.rxc_program.specs.declared.status.Code.{Code}
use Rattle.rxc_program.specs.declared.status.Code.TheVariants.{I1}
use Rattle.rxc_program.specs.declared.status.Status.{Status}

-- Which texts a command accepts, why it refuses the others, and what it writes.
pub record Behaviour : Type 1 where
  -- it reads its input to the end; else it leaves the source alone, and its text is empty
  pub reads : Bool
  -- it takes all memory before the first byte is written
  pub memory_first : Bool
  -- it accepts the text
  pub Accepts : List ℕ → Type 0
  -- the text breaks this condition at this place, before any other
  pub Breaks : List ℕ → Code → Place → Type 0
  -- on the text it may write this output, and ends so where that stands whole
  pub Outputs : List ℕ → List ℕ → Status → Type 0

-- the most bytes of an input
abbrev pub most_input_bytes : ℕ
most_input_bytes = 67108864

-- the command reads the input and it is too long
abbrev pub IsTooLong : Behaviour → List ℕ → Type 0
IsTooLong does text = (does.reads ≡ true) × (most_input_bytes < length text)

-- The input is accepted: it is not too long, and a text that the command accepts.
pub record IsAcceptedInput (does : Behaviour) (text : List ℕ) : Type 0 where
  pub within : IsTooLong does text → ⊥
  pub accepts : does.Accepts text

-- The input is refused: it is too long, or else it breaks a condition of the command.
abbrev pub IsRefusedInput : Behaviour → List ℕ → Code → Place → Type 0
IsRefusedInput does text code place =
    ((code ≡ I1) × (place ≡ Whole) × IsTooLong does text) ⊎ ((IsTooLong does text → ⊥) × does.Breaks text code place)

-- No input is both accepted and refused, and none is refused for two reasons.
pub record InputsAreJudged (does : Behaviour) : Type 0 where
  pub never_both : (text : List ℕ) (code : Code) (place : Place) → IsAcceptedInput does text → IsRefusedInput does text code place → ⊥
  pub one_reason : (text : List ℕ) (one other : Code) (here there : Place)
      → IsRefusedInput does text one here → IsRefusedInput does text other there → (one ≡ other) × (here ≡ there)

-- The input is accepted or refused.
abbrev pub IsDecided : Behaviour → List ℕ → Type 0
IsDecided does text = IsAcceptedInput does text ⊎ ((code : Code) × (place : Place) × IsRefusedInput does text code place)

-- How a run of a command ends, by what it read and wrote.
use Rattle.std.specs.Prelude.{◌≡◌, ◌⊎◌, ℕ, ◌≤◌, Bool, true, false, List, [], Option, length, ⊤}
use Rattle.std.specs.Io.KnownBytes.{Appends}
use Rattle.rx_io.specs.Causes.{Rose}
use Rattle.rx_io.specs.Streams.{AppendsFront, GivesAll, LosesBeyond, LosesUpTo}
use Rattle.rx_text.specs.declared.place.Place.{Place}
use Rattle.rx_text.specs.declared.place.Place.TheVariants.{Whole}
use Rattle.rxc_program.specs.Behaviour.{Behaviour, IsAcceptedInput, IsRefusedInput, most_input_bytes}
use Rattle.rxc_program.specs.declared.status.Code.{Code}
use Rattle.rxc_program.specs.declared.status.Code.TheVariants.{I1}
use Rattle.rxc_program.specs.declared.status.Status.{Status}
use Rattle.rxc_program.specs.declared.status.Status.TheVariants.{Done, Refused, Usage, ReadFault, WriteFault, NoMemory}

-- A source or a sink before and after a run: the bytes that it has left or holds, where they are known, and how often it failed.
pub record Change (X : Type 0) : Type 0 where
  pub bytes : X → Option (List ℕ)
  pub faults : X → ℕ
  pub before : X
  pub after : X

abbrev pub change : {X : Type 0} → (X → Option (List ℕ)) → (X → ℕ) → X → X → Change X
change bytes faults before after = record { bytes = bytes; faults = faults; before = before; after = after }

-- the run left it alone
abbrev pub Untouched : {X : Type 0} → Change X → Type 0
Untouched side = side.after ≡ side.before

-- it failed in the run
abbrev pub HasFailed : {X : Type 0} → Change X → Type 0
HasFailed side = Rose (side.faults side.before) (side.faults side.after)

-- the sink gained these bytes
abbrev pub Gained : {X : Type 0} → Change X → List ℕ → Type 0
Gained sink bytes = Appends (sink.bytes sink.before) (sink.bytes sink.after) bytes

-- the sink gained a front of these bytes, perhaps nothing
abbrev pub GainedFront : {X : Type 0} → Change X → List ℕ → Type 0
GainedFront sink bytes = AppendsFront (sink.bytes sink.before) (sink.bytes sink.after) bytes

-- the source lost no more than the longest input has
abbrev pub LostInput : {X : Type 0} → Change X → Type 0
LostInput source = LosesUpTo (source.bytes source.before) (source.bytes source.after) most_input_bytes

-- The text was read: the source gave it to its end, and it is not too long. Where nothing is read, the source is untouched.
abbrev pub HasRead : {X : Type 0} → Bool → Change X → List ℕ → Type 0
HasRead true source text = GivesAll (source.bytes source.before) (source.bytes source.after) text × (length text ≤ most_input_bytes)
HasRead false source text = Untouched source × (text ≡ [])

-- The source gave too many bytes, and was left at most 65,536 bytes later.
abbrev pub GaveTooMuch : {X : Type 0} → Change X → Type 0
GaveTooMuch source = LosesBeyond (source.bytes source.before) (source.bytes source.after) most_input_bytes 65536

module _ {Source Sink : Type 0} (does : Behaviour) (source : Change Source) (sink : Change Sink) where
  -- A text was read, and an output of it written whole, which ends so.
  pub record WroteWhole (status : Status) : Type 0 where
    pub text : List ℕ
    pub read : HasRead does.reads source text
    pub output : List ℕ
    pub outputs : does.Outputs text output status
    pub gained : Gained sink output

  -- A text was read, and a front of an output of it written, perhaps nothing.
  pub record WroteFront : Type 0 where
    pub text : List ℕ
    pub read : HasRead does.reads source text
    pub output : List ℕ
    pub status : Status
    pub outputs : does.Outputs text output status
    pub gained : GainedFront sink output

  -- The input breaks this condition at this place, and nothing was written.
  abbrev pub WasRefused : Code → Place → Type 0
  WasRefused code place =
      Untouched sink
      × (((code ≡ I1) × (place ≡ Whole) × (does.reads ≡ true) × GaveTooMuch source)
      ⊎ ((text : List ℕ) × HasRead does.reads source text × does.Breaks text code place))

  -- There was no memory: nothing was written, or, where memory is taken between writes, a front of an output.
  abbrev pub LackedMemory : Type 0
  LackedMemory = LostInput source × (Untouched sink ⊎ ((does.memory_first ≡ false) × WroteFront))

  -- how a run of the command ends, by its status
  abbrev pub EndsSo : Status → Type 0
  EndsSo Done = WroteWhole Done
  EndsSo (Refused code place) = WasRefused code place
  EndsSo (Usage word) = ⊥
  EndsSo ReadFault = HasFailed source × Untouched sink × LostInput source
  EndsSo WriteFault = HasFailed sink × WroteFront
  EndsSo NoMemory = LackedMemory

  -- A run of the command: it ends so, and counts of failures never fall.
  pub record CommandRun (status : Status) : Type 0 where
    pub ends : EndsSo status
    pub source_count : source.faults source.before ≤ source.faults source.after
    pub sink_count : sink.faults sink.before ≤ sink.faults sink.after

  -- The sink gained an output that is so, or the run reports a source or sink that failed, or want of memory.
  abbrev pub WritesSuch : (List ℕ → Type 0) → Status → Type 0
  WritesSuch Is Done = (output : List ℕ) × Is output × Gained sink output
  WritesSuch Is (Refused code place) = ⊥
  WritesSuch Is (Usage word) = ⊥
  WritesSuch Is ReadFault = HasFailed source × Untouched sink
  WritesSuch Is WriteFault = HasFailed sink × ((output : List ℕ) × Is output × GainedFront sink output)
  WritesSuch Is NoMemory = Untouched sink ⊎ ((does.memory_first ≡ false) × ((output : List ℕ) × Is output × GainedFront sink output))

  -- how a run on an accepted input ends
  abbrev pub EndsAccepted : Status → Type 0
  EndsAccepted Done = ⊤
  EndsAccepted (Refused code place) = ⊥
  EndsAccepted (Usage word) = ⊥
  EndsAccepted ReadFault = HasFailed source
  EndsAccepted WriteFault = HasFailed sink
  EndsAccepted NoMemory = ⊤

  -- how a run on an input that is refused for this reason ends
  abbrev pub EndsRefused : Code → Place → Status → Type 0
  EndsRefused code place Done = ⊥
  EndsRefused code place (Refused named at) = (named ≡ code) × (at ≡ place)
  EndsRefused code place (Usage word) = ⊥
  EndsRefused code place ReadFault = HasFailed source
  EndsRefused code place WriteFault = ⊥
  EndsRefused code place NoMemory = ⊤

  -- How a run on a known input ends: by whether the command accepts it.
  pub record KnownRun (text : List ℕ) (status : Status) : Type 0 where
    pub accepted : IsAcceptedInput does text → EndsAccepted status
    pub refused : (code : Code) (place : Place) → IsRefusedInput does text code place → EndsRefused code place status

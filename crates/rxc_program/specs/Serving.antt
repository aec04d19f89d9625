-- What the steps of a run come to.
use Rattle.std.specs.Prelude.{◌≡◌, ◌⊎◌, ℕ, Bool, false, List, None, ⊤}
use Rattle.rx_text.specs.declared.place.Place.{Place}
use Rattle.rx_text.specs.declared.place.Place.TheVariants.{Whole}
use Rattle.switch_net.specs.Circuit.{Circuit}
use Rattle.switch_sim.specs.TraceLines.{GainsFront, GainsLines, first_wrong}
use Rattle.rxc_program.specs.Behaviour.{Behaviour}
use Rattle.rxc_program.specs.Endings.{Change, Gained, GainedFront, GaveTooMuch, HasFailed, LostInput, Untouched}
use Rattle.rxc_program.specs.Simulating.{IsWrongWidth}
use Rattle.rxc_program.specs.declared.status.Code.{Code}
use Rattle.rxc_program.specs.declared.status.Code.TheVariants.{I1}
use Rattle.rxc_program.specs.declared.status.Status.{Status}
use Rattle.rxc_program.specs.declared.status.Status.TheVariants.{Done, Refused, Usage, ReadFault, WriteFault, NoMemory}

-- why a reader gives nothing: there was no memory, or the input is refused for this reason
abbrev pub StopsBy : (Code → Place → Type 0) → Status → Type 0
StopsBy Why Done = ⊥
StopsBy Why (Refused code place) = Why code place
StopsBy Why (Usage word) = ⊥
StopsBy Why ReadFault = ⊥
StopsBy Why WriteFault = ⊥
StopsBy Why NoMemory = ⊤

-- why the input could not be read to its end
abbrev pub StopsReading : {X : Type 0} → Change X → Status → Type 0
StopsReading source Done = ⊥
StopsReading source (Refused code place) = (code ≡ I1) × (place ≡ Whole) × GaveTooMuch source
StopsReading source (Usage word) = ⊥
StopsReading source ReadFault = HasFailed source × LostInput source
StopsReading source WriteFault = ⊥
StopsReading source NoMemory = LostInput source

-- how a piece was written
abbrev pub TakesPiece : {X : Type 0} → Change X → List ℕ → Status → Type 0
TakesPiece sink piece Done = Gained sink piece
TakesPiece sink piece (Refused code place) = ⊥
TakesPiece sink piece (Usage word) = ⊥
TakesPiece sink piece ReadFault = ⊥
TakesPiece sink piece WriteFault = HasFailed sink × GainedFront sink piece
TakesPiece sink piece NoMemory = ⊥

-- how the lines of a run through a trace were written
abbrev pub TakesLines : {X : Type 0} → Change X → Circuit → List (List Bool) → Status → Type 0
TakesLines sink circuit vectors Done = (first_wrong circuit vectors ≡ None) × GainsLines (sink.bytes sink.before) (sink.bytes sink.after) circuit vectors
TakesLines sink circuit vectors (Refused code place) = Untouched sink × IsWrongWidth circuit vectors code place
TakesLines sink circuit vectors (Usage word) = ⊥
TakesLines sink circuit vectors ReadFault = ⊥
TakesLines sink circuit vectors WriteFault =
    HasFailed sink × (first_wrong circuit vectors ≡ None) × GainsFront (sink.bytes sink.before) (sink.bytes sink.after) circuit vectors
TakesLines sink circuit vectors NoMemory =
    (first_wrong circuit vectors ≡ None) × GainsFront (sink.bytes sink.before) (sink.bytes sink.after) circuit vectors

module _ {Sink : Type 0} (does : Behaviour) (sink : Change Sink) (text : List ℕ) where
  -- a front of an output of the text was written
  pub record TookFront : Type 0 where
    pub output : List ℕ
    pub status : Status
    pub outputs : does.Outputs text output status
    pub gained : GainedFront sink output

  -- how a run ends that has read this text
  abbrev pub AnswersText : Status → Type 0
  AnswersText Done = (output : List ℕ) × does.Outputs text output Done × Gained sink output
  AnswersText (Refused code place) = Untouched sink × does.Breaks text code place
  AnswersText (Usage word) = ⊥
  AnswersText ReadFault = ⊥
  AnswersText WriteFault = HasFailed sink × TookFront
  AnswersText NoMemory = Untouched sink ⊎ ((does.memory_first ≡ false) × TookFront)

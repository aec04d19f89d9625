-- Runs of a command that reads nothing and refuses nothing.
use Rattle.std.proofs.Common.{◌≡◌, inl, inr, ℕ, true, false, List, [], Option, Some, None, refl, sym, ◌∙◌, subst, arith}
use Rattle.std.specs.Io.KnownBytes.{Consumes}
use Rattle.rx_io.specs.Streams.{LosesUpTo}
use Rattle.rx_text.specs.declared.place.Place.{Place}
use Rattle.rxc_program.specs.Behaviour.{Behaviour, IsAcceptedInput, IsRefusedInput, most_input_bytes}
use Rattle.rxc_program.specs.Endings.{Change, EndsAccepted, EndsSo, HasRead, KnownRun, LostInput, Untouched, WroteFront}
use Rattle.rxc_program.specs.Serving.{AnswersText, TookFront}
use Rattle.rxc_program.specs.declared.status.Code.{Code}
use Rattle.rxc_program.specs.declared.status.Status.{Status}
use Rattle.rxc_program.specs.declared.status.Status.TheVariants.{Done, Refused, Usage, ReadFault, WriteFault, NoMemory}

none_consumed : (bytes : Option (List ℕ)) → Consumes bytes bytes []
none_consumed None = tt
none_consumed (Some text) = refl

-- a source that was left alone lost nothing
lost_nothing : {X : Type 0} (side : Change X) → Untouched side → LostInput side
lost_nothing side same =
    subst (λ after. LosesUpTo (side.bytes side.before) (side.bytes after) most_input_bytes) (sym same)
    (record { front = []; consumes = none_consumed (side.bytes side.before); within = omega arith })

module _ {Source Sink : Type 0} (does : Behaviour) (source : Change Source) (sink : Change Sink) (unread : does.reads ≡ false) where
  module _ (same : Untouched source) where
    nothing_read : HasRead does.reads source []
    nothing_read = subst (λ b. HasRead b source []) (sym unread) (same, refl)

    front : TookFront does sink [] → WroteFront does source sink
    front took = record {
      text = [];
      read = nothing_read;
      output = took.output;
      status = took.status;
      outputs = took.outputs;
      gained = took.gained;
    }

    -- the command answered the empty text
    pub answered_alone : (status : Status) → AnswersText does sink [] status → EndsSo does source sink status
    answered_alone Done answers = record {
      text = [];
      read = nothing_read;
      output = answers.0;
      outputs = answers.1;
      gained = answers.2;
    }
    answered_alone (Refused code place) answers = (answers.0, inr ([], nothing_read, answers.1))
    answered_alone (Usage word) answers = absurd answers
    answered_alone ReadFault answers = absurd answers
    answered_alone WriteFault answers = (answers.0, front answers.1)
    answered_alone NoMemory (inl untouched) = (lost_nothing source same, inl untouched)
    answered_alone NoMemory (inr took) = (lost_nothing source same, inr (took.0, front took.1))

  module _ (never : (text : List ℕ) (code : Code) (place : Place) → IsRefusedInput does text code place → ⊥) (text : List ℕ) where
    ends_accepted : (status : Status) → EndsSo does source sink status → IsAcceptedInput does text → EndsAccepted does source sink status
    ends_accepted Done ends accepted = tt
    ends_accepted (Refused code place) (untouched, inl long) accepted = (let clash : true ≡ false = sym long.2 ∙ unread in cc)
    ends_accepted (Refused code place) (untouched, inr broken) accepted =
        never broken.0 code place (inr (λ long. (let clash : true ≡ false = sym long.0 ∙ unread in cc), broken.2))
    ends_accepted (Usage word) ends accepted = ends
    ends_accepted ReadFault ends accepted = ends.0
    ends_accepted WriteFault ends accepted = ends.0
    ends_accepted NoMemory ends accepted = tt

    -- a run ends as one on an accepted input
    pub known_unread : (status : Status) → EndsSo does source sink status → KnownRun does source sink text status
    known_unread status ends = record {
      accepted = ends_accepted status ends;
      refused = λ code place refused. absurd (never text code place refused);
    }

-- How a run ends, from what its steps came to, and on an input that is known.
use Rattle.std.proofs.Common.{◌≡◌, ℕ, ◌<◌, ◌≤◌, inl, inr, true, List, Option, Some, None, length, refl, sym, subst, ap, arith, length-append}
use Rattle.rx_io.specs.Streams.{GivesAll, LosesBeyond}
use Rattle.rx_text.specs.declared.place.Place.{Place}
use Rattle.rxc_program.specs.Behaviour.{Behaviour, InputsAreJudged, IsAcceptedInput, IsRefusedInput, IsTooLong, most_input_bytes}
use Rattle.rxc_program.specs.Endings.{Change, EndsAccepted, EndsRefused, EndsSo, GainedFront, HasRead, KnownRun, LostInput, Untouched, WasRefused, WritesSuch, WroteFront}
use Rattle.rxc_program.specs.Serving.{AnswersText, StopsReading, TookFront}
use Rattle.rxc_program.specs.StatusText.{usage_word}
use Rattle.rxc_program.specs.declared.status.Code.{Code}
use Rattle.rxc_program.specs.declared.status.Status.{Status}
use Rattle.rxc_program.specs.declared.status.Status.TheVariants.{Done, Refused, Usage, ReadFault, WriteFault, NoMemory}

-- a command that reads its input, and judges each
pub record IsReading (does : Behaviour) : Type 0 where
  pub reads : does.reads ≡ true
  pub judged : InputsAreJudged does
  pub answered : (text output : List ℕ) (status : Status) → does.Outputs text output status → does.Accepts text

module _ {Source Sink : Type 0} (does : Behaviour) (source : Change Source) (sink : Change Sink) where
  -- no run of a command ends as wrong words
  pub no_usage : (status : Status) → EndsSo does source sink status → usage_word status ≡ None
  no_usage Done ends = refl
  no_usage (Refused code place) ends = refl
  no_usage (Usage word) ends = absurd ends
  no_usage ReadFault ends = refl
  no_usage WriteFault ends = refl
  no_usage NoMemory ends = refl

  module _ (reads : does.reads ≡ true) where
    -- the input could not be read
    pub unread : (status : Status) → Untouched sink → StopsReading source status → EndsSo does source sink status
    unread Done untouched stops = absurd stops
    unread (Refused code place) untouched stops = (untouched, inl (stops.0, stops.1, reads, stops.2))
    unread (Usage word) untouched stops = absurd stops
    unread ReadFault untouched stops = (stops.0, untouched, stops.1)
    unread WriteFault untouched stops = absurd stops
    unread NoMemory untouched stops = (stops, inl untouched)

    module _ (text : List ℕ) (read : HasRead true source text) (lost : LostInput source) where
      was_read : HasRead does.reads source text
      was_read = subst (λ b. HasRead b source text) (sym reads) read

      front : TookFront does sink text → WroteFront does source sink
      front took = record {
        text = text;
        read = was_read;
        output = took.output;
        status = took.status;
        outputs = took.outputs;
        gained = took.gained;
      }

      -- the input was read, and answered
      pub answered_text : (status : Status) → AnswersText does sink text status → EndsSo does source sink status
      answered_text Done answers = record {
        text = text;
        read = was_read;
        output = answers.0;
        outputs = answers.1;
        gained = answers.2;
      }
      answered_text (Refused code place) answers = (answers.0, inr (text, was_read, answers.1))
      answered_text (Usage word) answers = absurd answers
      answered_text ReadFault answers = absurd answers
      answered_text WriteFault answers = (answers.0, front answers.1)
      answered_text NoMemory (inl untouched) = (lost, inl untouched)
      answered_text NoMemory (inr took) = (lost, inr (took.0, front took.1))

-- known bytes that were lost beyond the limit are more than the limit
longer : (text : List ℕ) (left : Option (List ℕ)) (most more : ℕ) → LosesBeyond (Some text) left most more → most < length text
longer text None most more lost = absurd lost.consumes
longer text (Some rest) most more lost = omega (arith, lost.beyond, ap length lost.consumes, length-append lost.front rest)

module _ {Source Sink : Type 0} (does : Behaviour) (source : Change Source) (sink : Change Sink) (is : IsReading does)
    (text : List ℕ) (told : source.bytes source.before ≡ Some text) where
  -- what was read is the text, and it is not too long
  known_text : (other : List ℕ) → HasRead does.reads source other → (other ≡ text) × (IsTooLong does text → ⊥)
  known_text other read =
      let given : HasRead true source other = subst (λ b. HasRead b source other) is.reads read in
      let same : other ≡ text = (subst (λ old. GivesAll old (source.bytes source.after) other) told given.0).0 in
      let within : length text ≤ most_input_bytes = subst (λ t. length t ≤ most_input_bytes) same given.1 in
      (same, λ long. absurd (omega (arith, long.1, within)))

  -- a run that refused the input had a reason
  known_refusal : (code : Code) (place : Place) → WasRefused does source sink code place → IsRefusedInput does text code place
  known_refusal code place (untouched, inl long) =
      let known = subst (λ old. LosesBeyond old (source.bytes source.after) most_input_bytes 65536) told long.3 in
      inl (long.0, long.1, (long.2, longer text (source.bytes source.after) _ _ known))
  known_refusal code place (untouched, inr broken) =
      let known = known_text broken.0 broken.1 in
      inr (known.1, subst (λ t. does.Breaks t code place) known.0 broken.2)

  -- a run that wrote an output had an accepted input
  known_output : (other output : List ℕ) (status : Status) → HasRead does.reads source other → does.Outputs other output status → IsAcceptedInput does text
  known_output other output status read outputs =
      let known = known_text other read in
      record { within = known.1; accepts = subst (λ t. does.Accepts t) known.0 (is.answered other output status outputs) }

  ends_accepted : (status : Status) → EndsSo does source sink status → IsAcceptedInput does text → EndsAccepted does source sink status
  ends_accepted Done ends accepted = tt
  ends_accepted (Refused code place) ends accepted = is.judged.never_both text code place accepted (known_refusal code place ends)
  ends_accepted (Usage word) ends accepted = ends
  ends_accepted ReadFault ends accepted = ends.0
  ends_accepted WriteFault ends accepted = ends.0
  ends_accepted NoMemory ends accepted = tt

  ends_refused : (status : Status) → EndsSo does source sink status → (code : Code) (place : Place) → IsRefusedInput does text code place
      → EndsRefused does source sink code place status
  ends_refused Done ends code place refused =
      is.judged.never_both text code place (known_output ends.text ends.output Done ends.read ends.outputs) refused
  ends_refused (Refused named at) ends code place refused =
      is.judged.one_reason text named code at place (known_refusal named at ends) refused
  ends_refused (Usage word) ends code place refused = ends
  ends_refused ReadFault ends code place refused = ends.0
  ends_refused WriteFault ends code place refused =
      is.judged.never_both text code place (known_output ends.1.text ends.1.output ends.1.status ends.1.read ends.1.outputs) refused
  ends_refused NoMemory ends code place refused = tt

  -- a run on a known input ends by whether it is accepted
  pub known_run : (status : Status) → EndsSo does source sink status → KnownRun does source sink text status
  known_run status ends = record { accepted = ends_accepted status ends; refused = ends_refused status ends }

  module _ (accepted : IsAcceptedInput does text) (Is : List ℕ → Type 0)
      (such : (output : List ℕ) (status : Status) → does.Outputs text output status → Is output) where
    is_such : (other output : List ℕ) (status : Status) → HasRead does.reads source other → does.Outputs other output status → Is output
    is_such other output status read outputs =
        such output status (subst (λ t. does.Outputs t output status) (known_text other read).0 outputs)

    front_of_such : WroteFront does source sink → (output : List ℕ) × Is output × GainedFront sink output
    front_of_such front = (front.output, is_such front.text front.output front.status front.read front.outputs, front.gained)

    -- where each output of the text is so, the run writes such an output, or reports a failure or want of memory
    pub writes_such : (status : Status) → EndsSo does source sink status → WritesSuch does source sink Is status
    writes_such Done ends = (ends.output, is_such ends.text ends.output Done ends.read ends.outputs, ends.gained)
    writes_such (Refused code place) ends = is.judged.never_both text code place accepted (known_refusal code place ends)
    writes_such (Usage word) ends = ends
    writes_such ReadFault ends = (ends.0, ends.1)
    writes_such WriteFault ends = (ends.0, front_of_such ends.1)
    writes_such NoMemory (lost, inl untouched) = inl untouched
    writes_such NoMemory (lost, inr front) = inr (front.0, front_of_such front.1)

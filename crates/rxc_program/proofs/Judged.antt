-- Every input is accepted by a command, or refused by it for one reason.
use Rattle.std.proofs.Common.{◌≡◌, ◌⊎◌, inl, inr, ⊎_elim, ℕ, ◌<◌, ◌≤◌, Bool, List, drop, length, true, false, refl, sym, ◌∙◌, ap, arith}
use Rattle.std.proofs.lemmas.Bool.{cases_Bool, cases_lt}
use Rattle.rx_lang.specs.Specification.{Specification}
use Rattle.rx_syntax.specs.Accepted.{Accepted}
use Rattle.rx_syntax.specs.SpecRefusal.{SpecRefusal}
use Rattle.rx_syntax.specs.declared.spec_code.SpecCode.{SpecCode}
use Rattle.rx_text.specs.declared.place.Place.{Place}
use Rattle.switch_sim.specs.TraceTexts.{IsTrace}
use Rattle.layout_network.specs.OneReading.{LayoutsHaveOneReading}
use Rattle.rx_text.specs.declared.place.Place.TheVariants.{Whole}
use Rattle.rxc_program.proofs.Chips.{ChipLaws, ChipOrNot}
use Rattle.rxc_program.proofs.DrivenJudged.{TraceLaws, driven_or_broken, driven_not_broken, one_break}
use Rattle.rxc_program.proofs.Endings.{IsReading}
use Rattle.rxc_program.proofs.Extracted.{layouts_apart, one_layout_break}
use Rattle.rxc_program.specs.Behaviour.{Behaviour, InputsAreJudged, IsDecided, IsRefusedInput, IsTooLong, most_input_bytes}
use Rattle.rxc_program.specs.Codes.{spec_code}
use Rattle.rxc_program.specs.Commands.{InputsAreDecided, behaviour}
use Rattle.rxc_program.specs.Compiling.{compiling}
use Rattle.rxc_program.specs.Extracting.{extracting}
use Rattle.rxc_program.specs.Files.{FileKind, most_leaves, tree_file}
use Rattle.rxc_program.specs.Reporting.{demonstrating, reporting}
use Rattle.rxc_program.specs.Chips.{begins_network}
use Rattle.rxc_program.specs.Simulating.{HasLayout, simulating}
use Rattle.rxc_program.specs.declared.status.Code.{Code}
use Rattle.rxc_program.specs.declared.status.Code.TheVariants.{I1}
use Rattle.rxc_program.specs.declared.words.Command.{Command}
use Rattle.rxc_program.specs.declared.words.Command.TheVariants.{Net, Pla, Tree, Extract, Sim, Report, Demo}

-- no text is both accepted and broken, or broken for two reasons
record TextsAreJudged (does : Behaviour) : Type 0 where
  reads : does.reads ≡ true
  never_both : (text : List ℕ) (code : Code) (place : Place) → does.Accepts text → does.Breaks text code place → ⊥
  one_reason : (text : List ℕ) (one other : Code) (here there : Place) → does.Breaks text one here → does.Breaks text other there
      → (one ≡ other) × (here ≡ there)

-- what reads nothing refuses nothing, and accepts all
not_refused : (start leaves : ℕ) (text : List ℕ) (code : Code) (place : Place) → IsRefusedInput (demonstrating start leaves) text code place → ⊥
not_refused start leaves text code place (inl long) = (let clash : false ≡ true = long.2.0 in cc)
not_refused start leaves text code place (inr broken) = broken.1

demonstrating_judged : (start leaves : ℕ) → InputsAreJudged (demonstrating start leaves)
demonstrating_judged start leaves = record {
  never_both = λ text code place accepted refused. not_refused start leaves text code place refused;
  one_reason = λ text one other here there first second. absurd (not_refused start leaves text one here first);
}

demonstrating_either : (start leaves : ℕ) (text : List ℕ) → IsDecided (demonstrating start leaves) text
demonstrating_either start leaves text = inl (record { within = λ long. (let clash : false ≡ true = long.0 in cc); accepts = tt })

module _ (does : Behaviour) (judged : TextsAreJudged does) where
  one_reason_of : (text : List ℕ) (one other : Code) (here there : Place) → IsRefusedInput does text one here → IsRefusedInput does text other there
      → (one ≡ other) × (here ≡ there)
  one_reason_of text one other here there (inl a) (inl b) = (a.0 ∙ sym b.0, a.1 ∙ sym b.1)
  one_reason_of text one other here there (inr a) (inr b) = judged.one_reason text one other here there a.1 b.1
  one_reason_of text one other here there (inl a) (inr b) = absurd (b.0 a.2)
  one_reason_of text one other here there (inr a) (inl b) = absurd (a.0 b.2)

  by_length : (text : List ℕ) → (most_input_bytes < length text) ⊎ (length text ≤ most_input_bytes)
      → does.Accepts text ⊎ ((code : Code) × (place : Place) × does.Breaks text code place) → IsDecided does text
  by_length text (inl long) either = inr (I1, Whole, inl (refl, refl, (judged.reads, long)))
  by_length text (inr short) either =
      let within : IsTooLong does text → ⊥ = λ long. absurd (omega (arith, long.1, short)) in
      ⊎_elim (λ accepts. inl (record { within = within; accepts = accepts }))
      (λ broken. inr (broken.0, broken.1, inr (within, broken.2))) either

  -- an input is accepted or refused whose text is accepted or broken
  input_decided : (text : List ℕ) → does.Accepts text ⊎ ((code : Code) × (place : Place) × does.Breaks text code place) → IsDecided does text
  input_decided text = by_length text (cases_lt most_input_bytes (length text))

  inputs_judged : InputsAreJudged does
  inputs_judged = record {
    never_both = λ text code place accepted refused.
        ⊎_elim (λ long. accepted.within long.2) (λ broken. judged.never_both text code place accepted.accepts broken.1) refused;
    one_reason = one_reason_of;
  }

extracting_judged : LayoutsHaveOneReading → TextsAreJudged extracting
extracting_judged layouts = record {
  reads = refl;
  never_both = λ text code place accepted broken. layouts_apart layouts text code place accepted broken;
  one_reason = λ text one other here there first second. one_layout_break layouts text one other here there first second;
}

module _
    (either : (text : List ℕ) (limit : ℕ) → ((spec : Specification) × Accepted text limit spec) ⊎ ((code : SpecCode) × (place : Place) × SpecRefusal text limit code place))
    (exclusive : (text : List ℕ) (limit : ℕ) (spec : Specification) (code : SpecCode) (place : Place) → Accepted text limit spec → SpecRefusal text limit code place → ⊥)
    (one_refusal : (text : List ℕ) (limit : ℕ) (code other : SpecCode) (place elsewhere : Place)
    → SpecRefusal text limit code place → SpecRefusal text limit other elsewhere → (code ≡ other) × (place ≡ elsewhere)) where
  compiling_judged : (kind : FileKind) → TextsAreJudged (compiling kind)
  compiling_judged kind = record {
    reads = refl;
    never_both = λ text code place accepted broken. exclusive text (most_leaves kind) accepted.0 broken.0 place accepted.1 broken.2;
    one_reason = λ text one other here there first second.
        let same = one_refusal text (most_leaves kind) first.0 second.0 here there first.2 second.2 in
        (first.1 ∙ ap spec_code same.0 ∙ sym second.1, same.1);
  }

  -- each text compiles, or is broken
  compiling_either : (kind : FileKind) (text : List ℕ) → IsDecided (compiling kind) text
  compiling_either kind text =
      input_decided (compiling kind) (compiling_judged kind) text
      (⊎_elim (λ a. inl a) (λ r. inr (spec_code r.0, r.1, (r.0, refl, r.2))) (either text (most_leaves kind)))

  -- `report` accepts and refuses the texts that `tree` does
  reporting_judged : TextsAreJudged reporting
  reporting_judged = record {
    reads = refl;
    never_both = (compiling_judged tree_file).never_both;
    one_reason = (compiling_judged tree_file).one_reason;
  }

  reporting_either : (text : List ℕ) → IsDecided reporting text
  reporting_either text =
      input_decided reporting reporting_judged text
      (⊎_elim (λ a. inl a) (λ r. inr (spec_code r.0, r.1, (r.0, refl, r.2))) (either text (most_leaves tree_file)))

  module _ (traces : TraceLaws) (chips : ChipLaws) (layouts : LayoutsHaveOneReading) where
    simulating_judged : TextsAreJudged simulating
    simulating_judged = record {
      reads = refl;
      never_both = λ text code place accepted broken. driven_not_broken traces chips text accepted.0 accepted.1 code place accepted.2 broken;
      one_reason = λ text one other here there first second. one_break traces chips text one other here there first second;
    }

    -- what is behind a trace is a chip or refused as one, where it is read as no layout
    network_behind : (text : List ℕ) → (HasLayout text → ⊥) → (vectors : List (List Bool)) (behind : ℕ) → IsTrace text vectors behind
        → ChipOrNot (drop behind text)
    network_behind text none vectors behind trace =
        elim (cases_Bool (begins_network (drop behind text))) [
          | inl network ↦ chips.either (drop behind text) network
          | inr layout ↦ absurd (none (vectors, behind, trace, layout))
        ]

    simulating_either : (text : List ℕ) → (HasLayout text → ⊥) → IsDecided simulating text
    simulating_either text none =
        input_decided simulating simulating_judged text (driven_or_broken traces text (network_behind text none))

    pub decided : (command : Command) → InputsAreDecided command
    decided Net text none = compiling_either _ text
    decided Pla text none = compiling_either _ text
    decided Tree text none = compiling_either _ text
    decided Extract text none = absurd (none tt)
    decided Sim text none = simulating_either text none
    decided Report text none = reporting_either text
    decided (Demo start leaves) text none = demonstrating_either start leaves text

    pub judged : (command : Command) → InputsAreJudged (behaviour command)
    judged Net = inputs_judged (behaviour Net) (compiling_judged _)
    judged Pla = inputs_judged (behaviour Pla) (compiling_judged _)
    judged Tree = inputs_judged (behaviour Tree) (compiling_judged _)
    judged Extract = inputs_judged extracting (extracting_judged layouts)
    judged Sim = inputs_judged simulating simulating_judged
    judged Report = inputs_judged reporting reporting_judged
    judged (Demo start leaves) = demonstrating_judged start leaves

-- a command that reads its input
pub is_reading : ((command : Command) → InputsAreJudged (behaviour command)) → (command : Command) → (behaviour command).reads ≡ true
    → IsReading (behaviour command)
is_reading judged Net e = record { reads = refl; judged = judged Net; answered = λ text output status h. (h.1.spec, h.1.accepted) }
is_reading judged Pla e = record { reads = refl; judged = judged Pla; answered = λ text output status h. (h.1.spec, h.1.accepted) }
is_reading judged Tree e = record { reads = refl; judged = judged Tree; answered = λ text output status h. (h.1.spec, h.1.accepted) }
is_reading judged Extract e = record { reads = refl; judged = judged Extract; answered = λ text output status h. (h.1.circuit, h.1.layout) }
is_reading judged Sim e = record { reads = refl; judged = judged Sim; answered = λ text output status h. (h.1.vectors, h.1.circuit, h.1.drives) }
is_reading judged Report e = record { reads = refl; judged = judged Report; answered = λ text output status h. (h.1.spec, h.1.accepted) }
is_reading judged (Demo start leaves) e = (let clash : false ≡ true = e in absurd (cc))

-- a command that reads nothing refuses nothing
pub refuses_nothing : (command : Command) → (behaviour command).reads ≡ false → (text : List ℕ) (code : Code) (place : Place)
    → IsRefusedInput (behaviour command) text code place → ⊥
refuses_nothing Net e text code place refused = (let clash : true ≡ false = e in cc)
refuses_nothing Pla e text code place refused = (let clash : true ≡ false = e in cc)
refuses_nothing Tree e text code place refused = (let clash : true ≡ false = e in cc)
refuses_nothing Extract e text code place refused = (let clash : true ≡ false = e in cc)
refuses_nothing Sim e text code place refused = (let clash : true ≡ false = e in cc)
refuses_nothing Report e text code place refused = (let clash : true ≡ false = e in cc)
refuses_nothing (Demo start leaves) e text code place refused = not_refused start leaves text code place refused

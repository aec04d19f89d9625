-- Texts are a trace and a chip that it drives, or refused for one reason.
use Rattle.std.proofs.Common.{◌≡◌, ◌⊎◌, inl, inr, ⊎_elim, ℕ, ◌+◌, List, Bool, Option, Some, None, drop, refl, sym, ap, ◌∙◌, subst}
use Rattle.rx_text.specs.declared.place.Place.{Place}
use Rattle.rx_text.specs.declared.place.Place.TheVariants.{Text}
use Rattle.switch_net.specs.Circuit.{Circuit, IsSameNetwork}
use Rattle.switch_sim.specs.TraceLaws.{BeginsWithTrace}
use Rattle.switch_sim.specs.TraceTexts.{IsTrace, TraceRefusal}
use Rattle.switch_sim.specs.TraceLines.{first_wrong}
use Rattle.switch_sim.specs.declared.trace_code.TraceCode.{TraceCode}
use Rattle.rxc_program.proofs.Chips.{ChipLaws, ChipOrNot}
use Rattle.rxc_program.proofs.SameLines.{same_wrong}
use Rattle.rxc_program.specs.Codes.{trace_code}
use Rattle.rxc_program.specs.Chips.{IsChip, IsNoChip}
use Rattle.rxc_program.specs.Simulating.{lower, trace_lines, IsDrivenBy, Drives, BreaksTrace, BreaksChip, BreaksWidth, BreaksDriven}
use Rattle.rxc_program.specs.declared.status.Code.{Code}
use Rattle.rxc_program.specs.declared.status.Code.TheVariants.{V2}

-- each text begins with one trace or is refused for one reason
pub record TraceLaws : Type 0 where
  pub either : (text : List ℕ) → BeginsWithTrace text ⊎ ((code : TraceCode) × (place : Place) × TraceRefusal text code place)
  pub exclusive : (text : List ℕ) (code : TraceCode) (place : Place) → BeginsWithTrace text → TraceRefusal text code place → ⊥
  pub one_trace : (text : List ℕ) (some others : List (List Bool)) (place elsewhere : ℕ) → IsTrace text some place → IsTrace text others elsewhere
      → (some ≡ others) × (place ≡ elsewhere)
  pub one_refusal : (text : List ℕ) (code other : TraceCode) (place elsewhere : Place) → TraceRefusal text code place → TraceRefusal text other elsewhere
      → (code ≡ other) × (place ≡ elsewhere)

-- the vectors of a text are its only ones, and its network is one up to the numbers of its nets
pub same_parts : ((text : List ℕ) (some others : List (List Bool)) (place elsewhere : ℕ) → IsTrace text some place → IsTrace text others elsewhere
    → (some ≡ others) × (place ≡ elsewhere))
    → ((text : List ℕ) (one other : Circuit) → IsChip text one → IsChip text other → IsSameNetwork one other)
    → (text : List ℕ) (some others : List (List Bool)) (circuit other : Circuit) → IsDrivenBy text some circuit → IsDrivenBy text others other
    → (some ≡ others) × IsSameNetwork circuit other
same_parts one_trace one_network text some others circuit other first second =
    let same = one_trace text some others first.place second.place first.trace second.trace in (
      same.0,
      one_network (drop first.place text) circuit other first.chip
          (subst (λ at. IsChip (drop at text) other) (sym same.1) second.chip),
    )

-- the line of a vector
abbrev line_place : ℕ → Place
line_place number = Text (number + 1) 1

-- the text is a trace and a chip that it drives, or it is refused
abbrev pub DrivenOrBroken : List ℕ → Type 0
DrivenOrBroken text = ((vectors : List (List Bool)) × (circuit : Circuit) × Drives text vectors circuit)
    ⊎ ((code : Code) × (place : Place) × BreaksDriven text code place)

module _ (traces : TraceLaws) (text : List ℕ) where
  with_widths : (vectors : List (List Bool)) (circuit : Circuit) → IsDrivenBy text vectors circuit → (wrong : Option ℕ) → first_wrong circuit vectors ≡ wrong
      → DrivenOrBroken text
  with_widths vectors circuit parts None e = inl (vectors, circuit, record { parts = parts; widths = e })
  with_widths vectors circuit parts (Some number) e =
      inr (V2, line_place number, inr (inr (vectors, circuit, parts, record { number = number; first = e; is_code = refl; is_place = refl })))

  with_chip : (vectors : List (List Bool)) (behind : ℕ) → IsTrace text vectors behind → ChipOrNot (drop behind text) → DrivenOrBroken text
  with_chip vectors behind trace either = ⊎_elim
      (λ n. with_widths vectors n.0 (record { place = behind; trace = trace; chip = n.1 }) (first_wrong n.0 vectors) refl)
      (λ r. inr (
        r.0,
        lower (trace_lines vectors) r.1,
        inr (inl (vectors, behind, trace, record { within = r.1; no_chip = r.2; is_place = refl })),
      ))
      either

  -- where what is behind a trace is a chip or refused as one, the text is driven or broken
  pub driven_or_broken : ((vectors : List (List Bool)) (behind : ℕ) → IsTrace text vectors behind → ChipOrNot (drop behind text)) → DrivenOrBroken text
  driven_or_broken chip = ⊎_elim
      (λ t. with_chip t.0 t.1 t.2 (chip t.0 t.1 t.2))
      (λ r. inr (trace_code r.0, r.1, inl (r.0, refl, r.2)))
      (traces.either text)

module _ (traces : TraceLaws) (chips : ChipLaws) (text : List ℕ) where
  no_trace : (code : Code) (place : Place) → BreaksTrace text code place → BeginsWithTrace text → ⊥
  no_trace code place broken begins = traces.exclusive text broken.0 place begins broken.2

  no_chip : (code : Code) (place : Place) (vectors : List (List Bool)) (circuit : Circuit) → BreaksChip text code place → IsDrivenBy text vectors circuit → ⊥
  no_chip code place vectors circuit broken parts =
      let same = traces.one_trace text vectors broken.0 parts.place broken.1 parts.trace broken.2 in
      chips.exclusive (drop parts.place text) circuit code broken.3.within parts.chip
      (subst (λ at. IsNoChip (drop at text) code broken.3.within) (sym same.1) broken.3.no_chip)

  -- the first wrong vector of a text is one
  same_first : (some others : List (List Bool)) (circuit other : Circuit) → IsDrivenBy text some circuit → IsDrivenBy text others other
      → first_wrong circuit some ≡ first_wrong other others
  same_first some others circuit other first second =
      let same = same_parts traces.one_trace chips.one_network text some others circuit other first second in
      same_wrong circuit other same.1 some ∙ ap (λ v. first_wrong other v) same.0

  pub driven_not_broken : (vectors : List (List Bool)) (circuit : Circuit) (code : Code) (place : Place) → Drives text vectors circuit
      → BreaksDriven text code place → ⊥
  driven_not_broken vectors circuit code place driven (inl broken) =
      no_trace code place broken (vectors, driven.parts.place, driven.parts.trace)
  driven_not_broken vectors circuit code place driven (inr (inl broken)) = no_chip code place vectors circuit broken driven.parts
  driven_not_broken vectors circuit code place driven (inr (inr broken)) =
      let same = same_first broken.0 vectors broken.1 circuit broken.2 driven.parts in
      let clash : Some broken.3.number ≡ None = sym broken.3.first ∙ same ∙ driven.widths in
      cc

  same_chip : (one other : Code) (here there : Place) → BreaksChip text one here → BreaksChip text other there → (one ≡ other) × (here ≡ there)
  same_chip one other here there first second =
      let same = traces.one_trace text first.0 second.0 first.1 second.1 first.2 second.2 in
      let refused : IsNoChip (drop first.1 text) other second.3.within =
      subst (λ at. IsNoChip (drop at text) other second.3.within) (sym same.1) second.3.no_chip in
      let fault = chips.one_refusal (drop first.1 text) one other first.3.within second.3.within first.3.no_chip refused in (
        fault.0,
        first.3.is_place ∙ ap (λ at. lower (trace_lines first.0) at) fault.1 ∙ ap (λ v. lower (trace_lines v) second.3.within) same.0 ∙ sym second.3.is_place,
      )

  same_width : (one other : Code) (here there : Place) → BreaksWidth text one here → BreaksWidth text other there → (one ≡ other) × (here ≡ there)
  same_width one other here there first second =
      let numbers : Some first.3.number ≡ Some second.3.number =
      sym first.3.first ∙ same_first first.0 second.0 first.1 second.1 first.2 second.2 ∙ second.3.first in
      let number : first.3.number ≡ second.3.number = cc in (
        first.3.is_code ∙ sym second.3.is_code,
        first.3.is_place ∙ ap line_place number ∙ sym second.3.is_place,
      )

  begins_chip : (code : Code) (place : Place) → BreaksChip text code place → BeginsWithTrace text
  begins_chip code place broken = (broken.0, broken.1, broken.2)

  begins_width : (code : Code) (place : Place) → BreaksWidth text code place → BeginsWithTrace text
  begins_width code place broken = (broken.0, broken.2.place, broken.2.trace)

  pub one_break : (one other : Code) (here there : Place) → BreaksDriven text one here → BreaksDriven text other there → (one ≡ other) × (here ≡ there)
  one_break one other here there (inl a) (inl b) =
      let fault = traces.one_refusal text a.0 b.0 here there a.2 b.2 in (a.1 ∙ ap trace_code fault.0 ∙ sym b.1, fault.1)
  one_break one other here there (inl a) (inr (inl b)) = absurd (no_trace one here a (begins_chip other there b))
  one_break one other here there (inl a) (inr (inr b)) = absurd (no_trace one here a (begins_width other there b))
  one_break one other here there (inr (inl a)) (inl b) = absurd (no_trace other there b (begins_chip one here a))
  one_break one other here there (inr (inl a)) (inr (inl b)) = same_chip one other here there a b
  one_break one other here there (inr (inl a)) (inr (inr b)) = absurd (no_chip one here b.0 b.1 a b.2)
  one_break one other here there (inr (inr a)) (inl b) = absurd (no_trace other there b (begins_width one here a))
  one_break one other here there (inr (inr a)) (inr (inl b)) = absurd (no_chip other there a.0 a.1 b a.2)
  one_break one other here there (inr (inr a)) (inr (inr b)) = same_width one other here there a b

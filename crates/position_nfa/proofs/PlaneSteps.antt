-- One more literal, term and sum, as at the steps of the loops that make the planes.
use Rattle.std.specs.Prelude.{flat_map}
use Rattle.std.proofs.Common.{◌≡◌, ℕ, ◌+◌, ◌<◌, Bool, List, [], ◌∷◌, ◌++◌, map, length, slice_index_or, if◌then◌else◌, refl, ap, sym, ◌∙◌}
use Rattle.std.specs.List.{range_with_len}
use Rattle.std.proofs.lemmas.List.{get_or_default}
use Rattle.rx_lang.specs.Positions.{State, start, Step}
use Rattle.rx_lang.specs.Specification.{NamedPattern}
use Rattle.rx_lang.specs.declared.pattern.PatternBit.{PatternBit}
use Rattle.rx_lang.specs.declared.pattern.PatternBit.TheVariants.{Any}
use Rattle.nor_net.specs.Netlist.{NorGate}
use Rattle.position_nfa.specs.declared.array_nets.ArrayCounts.{ArrayCounts}
use Rattle.position_nfa.specs.declared.steps.State.{State as StateName}
use Rattle.position_nfa.specs.declared.steps.Step.{Step as StepName}
use Rattle.position_nfa.specs.Automaton.{Automaton, mask_of, has_output}
use Rattle.position_nfa.specs.Registers.{state_named, step_named, literal, term_gate, term_net, step_of, marked_of, step_inputs, state_inputs, step_gate, mark_gate, leads_to, feeding_term, marking_term}
use Rattle.position_nfa.proofs.Adding.{extends, pieces_more, one_more, image_at}

pub literal_more : (c : ArrayCounts) (pattern : List PatternBit) (i : ℕ) (d : PatternBit) (first now later : List ℕ) → i < length pattern
    → now ≡ first ++ flat_map (λ line. literal c line (slice_index_or pattern line Any)) (range_with_len 0 i)
    → later ≡ now ++ literal c i (slice_index_or pattern i d)
    → later ≡ first ++ flat_map (λ line. literal c line (slice_index_or pattern line Any)) (range_with_len 0 (i + 1))
literal_more c pattern i d first now later lt before step =
    extends first now later _ (literal c i (slice_index_or pattern i Any)) _ before
    (step ∙ ap (λ place. now ++ literal c i place) (get_or_default pattern i d Any lt))
    (pieces_more (λ (line : ℕ). literal c line (slice_index_or pattern line Any)) i)

step_here : (steps : List StepName) (k : ℕ) (d : StepName) → k < length steps → step_named (slice_index_or steps k d) ≡ step_of (map step_named steps) k
step_here steps k d lt = sym (image_at step_named steps k d _ lt)

state_here : (marked : List StateName) (k : ℕ) (d : StateName) → k < length marked → state_named (slice_index_or marked k d) ≡ marked_of (map state_named marked) k
state_here marked k d lt = sym (image_at state_named marked k d _ lt)

pub step_term_more : (c : ArrayCounts) (symbols : List NamedPattern) (steps : List StepName) (k : ℕ) (d : StepName) (inputs : List ℕ) (first now later : List NorGate)
    → k < length steps → inputs ≡ step_inputs c symbols (step_named (slice_index_or steps k d))
    → now ≡ first ++ map (step_gate c symbols (map step_named steps)) (range_with_len 0 k)
    → later ≡ now ++ term_gate c k inputs ∷ []
    → later ≡ first ++ map (step_gate c symbols (map step_named steps)) (range_with_len 0 (k + 1))
step_term_more c symbols steps k d inputs first now later lt spelled before step =
    extends first now later _ (step_gate c symbols (map step_named steps) k ∷ []) _ before
    (step ∙ rw spelled (ap (λ (s : Step). now ++ term_gate c k (step_inputs c symbols s) ∷ []) (step_here steps k d lt)))
    (one_more (step_gate c symbols (map step_named steps)) k)

pub mark_term_more : (c : ArrayCounts) (from : ℕ) (marked : List StateName) (k : ℕ) (d : StateName) (none inputs : List ℕ) (first now later : List NorGate)
    → k < length marked → none ≡ [] → inputs ≡ none ++ state_inputs c (state_named (slice_index_or marked k d))
    → now ≡ first ++ map (mark_gate c from (map state_named marked)) (range_with_len 0 k)
    → later ≡ now ++ term_gate c (from + k) inputs ∷ []
    → later ≡ first ++ map (mark_gate c from (map state_named marked)) (range_with_len 0 (k + 1))
mark_term_more c from marked k d none inputs first now later lt empty spelled before step =
    extends first now later _ (mark_gate c from (map state_named marked) k ∷ []) _ before
    (step ∙ rw (spelled, empty) (ap (λ (s : State). now ++ term_gate c (from + k) (state_inputs c s) ∷ []) (state_here marked k d lt)))
    (one_more (mark_gate c from (map state_named marked)) k)

pub feeding_more : (c : ArrayCounts) (nfa : Automaton) (p : ℕ) (steps : List StepName) (k : ℕ) (d : StepName) (leads : Bool) (net : ℕ) (now later : List ℕ)
    → k < length steps → leads ≡ leads_to nfa p (step_named (slice_index_or steps k d)) → net ≡ term_net c k
    → now ≡ flat_map (feeding_term c nfa (map step_named steps) p) (range_with_len 0 k)
    → later ≡ now ++ (if leads then net ∷ [] else [])
    → later ≡ flat_map (feeding_term c nfa (map step_named steps) p) (range_with_len 0 (k + 1))
feeding_more c nfa p steps k d leads net now later lt tells is before step =
    let here : leads ≡ leads_to nfa p (step_of (map step_named steps) k) = tells ∙ ap (leads_to nfa p) (step_here steps k d lt) in
    step ∙ rw (before, here, is) (sym (pieces_more (feeding_term c nfa (map step_named steps) p) k))

pub marking_more : (c : ArrayCounts) (nfa : Automaton) (y from : ℕ) (marked : List StateName) (k : ℕ) (d : StateName) (marks : Bool) (mask net : ℕ) (now later : List ℕ)
    → k < length marked → marks ≡ has_output mask y → mask ≡ mask_of nfa (state_named (slice_index_or marked k d)) → net ≡ term_net c (from + k)
    → now ≡ flat_map (marking_term c nfa from (map state_named marked) y) (range_with_len 0 k)
    → later ≡ now ++ (if marks then net ∷ [] else [])
    → later ≡ flat_map (marking_term c nfa from (map state_named marked) y) (range_with_len 0 (k + 1))
marking_more c nfa y from marked k d marks mask net now later lt tells masked is before step =
    let here : marks ≡ has_output (mask_of nfa (marked_of (map state_named marked) k)) y =
    tells ∙ ap (λ (m : ℕ). has_output m y) (masked ∙ ap (mask_of nfa) (state_here marked k d lt)) in
    step ∙ rw (before, here, is) (sym (pieces_more (marking_term c nfa from (map state_named marked) y) k))

-- what is added to nothing, one after another
pub gathers : {X : Type 0} (none a b d x y z : List X) → none ≡ [] → a ≡ none ++ x → b ≡ a ++ y → d ≡ b ++ z → d ≡ x ++ y ++ z
gathers none a b d x y z empty first second third = third ∙ rw (second, first, empty) refl

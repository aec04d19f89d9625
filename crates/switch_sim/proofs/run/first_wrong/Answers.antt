use Rattle.std.proofs.Common.{◌≡◌, ◌≢◌, ℕ, ◌<◌, ◌==◌, ◌≤◌, not, Bool, List, [], Option, Some, None, length, get_or, refl, subst, sym, ap, ◌∙◌, arith, eq-eqb}
use Rattle.std.proofs.lemmas.Bool.{lt-ltb, le-ltb, ne_eqb}
use Rattle.std.proofs.lemmas.List.Sums.{prefix_len_is}
use Rattle.std.specs.List.{position}
use Rattle.switch_sim.specs.TraceLines.{input_count}
use Rattle.switch_sim.proofs.run.first_wrong.Goals as goal

module _ (inputs : ℕ) (vectors : List (List Bool)) (at : ℕ) (before : (k : ℕ) → k < at → length (get_or vectors k []) ≡ inputs) where
  found : at < length vectors → length (get_or vectors at []) ≢ inputs → position (λ vector. not (length vector == inputs)) vectors ≡ Some at
  found lt wrong =
      let place = prefix_len_is (λ vector. not (not (length vector == inputs))) vectors at [] (omega arith)
      (λ k below. rw (eq-eqb (length (get_or vectors k [])) inputs (before k below)) refl)
      (λ _. rw (ne_eqb (length (get_or vectors at [])) inputs wrong) refl) in
      rw (place, lt-ltb at (length vectors) lt) refl

  missed : length vectors ≤ at → position (λ vector. not (length vector == inputs)) vectors ≡ None
  missed all =
      let place = prefix_len_is (λ vector. not (not (length vector == inputs))) vectors (length vectors) [] (omega arith)
      (λ k below. rw (eq-eqb (length (get_or vectors k [])) inputs (before k (omega arith))) refl)
      (λ lt. absurd (omega arith)) in
      rw (place, le-ltb (length vectors) (length vectors) (omega arith)) refl

-- the same, where the number of input pads is known as a count
at_inputs : (n inputs : ℕ) (vectors : List (List Bool)) (o : Option ℕ) → n ≡ inputs → position (λ vector. not (length vector == n)) vectors ≡ o
    → o ≡ position (λ vector. not (length vector == inputs)) vectors
at_inputs n inputs vectors o e h = subst (λ m. o ≡ position (λ vector. not (length vector == m)) vectors) e (sym h)

pub returns-then-vector-inputs : goal.returns-then-vector-inputs
returns-then-vector-inputs c =
    let count = c.input_count-inputs.ensures ∙ ap input_count c.pads.ensures.pads in
    let lt : c.loop-at.at < length c.args.trace.now = omega (arith, c.len-at-end.ensures.count) in
    let wrong : length (get_or c.args.trace.now c.loop-at.at []) ≢ c.input_count-inputs.result =
    λ e. c.if-vector-inputs.true (ap length c.vector.ensures ∙ e) in
    at_inputs c.input_count-inputs.result (input_count c.args.network.now.pads) c.args.trace.now (Some c.loop-at.at) count
    (found c.input_count-inputs.result c.args.trace.now c.loop-at.at c.loop-at.invariant lt wrong)

pub returns : goal.returns
returns c =
    let count = c.input_count-inputs.ensures ∙ ap input_count c.pads.ensures.pads in
    let all : length c.args.trace.now ≤ c.loop-at.at = omega (arith, c.len-at-end.ensures.count) in
    at_inputs c.input_count-inputs.result (input_count c.args.network.now.pads) c.args.trace.now None count
    (missed c.input_count-inputs.result c.args.trace.now c.loop-at.at c.loop-at.invariant all)

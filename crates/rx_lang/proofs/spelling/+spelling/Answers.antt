use Rattle.std.proofs.Common.{suc, IsTrue, ◌≡◌, ◌≢◌, ◌↔◌, ◌-◌, ◌+◌, ◌/◌, length, take, drop, refl, sym, subst, inl, inr, arith, ◌==◌, ◌∙◌, true, eq-eqb}
use Rattle.std.proofs.lemmas.Bool.Decides.{Decides-eqb}
use Rattle.std.proofs.lemmas.Bool.{cases_lt, iff_false}
use Rattle.rx_lang.specs.Expression.{repeated, sequence, star}
use Rattle.rx_lang.specs.VectorWords.{SpellsWord, node_tree}
use Rattle.rx_lang.specs.Wrapped.{core_tree, wrap}
use Rattle.rx_lang.proofs.Middle.{around_many, many_around, many_nothing, repeat_at_end, repeat_goes_on, repeat_left_out, unwrapped_nothing, wrapped_many, wrapped_nothing}
use Rattle.rx_lang.proofs.WordCuts.{no_sequence}
use Rattle.rx_lang.proofs.spelling.+spelling.Goals as goal
use Rattle.rx_lang.proofs.spelling.+spelling.Goals.{spells_next-else-accepts-via-then-accepts+else-spells_repeat, spells_next-else-accepts-via-else-accepts, spells_sequence-else-accepts-via-then-accepts+else-accepts-2, spells_sequence-else-accepts-via-else-accepts}

pub spells_around-returns-then-spells_many-2 : goal.spells_around-returns-then-spells_many-2
spells_around-returns-then-spells_many-2 t c = (
  λ e. record {
    size = c.loop-size.size;
    enough = c.loop-size.auto.size;
    within = omega arith;
    many = c.spells_many.ensures.0 c.if-spells_many.true;
    one = subst (SpellsWord c.args.spec.now (core_tree c.args.spec.now c.args.core)) c.split_at.ensures.front (c.spells_once.ensures.0 c.if-spells_once.true);
    further = subst (SpellsWord c.args.spec.now (star (core_tree c.args.spec.now c.args.core))) c.split_at.ensures.back
        (c.spells_many-then-spells_many.ensures.0 c.if-spells_many-2.true);
  },
  λ h. refl,
)

pub spells_many-returns-then-is_empty : goal.spells_many-returns-then-is_empty
spells_many-returns-then-is_empty t c = (
  λ e. many_nothing c.args.spec.now (core_tree c.args.spec.now c.args.core) c.args.word.now
      ((Decides-eqb (length c.args.word.now) 0).0 (sym c.is_empty.ensures ∙ c.if-is_empty.true)),
  λ h. refl,
)

pub spells_many-returns-then-spells_around : goal.spells_many-returns-then-spells_around
spells_many-returns-then-spells_around t c = (
  λ e. many_around c.args.spec.now (core_tree c.args.spec.now c.args.core) c.args.word.now c.loop-start.start (length c.args.word.now / 2 - c.loop-start.start + 1)
      (rw (← c.split_at.ensures.front, ← c.split_at.ensures.back) (c.spells_around.ensures.0 c.if-spells_around.true)),
  λ h. refl,
)

pub spells_many-returns-else-spells_around : goal.spells_many-returns-else-spells_around
spells_many-returns-else-spells_around t c = (
  λ e. cc,
  λ h.
      let some : length c.args.word.now ≢ 0 = λ none. (let full : (length c.args.word.now == 0) ≡ true = eq-eqb (length c.args.word.now) 0 none in cc) in
      absurd (around_many c.args.spec.now (core_tree c.args.spec.now c.args.core) c.args.word.now (length c.args.word.now / 2) (omega arith) h
      (λ n within around. elim (cases_lt n c.loop-start.start) [
        | inl lt ↦ c.loop-start.invariant n lt around
        | inr ge ↦
            let at : n ≡ c.loop-start.start = omega arith in
            iff_false c.spells_around.ensures c.if-spells_around.false
            (rw (c.split_at.ensures.front, c.split_at.ensures.back) (rw at at around))
      ])),
)

pub spells_sequence-returns-else-accepts : goal.spells_sequence-returns-else-accepts
spells_sequence-returns-else-accepts t c = (
  λ e. cc,
  λ h. absurd (no_sequence c.args.spec.now (node_tree c.args.spec.now c.args.first) (node_tree c.args.spec.now c.args.second) c.args.word.now
      (λ n within p q. elim (cases_lt n c.loop-cut.cut) [
        | inl lt ↦ c.loop-cut.invariant n lt p q
        | inr ge ↦
            let at : n ≡ c.loop-cut.cut = omega arith in
            elim c.else-accepts.branch [
              | spells_sequence-else-accepts-via-then-accepts+else-accepts-2 w ↦
                  iff_false w.accepts-then-accepts.ensures w.if-accepts-2.false
                  (rw c.split_at.ensures.front (subst (λ k. SpellsWord c.args.spec.now (node_tree c.args.spec.now c.args.first) (take k c.args.word.now)) at p))
              | spells_sequence-else-accepts-via-else-accepts w ↦
                  iff_false c.accepts.ensures w.if-accepts.false
                  (rw c.split_at.ensures.back (subst (λ k. SpellsWord c.args.spec.now (node_tree c.args.spec.now c.args.second) (drop k c.args.word.now)) at q))
            ]
      ]) h),
)

pub spells_wrapped-returns-then-wrapped : goal.spells_wrapped-returns-then-wrapped
spells_wrapped-returns-then-wrapped t c = (
  λ e. subst (λ m. SpellsWord c.args.spec.now (wrap c.args.wrapped.loops m (core_tree c.args.spec.now c.args.wrapped.core)) c.args.word.now) (sym c.if-wrapped.true)
      (wrapped_nothing c.args.spec.now (core_tree c.args.spec.now c.args.wrapped.core) c.args.wrapped.loops c.args.word.now
      ((Decides-eqb (length c.args.word.now) 0).0 (sym c.is_empty.ensures ∙ c.if-is_empty.true))),
  λ h. c.if-wrapped.true,
)

pub spells_wrapped-returns-else-wrapped : goal.spells_wrapped-returns-else-wrapped
spells_wrapped-returns-else-wrapped t c =
    let same : SpellsWord c.args.spec.now (wrap c.args.wrapped.loops c.args.wrapped.empty (core_tree c.args.spec.now c.args.wrapped.core)) c.args.word.now
    ↔ SpellsWord c.args.spec.now (core_tree c.args.spec.now c.args.wrapped.core) c.args.word.now
    = subst (λ m. SpellsWord c.args.spec.now (wrap c.args.wrapped.loops m (core_tree c.args.spec.now c.args.wrapped.core)) c.args.word.now
    ↔ SpellsWord c.args.spec.now (core_tree c.args.spec.now c.args.wrapped.core) c.args.word.now) (sym c.if-wrapped.false)
    (unwrapped_nothing c.args.spec.now (core_tree c.args.spec.now c.args.wrapped.core) c.args.wrapped.loops c.args.word.now
    ((Decides-eqb (length c.args.word.now) 0).0 (sym c.is_empty.ensures ∙ c.if-is_empty.true))) in
    (λ e. same.1 (c.spells_once.ensures.0 e), λ h. c.spells_once.ensures.1 (same.0 h))

pub spells_wrapped-returns-then-wrapped-2 : goal.spells_wrapped-returns-then-wrapped-2
spells_wrapped-returns-then-wrapped-2 t c =
    let some : length c.args.word.now ≢ 0 = λ none. (let full : (length c.args.word.now == 0) ≡ true = eq-eqb (length c.args.word.now) 0 none in cc) in
    let same : SpellsWord c.args.spec.now (wrap c.args.wrapped.loops c.args.wrapped.empty (core_tree c.args.spec.now c.args.wrapped.core)) c.args.word.now
    ↔ SpellsWord c.args.spec.now (star (core_tree c.args.spec.now c.args.wrapped.core)) c.args.word.now
    = subst (λ l. SpellsWord c.args.spec.now (wrap l c.args.wrapped.empty (core_tree c.args.spec.now c.args.wrapped.core)) c.args.word.now
    ↔ SpellsWord c.args.spec.now (star (core_tree c.args.spec.now c.args.wrapped.core)) c.args.word.now) (sym c.if-wrapped-2.true)
    (wrapped_many c.args.spec.now (core_tree c.args.spec.now c.args.wrapped.core) c.args.wrapped.empty c.args.word.now some) in
    (λ e. same.1 (c.spells_many.ensures.0 e), λ h. c.spells_many.ensures.1 (same.0 h))

pub spells_repeat-returns-then-is_left_out : goal.spells_repeat-returns-then-is_left_out
spells_repeat-returns-then-is_left_out t c = (
  λ e. repeat_left_out c.args.spec.now (node_tree c.args.spec.now c.args.inner) c.args.least c.args.most c.args.word.now
      (c.is_left_out.ensures.0 c.if-is_left_out.true),
  λ h. refl,
)

pub spells_repeat-returns-then-most-eq0 : goal.spells_repeat-returns-then-most-eq0
spells_repeat-returns-then-most-eq0 t c = (
  λ e. cc,
  λ h. absurd (repeat_at_end c.args.spec.now (node_tree c.args.spec.now c.args.inner) c.args.least c.args.most c.args.word.now
      (λ p. iff_false c.is_left_out.ensures c.if-is_left_out.false p) c.if-most-eq0.true h),
)

pub spells_repeat-returns-else-most-eq0 : goal.spells_repeat-returns-else-most-eq0
spells_repeat-returns-else-most-eq0 t c =
    let some : c.args.most ≢ 0 = c.if-most-eq0.false in
    let at : c.args.most ≡ suc (c.args.most - 1) = omega arith in
    let same = repeat_goes_on c.args.spec.now (node_tree c.args.spec.now c.args.inner) c.args.least c.args.most (c.args.most - 1) c.args.word.now
    (λ p. iff_false c.is_left_out.ensures c.if-is_left_out.false p) at in
    let next = subst (λ k. IsTrue c.spells_next.result ↔ SpellsWord c.args.spec.now (sequence (node_tree c.args.spec.now c.args.inner)
    (repeated (node_tree c.args.spec.now c.args.inner) k (c.args.most - 1))) c.args.word.now) c.saturating_sub.ensures c.spells_next.ensures in
    (λ e. same.0 (next.0 e), λ h. next.1 (same.1 h))

pub spells_next-returns-else-accepts : goal.spells_next-returns-else-accepts
spells_next-returns-else-accepts t c = (
  λ e. cc,
  λ h. absurd (no_sequence c.args.spec.now (node_tree c.args.spec.now c.args.inner) (repeated (node_tree c.args.spec.now c.args.inner) c.args.least c.args.most) c.args.word.now
      (λ n within p q. elim (cases_lt n c.loop-cut.cut) [
        | inl lt ↦ c.loop-cut.invariant n lt p q
        | inr ge ↦
            let at : n ≡ c.loop-cut.cut = omega arith in
            elim c.else-accepts.branch [
              | spells_next-else-accepts-via-then-accepts+else-spells_repeat w ↦
                  iff_false w.spells_repeat.ensures w.if-spells_repeat.false
                  (rw c.split_at.ensures.back (subst (λ k. SpellsWord c.args.spec.now (repeated (node_tree c.args.spec.now c.args.inner) c.args.least c.args.most) (drop k c.args.word.now)) at q))
              | spells_next-else-accepts-via-else-accepts w ↦
                  iff_false c.accepts.ensures w.if-accepts.false
                  (rw c.split_at.ensures.front (subst (λ k. SpellsWord c.args.spec.now (node_tree c.args.spec.now c.args.inner) (take k c.args.word.now)) at p))
            ]
      ]) h),
)

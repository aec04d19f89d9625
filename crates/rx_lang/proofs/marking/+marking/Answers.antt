use Rattle.std.proofs.Common.{◌≡◌, length, take, drop, subst, inl, inr, arith}
use Rattle.std.proofs.lemmas.Bool.{cases_lt, iff_false}
use Rattle.rx_lang.specs.Vector.{bits_of}
use Rattle.rx_lang.specs.Expression.{star}
use Rattle.rx_lang.specs.Meaning.{Many, Marks, RepeatMarks, Spells}
use Rattle.rx_lang.specs.Specification.{MatchesSymbol}
use Rattle.rx_lang.specs.VectorWords.{MarksWord, SpellsWord, node_tree}
use Rattle.rx_lang.specs.Wrapped.{MarksRepeated, core_tree}
use Rattle.rx_lang.proofs.Cuts.{no_cut}
use Rattle.rx_lang.proofs.marking.+marking.Goals as goal
use Rattle.rx_lang.proofs.marking.+marking.Goals.{marks_next-else-accepts-via-then-accepts+else-marks_repeat, marks_next-else-accepts-via-else-accepts, marks_behind-else-spells_many-via-then-spells_many+else-marks_once, marks_behind-else-spells_many-via-else-spells_many, marks_second-else-marks-via-then-marks+else-accepts, marks_second-else-marks-via-else-marks}

pub marks_behind-returns-else-spells_many : goal.marks_behind-returns-else-spells_many
marks_behind-returns-else-spells_many t c = (
  λ e. cc,
  λ h. absurd (no_cut (bits_of (length c.args.spec.now.lines)) (Many (Spells (MatchesSymbol c.args.spec.now.symbols) (core_tree c.args.spec.now c.args.core)))
      (Marks (MatchesSymbol c.args.spec.now.symbols) (core_tree c.args.spec.now c.args.core) c.args.output) c.args.word.now
      (λ n within p q. elim (cases_lt n c.loop-cut.cut) [
        | inl lt ↦ c.loop-cut.invariant n lt p q
        | inr ge ↦
            let at : n ≡ c.loop-cut.cut = omega arith in
            elim c.else-spells_many.branch [
              | marks_behind-else-spells_many-via-then-spells_many+else-marks_once w ↦
                  iff_false w.marks_once.ensures w.if-marks_once.false
                  (rw c.split_at.ensures.back (subst (λ k. MarksWord c.args.spec.now (core_tree c.args.spec.now c.args.core) c.args.output (drop k c.args.word.now)) at q))
              | marks_behind-else-spells_many-via-else-spells_many w ↦
                  iff_false c.spells_many.ensures w.if-spells_many.false
                  (rw c.split_at.ensures.front (subst (λ k. SpellsWord c.args.spec.now (star (core_tree c.args.spec.now c.args.core)) (take k c.args.word.now)) at p))
            ]
      ]) h),
)

pub marks_second-returns-else-marks : goal.marks_second-returns-else-marks
marks_second-returns-else-marks t c = (
  λ e. cc,
  λ h. absurd (no_cut (bits_of (length c.args.spec.now.lines)) (Spells (MatchesSymbol c.args.spec.now.symbols) (node_tree c.args.spec.now c.args.first))
      (Marks (MatchesSymbol c.args.spec.now.symbols) (node_tree c.args.spec.now c.args.second) c.args.output) c.args.word.now
      (λ n within p q. elim (cases_lt n c.loop-cut.cut) [
        | inl lt ↦ c.loop-cut.invariant n lt p q
        | inr ge ↦
            let at : n ≡ c.loop-cut.cut = omega arith in
            elim c.else-marks.branch [
              | marks_second-else-marks-via-then-marks+else-accepts w ↦
                  iff_false w.accepts.ensures w.if-accepts.false
                  (rw c.split_at.ensures.front (subst (λ k. SpellsWord c.args.spec.now (node_tree c.args.spec.now c.args.first) (take k c.args.word.now)) at p))
              | marks_second-else-marks-via-else-marks w ↦
                  iff_false c.marks.ensures w.if-marks.false
                  (rw c.split_at.ensures.back (subst (λ k. MarksWord c.args.spec.now (node_tree c.args.spec.now c.args.second) c.args.output (drop k c.args.word.now)) at q))
            ]
      ]) h),
)

pub marks_next-returns-else-accepts : goal.marks_next-returns-else-accepts
marks_next-returns-else-accepts t c = (
  λ e. cc,
  λ h. absurd (no_cut (bits_of (length c.args.spec.now.lines)) (Spells (MatchesSymbol c.args.spec.now.symbols) (node_tree c.args.spec.now c.args.inner))
      (RepeatMarks (Spells (MatchesSymbol c.args.spec.now.symbols) (node_tree c.args.spec.now c.args.inner))
      (Marks (MatchesSymbol c.args.spec.now.symbols) (node_tree c.args.spec.now c.args.inner) c.args.output) c.args.most) c.args.word.now
      (λ n within p q. elim (cases_lt n c.loop-cut.cut) [
        | inl lt ↦ c.loop-cut.invariant n lt p q
        | inr ge ↦
            let at : n ≡ c.loop-cut.cut = omega arith in
            elim c.else-accepts.branch [
              | marks_next-else-accepts-via-then-accepts+else-marks_repeat w ↦
                  iff_false w.marks_repeat.ensures w.if-marks_repeat.false
                  (rw c.split_at.ensures.back (subst (λ k. MarksRepeated c.args.spec.now (node_tree c.args.spec.now c.args.inner) c.args.most c.args.output (drop k c.args.word.now)) at q))
              | marks_next-else-accepts-via-else-accepts w ↦
                  iff_false c.accepts.ensures w.if-accepts.false
                  (rw c.split_at.ensures.front (subst (λ k. SpellsWord c.args.spec.now (node_tree c.args.spec.now c.args.inner) (take k c.args.word.now)) at p))
            ]
      ]) h),
)

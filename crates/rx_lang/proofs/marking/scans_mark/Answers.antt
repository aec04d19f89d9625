use Rattle.std.proofs.Common.{◌≡◌, ◌<◌, length, map, drop, All, subst, sym, inl, inr, arith}
use Rattle.std.specs.Bool.{⊤}
use Rattle.std.proofs.lemmas.Bool.{cases_lt, iff_false}
use Rattle.rx_lang.specs.Vector.{bits_of}
use Rattle.rx_lang.specs.Meaning.{SomeMarks}
use Rattle.rx_lang.specs.Specification.{MatchesSymbol}
use Rattle.rx_lang.specs.VectorWords.{node_tree, word_bits}
use Rattle.rx_lang.proofs.Cuts.{no_cut}
use Rattle.rx_lang.proofs.Statements.{roots_behind}
use Rattle.rx_lang.proofs.marking.scans_mark.Goals as goal

pub some_marks-requires-clause-in_table : goal.some_marks-requires-clause-in_table
some_marks-requires-clause-in_table c =
    subst (All (λ root. root < length c.args.spec.now.nodes)) (sym c.scans.ensures.roots)
    (roots_behind c.args.spec.now.exprs c.args.spec.now.scans (length c.args.spec.now.nodes) c.scans.ensures.specification.roots_in_table)

pub returns-else-some_marks : goal.returns-else-some_marks
returns-else-some_marks c = (
  λ e. cc,
  λ h. absurd (no_cut (bits_of (length c.args.spec.now.lines)) (λ v. ⊤)
      (SomeMarks (MatchesSymbol c.args.spec.now.symbols) (map (node_tree c.args.spec.now) c.args.spec.now.scans) c.args.output) c.args.word.now
      (λ n within p q. elim (cases_lt n c.loop-cut.cut) [
        | inl lt ↦ c.loop-cut.invariant n lt q
        | inr ge ↦
            let at : n ≡ c.loop-cut.cut = omega arith in
            iff_false c.some_marks.ensures c.if-some_marks.false
            (subst (λ roots. SomeMarks (MatchesSymbol c.args.spec.now.symbols) (map (node_tree c.args.spec.now) roots) c.args.output
            (word_bits c.args.spec.now c.split_at.result.1.now)) (sym c.scans.ensures.roots)
            (rw c.split_at.ensures.back (subst (λ k. SomeMarks (MatchesSymbol c.args.spec.now.symbols) (map (node_tree c.args.spec.now) c.args.spec.now.scans)
            c.args.output (word_bits c.args.spec.now (drop k c.args.word.now))) at q)))
      ]) h),
)

use Rattle.std.proofs.Common.{refl, arith}
use Rattle.rx_lang.specs.Specification.{MatchesSymbol}
use Rattle.rx_lang.specs.VectorWords.{node_tree, word_bits}
use Rattle.rx_lang.proofs.Statements.{no_statement, statement_marks}
use Rattle.rx_lang.proofs.marking.some_marks.Goals as goal

pub returns-then-marks : goal.returns-then-marks
returns-then-marks c = (
  λ e. statement_marks (MatchesSymbol c.args.spec.now.symbols) (node_tree c.args.spec.now) c.args.output (word_bits c.args.spec.now c.args.word.now)
      c.args.roots.now c.loop-root.root-index c.loop-root-test.true (c.marks.ensures.0 c.if-marks.true),
  λ h. refl,
)

pub returns : goal.returns
returns c = (
  λ e. cc,
  λ h. absurd (no_statement (MatchesSymbol c.args.spec.now.symbols) (node_tree c.args.spec.now) c.args.output (word_bits c.args.spec.now c.args.word.now)
      c.args.roots.now (λ k lt m. c.loop-root.invariant k (omega arith) m) h),
)

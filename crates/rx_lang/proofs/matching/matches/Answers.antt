use Rattle.std.proofs.Common.{◌≡◌, ◌==◌, length, get_or, refl, sym, subst, below_more, arith}
use Rattle.std.proofs.lemmas.Bool.{iff_false}
use Rattle.std.specs.Int.{bit_at}
use Rattle.rx_lang.specs.declared.pattern.PatternBit.TheVariants.{Zero}
use Rattle.rx_lang.specs.Vector.{Agrees}
use Rattle.rx_lang.proofs.Agreeing.{all_agree, each_agrees}
use Rattle.rx_lang.proofs.matching.matches.Goals as goal

pub returns-then-not-agrees : goal.returns-then-not-agrees
returns-then-not-agrees c = (
  λ e. cc,
  λ h. absurd (iff_false c.agrees.ensures c.if-not-agrees.true
      (subst (Agrees (get_or c.args.pattern.now c.loop-line.line Zero)) (sym c.bit_of.ensures)
      (each_agrees (λ line. bit_at c.args.vector.bits line == 1) c.args.pattern.now 0 (length c.args.pattern.now) refl h c.loop-line.line
      c.loop-line.line c.loop-line-test.true (omega arith)))),
)

pub loop-line-preserved : goal.loop-line-preserved
loop-line-preserved c =
    below_more (λ k. Agrees (get_or c.args.pattern.now k Zero) (bit_at c.args.vector.bits k == 1)) c.loop-line.line c.loop-line.invariant
    (subst (Agrees (get_or c.args.pattern.now c.loop-line.line Zero)) c.bit_of.ensures (c.agrees.ensures.0 c.if-not-agrees.false))

pub returns : goal.returns
returns c = (
  λ e. all_agree (λ line. bit_at c.args.vector.bits line == 1) c.args.pattern.now 0 (length c.args.pattern.now) refl
      (λ k m lt at. let same : k ≡ m = omega arith in
      subst (λ j. Agrees (get_or c.args.pattern.now k Zero) (bit_at c.args.vector.bits j == 1)) same (c.loop-line.invariant k (omega arith))),
  λ h. refl,
)

-- One byte after another.
use Rattle.std.proofs.Common.{◌<◌, ◌≤◌, length, sym, subst, arith}
use Rattle.cif_read.specs.declared.mark.Mark.{Mark}
use Rattle.cif_read.specs.Marks.{IsMark}
use Rattle.cif_read.proofs.Marks.{line_bound, column_bound, mark_more, at_more}
use Rattle.cif_read.proofs.mark.Mark.forward.Goals as goal

pub behind-mark-requires-clause-line : goal.behind-mark-requires-clause-line
behind-mark-requires-clause-line c = omega (
  arith,
  line_bound c.args.text.now c.loop-mark.mark c.loop-mark.invariant.0,
  c.loop-mark.invariant.1,
  c.requires.within,
  c.requires.few_bytes,
  c.loop-mark-test.true,
)

pub behind-mark-requires-clause-column : goal.behind-mark-requires-clause-column
behind-mark-requires-clause-column c = omega (
  arith,
  column_bound c.args.text.now c.loop-mark.mark c.loop-mark.invariant.0,
  c.loop-mark.invariant.1,
  c.requires.within,
  c.requires.few_bytes,
  c.loop-mark-test.true,
)

pub loop-mark-preserved : goal.loop-mark-preserved
loop-mark-preserved c =
    let short : c.loop-mark.mark.at < length c.args.text.now = omega (arith, c.requires.within, c.loop-mark.invariant.1, c.loop-mark-test.true) in
    let P : Mark → Type 0 = λ v. IsMark c.args.text.now v in (
      subst P (sym c.behind-mark.ensures) (mark_more c.args.text.now c.loop-mark.mark short c.loop-mark.invariant.0),
      subst (λ
          (v : Mark). v.at ≤ c.args.to) (sym c.behind-mark.ensures) (at_more c.loop-mark.mark _ (omega (arith, c.loop-mark-test.true))),
    )

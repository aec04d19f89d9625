-- One blank after another.
use Rattle.std.proofs.Common.{◌≡◌, inl, inr, sym, ◌∙◌}
use Rattle.cif_syntax.proofs.Sorting.{skip_more}
use Rattle.cif_syntax.proofs.next.skip_blanks.Goals as goal

pub loop-at-preserved : goal.loop-at-preserved
loop-at-preserved c = skip_more c.args.text.now c.args.from c.loop-at.at c.loop-at-test.true (sym c.is_blank.ensures ∙ c.if-is_blank.true) c.loop-at.invariant

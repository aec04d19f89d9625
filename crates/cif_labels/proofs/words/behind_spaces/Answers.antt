-- One space more.
use Rattle.std.proofs.Common.{◌∙◌, arith}
use Rattle.cif_labels.proofs.Cuts.{pass_space, no_space_inside}
use Rattle.cif_labels.proofs.words.behind_spaces.Goals as goal

pub loop-from-preserved : goal.loop-from-preserved
loop-from-preserved c = record {
  within = omega (arith, c.loop-from-test.true);
  same = pass_space c.args.text.now c.loop-from.from c.loop-from-test.true c.if-text-from-eq32.true ∙ c.loop-from.invariant.same;
}

use Rattle.std.proofs.Common.{◌∙◌, map, sym, ap, add-one}
use Rattle.std.proofs.lemmas.List.{take_all}
use Rattle.rx_lang.specs.Tables.{tree_at}
use Rattle.rx_syntax.specs.Printed.{have_repeat}
use Rattle.rx_syntax.proofs.RepeatTests.{none_repeats, root_repeats}
use Rattle.rx_syntax.proofs.repeats.have_repeat.Goals as goal

pub loop-root-preserved : goal.loop-root-preserved
loop-root-preserved c = λ made e.
    rw add-one (none_repeats made c.args.roots.now c.loop-root.root-index 0 c.loop-root-test.true
    (sym (c.test_at.ensures made e) ∙ c.if-test_at.false) (c.loop-root.invariant made e))

pub returns-then-test_at : goal.returns-then-test_at
returns-then-test_at c = λ made e.
    sym (root_repeats made c.args.roots.now c.loop-root.root-index 0 c.loop-root-test.true (sym (c.test_at.ensures made e) ∙ c.if-test_at.true))

pub returns : goal.returns
returns c = λ made e.
    sym (ap (λ rs. have_repeat (map (tree_at made) rs)) (sym (take_all c.loop-root.root-index c.args.roots.now c.loop-root-test.false)) ∙ c.loop-root.invariant made e)

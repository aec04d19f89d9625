use Rattle.std.proofs.Common.{refl, ◌∙◌, sym}
use Rattle.std.proofs.lemmas.List.{at_drop_all}
use Rattle.nor_net.specs.Evaluation.{evaluated}
use Rattle.nor_net.proofs.Steps.{evaluated_more}
use Rattle.nor_net.proofs.evaluation.evaluate.Goals as goal

pub loop-at-init : goal.loop-at-init
loop-at-init c = refl

pub loop-at-preserved : goal.loop-at-preserved
loop-at-preserved c =
    rw (c.evaluated_net-value.ensures)
    (sym (evaluated_more c.args.net.now c.args.drive.now c.order_in-at-items.result.now c.loop-at.values c.loop-at.at-index 0 c.loop-at-test.true)
    ∙ c.loop-at.invariant)

pub returns-clause-values : goal.returns-clause-values
returns-clause-values c =
    sym (at_drop_all (λ rest. evaluated c.args.net.now c.args.drive.now rest c.loop-at.values) c.order_in-at-items.result.now c.loop-at.at-index c.loop-at-test.false)
    ∙ rw (← c.order_in-at-items.ensures.order) c.loop-at.invariant

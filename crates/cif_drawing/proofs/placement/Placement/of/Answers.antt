-- One transformation more acts behind those before it.
use Rattle.std.proofs.Common.{◌+◌, ◌*◌, ◌^◌, false, pos, get_or, ◌∙◌, ap, sym, arith}
use Rattle.std.proofs.lemmas.List.Sums.{fold_more}
use Rattle.geom.specs.Squares.{BoxShape}
use Rattle.cif_drawing.specs.declared.placement.Step.{Step}
use Rattle.cif_drawing.specs.Placements.{step_box, placed}
use Rattle.cif_drawing.proofs.Lists.{among_at}
use Rattle.cif_drawing.proofs.Near.{near_more}
use Rattle.cif_drawing.proofs.placement.Placement.of.Goals as goal

abbrev no_step : Step
no_step = record { turn = record { swap = false; neg_x = false; neg_y = false }; x = pos 0; y = pos 0 }

pub of_step-requires : goal.of_step-requires
of_step-requires c = c.requires (get_or c.args.steps.now c.loop-step.step-index no_step) (among_at c.args.steps.now c.loop-step.step-index no_step c.loop-step-test.true)

pub loop-step-preserved : goal.loop-step-preserved
loop-step-preserved c = record {
  near =
      near_more (c.loop-step.step-index * 2 ^ 40 + 2 ^ 40) ((c.loop-step.step-index + 1) * 2 ^ 40) c.then-placement.result.by (omega arith)
      (c.then-placement.ensures.near (c.loop-step.step-index * 2 ^ 40) (2 ^ 40) c.loop-step.invariant.near c.of_step.ensures.near);
  placed = λ b o.
      c.then-placement.ensures.placed b ∙ (c.of_step.ensures.placed (placed c.loop-step.placement b)
      ∙ (ap (λ (v : BoxShape). step_box v (get_or c.args.steps.now c.loop-step.step-index no_step)) (c.loop-step.invariant.placed b o)
      ∙ sym (fold_more step_box b c.args.steps.now c.loop-step.step-index no_step c.loop-step-test.true)));
}

use Rattle.std.proofs.Common.{◌+◌, ◌-◌, ap, ◌∙◌, arith}
use Rattle.demo_spec.specs.Generator.{Making, with_leaves}
use Rattle.demo_spec.specs.Piles.{leaf_count, making}
use Rattle.demo_spec.proofs.Makings.{leaf_more, one_leaf}
use Rattle.demo_spec.proofs.maker.Maker.with_leaves.Goals as goal

-- src/maker.rt
pub loop-made-preserved : goal.loop-made-preserved
loop-made-preserved c =
    let old : Making = making c.loop-made.maker in
    record {
      same = ap (with_leaves (c.args.leaves - (c.loop-made.made + 1))) c.in_ok-maker.ensures
          ∙ one_leaf c.args.leaves c.loop-made.made old c.loop-made-test.true ∙ c.loop-made.invariant.same;
      counted = omega (
        arith,
        ap (λ (m : Making). leaf_count m.stack) c.in_ok-maker.ensures,
        leaf_more old,
        c.loop-made.invariant.counted,
      );
      within = omega (arith, c.loop-made-test.true);
    }

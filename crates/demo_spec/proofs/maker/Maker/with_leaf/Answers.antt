use Rattle.demo_spec.proofs.Makings.{leaf_made}
use Rattle.demo_spec.proofs.maker.Maker.with_leaf.Goals as goal

-- src/maker.rt
pub returns : goal.returns
returns c = leaf_made c.combined_by_draws.result c.args.self c.in_ok-pushed.field-0 c.in_ok-pushed.ensures c.combined_by_draws.ensures

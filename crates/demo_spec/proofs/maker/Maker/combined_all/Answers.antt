use Rattle.std.proofs.Common.{◌≤◌, length, ◌∙◌, arith}
use Rattle.demo_spec.proofs.Makings.{one_time_made}
use Rattle.demo_spec.proofs.maker.Maker.combined_all.Goals as goal

-- src/maker.rt
pub loop-maker-preserved : goal.loop-maker-preserved
loop-maker-preserved c =
    let two : 2 ≤ length c.loop-maker.maker.pile.numbers = omega (arith, c.loop-maker-test.true, c.len.ensures) in
    one_time_made c.loop-maker.maker c.in_ok-maker.maker two c.in_ok-maker.ensures ∙ c.loop-maker.invariant

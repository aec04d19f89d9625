use Rattle.std.proofs.Common.{◌≡◌, ◌≤◌, ◌%◌, ◌==◌, true, length, ◌∙◌, arith}
use Rattle.demo_spec.specs.Generator.{drawn}
use Rattle.demo_spec.proofs.Makings.{fewer_made, go_on_made}
use Rattle.demo_spec.proofs.maker.Maker.combined_by_draws.Goals as goal

-- src/maker.rt
pub loop-maker-smaller : goal.loop-maker-smaller
loop-maker-smaller c =
    let two : 2 ≤ length c.loop-maker.maker.pile.numbers = omega (arith, c.loop-maker-test.true, c.len.ensures) in
    fewer_made c.loop-maker.maker c.goes_on.new.self c.in_ok-maker.maker c.goes_on.ensures.seed two c.in_ok-maker.ensures

pub loop-maker-preserved : goal.loop-maker-preserved
loop-maker-preserved c =
    let two : 2 ≤ length c.loop-maker.maker.pile.numbers = omega (arith, c.loop-maker-test.true, c.len.ensures) in
    let test : (drawn c.loop-maker.maker.seed % 2 == 1) ≡ true = cc (c.goes_on.ensures.goes_on, c.if-not-goes_on.false) in
    go_on_made c.loop-maker.maker c.goes_on.new.self c.in_ok-maker.maker c.goes_on.ensures.seed two c.in_ok-maker.ensures test
    ∙ c.loop-maker.invariant

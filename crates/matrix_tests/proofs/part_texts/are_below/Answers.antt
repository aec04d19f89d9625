-- One net more is below the number.
use Rattle.std.proofs.Common.{◌<◌, All, get_or, subst, arith}
use Rattle.std.proofs.lemmas.List.{take_all}
use Rattle.std.proofs.lemmas.List.Elements.{All-more}
use Rattle.matrix_tests.proofs.part_texts.are_below.Goals as goal

pub loop-net-preserved : goal.loop-net-preserved
loop-net-preserved c =
    let here = c.if-net-count.false in
    let below : get_or c.args.nets.now c.loop-net.net-index 0 < c.args.count = omega (arith, here) in
    All-more (λ net. net < c.args.count) c.args.nets.now c.loop-net.net-index 0 c.loop-net-test.true c.loop-net.invariant below

pub returns : goal.returns
returns c = λ e. subst (All (λ net. net < c.args.count)) (take_all c.loop-net.net-index c.args.nets.now c.loop-net-test.false) c.loop-net.invariant

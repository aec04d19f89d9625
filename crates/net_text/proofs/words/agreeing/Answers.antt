use Rattle.std.proofs.Common.{arith, drop}
use Rattle.net_text.proofs.Agreeing.{agree_ended}
use Rattle.net_text.proofs.words.agreeing.Goals as goal

pub returns-else-count-rest-clause-count : goal.returns-else-count-rest-clause-count
returns-else-count-rest-clause-count c =
    let none = agree_ended (drop c.loop-count.count c.args.word.now) c.split_at.result.1.now c.loop-count.count c.if-count-rest.false in
    rw (← c.split_at.ensures.back) (omega (arith, c.loop-count.invariant.counted, none))

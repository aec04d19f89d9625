use Rattle.std.proofs.Common.{◌∙◌, arith}
use Rattle.switch_sim.proofs.DueNets.{turned, turned_most, turned_fewer}
use Rattle.switch_sim.proofs.worklist.turn.Goals as goal

pub loop-net-preserved : goal.loop-net-preserved
loop-net-preserved c =
    let before = c.loop-net.invariant in
    let popped = rw c.in-Some.is at c.pop.ensures.some in
    let most = before.most in
    record {
      now_room = c.add.ensures.size ∙ before.now_room;
      next_room = c.pop.ensures.size ∙ before.next_room;
      kept = λ net w. turned _ _ _ _ c.in-Some.net popped c.add.ensures.waits c.add.ensures.kept net (before.kept net w);
      most = let step = turned_most _ _ _ _ c.in-Some.net popped c.add.ensures.most in omega (arith, step, most);
    }

pub loop-net-smaller : goal.loop-net-smaller
loop-net-smaller c = turned_fewer _ _ c.in-Some.net (rw c.in-Some.is at c.pop.ensures.some)

use Rattle.std.proofs.Common.{arith}
use Rattle.report_text.proofs.AreaBounds.{more_least, more_room, next_level}
use Rattle.report_text.proofs.figures.level.Goals as goal

pub loop-room-preserved : goal.loop-room-preserved
loop-room-preserved c =
    let i = c.loop-room.invariant in
    let less = c.loop-room-test.true in
    record {
      power = more_room c.loop-room.room c.loop-room.level i.power;
      some = omega (arith, i.some);
      few = next_level c.args.count c.loop-room.room c.loop-room.level i.power i.few c.requires less;
      least = more_least c.args.count c.loop-room.room c.loop-room.level i.power less i.least;
    }

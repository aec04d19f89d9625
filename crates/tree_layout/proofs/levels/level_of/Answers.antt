use Rattle.std.proofs.Common.{◌≡◌, ◌∙◌, ◌*◌, ◌^◌, ◌<◌, ◌≤◌, sym, ap, subst, arith}
use Rattle.tree_layout.proofs.FourPowers.{four_more, low, small_room, below_more}
use Rattle.tree_layout.proofs.levels.level_of.Goals as goal

pub loop-room-smaller : goal.loop-room-smaller
loop-room-smaller c = let h : c.loop-room.level ≤ 7 = c.loop-room.invariant.2 in omega arith

pub loop-room-preserved : goal.loop-room-preserved
loop-room-preserved c =
    let i = c.loop-room.invariant in
    let lt : c.loop-room.level < 7 = low c.loop-room.level c.loop-room.room c.args.number i.0 i.2 c.loop-room-test.true c.requires in
    let e : c.loop-room.room * 4 ≡ 4 ^ c.loop-room.level * 4 = ap (λ n. n * 4) i.0 in (
      e ∙ sym (four_more c.loop-room.level),
      below_more c.loop-room.level c.args.number i.1 (subst (λ n. n < c.args.number) i.0 c.loop-room-test.true),
      omega arith,
      omega (arith, e, small_room c.loop-room.level lt),
    )

use Rattle.switch_sim.proofs.RightlyTold.{part_right, part_only}
use Rattle.switch_sim.proofs.telling.look_part.Goals as goal

pub returns-then-not-seen-member-clause-right : goal.returns-then-not-seen-member-clause-right
returns-then-not-seen-member-clause-right c = λ start group explored free is_member.
    part_right c.args.sight.now start group c.args.possible explored free c.args.member is_member _ _ c.explore-sure.ensures.explored _
    c.told_by-level.ensures _ _ _ _ c.put_down.ensures.told c.put_down.ensures.seen_rest c.put_down.ensures.told_rest

pub returns-then-not-seen-member-clause-only : goal.returns-then-not-seen-member-clause-only
returns-then-not-seen-member-clause-only c = λ start group explored free is_member.
    part_only c.args.sight.now start group c.args.possible explored free c.args.member is_member _ _ c.explore-sure.ensures.explored _
    c.told_by-level.ensures _ _ _ _ c.put_down.ensures.told c.put_down.ensures.seen_rest c.put_down.ensures.told_rest

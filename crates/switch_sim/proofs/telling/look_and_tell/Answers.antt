use Rattle.std.proofs.Common.{inl, inr}
use Rattle.switch_sim.proofs.DueNets.{still_due, seen_apart}
use Rattle.switch_sim.proofs.Handled.{handled_more, was_unknown}
use Rattle.switch_sim.proofs.ToldLevels.{something, nothing}
use Rattle.switch_sim.proofs.telling.look_and_tell.Goals as goal

pub returns-clause-leads : goal.returns-clause-leads
returns-clause-leads c =
    c.tell.ensures.leads c.look.ensures.members
    (λ k level w e. something c.args.scene.now.network.now c.args.scene.now.drive.now c.args.scene.now.charges.now c.args.levels.now k c.look.new.told level (c.look.ensures.right k w) e)

pub returns-clause-handled : goal.returns-clause-handled
returns-clause-handled c =
    let circuit = c.args.scene.now.network.now in
    let old = c.args.levels.now in
    let new = c.tell.new.levels in
    let group = c.look.new.group.nets in
    let more = (returns-clause-leads c).more in
    handled_more circuit c.args.scene.now.drive.now old new c.tell.new.seen c.tell.ensures.woken c.args.scene.now.charges.now
    c.args.seen.now group (λ k e. c.look.ensures.only k (c.tell.ensures.wakes.only k e)) c.look.ensures.closed
    (λ k w unknown. nothing circuit c.args.scene.now.drive.now c.args.scene.now.charges.now old k c.look.new.told (c.look.ensures.right k w)
    (λ _. c.tell.ensures.none k w unknown) (was_unknown circuit old new more k (c.look.ensures.members k w).0 unknown))
    (λ k free unknown. was_unknown circuit old new more k free.0 unknown)

pub returns-clause-listed : goal.returns-clause-listed
returns-clause-listed c = λ k e.
    elim (c.tell.ensures.wakes.listed k e) [
      | inl due ↦
          inl (still_due _ _ (c.look.ensures.kept k) due, seen_apart c.look.new.seen c.args.net k (c.look.ensures.seen c.args.net c.look.ensures.begun) due)
      | inr w ↦ inr w
    ]

use Rattle.std.proofs.Common.{◌≡◌, Bool, true, false, sym, ◌∙◌, subst}
use Rattle.sim_probe.specs.Manner.{verdict}
use Rattle.sim_probe.specs.TogglesText.{toggles_manner}
use Rattle.sim_probe.proofs.Ends.{verdict_is}
use Rattle.sim_probe.proofs.toggles.TogglesProbe.see.Goals as goal
use Rattle.sim_probe.proofs.toggles.TogglesProbe.see.Goals.{then-eq, else-eq}

pub returns-clause-verdict : goal.returns-clause-verdict
returns-clause-verdict c =
    let stop : c.self.inside.stop ≡ c.args.self.now.stop = cc in
    let is = λ (b : Bool) (e : b ≡ c.eq.result).
    verdict_is c.self.inside.stop c.push.new.self.items _ _ b c.in_ok-push.ensures.items (e ∙ c.eq.ensures) in
    subst (λ s. c.if-eq.result ≡ verdict (toggles_manner s) c.push.new.self.items) stop
    (elim c.if-eq.branch [ then-eq w ↦ w.result-is ∙ is true (sym w.if-eq.true) | else-eq w ↦ w.result-is ∙ is false (sym w.if-eq.false) ])

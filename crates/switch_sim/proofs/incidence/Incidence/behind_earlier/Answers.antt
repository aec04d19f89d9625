use Rattle.std.proofs.Common.{get_or, sym, subst, ◌∙◌}
use Rattle.switch_sim.specs.Incidence.{IsLeastAbove}
use Rattle.switch_sim.specs.declared.incidence.Earlier.{Earlier}
use Rattle.switch_sim.proofs.Chains.{nowhere, other_one}
use Rattle.switch_sim.proofs.incidence.Incidence.behind_earlier.Goals as goal

-- src/incidence.rt:57:5
pub returns-then-one_end-net : goal.returns-then-one_end-net
returns-then-one_end-net c =
    let both = c.requires.chains.earlier c.args.at nowhere c.index.result.now c.requires.within in
    subst (λ (link : Earlier). IsLeastAbove c.args.devices.now c.args.at c.args.net link.at_one) (sym c.index.ensures)
    (subst (λ net. IsLeastAbove c.args.devices.now c.args.at net
    (get_or c.args.self.now.earlier.items c.args.at c.index.result.now).at_one) (sym c.one_end.ensures ∙ c.if-one_end-net.true) both.0)

-- src/incidence.rt:57:5
pub returns-else-one_end-net : goal.returns-else-one_end-net
returns-else-one_end-net c =
    let both = c.requires.chains.earlier c.args.at nowhere c.index-else-one_end-net.result.now c.requires.within in
    let end = other_one (get_or c.args.devices.now c.args.at nowhere) c.args.net (c.requires.end nowhere) (λ e. c.if-one_end-net.false (c.one_end.ensures ∙ e)) in
    subst (λ (link : Earlier). IsLeastAbove c.args.devices.now c.args.at c.args.net link.at_other) (sym c.index-else-one_end-net.ensures)
    (subst (λ net. IsLeastAbove c.args.devices.now c.args.at net
    (get_or c.args.self.now.earlier.items c.args.at c.index-else-one_end-net.result.now).at_other) end both.1)

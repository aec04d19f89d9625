use Rattle.std.proofs.Common.{◌≡◌, List, length, subst, sym, ◌∙◌}
use Rattle.std.proofs.lemmas.List.{with_items_is}
use Rattle.switch_net.specs.Ternary.{SettledLevels}
use Rattle.switch_net.specs.declared.network.Level.{Level}
use Rattle.switch_sim.specs.Simulation.{level_at}
use Rattle.switch_sim.proofs.settling.settle.Goals as goal

pub returns-clause-levels : goal.returns-clause-levels
returns-clause-levels c =
    let v = c.args.nets.now.levels in
    let begun : c.deref_mut-6.result.now ≡ v.items = c.deref_mut-6.ensures.value in
    let size : length c.settle_levels.new.levels ≡ v.len = c.settle_levels.ensures.levels_size ∙ c.deref_mut-6.ensures.len in
    subst (λ (l : List Level). SettledLevels c.args.network.now c.args.drive.now (level_at v.items) (level_at l))
    (sym (with_items_is v c.settle_levels.new.levels size))
    (subst (λ (l : List Level). SettledLevels c.args.network.now c.args.drive.now (level_at l) (level_at c.settle_levels.new.levels)) begun
    c.settle_levels.ensures.levels)

use Rattle.std.proofs.Common.{length, sym, ap, ◌∙◌, subst}
use Rattle.std.proofs.lemmas.List.{length-map}
use Rattle.switch_net.specs.Circuit.{Circuit, renamed_pad}
use Rattle.switch_net.specs.Ternary.{SettledLevels}
use Rattle.switch_sim.specs.Naming.{number}
use Rattle.switch_sim.specs.Simulation.{level_at}
use Rattle.switch_sim.proofs.Numbered.{settled_by_numbers}
use Rattle.switch_sim.proofs.sim.settle_numbered.Goals as goal

pub settle-requires-clause-driven : goal.settle-requires-clause-driven
settle-requires-clause-driven c =
    c.requires.driven ∙ sym (length-map c.args.network.now.pads (renamed_pad (number c.args.names.now)))
    ∙ sym (ap (λ (k : Circuit). length k.pads) c.requires.same)

pub returns-clause-levels : goal.returns-clause-levels
returns-clause-levels c =
    settled_by_numbers c.args.network.now c.args.names.now c.requires.named c.same_networks_run_alike.ensures.settle c.settled_levels_are_least.ensures.alike
    c.pads-valid.ensures.valid c.args.drive.now c.args.nets.now.levels.items c.settle.new.nets.levels.items
    (subst (λ (k : Circuit). SettledLevels k c.args.drive.now (level_at c.args.nets.now.levels.items) (level_at c.settle.new.nets.levels.items)) c.requires.same
    c.settle.ensures.levels)

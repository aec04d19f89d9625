use Rattle.std.proofs.Common.{◌≡◌, ℕ, List, length, ap, ◌∙◌, arith}
use Rattle.switch_net.specs.SameNetworks.{renamed}
use Rattle.switch_net.specs.declared.network.Level.{Level}
use Rattle.switch_net.specs.declared.network.Level.TheVariants.{Unknown}
use Rattle.switch_sim.specs.Naming.{number}
use Rattle.switch_sim.specs.Simulation.{Simulation, level_at}
use Rattle.switch_sim.proofs.Numbered.{all_unknown, level_replicate}
use Rattle.switch_sim.proofs.sim.Sim.new.Goals as goal

pub invariant_of-result : goal.invariant_of-result
invariant_of-result c = record {
  named = c.in_ok-names.ensures;
  same = c.in_ok-numbered.ensures ∙ ap (λ (l : List ℕ). renamed (number l) (length l) c.args.network.now) c.deref.ensures.value;
  sized = c.in_ok-nets.ensures.sized;
  driven =
      let pads = ap length c.pads.ensures.pads in
      let size = c.in_ok-drive.ensures.len in
      let items = c.in_ok-drive.drive.ok in
      omega (arith, pads, size, items);
}

pub returns : goal.returns
returns c =
    let levels = c.in_ok-nets.nets.levels.items in
    let unknown : (k : ℕ) → level_at levels k ≡ Unknown =
    λ k. ap (λ (l : List Level). level_at l k) c.in_ok-nets.ensures.levels ∙ level_replicate c.in_ok-numbered.numbered.nets k in
    let made : List Level → Simulation = λ l. record { circuit = c.args.network.now; levels = l } in
    ap made (all_unknown c.in_ok-names.names.items levels unknown 0 c.args.network.now.nets)

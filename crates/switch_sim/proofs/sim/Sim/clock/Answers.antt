use Rattle.std.proofs.Common.{◌≡◌, refl, ◌∙◌, subst}
use Rattle.switch_net.specs.Circuit.{Circuit}
use Rattle.switch_net.specs.Clock.{Drive, drives_of}
use Rattle.switch_net.specs.Ternary.{Levels, SettledLevels}
use Rattle.switch_sim.specs.Simulation.{level_at}
use Rattle.switch_sim.proofs.sim.Sim.clock.Goals as goal

-- the same settling, said of an equal circuit and of equal drives
moved : (circuit other : Circuit) (drive same : Drive) (q v : Levels) → other ≡ circuit → drive ≡ same
    → SettledLevels other (drives_of drive other.pads) q v → SettledLevels circuit (drives_of same circuit.pads) q v
moved circuit other drive same q v e f h =
    subst (λ (d : Drive). SettledLevels circuit (drives_of d circuit.pads) q v) f
    (subst (λ (k : Circuit). SettledLevels k (drives_of drive k.pads) q v) e h)

pub returns-clause-levels : goal.returns-clause-levels
returns-clause-levels c =
    let one = c.settle_in.ensures.circuit in
    let two = c.settle_in-2.ensures.circuit ∙ one in
    let three = c.settle_in-3.ensures.circuit ∙ two in
    let four = c.settle_in-4.ensures.circuit ∙ three in
    record {
      changed = level_at c.settle_in.new.self.levels;
      first = level_at c.settle_in-2.new.self.levels;
      between = level_at c.settle_in-3.new.self.levels;
      second = level_at c.settle_in-4.new.self.levels;
      settles = moved _ _ _ _ _ _ refl c.phase.ensures c.settle_in.ensures.levels;
      phi1_high = moved _ _ _ _ _ _ one c.phase-2.ensures c.settle_in-2.ensures.levels;
      phi1_low = moved _ _ _ _ _ _ two c.phase-3.ensures c.settle_in-3.ensures.levels;
      phi2_high = moved _ _ _ _ _ _ three c.phase-4.ensures c.settle_in-4.ensures.levels;
      phi2_low = moved _ _ _ _ _ _ four c.phase-5.ensures c.settle_in-5.ensures.levels;
    }

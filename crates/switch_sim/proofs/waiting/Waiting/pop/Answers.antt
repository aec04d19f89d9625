use Rattle.std.proofs.Common.{◌≡◌, ◌<◌, ◌+◌, ◌-◌, length, arith, ◌∙◌}
use Rattle.std.proofs.lemmas.List.{get_or_default}
use Rattle.std.proofs.lemmas.List.Sums.{count_by-le-length}
use Rattle.switch_sim.proofs.WaitingNets.{popped}
use Rattle.switch_sim.proofs.waiting.Waiting.pop.Goals as goal

-- src/waiting.rt:62:5
pub invariant_of-self : goal.invariant_of-self
invariant_of-self c =
    let nets = c.self.inside.nets.items in
    let one : c.self.inside.count ≡ (c.self.inside.count - 1) + 1 = omega arith in
    let most = count_by-le-length (λ flag. flag) c.self.inside.flags.items in
    let within : c.self.inside.count - 1 < length nets = omega (arith, most, c.self.invariant.room, c.self.invariant.size) in
    popped _ _ _ _ c.index-net.result.now c.self.invariant one
    (c.index-net.ensures ∙ get_or_default nets (c.self.inside.count - 1) c.index-net.result.now 0 within)

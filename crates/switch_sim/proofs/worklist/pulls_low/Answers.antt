use Rattle.std.proofs.Common.{◌≡◌, inl, inr, ◌<◌, ℕ, ◌==◌, ◌&&◌, ◌||◌, Bool, true, false, Some, length, get_or, refl, sym, ap, ◌∙◌, arith, eqb-true}
use Rattle.switch_net.specs.Settling.{fixed_level}
use Rattle.switch_net.specs.Ternary.{possible}
use Rattle.switch_net.specs.declared.network.Device.TheVariants.{Pass}
use Rattle.switch_net.specs.declared.network.Net.{Net}
use Rattle.switch_sim.specs.DueNets.{LeadsLow}
use Rattle.switch_sim.specs.Grouping.{lit}
use Rattle.switch_sim.specs.Simulation.{level_at}
use Rattle.switch_sim.specs.declared.group.Conduct.TheVariants as which
use Rattle.switch_sim.specs.declared.group.Sight.{Sight}
use Rattle.switch_sim.proofs.Grouping.{joins_at, and_both, or_either}
use Rattle.switch_sim.proofs.worklist.pulls_low.Goals as goal

-- a conducting device with this end leads to ground at the other
leads : (sight : Sight) (at : ℕ) (gate a b : Net) → at < length sight.network.now.devices → get_or sight.network.now.devices at (Pass gate a b) ≡ Pass gate a b
    → (net : ℕ) (on by_a by_b ground_a ground_b : Bool) → on ≡ lit sight which.Possible gate.0 → by_a ≡ (a.0 == net && ground_b) → by_b ≡ (b.0 == net && ground_a)
    → (ground_a ≡ true → fixed_level sight.network.now.pads sight.drive.now a.0 ≡ Some false)
    → (ground_b ≡ true → fixed_level sight.network.now.pads sight.drive.now b.0 ≡ Some false)
    → (on && (by_a || by_b)) ≡ true → LeadsLow sight.network.now sight.drive.now (possible (level_at sight.levels.now)) net
leads sight at gate a b lt is net on by_a by_b ground_a ground_b is_on is_a is_b fixed_a fixed_b e =
    let both = and_both on (by_a || by_b) e in
    let lit_gate : possible (level_at sight.levels.now) gate.0 ≡ true = sym is_on ∙ both.0 in
    elim (or_either by_a by_b both.1) [
      | inl h ↦
          let k = and_both (a.0 == net) ground_b (sym is_a ∙ h) in
          record {
            to = b.0;
            joined = joins_at sight.network.now.devices (possible (level_at sight.levels.now)) at gate.0 a.0 b.0 lt is lit_gate net b.0
                (inl (eqb-true _ _ k.0, refl));
            fixed = fixed_b k.1;
          }
      | inr h ↦
          let k = and_both (b.0 == net) ground_a (sym is_b ∙ h) in
          record {
            to = a.0;
            joined = joins_at sight.network.now.devices (possible (level_at sight.levels.now)) at gate.0 a.0 b.0 lt is lit_gate net a.0
                (inr (eqb-true _ _ k.0, refl));
            fixed = fixed_a k.1;
          }
    ]

pub returns-in-Pass : goal.returns-in-Pass
returns-in-Pass c = λ e.
    let lt : c.args.at < length c.args.sight.now.network.now.devices = let size = ap length c.devices.ensures in omega (arith, size) in
    leads c.args.sight.now c.args.at c.in-Pass.gate c.in-Pass.a c.in-Pass.b lt
    (c.device_at.ensures (Pass c.in-Pass.gate c.in-Pass.a c.in-Pass.b) ∙ c.in-Pass.is) c.args.net c.is_on-on.result c.both-by_a.result c.both-by_b.result
    c.is_ground-in-Pass.result c.is_ground.result c.is_on-on.ensures c.both-by_a.ensures c.both-by_b.ensures c.is_ground-in-Pass.ensures c.is_ground.ensures
    (sym (c.both.ensures ∙ ap (λ b. c.is_on-on.result && b) c.either.ensures) ∙ e)

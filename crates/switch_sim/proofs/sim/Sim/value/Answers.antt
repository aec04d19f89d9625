use Rattle.std.proofs.Common.{◌≡◌, ◌<◌, ℕ, List, Option, Some, None, length, sym, ap, ◌∙◌, subst, arith}
use Rattle.std.proofs.lemmas.List.{get_or_default}
use Rattle.switch_net.specs.Circuit.{Circuit}
use Rattle.switch_net.specs.declared.network.Level.{Level}
use Rattle.switch_net.specs.declared.network.Level.TheVariants.{Unknown}
use Rattle.switch_sim.specs.Naming.{place, level_by, levels_from}
use Rattle.switch_sim.specs.Simulation.{Simulation, level_at}
use Rattle.switch_sim.proofs.Naming.{place_at}
use Rattle.switch_sim.proofs.Numbered.{at_levels}
use Rattle.switch_sim.proofs.sim.Sim.value.Goals as goal

pub index-requires : goal.index-requires
index-requires c =
    let there = place_at c.deref.result.now c.args.net.0 c.in-Some.at (sym c.place.ensures ∙ c.in-Some.is) in
    let lt : c.in-Some.at < length c.deref.result.now = there.0 in
    let names = ap length c.deref.ensures.value in
    let size : length c.self.inside.nets.levels.items ≡ length c.self.inside.names.items =
    c.self.invariant.sized.levels ∙ ap (λ (k : Circuit). k.nets) c.self.invariant.same in
    omega (arith, lt, names, size)

-- the level that the model has of the net
level_of_net : (circuit : Circuit) (names found : List ℕ) (levels : List Level) (now : Simulation)
    → record { circuit = circuit; levels = levels_from names levels 0 circuit.nets } ≡ now → found ≡ names → (net : ℕ) → net < now.circuit.nets
    → (at : Option ℕ) → at ≡ place found net → level_by levels at ≡ level_at now.levels net
level_of_net circuit names found levels now view is net lt at e =
    let below : net < circuit.nets = subst (λ (s : Simulation). net < s.circuit.nets) (sym view) lt in
    ap (level_by levels) (e ∙ ap (λ l. place l net) is) ∙ sym (at_levels names levels 0 circuit.nets net net below (omega arith))
    ∙ ap (λ (s : Simulation). level_at s.levels net) view

pub returns-in-Some : goal.returns-in-Some
returns-in-Some c =
    let there = place_at c.deref.result.now c.args.net.0 c.in-Some.at (sym c.place.ensures ∙ c.in-Some.is) in
    let lt : c.in-Some.at < length c.deref.result.now = there.0 in
    let names = ap length c.deref.ensures.value in
    let size : length c.self.inside.nets.levels.items ≡ length c.self.inside.names.items =
    c.self.invariant.sized.levels ∙ ap (λ (k : Circuit). k.nets) c.self.invariant.same in
    c.index.ensures ∙ get_or_default c.self.inside.nets.levels.items c.in-Some.at c.index.result.now Unknown (omega (arith, lt, names, size))
    ∙ level_of_net c.self.inside.network.now c.self.inside.names.items c.deref.result.now c.self.inside.nets.levels.items c.args.self.now c.self.view_is
    c.deref.ensures.value c.args.net.0 c.requires (Some c.in-Some.at) (sym c.in-Some.is ∙ c.place.ensures)

pub returns-in-None : goal.returns-in-None
returns-in-None c =
    level_of_net c.self.inside.network.now c.self.inside.names.items c.deref.result.now c.self.inside.nets.levels.items c.args.self.now c.self.view_is
    c.deref.ensures.value c.args.net.0 c.requires None (sym c.in-None.is ∙ c.place.ensures)

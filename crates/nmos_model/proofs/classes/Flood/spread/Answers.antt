use Rattle.std.proofs.Common.{rules, ◌≡◌, ◌∷◌, ◌++◌, ◌⊎◌, inl, inr, ℕ, [], length, ap, arith, refl, sym, subst, ◌∙◌}
use Rattle.std.proofs.lemmas.List.{length-append}
use Rattle.geom.specs.Rows.{Among}
use Rattle.nmos_model.proofs.Common.{among_either, among_before, among_last}
use Rattle.nmos_model.proofs.Floods.{followed}
use Rattle.nmos_model.proofs.classes.Flood.spread.Goals as goal

-- src/classes.rt:151:9
pub loop-node-init : goal.loop-node-init
loop-node-init g c = record { flooded = c.requires.flooded; opened = c.requires.open; firsts = refl }

-- src/classes.rt:152:13
pub follow-requires-clause-flooded : goal.follow-requires-clause-flooded
follow-requires-clause-flooded g c =
    rw c.loop-node.invariant.firsts
    (followed _ _ _ _ _ _ c.loop-node.self.waiting.items _
    (λ a b class e w l. inl (first_now a (among_either c.pop.new.self.items c.in-Some.node a (subst (λ ws. Among ws a) c.in-Some.ensures.items w))))
    c.loop-node.invariant.flooded)
  where
    first_now : (a : ℕ) → (c.in-Some.node ≡ a) ⊎ Among c.pop.new.self.items a → Among (c.in-Some.node ∷ c.pop.new.self.items) a
    first_now a w = w

-- src/classes.rt:152:13
pub follow-requires-clause-open : goal.follow-requires-clause-open
follow-requires-clause-open g c =
    let opened = c.loop-node.invariant.opened in
    rw c.loop-node.invariant.firsts
    (record {
      some = opened.some;
      alike = λ a w. opened.alike a (subst (λ ws. Among ws a) (sym c.in-Some.ensures.items) (last_now a w));
    })
  where
    last_now : (a : ℕ) → Among (c.in-Some.node ∷ c.pop.new.self.items) a → Among (c.pop.new.self.items ++ c.in-Some.node ∷ []) a
    last_now a w = elim w [
      | inl same ↦ subst (λ m. Among (c.pop.new.self.items ++ c.in-Some.node ∷ []) m) same (among_last c.pop.new.self.items c.in-Some.node)
      | inr v ↦ among_before c.pop.new.self.items c.in-Some.node a v
    ]

-- src/classes.rt:151:9
pub loop-node-smaller : goal.loop-node-smaller
loop-node-smaller g c =
    let less = c.in_ok-follow.ensures.less in
    let one = ap length c.in-Some.ensures.items in
    let count = length-append c.pop.new.self.items (c.in-Some.node ∷ []) in
    omega arith

-- src/classes.rt:151:9
pub loop-node-preserved : goal.loop-node-preserved
loop-node-preserved g c =
    let same = c.loop-node.invariant.firsts in
    record {
      flooded = rw same at c.in_ok-follow.ensures.flooded;
      opened = rw same at c.in_ok-follow.ensures.open;
      firsts = c.follow.ensures.firsts ∙ same;
    }

-- src/classes.rt:152:13
pub returns-in_err-follow-clause-firsts : goal.returns-in_err-follow-clause-firsts
returns-in_err-follow-clause-firsts g c = c.follow.ensures.firsts ∙ c.loop-node.invariant.firsts

-- src/classes.rt:141:5
pub returns-clause-flooded : goal.returns-clause-flooded
returns-clause-flooded g c =
    let none : c.loop-node.self.waiting.items ≡ [] = search rules in
    rw none at c.loop-node.invariant.flooded

-- src/classes.rt:141:5
pub returns-clause-firsts : goal.returns-clause-firsts
returns-clause-firsts g c = c.loop-node.invariant.firsts

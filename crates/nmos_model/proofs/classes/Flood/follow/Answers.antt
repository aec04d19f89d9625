use Rattle.std.proofs.Common.{◌≡◌, ◌<◌, ◌∷◌, inl, inr, Some, slice_get, arith, refl, sym, subst, ◌∙◌}
use Rattle.std.proofs.lemmas.Option.{slice_get_within}
use Rattle.nmos_model.specs.Classes.{Linked, class_at}
use Rattle.nmos_model.proofs.Common.{classed_within, below_or_above, inside, some_inside, all_seen}
use Rattle.nmos_model.proofs.Floods.{after_taking, followed, next_within}
use Rattle.nmos_model.proofs.classes.Flood.follow.Goals as goal
use Rattle.nmos_model.proofs.classes.Flood.follow.Goals.{in-Some+in_ok-take, in_default}

-- src/classes.rt:169:22
pub link_count-at-end-requires-clause-within : goal.link_count-at-end-requires-clause-within
link_count-at-end-requires-clause-within g c =
    subst (λ n. c.args.node < n) c.requires.flooded.size (classed_within _ _ _ (c.requires.open.alike c.args.node (inl refl)))

-- src/classes.rt:169:9
pub loop-at-init : goal.loop-at-init
loop-at-init g c = record {
  flooded = c.requires.flooded;
  opened = c.requires.open;
  done = λ i b lt. absurd (omega arith);
  firsts = refl;
  less = omega arith;
}

-- src/classes.rt:170:33
pub link-requires-clause-within : goal.link-requires-clause-within
link-requires-clause-within g c =
    subst (λ n. c.args.node < n) c.requires.flooded.size (classed_within _ _ _ (c.requires.open.alike c.args.node (inl refl)))

-- src/classes.rt:171:17
pub take-requires : goal.take-requires
take-requires g c =
    let invariant = c.loop-at.invariant in
    next_within _ _ _ c.requires.graph _ _ _ _ _ c.args.class _ invariant.flooded invariant.opened
    (c.loop-at.at, sym {b = slice_get (g.G.Graph.links c.args.graph.now c.args.node) c.loop-at.at} c.in-Some.ensures)

-- src/classes.rt:169:9
pub loop-at-preserved : goal.loop-at-preserved
loop-at-preserved g c =
    let invariant = c.loop-at.invariant in
    elim c.match-link.branch [
      | in-Some+in_ok-take w ↦
          let link : Linked (g.G.Graph.links c.args.graph.now) c.args.node w.in-Some.next = (c.loop-at.at, sym w.in-Some.ensures) in
          let after = after_taking _ _ _ c.requires.graph _ _ _ _ c.args.node c.args.class w.in-Some.next invariant.flooded invariant.opened link
          _ _ w.in_ok-take.ensures.takes in
          rw w.self-is (record {
            flooded = after.still_flooded;
            opened = after.still_opened;
            done = λ i b lt e. elim (below_or_above c.loop-at.at i) [
              | inl above ↦
                  let last : i ≡ c.loop-at.at = omega arith in
                  let here = subst (λ m. slice_get (g.G.Graph.links c.args.graph.now c.args.node) m ≡ Some (Some b)) last e in
                  let same = inside w.in-Some.next b (some_inside _ _ (w.in-Some.ensures ∙ here)) in
                  subst (λ m. class_at w.take.new.self.numbers.items m ≡ Some c.args.class) same after.has_class
              | inr below ↦ after.keeps b c.args.class (invariant.done i b below e)
            ];
            firsts = w.in_ok-take.ensures.firsts ∙ invariant.firsts;
            less = let h = after.less in let k = invariant.less in omega arith;
          })
      | in_default w ↦
          rw w.self-is (record {
            flooded = invariant.flooded;
            opened = invariant.opened;
            done = λ i b lt e. elim (below_or_above c.loop-at.at i) [
              | inl above ↦
                  let last : i ≡ c.loop-at.at = omega arith in
                  let here = subst (λ m. slice_get (g.G.Graph.links c.args.graph.now c.args.node) m ≡ Some (Some b)) last e in
                  let none = some_inside _ _ (w.in_default.ensures ∙ here) in absurd (cc)
              | inr below ↦ invariant.done i b below e
            ];
            firsts = invariant.firsts;
            less = invariant.less;
          })
    ]

-- src/classes.rt:158:5
pub returns-clause-flooded : goal.returns-clause-flooded
returns-clause-flooded g c =
    let invariant = c.loop-at.invariant in
    followed _ _ _ _ _ _ (c.args.node ∷ c.loop-at.self.waiting.items) _
    (λ a b class e w l. elim w [
      | inl same ↦
          let of_node = subst (λ m. class_at c.loop-at.self.numbers.items m ≡ Some class) (sym same) e in
          let one = inside class c.args.class (sym of_node ∙ invariant.opened.alike c.args.node (inl refl)) in
          let from_node = subst (λ m. Linked (g.G.Graph.links c.args.graph.now) m b) (sym same) l in
          let within = slice_get_within _ _ _ from_node.1 in
          inr (rw one (invariant.done from_node.0 b (all_seen c.loop-at.at c.link_count-at-end.result _ _ c.loop-at-test.false c.link_count-at-end.ensures within) from_node.1))
      | inr v ↦ inl v
    ])
    invariant.flooded

-- src/classes.rt:158:5
pub returns-clause-open : goal.returns-clause-open
returns-clause-open g c =
    let invariant = c.loop-at.invariant in
    record { some = invariant.opened.some; alike = λ a w. invariant.opened.alike a (inr w) }

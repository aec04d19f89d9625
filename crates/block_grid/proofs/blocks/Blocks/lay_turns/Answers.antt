use Rattle.std.proofs.Common.{◌≡◌, ℕ, List, [], ◌∷◌, ◌++◌, Bool, Option, unwrap_or, refl, ap, sym, ◌∙◌, subst}
use Rattle.block_grid.specs.declared.standing.Standing.{Standing}
use Rattle.block_grid.specs.Lines.{BlockPlace}
use Rattle.block_grid.specs.Sheets.{DrawnEdge, Sheet, IsSheet, stands_at}
use Rattle.block_grid.specs.Laying.{MayDraw, edge_over}
use Rattle.block_grid.proofs.Laid.{with_edge_sheet}
use Rattle.block_grid.proofs.blocks.Blocks.lay_turns.Goals as goal

-- a place that was looked up in the nodes
looked_up : (nodes own : List Standing) (v : ℕ) (o : Option BlockPlace) (p : BlockPlace) → o ≡ stands_at nodes v → nodes ≡ own →
    p ≡ unwrap_or o (0, 0) → p ≡ unwrap_or (stands_at own v) (0, 0)
looked_up nodes own v o p at same is = rw (is, at, same) refl

edge_is : (s : Sheet) (parent child : ℕ) (heavy : Bool) (start finish : BlockPlace) (turns own : List BlockPlace) →
    start ≡ unwrap_or (stands_at s.nodes parent) (0, 0) → finish ≡ unwrap_or (stands_at s.nodes child) (0, 0) → turns ≡ own
    → ◌≡◌ {A = DrawnEdge} (record {
      parent = parent;
      child = child;
      heavy = heavy;
      start = start;
      turns = turns;
      finish = finish;
    }) (edge_over s parent child heavy own)
edge_is s parent child heavy start finish turns own a b c = rw (a, b, c) refl

pushed_sheet : (first s : Sheet) (e : DrawnEdge) (edges : List DrawnEdge) → first ≡ s → IsSheet first → MayDraw s e → edges ≡ first.edges ++ e ∷ []
    → IsSheet (record { rows = first.rows; cols = first.cols; nodes = first.nodes; edges = edges })
pushed_sheet first s e edges same sheet may is = rw is (with_edge_sheet first e sheet (subst (λ x. MayDraw x e) (sym same) may))

pub invariant_of-self-2 : goal.invariant_of-self-2
invariant_of-self-2 c =
    let s : Sheet = c.args.self.now in
    let own : c.self.inside.nodes.items ≡ c.args.self.now.nodes = ap (λ (x : Sheet). x.nodes) c.self.view_is in
    let start = looked_up _ c.args.self.now.nodes c.args.parent c.stands_at.result c.unwrap_or-start.result c.stands_at.ensures
    (c.deref.ensures.value ∙ own) c.unwrap_or-start.ensures in
    let finish = looked_up _ c.args.self.now.nodes c.args.child c.stands_at-2.result c.unwrap_or-finish.result c.stands_at-2.ensures
    (c.deref-2.ensures.value ∙ own) c.unwrap_or-finish.ensures in
    let edge : c.new-edge.result ≡ edge_over c.args.self.now c.args.parent c.args.child c.args.heavy c.args.turns.now =
    c.new-edge.ensures ∙ edge_is c.args.self.now c.args.parent c.args.child c.args.heavy _ _ _ c.args.turns.now start finish c.in_ok-turns.ensures.items in
    pushed_sheet (record {
      rows = c.self.inside.rows;
      cols = c.self.inside.cols;
      nodes = c.self.inside.nodes.items;
      edges = c.self.inside.edges.items;
    }) c.args.self.now
    (edge_over c.args.self.now c.args.parent c.args.child c.args.heavy c.args.turns.now) c.push.new.self.items c.self.view_is c.self.invariant c.requires
    (c.in_ok-push.ensures.items ∙ ap (λ x. c.self.inside.edges.items ++ x ∷ []) edge)

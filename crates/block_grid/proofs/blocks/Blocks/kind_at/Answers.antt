use Rattle.std.proofs.Common.{◌≡◌, ℕ, ◌+◌, Bool, nat_lt, Option, None, Some, List, refl, ap, ◌∙◌, subst}
use Rattle.std.specs.Option.{option_map}
use Rattle.std.specs.List.{list_any}
use Rattle.block_grid.specs.declared.standing.Standing.{Standing}
use Rattle.block_grid.specs.Sheets.{Sheet, north_of, west_of, node_on, node_kind, is_crossed_north, is_crossed_west, wire_kind, block_at}
use Rattle.block_grid.proofs.blocks.Blocks.kind_at.Goals as goal

no_node : (own nodes : List Standing) (r c : ℕ) → own ≡ nodes → None ≡ option_map node_kind (node_on own r c) → node_on nodes r c ≡ None
no_node own nodes r c same e = none (node_on nodes r c) (subst (λ ns. None ≡ option_map node_kind (node_on ns r c)) same e)
  where
    none : (o : Option Standing) → None ≡ option_map node_kind o → o ≡ None
    none None h = refl
    none (Some n) h = cc

wire_block : (s : Sheet) (r c : ℕ) (n m w e : Bool) → node_on s.nodes r c ≡ None → n ≡ is_crossed_north s r c →
    m ≡ is_crossed_north s (r + 1) c → w ≡ is_crossed_west s r c → e ≡ is_crossed_west s r (c + 1) → wire_kind n m w e ≡ block_at s r c
wire_block s r c n m w e none a b x y = rw (a, b, x, y, none) refl

pub returns-in-None : goal.returns-in-None
returns-in-None c =
    let own_nodes = ap (λ (x : Sheet). x.nodes) c.self.view_is in
    let own_edges = ap (λ (x : Sheet). x.edges) c.self.view_is in
    c.wire_kind.ensures ∙ wire_block c.args.self.now c.args.row c.args.col _ _ _ _ (no_node _ _ c.args.row c.args.col
    (c.deref.ensures.value ∙ own_nodes) c.in-None.ensures)
    (c.is_crossed_north.ensures ∙ ap (λ es. list_any (λ e. nat_lt 0 (north_of e c.args.row c.args.col)) es)
    (c.deref-in-None.ensures.value ∙ own_edges))
    (c.is_crossed_north-in-None.ensures ∙ ap (λ es. list_any (λ e. nat_lt 0 (north_of e (c.args.row + 1) c.args.col)) es)
    (c.deref-in-None-2.ensures.value ∙ own_edges))
    (c.is_crossed_west.ensures ∙ ap (λ es. list_any (λ e. nat_lt 0 (west_of e c.args.row c.args.col)) es)
    (c.deref-in-None-3.ensures.value ∙ own_edges))
    (c.is_crossed_west-in-None.ensures ∙ ap (λ es. list_any (λ e. nat_lt 0 (west_of e c.args.row (c.args.col + 1))) es)
    (c.deref-in-None-4.ensures.value ∙ own_edges))

use Rattle.std.proofs.Common.{◌≡◌, map, ap, arith}
use Rattle.std.proofs.lemmas.List.{length-map}
use Rattle.block_grid.specs.Sheets.{Sheet}
use Rattle.block_grid.specs.Changes.{node_moved, edge_moved, cols_shifted}
use Rattle.block_grid.proofs.Inside.{cols_below, written_back}
use Rattle.block_grid.proofs.Inserted.{with_cols_sheet}
use Rattle.block_grid.proofs.blocks.Blocks.shift_cols.Goals as goal

pub shift_cols-requires : goal.shift_cols-requires
shift_cols-requires c =
    let same : c.self.inside.cols ≡ c.args.self.now.cols = ap (λ (s : Sheet). s.cols) c.self.view_is in
    rw c.deref_mut.ensures.value (λ k n lt. let on = c.self.invariant.nodes_inside k n lt in omega arith)

pub shift_all_cols-requires : goal.shift_all_cols-requires
shift_all_cols-requires c =
    let same : c.self.inside.cols ≡ c.args.self.now.cols = ap (λ (s : Sheet). s.cols) c.self.view_is in
    rw c.deref_mut-2.ensures.value (λ k e lt. cols_below _ _ c.args.by c.self.invariant (c.self.invariant.drawn k e lt) (omega arith))

pub invariant_of-self : goal.invariant_of-self
invariant_of-self c =
    let same : c.self.inside.cols ≡ c.args.self.now.cols = ap (λ (s : Sheet). s.cols) c.self.view_is in
    rw (
      written_back c.self.inside.nodes.len c.shift_cols.new.nodes c.self.inside.nodes.items (map (node_moved
          (cols_shifted c.args.at c.args.by)) c.self.inside.nodes.items) (cc) (omega (
            arith,
            length-map c.self.inside.nodes.items (node_moved (cols_shifted c.args.at c.args.by)),
            c.self.inside.nodes.ok.0,
          )),
      written_back c.self.inside.edges.len c.shift_all_cols.new.edges c.self.inside.edges.items (map (edge_moved
          (cols_shifted c.args.at c.args.by)) c.self.inside.edges.items) (cc) (omega (
            arith,
            length-map c.self.inside.edges.items (edge_moved (cols_shifted c.args.at c.args.by)),
            c.self.inside.edges.ok.0,
          )),
    )
    (with_cols_sheet c.args.at c.args.by _ c.self.invariant (omega arith))

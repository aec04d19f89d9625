use Rattle.std.proofs.Common.{◌≡◌, ap, ◌∙◌, subst, arith}
use Rattle.block_grid.specs.Sheets.{Sheet, IsSheet}
use Rattle.block_grid.specs.Changes.{with_cols, side_by_side}
use Rattle.block_grid.proofs.Joined.{side_by_side_sheet, sheet_of}
use Rattle.block_grid.proofs.blocks.Blocks.beside.Goals as goal

pub invariant_of-result : goal.invariant_of-result
invariant_of-result c =
    let s : Sheet = c.args.self in
    let t : Sheet = c.args.right in
    let first : Sheet = record {
      rows = c.self.inside.rows;
      cols = c.self.inside.cols;
      nodes = c.self.inside.nodes.items;
      edges = c.self.inside.edges.items;
    } in
    let second : Sheet = record {
      rows = c.right.inside.rows;
      cols = c.right.inside.cols;
      nodes = c.right.inside.nodes.items;
      edges = c.right.inside.edges.items;
    } in
    let is_first : first ≡ s = c.self.view_is in
    let same : c.self.inside.cols ≡ s.cols = ap (λ (x : Sheet). x.cols) c.self.view_is in
    let is_second : second ≡ with_cols t 0 s.cols = c.right.view_is ∙ c.shift_cols.ensures ∙ ap (λ n. with_cols t 0 n) same in
    let own_rows = ap (λ (x : Sheet). x.rows) is_first in
    let own_cols = ap (λ (x : Sheet). x.cols) is_first in
    let own_nodes = ap (λ (x : Sheet). x.nodes) is_first in
    let own_edges = ap (λ (x : Sheet). x.edges) is_first in
    let other_rows = ap (λ (x : Sheet). x.rows) is_second in
    let other_cols = ap (λ (x : Sheet). x.cols) is_second in
    let other_nodes = ap (λ (x : Sheet). x.nodes) is_second in
    let other_edges = ap (λ (x : Sheet). x.edges) is_second in
    sheet_of _ _ _ _ (side_by_side s t) (omega (arith, c.max.ensures)) other_cols (cc (
      c.in_ok-joined.ensures,
      c.deref.ensures.value,
    )) (cc (c.in_ok-joined-2.ensures))
    (side_by_side_sheet s t (subst IsSheet is_first c.self.invariant) (subst IsSheet is_second c.right.invariant) c.requires.differ)

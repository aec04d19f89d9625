-- The places of nodes and edges lie on their sheet.
use Rattle.std.proofs.Common.{◌≡◌, ℕ, ◌+◌, ◌<◌, ◌≤◌, ◌^◌, true, false, nat_eq, cond, Some, List, [], ◌∷◌, ◌++◌, length, get_or, take, drop, All, subst, arith}
use Rattle.std.specs.List.{find}
use Rattle.std.specs.Option.{option_map}
use Rattle.std.proofs.lemmas.List.Elements.{All-head, All-tail}
use Rattle.std.proofs.Math.Seq.{take-append_seam}
use Rattle.block_grid.specs.declared.standing.Standing.{Standing}
use Rattle.block_grid.specs.Lines.{BlockPlace, row_of, col_of}
use Rattle.block_grid.specs.Sheets.{DrawnEdge, Sheet, stands_at, IsOnSheet, IsDrawn, IsSheet}
use Rattle.block_grid.specs.Changes.{StaysBelow}

-- a fact of all nodes at the one that stands at the place
pub at_node : (P : BlockPlace → Type 0) (nodes : List Standing) (v : ℕ) (p : BlockPlace) → All (λ (n : Standing). P (n.row, n.col)) nodes →
    stands_at nodes v ≡ Some p → P p
at_node P [] v p all is = cc
at_node P (n ∷ nodes) v p all is =
    elim (nat_eq n.node v) as (λ b. option_map (λ (m : Standing). (
      m.row,
      m.col,
    )) (cond b (Some n) (find (λ m. nat_eq m.node v) nodes)) ≡ Some p → P p) [
      | true ↦ λ e. let same : (n.row, n.col) ≡ p = cc in subst P same (All-head (λ (m : Standing). P (m.row, m.col)) n nodes all)
      | false ↦ λ e. at_node P nodes v p (All-tail (λ (m : Standing). P (m.row, m.col)) n nodes all) e
    ] is

pub starts_inside : (s : Sheet) (e : DrawnEdge) → IsSheet s → IsDrawn s e → IsOnSheet s e.start
starts_inside s e sheet d = at_node (IsOnSheet s) s.nodes e.parent e.start sheet.nodes_inside d.starts

pub finishes_inside : (s : Sheet) (e : DrawnEdge) → IsSheet s → IsDrawn s e → IsOnSheet s e.finish
finishes_inside s e sheet d = at_node (IsOnSheet s) s.nodes e.child e.finish sheet.nodes_inside d.finishes

pub rows_below : (s : Sheet) (e : DrawnEdge) (by : ℕ) → IsSheet s → IsDrawn s e → s.rows + by ≤ 2 ^ 20 → StaysBelow row_of (2 ^ 32) by e
rows_below s e by sheet d few = record {
  start = let h : row_of e.start < s.rows = (starts_inside s e sheet d).0 in omega arith;
  turns = λ k p lt. let h : row_of (get_or e.turns k p) < s.rows = (d.inside k p lt).0 in omega arith;
  finish = let h : row_of e.finish < s.rows = (finishes_inside s e sheet d).0 in omega arith;
}

pub cols_below : (s : Sheet) (e : DrawnEdge) (by : ℕ) → IsSheet s → IsDrawn s e → s.cols + by ≤ 2 ^ 20 → StaysBelow col_of (2 ^ 32) by e
cols_below s e by sheet d few = record {
  start = let h : col_of e.start < s.cols = (starts_inside s e sheet d).1 in omega arith;
  turns = λ k p lt. let h : col_of (get_or e.turns k p) < s.cols = (d.inside k p lt).1 in omega arith;
  finish = let h : col_of e.finish < s.cols = (finishes_inside s e sheet d).1 in omega arith;
}

-- what a slice of a whole list leaves in its list
pub written_back : {A : Type 0} (n : ℕ) (xs ys zs : List A) → xs ≡ zs → length zs ≡ n → take n (xs ++ drop (length xs) ys) ≡ zs
written_back n xs ys zs e h = rw (← h, e) (take-append_seam zs (drop (length zs) ys))

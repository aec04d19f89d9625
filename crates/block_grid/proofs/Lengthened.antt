-- What stands on a sheet once rows or columns came in.
use Rattle.std.proofs.Common.{◌≡◌, ℕ, ◌+◌, ◌<◌, ◌≤◌, ◌⊎◌, inl, inr, Bool, true, false, nat_lt, nat_eq, cond, ◌&&◌, Option, Some, None, List, [], ◌∷◌, map, refl, ap, arith}
use Rattle.std.specs.List.{list_any}
use Rattle.std.specs.Option.{option_map, option_map_or}
use Rattle.std.proofs.lemmas.Bool.Decides.{nat_tests}
use Rattle.block_grid.specs.declared.standing.Standing.{Standing}
use Rattle.block_grid.specs.declared.kind.BlockKind.{BlockKind}
use Rattle.block_grid.specs.declared.kind.BlockKind.TheVariants.{Empty, Horizontal, Vertical}
use Rattle.block_grid.specs.Lines.{BlockPlace, row_of, col_of}
use Rattle.block_grid.specs.Sheets.{
  DrawnEdge,
  Sheet,
  north_of,
  south_of,
  west_of,
  east_of,
  node_on,
  node_kind,
  wire_kind,
  is_crossed_north,
  is_crossed_west,
  block_at,
}
use Rattle.block_grid.specs.Changes.{shifted, rows_shifted, cols_shifted, node_moved, edge_moved, sheet_moved, with_rows, with_cols}
use Rattle.block_grid.proofs.Shifts.{on_kept, on_new, on_moved}
use Rattle.block_grid.proofs.Moves.{SameSides, IsUpright, IsLevelled, IsImage, IsNoImage, node_on_moved, node_on_none}
use Rattle.block_grid.proofs.Inserted.{rows_kept, rows_later, rows_new, cols_kept, cols_later, cols_new}

any_same : (h : DrawnEdge → DrawnEdge) (p q : DrawnEdge → Bool) → ((e : DrawnEdge) → p (h e) ≡ q e) → (es : List DrawnEdge) →
    list_any p (map h es) ≡ list_any q es
any_same h p q same [] = refl
any_same h p q same (e ∷ es) = rw (same e, any_same h p q same es) refl

none_any : (h : DrawnEdge → DrawnEdge) (p : DrawnEdge → Bool) → ((e : DrawnEdge) → p (h e) ≡ false) → (es : List DrawnEdge) →
    list_any p (map h es) ≡ false
none_any h p off [] = refl
none_any h p off (e ∷ es) = rw (off e) (none_any h p off es)

same_kind : (h : BlockPlace → BlockPlace) (o : Option Standing) (w : BlockKind) →
    option_map_or node_kind (option_map (node_moved h) o) w ≡ option_map_or node_kind o w
same_kind h None w = refl
same_kind h (Some n) w = refl

module _ (h : BlockPlace → BlockPlace) (rows cols : ℕ) (s : Sheet) (r c r0 c0 : ℕ) where
  -- a block that moved is the block that it was
  block_kept : IsImage h r c r0 c0 → ((e : DrawnEdge) → SameSides (edge_moved h e) e r c r0 c0) →
      block_at (sheet_moved h rows cols s) r c ≡ block_at s r0 c0
  block_kept image same =
      rw (
        any_same (edge_moved h) (λ e. nat_lt 0 (north_of e r c)) (λ e. nat_lt 0 (north_of e r0 c0)) (λ e. ap (nat_lt 0) (same e).north) s.edges,
        any_same (edge_moved h) (λ e. nat_lt 0 (south_of e r c)) (λ e. nat_lt 0 (south_of e r0 c0)) (λ e. ap (nat_lt 0) (same e).south) s.edges,
        any_same (edge_moved h) (λ e. nat_lt 0 (west_of e r c)) (λ e. nat_lt 0 (west_of e r0 c0)) (λ e. ap (nat_lt 0) (same e).west) s.edges,
        any_same (edge_moved h) (λ e. nat_lt 0 (east_of e r c)) (λ e. nat_lt 0 (east_of e r0 c0)) (λ e. ap (nat_lt 0) (same e).east) s.edges,
        node_on_moved h s.nodes r c r0 c0 image,
      )
      (same_kind h (node_on s.nodes r0 c0) _)

  block_upright : IsNoImage h r c → ((e : DrawnEdge) → IsUpright (edge_moved h e) r c (north_of e r0 c0)) →
      block_at (sheet_moved h rows cols s) r c ≡ cond (is_crossed_north s r0 c0) Vertical Empty
  block_upright none up =
      rw (
        any_same (edge_moved h) (λ e. nat_lt 0 (north_of e r c)) (λ e. nat_lt 0 (north_of e r0 c0)) (λ e. ap (nat_lt 0) (up e).north) s.edges,
        any_same (edge_moved h) (λ e. nat_lt 0 (south_of e r c)) (λ e. nat_lt 0 (north_of e r0 c0)) (λ e. ap (nat_lt 0) (up e).south) s.edges,
        none_any (edge_moved h) (λ e. nat_lt 0 (west_of e r c)) (λ e. ap (nat_lt 0) (up e).west) s.edges,
        none_any (edge_moved h) (λ e. nat_lt 0 (east_of e r c)) (λ e. ap (nat_lt 0) (up e).east) s.edges,
        node_on_none h s.nodes r c none,
      )
      (straight (is_crossed_north s r0 c0))
    where
      straight : (b : Bool) → wire_kind b b false false ≡ cond b Vertical Empty
      straight true = refl
      straight false = refl

  block_level : IsNoImage h r c → ((e : DrawnEdge) → IsLevelled (edge_moved h e) r c (west_of e r0 c0)) →
      block_at (sheet_moved h rows cols s) r c ≡ cond (is_crossed_west s r0 c0) Horizontal Empty
  block_level none along =
      rw (
        none_any (edge_moved h) (λ e. nat_lt 0 (north_of e r c)) (λ e. ap (nat_lt 0) (along e).north) s.edges,
        none_any (edge_moved h) (λ e. nat_lt 0 (south_of e r c)) (λ e. ap (nat_lt 0) (along e).south) s.edges,
        any_same (edge_moved h) (λ e. nat_lt 0 (west_of e r c)) (λ e. nat_lt 0 (west_of e r0 c0)) (λ e. ap (nat_lt 0) (along e).west) s.edges,
        any_same (edge_moved h) (λ e. nat_lt 0 (east_of e r c)) (λ e. nat_lt 0 (west_of e r0 c0)) (λ e. ap (nat_lt 0) (along e).east) s.edges,
        node_on_none h s.nodes r c none,
      )
      (straight (is_crossed_west s r0 c0))
    where
      straight : (b : Bool) → wire_kind false false b b ≡ cond b Horizontal Empty
      straight true = refl
      straight false = refl

side : (at r : ℕ) → (r < at) ⊎ (at ≤ r)
side at r = elim (nat_lt r at) as (λ x. nat_lt r at ≡ x → (r < at) ⊎ (at ≤ r)) [
  | true ↦ λ e. inl (grind (arith, nat_tests))
  | false ↦
      λ e. inr (grind (arith, nat_tests))
] refl

stays : (at by r : ℕ) → r < at → shifted at by r ≡ r
stays at by r h = grind (arith, nat_tests)

moves : (at by r : ℕ) → at ≤ r → shifted at by r ≡ r + by
moves at by r h = grind (arith, nat_tests)

no_second : (a b : Bool) → b ≡ false → (a && b) ≡ false
no_second true b e = e
no_second false b e = refl

pub rows_keep_blocks : (s : Sheet) (at by r c : ℕ) → block_at (with_rows s at by) (shifted at by r) c ≡ block_at s r c
rows_keep_blocks s at by r c = elim (side at r) as (λ _. block_at (with_rows s at by) (shifted at by r) c ≡ block_at s r c) [
  | inl low ↦ rw (stays at by r low) (block_kept (rows_shifted at by) (s.rows + by) s.cols s r c r c (λ p. rw (on_kept at by r
      (row_of p) low) refl) (rows_kept at by r c low))
  | inr high ↦ rw (moves at by r high) (block_kept (rows_shifted at by) (s.rows + by) s.cols s (r + by) c r c (λ p. rw
      (on_moved at by r (row_of p) high) refl) (rows_later at by r c high))
]

pub cols_keep_blocks : (s : Sheet) (at by r c : ℕ) → block_at (with_cols s at by) r (shifted at by c) ≡ block_at s r c
cols_keep_blocks s at by r c = elim (side at c) as (λ _. block_at (with_cols s at by) r (shifted at by c) ≡ block_at s r c) [
  | inl low ↦ rw (stays at by c low) (block_kept (cols_shifted at by) s.rows (s.cols + by) s r c r c (λ p. rw (on_kept at by c
      (col_of p) low) refl) (cols_kept at by r c low))
  | inr high ↦ rw (moves at by c high) (block_kept (cols_shifted at by) s.rows (s.cols + by) s r (c + by) r c (λ p. rw
      (on_moved at by c (col_of p) high) refl) (cols_later at by r c high))
]

pub new_rows : (s : Sheet) (at by r c : ℕ) → at ≤ r → r < at + by → block_at (with_rows s at by) r c ≡ cond (is_crossed_north s at c) Vertical Empty
new_rows s at by r c low high = block_upright (rows_shifted at by) (s.rows + by) s.cols s r c at c (λ p. rw (on_new at by r
    (row_of p) low high) refl) (rows_new at by r c low high)

pub new_cols : (s : Sheet) (at by r c : ℕ) → at ≤ c → c < at + by → block_at (with_cols s at by) r c ≡ cond (is_crossed_west s r at) Horizontal Empty
new_cols s at by r c low high = block_level (cols_shifted at by) s.rows (s.cols + by) s r c r at (λ p. no_second (nat_eq
    (row_of p) r) _ (on_new at by c (col_of p) low high)) (cols_new at by r c low high)

-- Where the places of a sheet come from once rows or columns stand before one of its lines.
use Rattle.std.proofs.Common.{◌≡◌, ℕ, ◌+◌, ◌-◌, ◌<◌, ◌≤◌, ◌^◌, ◌⊎◌, inl, inr, Bool, true, false, nat_lt, nat_eq, ◌&&◌, refl, arith}
use Rattle.std.proofs.lemmas.Bool.Decides.{nat_tests}
use Rattle.block_grid.specs.Lines.{row_of, col_of}
use Rattle.block_grid.specs.Sheets.{DrawnEdge, line_of, north_of, west_of, Sheet, IsSheet}
use Rattle.block_grid.specs.Changes.{shifted, rows_shifted, cols_shifted, edge_moved, with_rows, with_cols}
use Rattle.block_grid.proofs.Crossings.{crossings_moved, crossings_none}
use Rattle.block_grid.proofs.Shifts.{before_kept, before_doubled, before_later, on_kept, on_new, on_moved, same_shifted}
use Rattle.block_grid.proofs.Moves.{SameSides, IsUpright, IsLevelled, Origin, kept, upright, level, line_moved}
use Rattle.block_grid.proofs.MovedSheets.{moved_sheet}

-- a number below a line, on a new line, or behind the new lines
pub line_cases : (at by r : ℕ) → (r < at) ⊎ ((at ≤ r) × (r < at + by)) ⊎ ((r0 : ℕ) × (at ≤ r0) × (r ≡ r0 + by))
line_cases at by r =
    elim (nat_lt r at) as (λ b. nat_lt r at ≡ b → (r < at) ⊎ ((at ≤ r) × (r < at + by)) ⊎ ((r0 : ℕ) × (at ≤ r0) × (r ≡ r0 + by))) [
      | true ↦ λ is. inl (grind (arith, nat_tests))
      | false ↦ λ is. inr (elim (nat_lt r (at + by)) as (λ b. nat_lt r (at + by) ≡ b →
          ((at ≤ r) × (r < at + by)) ⊎ ((r0 : ℕ) × (at ≤ r0) × (r ≡ r0 + by))) [
            | true ↦ λ too. inl (grind (arith, nat_tests), grind (arith, nat_tests))
            | false ↦ λ too. let far : at + by ≤ r = grind (arith, nat_tests) in inr (r - by, omega arith, omega arith)
          ] refl)
    ] refl

module _ (at by : ℕ) where
  pub rows_kept : (r c : ℕ) → r < at → (e : DrawnEdge) → SameSides (edge_moved (rows_shifted at by) e) e r c r c
  rows_kept r c low e = record {
    north = rw (line_moved (rows_shifted at by) e) (crossings_moved (rows_shifted at by) row_of col_of r c r c (λ q. before_kept at by r
        (row_of q) (omega arith)) (λ q. refl) e.start (line_of e));
    south = rw (line_moved (rows_shifted at by) e) (crossings_moved (rows_shifted at by) row_of col_of (r + 1) c (r + 1) c
        (λ q. before_kept at by (r + 1) (row_of q) (omega arith)) (λ q. refl) e.start (line_of e));
    west = rw (line_moved (rows_shifted at by) e) (crossings_moved (rows_shifted at by) col_of row_of c r c r (λ q. refl)
        (λ q. on_kept at by r (row_of q) low) e.start (line_of e));
    east = rw (line_moved (rows_shifted at by) e) (crossings_moved (rows_shifted at by) col_of row_of (c + 1) r (c + 1) r (λ q. refl)
        (λ q. on_kept at by r (row_of q) low) e.start (line_of e));
  }

  pub rows_later : (r0 c : ℕ) → at ≤ r0 → (e : DrawnEdge) → SameSides (edge_moved (rows_shifted at by) e) e (r0 + by) c r0 c
  rows_later r0 c high e = record {
    north = rw (line_moved (rows_shifted at by) e) (crossings_moved (rows_shifted at by) row_of col_of (r0 + by) c r0 c
        (λ q. before_later at by (r0 + by) r0 (row_of q) refl high) (λ q. refl) e.start (line_of e));
    south = rw (line_moved (rows_shifted at by) e) (crossings_moved (rows_shifted at by) row_of col_of (r0 + by + 1) c (r0 + 1) c
        (λ q. before_later at by (r0 + by + 1) (r0 + 1) (row_of q) (omega arith) (omega arith)) (λ q. refl) e.start (line_of e));
    west = rw (line_moved (rows_shifted at by) e) (crossings_moved (rows_shifted at by) col_of row_of c (r0 + by) c r0 (λ q. refl)
        (λ q. on_moved at by r0 (row_of q) high) e.start (line_of e));
    east = rw (line_moved (rows_shifted at by) e) (crossings_moved (rows_shifted at by) col_of row_of (c + 1) (r0 + by) (c + 1) r0 (λ q. refl)
        (λ q. on_moved at by r0 (row_of q) high) e.start (line_of e));
  }

  pub rows_new : (r c : ℕ) → at ≤ r → r < at + by → (e : DrawnEdge) → IsUpright (edge_moved (rows_shifted at by) e) r c (north_of e at c)
  rows_new r c low high e = record {
    north = rw (line_moved (rows_shifted at by) e) (crossings_moved (rows_shifted at by) row_of col_of r c at c (λ q. before_doubled at by r
        (row_of q) low (omega arith)) (λ q. refl) e.start (line_of e));
    south = rw (line_moved (rows_shifted at by) e) (crossings_moved (rows_shifted at by) row_of col_of (r + 1) c at c
        (λ q. before_doubled at by (r + 1) (row_of q) (omega arith) (omega arith)) (λ q. refl) e.start (line_of e));
    west = rw (line_moved (rows_shifted at by) e) (crossings_none (rows_shifted at by) col_of row_of c r (λ q. on_new at by r
        (row_of q) low high) e.start (line_of e));
    east = rw (line_moved (rows_shifted at by) e) (crossings_none (rows_shifted at by) col_of row_of (c + 1) r (λ q. on_new at by r
        (row_of q) low high) e.start (line_of e));
  }

  pub rows_origin : (r c : ℕ) → Origin (rows_shifted at by) r c
  rows_origin r c =
      elim (line_cases at by r) as (λ _. Origin (rows_shifted at by) r c) [
        | inl low ↦ kept r c (λ p. rw (on_kept at by r (row_of p) low) refl) (rows_kept r c low)
        | inr rest ↦ elim rest as (λ _. Origin (rows_shifted at by) r c) [
          | inl here ↦ upright at c (λ p. rw (on_new at by r (row_of p) here.0 here.1) refl) (rows_new r c here.0 here.1)
          | inr far ↦ rw far.2 (kept far.0 c (λ p. rw (on_moved at by far.0 (row_of p) far.1) refl) (rows_later far.0 c far.1))
        ]
      ]

  pub cols_kept : (r c : ℕ) → c < at → (e : DrawnEdge) → SameSides (edge_moved (cols_shifted at by) e) e r c r c
  cols_kept r c low e = record {
    north = rw (line_moved (cols_shifted at by) e) (crossings_moved (cols_shifted at by) row_of col_of r c r c (λ q. refl)
        (λ q. on_kept at by c (col_of q) low) e.start (line_of e));
    south = rw (line_moved (cols_shifted at by) e) (crossings_moved (cols_shifted at by) row_of col_of (r + 1) c (r + 1) c (λ q. refl)
        (λ q. on_kept at by c (col_of q) low) e.start (line_of e));
    west = rw (line_moved (cols_shifted at by) e) (crossings_moved (cols_shifted at by) col_of row_of c r c r (λ q. before_kept at by c
        (col_of q) (omega arith)) (λ q. refl) e.start (line_of e));
    east = rw (line_moved (cols_shifted at by) e) (crossings_moved (cols_shifted at by) col_of row_of (c + 1) r (c + 1) r
        (λ q. before_kept at by (c + 1) (col_of q) (omega arith)) (λ q. refl) e.start (line_of e));
  }

  pub cols_later : (r c0 : ℕ) → at ≤ c0 → (e : DrawnEdge) → SameSides (edge_moved (cols_shifted at by) e) e r (c0 + by) r c0
  cols_later r c0 high e = record {
    north = rw (line_moved (cols_shifted at by) e) (crossings_moved (cols_shifted at by) row_of col_of r (c0 + by) r c0 (λ q. refl)
        (λ q. on_moved at by c0 (col_of q) high) e.start (line_of e));
    south = rw (line_moved (cols_shifted at by) e) (crossings_moved (cols_shifted at by) row_of col_of (r + 1) (c0 + by) (r + 1) c0
        (λ q. refl) (λ q. on_moved at by c0 (col_of q) high) e.start (line_of e));
    west = rw (line_moved (cols_shifted at by) e) (crossings_moved (cols_shifted at by) col_of row_of (c0 + by) r c0 r
        (λ q. before_later at by (c0 + by) c0 (col_of q) refl high) (λ q. refl) e.start (line_of e));
    east = rw (line_moved (cols_shifted at by) e) (crossings_moved (cols_shifted at by) col_of row_of (c0 + by + 1) r (c0 + 1) r
        (λ q. before_later at by (c0 + by + 1) (c0 + 1) (col_of q) (omega arith) (omega arith)) (λ q. refl) e.start (line_of e));
  }

  pub cols_new : (r c : ℕ) → at ≤ c → c < at + by → (e : DrawnEdge) → IsLevelled (edge_moved (cols_shifted at by) e) r c (west_of e r at)
  cols_new r c low high e = record {
    north = rw (line_moved (cols_shifted at by) e) (crossings_none (cols_shifted at by) row_of col_of r c (λ q. on_new at by c
        (col_of q) low high) e.start (line_of e));
    south = rw (line_moved (cols_shifted at by) e) (crossings_none (cols_shifted at by) row_of col_of (r + 1) c (λ q. on_new at by c
        (col_of q) low high) e.start (line_of e));
    west = rw (line_moved (cols_shifted at by) e) (crossings_moved (cols_shifted at by) col_of row_of c r at r (λ q. before_doubled at by c
        (col_of q) low (omega arith)) (λ q. refl) e.start (line_of e));
    east = rw (line_moved (cols_shifted at by) e) (crossings_moved (cols_shifted at by) col_of row_of (c + 1) r at r
        (λ q. before_doubled at by (c + 1) (col_of q) (omega arith) (omega arith)) (λ q. refl) e.start (line_of e));
  }

  pub cols_origin : (r c : ℕ) → Origin (cols_shifted at by) r c
  cols_origin r c =
      elim (line_cases at by c) as (λ _. Origin (cols_shifted at by) r c) [
        | inl low ↦ kept r c (λ p. rw (on_kept at by c (col_of p) low) refl) (cols_kept r c low)
        | inr rest ↦ elim rest as (λ _. Origin (cols_shifted at by) r c) [
          | inl here ↦ level r at (λ p. no_row (nat_eq (row_of p) r) _ (on_new at by c (col_of p) here.0 here.1)) (cols_new r c here.0 here.1)
          | inr far ↦ rw far.2 (kept r far.0 (λ p. rw (on_moved at by far.0 (col_of p) far.1) refl) (cols_later r far.0 far.1))
        ]
      ]
    where
      no_row : (a b : Bool) → b ≡ false → (a && b) ≡ false
      no_row true b e = e
      no_row false b e = refl

  shifted_less : (n m : ℕ) → n < m → shifted at by n < m + by
  shifted_less n m h = grind (arith, nat_tests)

  pub with_rows_sheet : (s : Sheet) → IsSheet s → s.rows + by ≤ 2 ^ 20 → IsSheet (with_rows s at by)
  with_rows_sheet s sheet few =
      let some : 1 ≤ s.rows = sheet.some_rows in
      moved_sheet s (rows_shifted at by) (s.rows + by) s.cols (λ p q. same_shifted at by (row_of p) (row_of q)) (λ p q. refl) (λ p on.
      (shifted_less (row_of p) s.rows on.0, on.1)) rows_origin sheet (omega arith) sheet.some_cols few sheet.few_cols

  pub with_cols_sheet : (s : Sheet) → IsSheet s → s.cols + by ≤ 2 ^ 20 → IsSheet (with_cols s at by)
  with_cols_sheet s sheet few =
      let some : 1 ≤ s.cols = sheet.some_cols in
      moved_sheet s (cols_shifted at by) s.rows (s.cols + by) (λ p q. refl) (λ p q. same_shifted at by (col_of p) (col_of q)) (λ p on. (
        on.0,
        shifted_less (col_of p) s.cols on.1,
      )) cols_origin sheet sheet.some_rows (omega arith) sheet.few_rows few

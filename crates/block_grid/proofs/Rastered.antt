-- Wire blocks by marks, and nodes among them.
use Rattle.std.proofs.Common.{◌≡◌, ℕ, ◌+◌, ◌*◌, ◌<◌, ◌≤◌, Some, Bool, false, List, All, length, map, get_or, ap, ◌∙◌, arith}
use Rattle.std.specs.Prelude.{slice_get, flat_map}
use Rattle.std.specs.List.{range_with_len}
use Rattle.std.proofs.lemmas.Option.{get_or_from_slice_get}
use Rattle.block_grid.specs.declared.kind.BlockKind.{BlockKind}
use Rattle.block_grid.specs.declared.standing.Standing.{Standing}
use Rattle.block_grid.specs.Raster.{LiesIn, AreKinds, Tells, wire_at}
use Rattle.block_grid.specs.Sheets.{Sheet, IsSheet, is_crossed_north, is_crossed_west, wire_kind}
use Rattle.block_grid.proofs.Inside.{starts_inside, finishes_inside}
use Rattle.block_grid.proofs.Marks.{line_fits, rows_long, rows_get, put_at}

module _ (s : Sheet) (sheet : IsSheet s) where
  -- edges and nodes keep to the sheet
  pub edges_lie : All (LiesIn s.rows s.cols) s.edges
  edges_lie k d below =
      let drawn = sheet.drawn k d below in
      record { start = starts_inside s (get_or s.edges k d) sheet drawn; turns = drawn.inside; finish = finishes_inside s (get_or s.edges k d) sheet drawn }

  pub nodes_lie : (long : ℕ) → s.rows * s.cols ≤ long → All (λ (node : Standing). (node.col < s.cols) × ((node.row + 1) * s.cols ≤ long)) s.nodes
  nodes_lie long fits k d below =
      let inside = sheet.nodes_inside k d below in
      let most = line_fits s.cols s.rows (get_or s.nodes k d).row inside.0 in
      (inside.1, omega (arith, most, fits))

  module _ (norths wests : List Bool) (by_rows : Tells s.cols norths (s.rows + 1) (is_crossed_north s)) (by_cols : Tells s.rows wests (s.cols + 1) (λ col row. is_crossed_west s row col)) where
    -- a wire block by its marks
    wire_is : (r c : ℕ) → r < s.rows → c < s.cols
        → wire_at norths wests s.rows s.cols r c
        ≡ wire_kind (is_crossed_north s r c) (is_crossed_north s (r + 1) c) (is_crossed_west s r c) (is_crossed_west s r (c + 1))
    wire_is r c is_row is_col =
        let n = get_or_from_slice_get norths (r * s.cols + c) (is_crossed_north s r c) false (by_rows r c (omega (arith, is_row)) is_col) in
        let u = get_or_from_slice_get norths ((r + 1) * s.cols + c) (is_crossed_north s (r + 1) c) false (by_rows (r + 1) c (omega (arith, is_row)) is_col) in
        let w = get_or_from_slice_get wests (c * s.rows + r) (is_crossed_west s r c) false (by_cols c r (omega (arith, is_col)) is_row) in
        let e = get_or_from_slice_get wests ((c + 1) * s.rows + r) (is_crossed_west s r (c + 1)) false (by_cols (c + 1) r (omega (arith, is_col)) is_row) in
        ap (λ (b : Bool). wire_kind b (get_or norths ((r + 1) * s.cols + c) false) (get_or wests (c * s.rows + r) false) (get_or wests ((c + 1) * s.rows + r) false)) n
        ∙ ap (λ (b : Bool). wire_kind (is_crossed_north s r c) b (get_or wests (c * s.rows + r) false) (get_or wests ((c + 1) * s.rows + r) false)) u
        ∙ ap (λ (b : Bool). wire_kind (is_crossed_north s r c) (is_crossed_north s (r + 1) c) b (get_or wests ((c + 1) * s.rows + r) false)) w
        ∙ ap (λ (b : Bool). wire_kind (is_crossed_north s r c) (is_crossed_north s (r + 1) c) (is_crossed_west s r c) b) e

    pub kinds_are : (wires kinds : List BlockKind)
        → wires ≡ flat_map (λ row. map (wire_at norths wests s.rows s.cols row) (range_with_len 0 s.cols)) (range_with_len 0 s.rows)
        → length kinds ≡ length wires
        → ((r c : ℕ) (k : BlockKind) → c < s.cols → slice_get wires (r * s.cols + c) ≡ Some k → slice_get kinds (r * s.cols + c) ≡ Some (put_at s.nodes r c k))
        → AreKinds s kinds
    kinds_are wires kinds are long puts = record {
      size = long ∙ ap length are ∙ rows_long (wire_at norths wests s.rows s.cols) s.cols 0 s.rows;
      each = λ r c is_row is_col.
          let here : 0 + r ≡ r = omega arith in
          puts r c (wire_kind (is_crossed_north s r c) (is_crossed_north s (r + 1) c) (is_crossed_west s r c) (is_crossed_west s r (c + 1))) is_col
          (ap (λ l. slice_get l (r * s.cols + c)) are ∙ rows_get (wire_at norths wests s.rows s.cols) s.cols 0 s.rows r c is_row is_col
          ∙ ap (λ (n : ℕ). Some (wire_at norths wests s.rows s.cols n c)) here ∙ ap Some (wire_is r c is_row is_col));
    }

-- The tiles of a block by what it is made of.
use Rattle.std.proofs.Common.{◌≡◌, ℕ, ◌≤◌, List, Option, length, Result, Ok, Err, refl, ap, arith}
use Rattle.std.specs.Prelude.{IfOk}
use Rattle.std.proofs.lemmas.List.FromFn.{length-map-range_with_len}
use Rattle.rx_lang.specs.Tables.{Tables}
use Rattle.star_normal.specs.declared.node.NodeKind.{NodeKind}
use Rattle.star_normal.specs.declared.node.NodeKind.TheVariants.{Leaf, Seq, Alt}
use Rattle.star_normal.specs.Tables.{TreeTable}
use Rattle.nor_net.specs.Part.{PartTables}
use Rattle.gate_matrix.specs.Cells.{Matrix}
use Rattle.gate_matrix.specs.Drawn.{PartsFillRows}
use Rattle.wiring.specs.Wirings.{Span, Run}
use Rattle.block_grid.specs.declared.kind.BlockKind.TheVariants.{Node as NodeBlock, Frame as FrameBlock}
use Rattle.cell_network.specs.declared.numbering.Counts.{Counts}
use Rattle.cell_network.specs.Home.{AreFew}
use Rattle.cell_network.specs.Parts.{bundle, counts_of, node_at, part_of}
use Rattle.node_cell.specs.declared.form.Form.{Form}
use Rattle.node_cell.specs.declared.form.Form.TheVariants as forms
use Rattle.node_cell.specs.Blocks.{block_side, wire_col, is_left_light}
use Rattle.node_cell.specs.BlockTiles.{part_rows, cap, foot, ended, no_runs, frame_spans, east_runs, pair_spans, pair_run, stacked_tile, node_tile, frame_tile, block_plan}
use Rattle.node_cell.specs.Made.{stack_tile, form_tile, form_plan, form_of, matrix_of, FitsBlock, HasRows, IsMade}

-- what is so of each value that is made
pub ok_map : {X E : Type 0} (P Q : X → Type 0) (result : Result X E) → IfOk result P → ((x : X) → P x → Q x) → IfOk result Q
ok_map P Q (Ok x) h f = f x h
ok_map P Q (Err e) h f = tt

module _ (c : Counts) (part : PartTables) where
  abbrev m : Matrix
  m = matrix_of c part

  many : length m.at ≡ part.nets
  many = length-map-range_with_len wire_col 0 part.nets

  stacked : (coming : ℕ) (spans : ℕ → List Span) (runs : ℕ → Option Run)
      → ◌≡◌ {A = ℕ → ℕ → ℕ} (stack_tile c (cap c (length m.at) coming) m (foot c (length m.at) spans runs))
      (stacked_tile c (cap c part.nets coming) part (foot c part.nets spans runs))
  stacked coming spans runs = ap (λ (n : ℕ). stack_tile c (cap c n coming) m (foot c n spans runs)) many

  node_tiles : (tree : TreeTable) (kind : NodeKind) → ◌≡◌ {A = ℕ → ℕ → ℕ} (form_tile c (form_of tree.nodes kind) m) (node_tile c tree part kind)
  node_tiles tree (Leaf s) = stacked (bundle c) ended no_runs
  node_tiles tree (Seq l r) = stacked (bundle c) (pair_spans c (is_left_light tree.nodes l r)) (pair_run c (is_left_light tree.nodes l r))
  node_tiles tree (Alt l r) = stacked (bundle c) (pair_spans c (is_left_light tree.nodes l r)) (pair_run c (is_left_light tree.nodes l r))

  frame_tiles : ◌≡◌ {A = ℕ → ℕ → ℕ} (form_tile c forms.Frame m) (frame_tile c part)
  frame_tiles = stacked 0 (frame_spans c) (east_runs c (λ i. i))

  -- the matrix has the rows and columns of its block
  has_rows : (form : Form) → length m.rows ≡ part_rows c → HasRows c form m
  has_rows (forms.Wires kind) e = tt
  has_rows forms.Leaf e = e
  has_rows (forms.Pair left_light) e = e
  has_rows forms.Frame e = e

  pub is_made : (form : Form) → AreFew c → PartsFillRows → FitsBlock c part → part.nets ≤ 65536 → IsMade c form m
  is_made form few fill fits nets = record {
    few = few;
    rows = has_rows form (fill part _ (part_rows c) (block_side c) fits);
    cols = refl;
    nets = (let long = many in omega (arith, long, nets));
  }

pub node_plan : (tree : TreeTable) (tables : Tables) (v : ℕ)
    → form_plan (counts_of tree tables) (form_of tree.nodes (node_at tree.nodes v).kind) (matrix_of (counts_of tree tables) (part_of tree tables v))
    ≡ block_plan tree tables (NodeBlock v)
node_plan tree tables v =
    let c = counts_of tree tables in
    let e = node_tiles c (part_of tree tables v) tree (node_at tree.nodes v).kind in
    λ i. record { rows = block_side c; cols = block_side c; tile = e i }

pub frame_plan : (tree : TreeTable) (tables : Tables) (v : ℕ)
    → form_plan (counts_of tree tables) forms.Frame (matrix_of (counts_of tree tables) (part_of tree tables v)) ≡ block_plan tree tables (FrameBlock v)
frame_plan tree tables v =
    let c = counts_of tree tables in
    let e = frame_tiles c (part_of tree tables v) in
    λ i. record { rows = block_side c; cols = block_side c; tile = e i }

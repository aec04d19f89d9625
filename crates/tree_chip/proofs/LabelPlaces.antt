-- A label by the corner of its block stands at the spot of its pad.
use Rattle.std.proofs.Common.{◌≡◌, ℕ, ◌+◌, ◌-◌, ◌*◌, ◌<◌, ℤ, pos, ◌+ℤ◌, List, map, ap, ◌∙◌, arith}
use Rattle.std.proofs.lemmas.Int.{ints}
use Rattle.geom.specs.declared.layer.Layer.TheVariants.{Poly}
use Rattle.geom.specs.declared.chip.Label.{Label}
use Rattle.rx_lang.specs.Tables.{Tables}
use Rattle.star_normal.specs.Tables.{TreeTable}
use Rattle.switch_net.specs.declared.network.Pad.{Pad}
use Rattle.block_grid.specs.Lines.{BlockPlace, row_of, col_of}
use Rattle.block_grid.specs.Sheets.{Sheet}
use Rattle.light_order.specs.Order.{frame}
use Rattle.channel_route.specs.Drawing.{place_in}
use Rattle.cell_network.specs.Parts.{counts_of}
use Rattle.node_cell.specs.Blocks.{block_side}
use Rattle.tree_chip.specs.TreePlans.{pad_label}
use Rattle.tree_chip.specs.Labels.{label_at}

across : (side col net west : ℕ) → west ≡ side * col
    → pos (14 * (west + 2 + 2 * net) + 6) ≡ pos (14 * (side * col + (2 + 2 * net))) +ℤ pos 6
across side col net west e = omega (arith, ints, e)

-- the rows from this one on
pub rows_behind : (side rows row : ℕ) → row < rows → side * rows ≡ side * row + side * (rows - row)
rows_behind side rows row below =
    let e : rows ≡ row + (rows - row) = omega (arith, below) in
    let split : side * (row + (rows - row)) ≡ side * row + side * (rows - row) = grind arith in
    ap (λ (n : ℕ). side * n) e ∙ split

upward : (side rows row south : ℕ) → row < rows → south + 1 ≡ side * (rows - row)
    → pos (14 * south) ≡ pos (14 * (side * rows - 1 - side * row)) +ℤ pos 0
upward side rows row south below e = let s = rows_behind side rows row below in omega (arith, ints, e, s)

module _ (sheet : Sheet) (tree : TreeTable) (tables : Tables) where
  abbrev side : ℕ
  side = block_side (counts_of tree tables)

  abbrev place : BlockPlace
  place = place_in sheet (frame tree)

  label_same : (west south : ℕ) → west ≡ side * col_of place → south + 1 ≡ side * (sheet.rows - row_of place) → row_of place < sheet.rows
      → (pad : Pad) → label_at west south pad ≡ pad_label sheet tree tables pad
  label_same west south e f below pad =
      let at : ℤ → ℤ → Label = λ x y. record { pad = pad.name; layer = Poly; x = x; y = y } in
      ap (λ (x : ℤ). at x (pos (14 * south))) (across side (col_of place) pad.net.0 west e)
      ∙ ap (λ (y : ℤ). at (pos (14 * (side * col_of place + (2 + 2 * pad.net.0))) +ℤ pos 6) y) (upward side sheet.rows (row_of place) south below f)

  pub labels_same : (west south : ℕ) → west ≡ side * col_of place → south + 1 ≡ side * (sheet.rows - row_of place) → row_of place < sheet.rows
      → (pads : List Pad) → map (label_at west south) pads ≡ map (pad_label sheet tree tables) pads
  labels_same west south e f below pads = λ i. map (λ pad. label_same west south e f below pad i) pads

-- The text of the chip of a tree's layout is a file of its specification, and the chip has a box.
use Rattle.std.proofs.Common.{◌≡◌, ◌≢◌, ◌↔◌, ℕ, ◌-◌, ◌*◌, ◌<◌, ◌≤◌, true, ℤ, pos, ◌≤ℤ◌, ◌<ℤ◌, List, [], length, All, Result, Ok, Err, refl, sym, ap, subst, ◌∙◌, arith}
use Rattle.std.specs.Prelude.{◌^◌, IfOk}
use Rattle.std.proofs.Math.Nat.{mul-le-mul, mul-le-mul_left, mul_assoc, mul_comm}
use Rattle.std.proofs.lemmas.Int.{ints}
use Rattle.std.proofs.lemmas.Option.{slice_get_within}
use Rattle.rx_text.specs.Name.{is_name}
use Rattle.rx_text.specs.declared.pad_name.Role.TheVariants.{Vdd}
use Rattle.geom.specs.declared.layer.Layer.{Layer}
use Rattle.geom.specs.declared.layer.Layer.TheVariants.{Poly}
use Rattle.geom.specs.declared.chip.Call.{Call}
use Rattle.geom.specs.declared.chip.Label.{Label}
use Rattle.geom.specs.declared.chip.Rect.{Rect}
use Rattle.geom.specs.Squares.{BoxShape, Covered}
use Rattle.geom.specs.Rows.{Among}
use Rattle.geom.specs.CifLabels.{bears_labels}
use Rattle.geom.specs.Chips.{ChipCovers, ChipShape, IsBoxOf}
use Rattle.cif_write.specs.ChipText.{chip_text}
use Rattle.cif_write.specs.WrittenChips.{ChipTextsDraw, IsWritable, IsWritableBox, IsWritableCall, IsWritableEdge, IsWritableLabel, chip_boxes}
use Rattle.chip_box.specs.Extents.{IsMeasured, RectanglesExist}
use Rattle.rx_lang.specs.Specification.{Specification}
use Rattle.rx_lang.specs.Squares.{IsLevel, side_bound}
use Rattle.rx_lang.specs.Tables.{IsSpecification, Tables, specification}
use Rattle.star_normal.specs.Tables.{TreeTable}
use Rattle.nmos_model.specs.Alike.{CoverAlike, StandAlike}
use Rattle.nmos_model.specs.Networks.{StandsFor}
use Rattle.stick_grid.specs.Plans.{IsPlan, Covers}
use Rattle.tile_rules.specs.KeptRules.{KeepsRules, TilesKeepRules}
use Rattle.block_grid.specs.Sheets.{Sheet}
use Rattle.cell_network.specs.Parts.{counts_of}
use Rattle.node_cell.specs.Blocks.{block_side}
use Rattle.tree_chip.specs.TreeChips.{IsTreeChip, KindsAreBlocks}
use Rattle.tree_chip.specs.TreeChips.{block_width as tree_block_width}
use Rattle.tree_chip.specs.TreeNetworks.{DrawsRecogniser}
use Rattle.tree_chip.specs.TreePlans.{tree_labels, tree_plan}
use Rattle.rxc_program.specs.Files.{DrawsBox, HasTreeSides, IsFileOf, tree_file}
use Rattle.rxc_program.specs.Measuring.{IsLayoutOf}
use Rattle.report_text.specs.Sizes.{block_width, blocks, leaves, tree_area_bound, tree_side_bound, wires}
use Rattle.rxc_program.proofs.ChipTexts.{chip_begins}
use Rattle.rxc_program.proofs.BoxSides.{height_within, width_within}
use Rattle.rxc_program.proofs.Levels.{few_lines}
use Rattle.rxc_program.proofs.Members.{all_of}
use Rattle.rxc_program.proofs.TreeLabels.{poly_is_drawn, tree_labels_named}
use Rattle.rxc_program.proofs.TreeSquares.{boxes_ordered, chip_lies, kind_box, kind_within}
use Rattle.rxc_program.proofs.WrittenBoxes.{written_boxes_cover}

-- a number from 0 up to the side of a layout can be written
near : (side lines : ℕ) (v : ℤ) → side ≤ 700 → lines ≤ 2048 → pos 0 ≤ℤ v → v <ℤ pos (14 * (side * lines)) → IsWritableEdge v
near side lines v small few low high =
    let most : side * lines ≤ 1433600 = mul-le-mul {n₁ = side} {m₁ = lines} {n₂ = 700} {m₂ = 2048} small few in
    record { from = omega (arith, ints, low); to = omega (arith, ints, high, most) }

-- so can a place
place_near : (side lines i : ℕ) (v : ℤ) → side ≤ 700 → lines ≤ 2048 → i < lines → v ≡ pos ((14 * side) * i) → IsWritableEdge v
place_near side lines i v small few below is =
    let wide : 14 * side ≤ 9800 = omega (arith, small) in
    let far : i ≤ 2048 = omega (arith, few, below) in
    let most : (14 * side) * i ≤ 20070400 = mul-le-mul {n₁ = 14 * side} {m₁ = i} {n₂ = 9800} {m₂ = 2048} wide far in
    record { from = omega (arith, ints, is); to = omega (arith, ints, is, most) }

-- where some square is covered there are boxes
some_boxes : (boxes : List BoxShape) (layer : Layer) (x y : ℤ) → Covered boxes layer x y → boxes ≢ []
some_boxes boxes layer x y covered none = subst (λ l. Covered l layer x y) none covered

-- the side of a layout is within its bound where its lines are
side_bounded : (side width lines bound : ℕ) → 14 * side ≡ width → lines ≤ bound → 14 * (side * lines) ≤ bound * width
side_bounded side width lines bound wide few =
    let most : (14 * side) * lines ≤ (14 * side) * bound = mul-le-mul_left (14 * side) few in
    let same : (14 * side) * lines ≡ 14 * (side * lines) = mul_assoc 14 side lines in
    let end : (14 * side) * bound ≡ bound * width = mul_comm (14 * side) bound ∙ ap (λ n. bound * n) wide in
    omega (arith, most, same, end)

no_more : (a b c : ℕ) → a ≤ b → b ≤ c → a ≤ c
no_more a b c first second = omega (arith, first, second)

module _ (sheet : Sheet) (tree : TreeTable) (tables : Tables) (spec_is : IsSpecification tables)
    (lines : All (λ name. is_name name ≡ true) tables.lines) (outputs : All (λ name. is_name name ≡ true) tables.outputs)
    (texts : ChipTextsDraw) (rectangles : RectanglesExist)
    (areas : (spec : Specification) (level width height : ℕ) → IsLevel (blocks spec) level → 1 ≤ leaves spec → 3 ≤ wires spec
    → width ≤ tree_side_bound spec level → height ≤ tree_side_bound spec level → width * height ≤ tree_area_bound spec)
    (level : ℕ) (is_level : IsLevel (blocks (specification tables)) level) (low_level : level ≤ 7) (some : 1 ≤ leaves (specification tables))
    (rows : sheet.rows ≤ side_bound level) (cols : sheet.cols ≤ side_bound level)
    (plan_is : IsPlan (tree_plan sheet tree tables))
    (shows : DrawsRecogniser (specification tables) (Covers (tree_plan sheet tree tables)) (tree_labels sheet tree tables)) where
  abbrev side : ℕ
  side = block_side (counts_of tree tables)

  small_side : side ≤ 700
  small_side =
      let l = spec_is.few_lines in
      let s = spec_is.few_symbols in
      let o = spec_is.few_outputs in
      omega (arith, l, s, o)

  few_rows : sheet.rows ≤ 2048
  few_rows = omega (arith, rows, few_lines level low_level)

  few_cols : sheet.cols ≤ 2048
  few_cols = omega (arith, cols, few_lines level low_level)

  module _ (chip : ChipShape) (is : IsTreeChip sheet tree tables chip)
      (squares : (layer : Layer) (x y : ℤ) → ChipCovers chip layer x y ↔ Covers (tree_plan sheet tree tables) layer x y)
      (few : length chip.kinds < 2 ^ 16) (within : KindsAreBlocks (tree_block_width tree tables) chip)
      (labels : chip.labels ≡ tree_labels sheet tree tables)
      (alike : StandAlike (Covers (tree_plan sheet tree tables)) (Covered (chip_boxes chip)))
      (rules : TilesKeepRules (Covered (chip_boxes chip))) where
    cover_alike : CoverAlike (Covers (tree_plan sheet tree tables)) (Covered (chip_boxes chip))
    cover_alike layer x y = (
      λ h. (written_boxes_cover chip layer x y).0 ((squares layer x y).1 h),
      λ h. (squares layer x y).0 ((written_boxes_cover chip layer x y).1 h),
    )

    stands : StandsFor (Covered (chip_boxes chip)) chip.labels shows.circuit
    stands = alike cover_alike chip.labels shows.circuit
        (subst (λ ls. StandsFor (Covers (tree_plan sheet tree tables)) ls shows.circuit) (sym labels) shows.stands)

    -- ---- the text draws the chip

    box_written : (boxes : List BoxShape) (b : BoxShape) → Among chip.kinds boxes → Among boxes b → IsWritableBox b
    box_written boxes b kind among =
        let box = kind_box sheet tree tables chip is within boxes b kind among in
        let block = kind_within sheet tree tables chip is within boxes b kind among in
        let across = box.across.order in
        let upward = box.upward.order in
        let west = block.0 in
        let east = block.1 in
        let south = block.2 in
        let north = block.3 in
        record {
          box = box;
          left = record { from = omega (arith, ints, west); to = omega (arith, ints, across, east, small_side) };
          bottom = record { from = omega (arith, ints, south); to = omega (arith, ints, upward, north, small_side) };
          right = record { from = omega (arith, ints, west, across); to = omega (arith, ints, east, small_side) };
          top = record { from = omega (arith, ints, south, upward); to = omega (arith, ints, north, small_side) };
        }

    call_written : (call : Call) → Among chip.calls call → IsWritableCall chip.kinds call
    call_written call among =
        let at = is.blocks call among in
        let below = at.is_row in
        record {
          boxes = at.is_call.drawn.boxes;
          kind = at.is_call.drawn.kind;
          x = place_near side sheet.cols at.col call.x small_side few_cols at.is_col at.is_call.stands.x;
          y = place_near side sheet.rows (sheet.rows - 1 - at.row) call.y small_side few_rows (omega (arith, below)) at.is_call.stands.y;
        }

    label_square : (label : Label) → Among chip.labels label → label.layer ≡ Poly → Covered (chip_boxes chip) Poly label.x label.y
    label_square label among poly = poly_is_drawn (Covered (chip_boxes chip)) chip.labels shows.circuit stands label among poly

    label_written : (label : Label) → Among chip.labels label → IsWritableLabel label
    label_written label among =
        let own = tree_labels_named sheet tree tables lines outputs label (subst (λ ls. Among ls label) labels among) in
        let covered = label_square label among own.layer in
        let lies = chip_lies sheet tree tables chip is within in
        let left = lies.left Poly label.x label.y covered in
        let right = lies.right Poly label.x label.y covered in
        let bottom = lies.bottom Poly label.x label.y covered in
        let top = lies.top Poly label.x label.y covered in
        record {
          pad = own.named;
          layer = subst (λ layer. bears_labels layer ≡ true) (sym own.layer) refl;
          x = near side sheet.cols label.x small_side few_cols left right;
          y = near side sheet.rows label.y small_side few_rows bottom top;
        }

    writable : IsWritable chip
    writable = record { few = omega (arith, few); kinds = box_written; calls = call_written; labels = label_written }

    -- ---- the box of what it draws

    -- the first pad stands on a square
    first_square : (label : Label) × Covered (chip_boxes chip) Poly label.x label.y
    first_square =
        let vdd = stands.sound.needed Vdd tt in
        let own = tree_labels_named sheet tree tables lines outputs vdd.0 (subst (λ ls. Among ls vdd.0) labels vdd.1) in
        (vdd.0, label_square vdd.0 vdd.1 own.layer)

    box : (r : Rect) × IsBoxOf (chip_boxes chip) r
    box = rectangles (chip_boxes chip) (some_boxes (chip_boxes chip) Poly first_square.0.x first_square.0.y first_square.1)
        (boxes_ordered sheet tree tables chip is within)

    drawn_box : (r : Rect) → IsBoxOf (chip_boxes chip) r → DrawsBox (chip_text chip) r.width r.height
    drawn_box r is_box = record {
      boxes = chip_boxes chip;
      labels = chip.labels;
      draws = texts.drawn chip writable;
      box = r;
      box_of = is_box;
      width_is = refl;
      height_is = refl;
    }

    sides_of : (r : Rect) → IsBoxOf (chip_boxes chip) r → HasTreeSides (specification tables) (chip_text chip)
    sides_of r is_box =
        let lies = chip_lies sheet tree tables chip is within in
        let at = first_square.0 in
        let width = width_within (chip_boxes chip) (side * sheet.cols) (side * sheet.rows) lies r is_box Poly at.x at.y first_square.1 in
        let height = height_within (chip_boxes chip) (side * sheet.cols) (side * sheet.rows) lies r is_box Poly at.x at.y first_square.1 in
        let wide : 14 * side ≡ block_width (specification tables) = omega arith in
        let narrow : r.width ≤ tree_side_bound (specification tables) level =
        no_more r.width _ _ width (side_bounded side (block_width (specification tables)) sheet.cols (side_bound level) wide cols) in
        let low : r.height ≤ tree_side_bound (specification tables) level =
        no_more r.height _ _ height (side_bounded side (block_width (specification tables)) sheet.rows (side_bound level) wide rows) in
        let l = spec_is.some_lines in
        let s = spec_is.some_symbols in
        let o = spec_is.some_outputs in
        record {
          level = level;
          is_level = is_level;
          width = r.width;
          height = r.height;
          drawn = drawn_box r is_box;
          narrow = narrow;
          low = low;
          small = areas (specification tables) level r.width r.height is_level some (omega (arith, l, s, o)) narrow low;
        }

    keeps : KeepsRules (Covered (chip_boxes chip)) chip.labels
    keeps = rules (tree_plan sheet tree tables) chip.labels plan_is (λ layer x y. ((cover_alike layer x y).1, (cover_alike layer x y).0))

    tree_file_of : IsFileOf tree_file (specification tables) (chip_text chip)
    tree_file_of = record {
      circuit = shows.circuit;
      stands = record {
        begins = chip_begins chip;
        draws = record { boxes = chip_boxes chip; labels = chip.labels; draws = texts.drawn chip writable; stands = stands };
      };
      compiled = record { pads = shows.recogniser.pads; recognises = shows.recogniser.recognises; sure = shows.recogniser.sure };
      sides = sides_of box.0 box.1;
      rules = record { boxes = chip_boxes chip; labels = chip.labels; draws = texts.drawn chip writable; keeps = keeps };
    }

    -- ---- the chip can be measured

    call_measured : (call : Call) → Among chip.calls call → IsMeasured (length chip.kinds) call
    call_measured call among =
        let written = call_written call among in
        let x = written.x in
        let y = written.y in
        record {
          kind = slice_get_within chip.kinds call.kind written.boxes written.kind;
          x = (omega (arith, ints, x.from), omega (arith, ints, x.to));
          y = (omega (arith, ints, y.from), omega (arith, ints, y.to));
        }

    narrow_box : (r : Rect) → IsBoxOf (chip_boxes chip) r → r.width < 2 ^ 32
    narrow_box r is_box =
        let lies = chip_lies sheet tree tables chip is within in
        let at = first_square.0 in
        let width = width_within (chip_boxes chip) (side * sheet.cols) (side * sheet.rows) lies r is_box Poly at.x at.y first_square.1 in
        let most : side * sheet.cols ≤ 1433600 = mul-le-mul {n₁ = side} {m₁ = sheet.cols} {n₂ = 700} {m₂ = 2048} small_side few_cols in
        omega (arith, width, most)

    low_box : (r : Rect) → IsBoxOf (chip_boxes chip) r → r.height < 2 ^ 32
    low_box r is_box =
        let lies = chip_lies sheet tree tables chip is within in
        let at = first_square.0 in
        let height = height_within (chip_boxes chip) (side * sheet.cols) (side * sheet.rows) lies r is_box Poly at.x at.y first_square.1 in
        let most : side * sheet.rows ≤ 1433600 = mul-le-mul {n₁ = side} {m₁ = sheet.rows} {n₂ = 700} {m₂ = 2048} small_side few_rows in
        omega (arith, height, most)

    layout_of : IsLayoutOf (specification tables) chip
    layout_of = record {
      file = tree_file_of;
      measured = all_of (IsMeasured (length chip.kinds)) chip.calls call_measured;
      some = some_boxes (chip_boxes chip) Poly first_square.0.x first_square.0.y first_square.1;
      drawn = drawn_box;
      narrow = narrow_box;
      low = low_box;
    }

  -- the chip, if it was made, is a layout of the specification
  pub tree_layouts : ((chip : ChipShape) → StandAlike (Covers (tree_plan sheet tree tables)) (Covered (chip_boxes chip)))
      → ((chip : ChipShape) → TilesKeepRules (Covered (chip_boxes chip)))
      → {E : Type 0} (result : Result ChipShape E)
      → IfOk result (λ chip. IsTreeChip sheet tree tables chip)
      → IfOk result (λ chip. (layer : Layer) (x y : ℤ) → ChipCovers chip layer x y ↔ Covers (tree_plan sheet tree tables) layer x y)
      → IfOk result (λ chip. length chip.kinds < 2 ^ 16)
      → IfOk result (KindsAreBlocks (tree_block_width tree tables))
      → IfOk result (λ chip. chip.labels ≡ tree_labels sheet tree tables)
      → IfOk result (IsLayoutOf (specification tables))
  tree_layouts alike rules (Err refused) made squares few within labels = tt
  tree_layouts alike rules (Ok chip) made squares few within labels = layout_of chip made squares few within labels (alike chip) (rules chip)

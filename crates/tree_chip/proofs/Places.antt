-- The places of blocks in the layout: row by row, each as wide and as high as all others.
use Rattle.std.proofs.Common.{◌≡◌, ℕ, zero, suc, ◌+◌, ◌-◌, ◌*◌, ◌/◌, ◌%◌, ◌<◌, ◌≤◌, refl, sym, ap, subst, ◌∙◌, arith, div-add-mod'}
use Rattle.std.proofs.lemmas.Nat.{div-mul-add, mod-mul-add, mul-add-lt, div_below, mod_below, row_fits}
use Rattle.rx_lang.specs.Tables.{Tables}
use Rattle.star_normal.specs.Tables.{TreeTable}
use Rattle.stick_grid.specs.Pieces.{Piece}
use Rattle.stick_grid.specs.Windows.{IsWindow}
use Rattle.stick_grid.specs.PlacedModules.{PlacedModule, Holds, StandBeside, StandAbove}
use Rattle.block_grid.specs.Sheets.{Sheet, IsSheet, block_at}
use Rattle.cell_network.specs.Parts.{counts_of}
use Rattle.node_cell.specs.Blocks.{block_side, block_nets, block_devices, block_border, vdd_wire}
use Rattle.node_cell.specs.BlockTiles.{block_plan}
use Rattle.tree_chip.specs.TreePlans.{tree_plan}

-- the quotient by bounds
pub quotient : (n a w : ℕ) → a * w ≤ n → n < a * w + w → n / w ≡ a
quotient n a w low high =
    let rest : n ≡ a * w + (n - a * w) = omega arith in
    ap (λ m. m / w) rest ∙ div-mul-add a w (n - a * w) (omega arith)

module _ (sheet : Sheet) (tree : TreeTable) (tables : Tables) (name : ℕ → ℕ → Piece → ℕ) (rename : ℕ → ℕ → ℕ → ℕ) where
  abbrev pub side : ℕ
  side = block_side (counts_of tree tables)

  -- the block at a place
  abbrev pub module_at : ℕ → ℕ → PlacedModule
  module_at r c = record {
    plan = block_plan tree tables (block_at sheet r c);
    row = r * side;
    col = c * side;
    count = block_nets tree tables (block_at sheet r c);
    name = name r c;
    vdd = vdd_wire (counts_of tree tables);
    devices = block_devices tree tables (block_at sheet r c);
    border = block_border tree tables (block_at sheet r c);
    rename = rename r c;
  }

  -- the number of a place, row by row, and how many there are
  abbrev pub place : ℕ → ℕ → ℕ
  place r c = r * sheet.cols + c

  abbrev pub places : ℕ
  places = sheet.cols * sheet.rows

  abbrev pub modules : ℕ → PlacedModule
  modules k = module_at (k / sheet.cols) (k % sheet.cols)

  -- the place that holds a tile
  abbrev pub which : ℕ → ℕ → ℕ
  which row col = place (row / side) (col / side)

  pub module_is : (r c : ℕ) → c < sheet.cols → modules (place r c) ≡ module_at r c
  module_is r c lt = rw (div-mul-add r sheet.cols c lt, mod-mul-add r sheet.cols c lt) refl

  pub place_known : (r c : ℕ) → r < sheet.rows → c < sheet.cols → place r c < places
  place_known r c lr lc = mul-add-lt r sheet.cols c sheet.rows lr lc

  pub row_known : (k : ℕ) → k < places → k / sheet.cols < sheet.rows
  row_known k lt = div_below k sheet.cols sheet.rows (some k lt) (omega arith)
    where
      some : (k : ℕ) → k < places → 0 < sheet.cols
      some k lt = by sheet.cols refl
        where
          by : (n : ℕ) → sheet.cols ≡ n → 0 < sheet.cols
          by zero e = absurd (let none : places ≡ 0 = ap (λ m. m * sheet.rows) e ∙ zero_times sheet.rows in omega arith)
            where
              zero_times : (m : ℕ) → 0 * m ≡ 0
              zero_times m = omega arith
          by (suc n) e = omega arith

  module _ (is_sheet : IsSheet sheet) where
    pub col_known : (k : ℕ) → k % sheet.cols < sheet.cols
    col_known k = mod_below k sheet.cols (let some = is_sheet.some_cols in omega arith)

    -- ---- windows

    pub window : (r c : ℕ) → r < sheet.rows → c < sheet.cols
        → IsWindow (block_plan tree tables (block_at sheet r c)) (tree_plan sheet tree tables) (r * side) (c * side)
    window r c lr lc = record {
      rows = let fits = row_fits r side sheet.rows side lr (omega arith) in omega arith;
      cols = let fits = row_fits c side sheet.cols side lc (omega arith) in omega arith;
      tiles = λ y x ly lx. rw (div-mul-add r side y ly, mod-mul-add r side y ly, div-mul-add c side x lx, mod-mul-add c side x lx) refl;
    }

    pub known : (row col : ℕ) → row < side * sheet.rows → col < side * sheet.cols → which row col < places
    known row col lr lc =
        place_known (row / side) (col / side) (div_below row side sheet.rows (omega arith) (omega arith))
        (div_below col side sheet.cols (omega arith) (omega arith))

    holds_at : (row col : ℕ) → Holds (module_at (row / side) (col / side)) row col
    holds_at row col =
        let r = div-add-mod' row side in
        let c = div-add-mod' col side in
        let mr = mod_below row side (omega arith) in
        let mc = mod_below col side (omega arith) in
        record { from_row = omega arith; to_row = omega arith; from_col = omega arith; to_col = omega arith }

    pub holds : (row col : ℕ) → row < side * sheet.rows → col < side * sheet.cols → Holds (modules (which row col)) row col
    holds row col lr lc =
        subst (λ m. Holds m row col) (sym (module_is (row / side) (col / side) (div_below col side sheet.cols (omega arith) (omega arith))))
        (holds_at row col)

    pub held : (r c row col : ℕ) → Holds (module_at r c) row col → (row / side ≡ r) × (col / side ≡ c)
    held r c row col h = (quotient row r side h.from_row h.to_row, quotient col c side h.from_col h.to_col)

    pub once : (k row col : ℕ) → k < places → Holds (modules k) row col → which row col ≡ k
    once k row col lt h =
        let in_place = held (k / sheet.cols) (k % sheet.cols) row col h in
        ap (λ x. x * sheet.cols + col / side) in_place.0 ∙ ap (λ x. k / sheet.cols * sheet.cols + x) in_place.1 ∙ div-add-mod' k sheet.cols

    -- ---- neighbours

    pub record IsNext (k l : ℕ) : Type 0 where
      pub row : l / sheet.cols ≡ k / sheet.cols
      pub col : l % sheet.cols ≡ k % sheet.cols + 1

    pub record IsBelow (k l : ℕ) : Type 0 where
      pub row : l / sheet.cols ≡ k / sheet.cols + 1
      pub col : l % sheet.cols ≡ k % sheet.cols

    -- a multiple of the side that begins where another one ends
    next_is : (a b : ℕ) → b * side ≡ a * side + side → b ≡ a + 1
    next_is a b e =
        let own : b * side + 0 ≡ b * side = omega arith in
        sym (div-mul-add b side 0 (omega arith)) ∙ ap (λ n. n / side) own ∙ quotient (b * side) (a + 1) side (omega arith) (omega arith)

    pub is_next : (k l row col : ℕ) → StandBeside modules places k l row col → IsNext k l
    is_next k l row col s =
        let one = held (k / sheet.cols) (k % sheet.cols) row col s.first_holds in
        let other = held (l / sheet.cols) (l % sheet.cols) row (col + 1) s.second_holds in
        let ends = s.first_ends in
        let begins = s.second_begins in
        record { row = sym other.0 ∙ one.0; col = next_is (k % sheet.cols) (l % sheet.cols) (begins ∙ sym ends) }

    pub is_below : (k l row col : ℕ) → StandAbove modules places k l row col → IsBelow k l
    is_below k l row col s =
        let one = held (k / sheet.cols) (k % sheet.cols) row col s.first_holds in
        let other = held (l / sheet.cols) (l % sheet.cols) (row + 1) col s.second_holds in
        let ends = s.first_ends in
        let begins = s.second_begins in
        record { row = next_is (k / sheet.cols) (l / sheet.cols) (begins ∙ sym ends); col = sym other.1 ∙ one.1 }

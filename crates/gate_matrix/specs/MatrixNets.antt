-- The nets of a gate matrix, its devices, and what leads out of it.
use Rattle.std.specs.Prelude.{◌≡◌, ◌≢◌, ℕ, zero, suc, ◌+◌, ◌-◌, ◌<◌, ◌≤◌, ◌&&◌, ◌⊎◌, true, false, if◌then◌else◌, List, [], ◌∷◌, map, flat_map, length, get_or, Option, Some, None, All, AllPairs}
use Rattle.std.specs.List.{range_with_len}
use Rattle.geom.specs.declared.layer.Layer.TheVariants as layers
use Rattle.micro_tiles.specs.declared.side.Side.TheVariants.{North, East, South}
use Rattle.switch_net.specs.declared.network.Device.{Device}
use Rattle.switch_net.specs.declared.network.Device.TheVariants as devices
use Rattle.nor_net.specs.SwitchForm.{at}
use Rattle.stick_grid.specs.Pieces.{Piece}
use Rattle.stick_grid.specs.Modules.{Border, IsModule}
use Rattle.gate_matrix.specs.declared.column.Column.{Column}
use Rattle.gate_matrix.specs.declared.column.Column.TheVariants.{Wire, Device as Devices, Free}
use Rattle.gate_matrix.specs.declared.row.RowKind.{RowKind}
use Rattle.gate_matrix.specs.declared.row.RowKind.TheVariants.{Vdd, Load, Middle}
use Rattle.gate_matrix.specs.Rows.{MatrixRow, blank_row, has_metal}
use Rattle.gate_matrix.specs.Columns.{column_of, AreWires}
use Rattle.gate_matrix.specs.Matrices.{is_start, is_stop, is_middle, is_bottom, Follows}
use Rattle.gate_matrix.specs.Cells.{Matrix, matrix_plan}

-- the row, blank beyond the last
abbrev pub row_at : Matrix → ℕ → MatrixRow
row_at matrix row = get_or matrix.rows row blank_row

-- the net whose poly the column has, or gates devices there; in the columns of loads that of the metal below
abbrev pub poly_in : Column → ℕ → ℕ
poly_in (Wire net) below = net
poly_in (Devices net) below = net
poly_in _ below = below

-- The nets of a tile by their numbers: the metal of its row, its poly, and the metal above and below it.
abbrev pub net_among : Column → ℕ → ℕ → ℕ → ℕ → ℕ
net_among column above here below zero = here
net_among column above here below (suc zero) = poly_in column below
net_among column above here below (suc (suc zero)) = above
net_among column above here below _ = below

-- the net that a net of a tile is, where these are the nets of the metal of rows
abbrev pub matrix_name : (ℕ → ℕ) → List ℕ → Piece → ℕ
matrix_name nets at p = net_among (column_of at p.col) (nets (p.row - 1)) (nets p.row) (nets (p.row + 1)) p.net

-- pass devices that these nets gate, between two nets
abbrev pub passes_of : List ℕ → ℕ → ℕ → List Device
passes_of gated above below = map (λ (i : ℕ). devices.Pass (at i) (at above) (at below)) gated

-- the devices of a row, between the nets of the metal above and below
abbrev pub row_devices : RowKind → List ℕ → ℕ → ℕ → List Device
row_devices Load gated above below = devices.Load (at below) ∷ []
row_devices Middle gated above below = passes_of gated above below
row_devices _ gated above below = []

abbrev pub devices_at : Matrix → (ℕ → ℕ) → ℕ → List Device
devices_at matrix nets row = row_devices (row_at matrix row).kind (row_at matrix row).gated (nets (row - 1)) (nets (row + 1))

abbrev pub matrix_devices : Matrix → (ℕ → ℕ) → List Device
matrix_devices matrix nets = flat_map (devices_at matrix nets) (range_with_len 0 (length matrix.rows))

-- the net that has its poly in the column
abbrev pub wire_in : Column → Option ℕ
wire_in (Wire net) = Some net
wire_in _ = None

-- Each net leads out in poly in its column, to the north where it does not begin in the first row and to the south where it does not
-- end in the last, and the metal of a row leads out to the east, in poly, where it goes on.
abbrev pub matrix_border : Matrix → (ℕ → ℕ) → Border
matrix_border matrix nets North col layers.Poly = if is_start (row_at matrix 0).kind then None else wire_in (column_of matrix.at col)
matrix_border matrix nets South col layers.Poly =
    if is_stop (row_at matrix (length matrix.rows - 1)).kind then None else wire_in (column_of matrix.at col)
matrix_border matrix nets East row layers.Poly =
    if has_metal (row_at matrix row).kind && (row_at matrix row).onward then Some (nets row) else None
matrix_border matrix nets _ _ _ = None

-- The metal is of a net that has a column.
pub record IsWireMetal (wires : ℕ) (row : MatrixRow) (net : ℕ) : Type 0 where
  pub is : net ≡ row.metal
  pub below : row.metal < wires

-- The metal is of a net of its own, which has no column and goes on to the east.
pub record IsOpenMetal (wires count : ℕ) (row : MatrixRow) (net : ℕ) : Type 0 where
  pub onward : row.onward ≡ true
  pub no_wire : wires ≤ row.metal
  pub from : wires ≤ net
  pub below : net < count

-- Devices and loads lead on from the upper row to the lower one; below a row of pass devices stands the row where they end.
pub record IsAbove (upper lower : MatrixRow) : Type 0 where
  pub follows : Follows upper lower
  pub bottom : is_middle upper.kind ≡ is_bottom lower.kind

-- The nets differ and are below this number.
pub record AreGates (nets : ℕ) (gated : List ℕ) : Type 0 where
  pub below : All (λ i. i < nets) gated
  pub distinct : AllPairs (λ i j. i ≢ j) gated

-- These are the nets of the metal of rows: of nets with columns, and, from their number on, of nets of rows of their own. The rows lead
-- on to one another, and nothing leads out to the north and the south but the poly of nets, which begin and end in no row between. Loads
-- are at the supply, and what goes on to the east does so from a free column.
pub record AreMatrixNets (matrix : Matrix) (nets : ℕ → ℕ) (count vdd : ℕ) : Type 0 where
  pub columns : AreWires matrix.at matrix.cols
  pub some_row : 1 ≤ length matrix.rows
  pub some_wire : 1 ≤ length matrix.at
  pub wires_fit : length matrix.at ≤ count
  pub north : IsAbove blank_row (row_at matrix 0)
  pub south : (r : ℕ) → r < length matrix.rows → IsAbove (row_at matrix r) (row_at matrix (r + 1))
  pub begun : (r : ℕ) → r + 1 < length matrix.rows → is_start (row_at matrix (r + 1)).kind ≡ false
  pub ended : (r : ℕ) → r + 1 < length matrix.rows → is_stop (row_at matrix r).kind ≡ false
  pub metal : (r : ℕ) → r < length matrix.rows → has_metal (row_at matrix r).kind ≡ true
      → IsWireMetal (length matrix.at) (row_at matrix r) (nets r) ⊎ IsOpenMetal (length matrix.at) count (row_at matrix r) (nets r)
  pub opener : ℕ → ℕ
  pub opened : (net : ℕ) → length matrix.at ≤ net → net < count
      → (opener net < length matrix.rows) × (has_metal (row_at matrix (opener net)).kind ≡ true) × (nets (opener net) ≡ net)
  pub opens : (r : ℕ) → r < length matrix.rows → has_metal (row_at matrix r).kind ≡ true → length matrix.at ≤ nets r → opener (nets r) ≡ r
  pub supply : (r : ℕ) → r < length matrix.rows → (row_at matrix r).kind ≡ Vdd → nets r ≡ vdd
  pub gates : (r : ℕ) → r < length matrix.rows → (row_at matrix r).kind ≡ Middle → AreGates (length matrix.at) (row_at matrix r).gated
  pub east : (r : ℕ) → r < length matrix.rows → has_metal (row_at matrix r).kind ≡ true → (row_at matrix r).onward ≡ true
      → column_of matrix.at (matrix.cols - 1) ≡ Free

-- Such a matrix is a module.
abbrev pub MatricesAreModules : Type 0
MatricesAreModules = (matrix : Matrix) (nets : ℕ → ℕ) (count vdd : ℕ) → AreMatrixNets matrix nets count vdd
    → IsModule (matrix_plan matrix) count (matrix_name nets matrix.at) vdd (matrix_devices matrix nets) (matrix_border matrix nets)

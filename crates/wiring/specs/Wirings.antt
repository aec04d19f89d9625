-- Plans of wires: poly of nets in columns, metal of nets in rows, and contacts where metal ends.
use Rattle.std.specs.Prelude.{ℕ, ◌+◌, Bool, true, false, ◌&&◌, ◌||◌, ◌==◌, nat_lt, nat_le, Option, Some, None, List, find, if◌then◌else◌}
use Rattle.std.specs.List.{list_any}
use Rattle.std.specs.Option.{option_map, option_map_or}
use Rattle.geom.specs.declared.layer.Layer.TheVariants as layers
use Rattle.micro_tiles.specs.declared.basic.Basic.{Basic}
use Rattle.micro_tiles.specs.declared.basic.Basic.TheVariants as tiles
use Rattle.micro_tiles.specs.Basics.{number_named}
use Rattle.micro_tiles.specs.declared.side.Side.TheVariants.{North, East, South, West}
use Rattle.stick_grid.specs.Plans.{Plan}
use Rattle.stick_grid.specs.Modules.{Border}

-- Poly of a net in a column, which crosses the borders of rows from the first to the last. Border r is the north side of row r.
pub record Span : Type 0 where
  pub first : ℕ
  pub last : ℕ
  pub net : ℕ

-- Metal of a net in a row, from one column east to another, in each of which it meets poly of its net. Without a column it leads out
-- of the plan on that side.
pub record Run : Type 0 where
  pub from : Option ℕ
  pub to : Option ℕ
  pub net : ℕ

-- rows and columns, the spans of each column from the north, and the run of each row, if it has one
pub record Wiring : Type 0 where
  pub rows : ℕ
  pub cols : ℕ
  pub spans : ℕ → List Span
  pub run : ℕ → Option Run

-- the span crosses the north border of a row
abbrev pub crosses : ℕ → Span → Bool
crosses border s = nat_le s.first border && nat_le border s.last

abbrev pub has_poly : Wiring → ℕ → ℕ → Bool
has_poly w border col = list_any (crosses border) (w.spans col)

-- a run that begins, or ends, in this column or outside the plan crosses the west border of a column
abbrev pub begins_before : Option ℕ → ℕ → Bool
begins_before None border = true
begins_before (Some col) border = nat_lt col border

abbrev pub ends_behind : Option ℕ → ℕ → Bool
ends_behind None border = true
ends_behind (Some col) border = nat_le border col

abbrev pub has_metal : Wiring → ℕ → ℕ → Bool
has_metal w row border = option_map_or (λ run. begins_before run.from border && ends_behind run.to border) (w.run row) false

-- the run ends in the column
abbrev pub is_end : ℕ → Option ℕ → Bool
is_end col None = false
is_end col (Some end) = end == col

abbrev pub has_contact : Wiring → ℕ → ℕ → Bool
has_contact w row col = option_map_or (λ run. is_end col run.from || is_end col run.to) (w.run row) false

-- the tile with poly at its north and south side, metal at its west and east side, and a contact, or without them
abbrev pub wire_tile : Bool → Bool → Bool → Bool → Bool → Basic
wire_tile true true false false false = tiles.PolyNorthSouth
wire_tile true false false false false = tiles.PolyNorth
wire_tile false true false false false = tiles.PolySouth
wire_tile false false true true false = tiles.MetalEastWest
wire_tile true true true true false = tiles.Crossing
wire_tile true true false true true = tiles.EastToPolyNorthSouth
wire_tile true false false true true = tiles.EastToPolyNorth
wire_tile false true false true true = tiles.EastToPolySouth
wire_tile true true true false true = tiles.WestToPolyNorthSouth
wire_tile true false true false true = tiles.WestToPolyNorth
wire_tile false true true false true = tiles.WestToPolySouth
wire_tile _ _ _ _ _ = tiles.Empty

abbrev pub wiring_basic : Wiring → ℕ → ℕ → Basic
wiring_basic w row col =
    wire_tile (has_poly w row col) (has_poly w (row + 1) col) (has_metal w row col) (has_metal w row (col + 1)) (has_contact w row col)

abbrev pub wiring_tile : Wiring → ℕ → ℕ → ℕ
wiring_tile w row col = number_named (wiring_basic w row col)

abbrev pub wiring_plan : Wiring → Plan
wiring_plan w = record { rows = w.rows; cols = w.cols; tile = wiring_tile w }

-- the net of the poly that crosses a border of a column, and of the metal that crosses a border in a row
abbrev pub poly_net : Wiring → ℕ → ℕ → Option ℕ
poly_net w border col = option_map (λ s. s.net) (find (crosses border) (w.spans col))

abbrev pub metal_net : Wiring → ℕ → ℕ → Option ℕ
metal_net w row border = if has_metal w row border then option_map (λ run. run.net) (w.run row) else None

-- the nets that lead out
abbrev pub wiring_border : Wiring → Border
wiring_border w North col layers.Poly = poly_net w 0 col
wiring_border w South col layers.Poly = poly_net w w.rows col
wiring_border w West row layers.Metal = metal_net w row 0
wiring_border w East row layers.Metal = metal_net w row w.cols
wiring_border w _ _ _ = None

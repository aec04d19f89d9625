-- Modules without devices: empty plans, and rows of poly.
use Rattle.std.specs.Prelude.{◌≡◌, ℕ, ◌<◌, ◌≤◌, Bool, true, false, ◌||◌, if◌then◌else◌, [], Some, None}
use Rattle.geom.specs.declared.layer.Layer.TheVariants as layers
use Rattle.micro_tiles.specs.declared.basic.Basic.{Basic}
use Rattle.micro_tiles.specs.declared.basic.Basic.TheVariants as tiles
use Rattle.micro_tiles.specs.Basics.{number_named}
use Rattle.micro_tiles.specs.declared.side.Side.TheVariants.{North, South}
use Rattle.stick_grid.specs.Plans.{Plan}
use Rattle.stick_grid.specs.Pieces.{Piece}
use Rattle.stick_grid.specs.Modules.{Border, IsModule}

-- Nothing leads out.
abbrev pub no_border : Border
no_border side place layer = None

-- A plan of empty tiles is a module without nets.
abbrev pub EmptyPlansAreModules : Type 0
EmptyPlansAreModules = (plan : Plan) (name : Piece → ℕ) (vdd : ℕ) → 1 ≤ plan.rows → 1 ≤ plan.cols
    → ((row col : ℕ) → row < plan.rows → col < plan.cols → plan.tile row col ≡ number_named tiles.Empty) → IsModule plan 0 name vdd [] no_border

-- poly that leads to the north, or to the south
abbrev pub poly_tile : Bool → Bool → Basic
poly_tile true true = tiles.PolyNorthSouth
poly_tile true false = tiles.PolyNorth
poly_tile false true = tiles.PolySouth
poly_tile false false = tiles.Empty

-- One row, whose columns have poly that leads to the north, to the south, to both or none; each with poly is a net of its own.
pub record IsPolyRow (plan : Plan) (count : ℕ) (north south : ℕ → Bool) (net : ℕ → ℕ) : Type 0 where
  pub one_row : plan.rows ≡ 1
  pub some_col : 1 ≤ plan.cols
  pub tile : (col : ℕ) → col < plan.cols → plan.tile 0 col ≡ number_named (poly_tile (north col) (south col))
  pub below : (col : ℕ) → col < plan.cols → (north col || south col) ≡ true → net col < count
  pub column : ℕ → ℕ
  pub inside : (n : ℕ) → n < count → column n < plan.cols
  pub has_poly : (n : ℕ) → n < count → (north (column n) || south (column n)) ≡ true
  pub bears : (n : ℕ) → n < count → net (column n) ≡ n
  pub alone : (col : ℕ) → col < plan.cols → (north col || south col) ≡ true → column (net col) ≡ col

-- the nets that lead out
abbrev pub poly_border : (ℕ → Bool) → (ℕ → Bool) → (ℕ → ℕ) → Border
poly_border north south net North col layers.Poly = if north col then Some (net col) else None
poly_border north south net South col layers.Poly = if south col then Some (net col) else None
poly_border north south net _ _ _ = None

abbrev pub PolyRowsAreModules : Type 0
PolyRowsAreModules = (plan : Plan) (count vdd : ℕ) (north south : ℕ → Bool) (net : ℕ → ℕ) → IsPolyRow plan count north south net
    → IsModule plan count (λ p. net p.col) vdd [] (poly_border north south net)

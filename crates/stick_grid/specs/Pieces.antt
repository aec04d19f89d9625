-- The nets of tiles in a plan, and how neighbouring tiles join them.
use Rattle.std.specs.Prelude.{◌≡◌, ◌↔◌, ℕ, ◌+◌, ◌<◌}
use Rattle.geom.specs.declared.layer.Layer.{Layer}
use Rattle.geom.specs.Squares.{Covered}
use Rattle.geom.specs.Conduction.{Spot, Conducts, Joined}
use Rattle.micro_tiles.specs.declared.side.Side.TheVariants.{North, East, South, West}
use Rattle.micro_tiles.specs.Sides.{Carries}
use Rattle.micro_tiles.specs.Designs.{side_net}
use Rattle.micro_tiles.specs.Nets.{square_net}
use Rattle.micro_tiles.specs.Table.{boxes, design_of, port_at}
use Rattle.stick_grid.specs.Plans.{Plan, IsPlan, Covers, local_x, local_y}

-- a net of the tile in a row and column, by its number among the tile's nets
pub record Piece : Type 0 where
  pub row : ℕ
  pub col : ℕ
  pub net : ℕ

-- The spot lies in the tile, conducts there, and is of the net.
pub record IsIn (plan : Plan) (spot : Spot) (piece : Piece) : Type 0 where
  pub is_row : piece.row < plan.rows
  pub is_col : piece.col < plan.cols
  pub conducts : Conducts (Covered (boxes (plan.tile piece.row piece.col))) spot.layer (local_x piece.col spot.x) (local_y plan piece.row spot.y)
  pub net : piece.net ≡ square_net (plan.tile piece.row piece.col) spot.layer (local_x piece.col spot.x) (local_y plan piece.row spot.y)

-- The first tile's east side and the second tile's west side carry a layer, on these nets of theirs.
pub record MeetsAtEast (plan : Plan) (a b : Piece) : Type 0 where
  pub layer : Layer
  pub row : b.row ≡ a.row
  pub col : b.col ≡ a.col + 1
  pub is_row : a.row < plan.rows
  pub is_col : b.col < plan.cols
  pub carried : Carries (port_at (plan.tile a.row a.col) East) layer
  pub first : a.net ≡ side_net (design_of (plan.tile a.row a.col)) East layer
  pub second : b.net ≡ side_net (design_of (plan.tile b.row b.col)) West layer

-- The first tile's south side and the second tile's north side carry a layer, on these nets of theirs.
pub record MeetsAtSouth (plan : Plan) (a b : Piece) : Type 0 where
  pub layer : Layer
  pub row : b.row ≡ a.row + 1
  pub col : b.col ≡ a.col
  pub is_row : b.row < plan.rows
  pub is_col : a.col < plan.cols
  pub carried : Carries (port_at (plan.tile a.row a.col) South) layer
  pub first : a.net ≡ side_net (design_of (plan.tile a.row a.col)) South layer
  pub second : b.net ≡ side_net (design_of (plan.tile b.row b.col)) North layer

-- Neighbouring tiles join their nets at a common side, one after another, from the first net to the second.
pub data Connected (plan : Plan) : Piece → Piece → Type 0 where
  same : (a : Piece) → Connected plan a a
  east : (a b c : Piece) → MeetsAtEast plan a b → Connected plan b c → Connected plan a c
  west : (a b c : Piece) → MeetsAtEast plan b a → Connected plan b c → Connected plan a c
  south : (a b c : Piece) → MeetsAtSouth plan a b → Connected plan b c → Connected plan a c
  north : (a b c : Piece) → MeetsAtSouth plan b a → Connected plan b c → Connected plan a c

-- Two squares of a plan are of one net exactly where the nets of their tiles are joined at sides.
abbrev pub SquaresAreNets : Type 0
SquaresAreNets = (plan : Plan) (a b : Spot) (p q : Piece) → IsPlan plan → IsIn plan a p → IsIn plan b q → Joined (Covers plan) a b ↔ Connected plan p q

-- Every conducting square of a plan is of a net of one tile, and what conducts in a tile conducts in the plan.
pub record HasPieces (plan : Plan) : Type 0 where
  pub some : (spot : Spot) → Conducts (Covers plan) spot.layer spot.x spot.y → (piece : Piece) × IsIn plan spot piece
  pub one : (spot : Spot) (p q : Piece) → IsIn plan spot p → IsIn plan spot q → p ≡ q
  pub conducts : (spot : Spot) (piece : Piece) → IsIn plan spot piece → Conducts (Covers plan) spot.layer spot.x spot.y

abbrev pub PlansHavePieces : Type 0
PlansHavePieces = (plan : Plan) → IsPlan plan → HasPieces plan

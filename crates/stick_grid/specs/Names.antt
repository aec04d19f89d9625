-- The nets of the tiles of a plan, and names for the nets that they make together.
use Rattle.std.specs.Prelude.{◌≡◌, ◌↔◌, ℕ, ◌<◌}
use Rattle.geom.specs.declared.layer.Layer.{Layer}
use Rattle.geom.specs.Conduction.{Spot}
use Rattle.micro_tiles.specs.declared.side.Side.{Side}
use Rattle.micro_tiles.specs.Sides.{Carries}
use Rattle.micro_tiles.specs.Designs.{side_net}
use Rattle.micro_tiles.specs.Table.{design_of, port_at}
use Rattle.stick_grid.specs.Plans.{Plan, IsPlan}
use Rattle.stick_grid.specs.Pieces.{Piece, IsIn, MeetsAtEast, MeetsAtSouth, Connected}

-- The tile in this place has the net: one of its sides carries a layer on it.
pub record IsPiece (plan : Plan) (p : Piece) : Type 0 where
  pub is_row : p.row < plan.rows
  pub is_col : p.col < plan.cols
  pub side : Side
  pub layer : Layer
  pub carried : Carries (port_at (plan.tile p.row p.col) side) layer
  pub number : p.net ≡ side_net (design_of (plan.tile p.row p.col)) side layer

-- The nets of a plan's tiles are those that have squares.
abbrev pub PiecesHaveSquares : Type 0
PiecesHaveSquares = (plan : Plan) (p : Piece) → IsPlan plan → IsPiece plan p ↔ ((spot : Spot) × IsIn plan spot p)

-- Paths of meeting nets go on and lead back.
pub record PathsJoin (plan : Plan) : Type 0 where
  pub on : (a b c : Piece) → Connected plan a b → Connected plan b c → Connected plan a c
  pub back : (a b : Piece) → Connected plan a b → Connected plan b a

abbrev pub PlansHavePaths : Type 0
PlansHavePaths = (plan : Plan) → PathsJoin plan

-- Nets that meet have one name, the names are the numbers below the count, and each net is joined with one, the home, of its
-- name.
pub record AreNames (plan : Plan) (count : ℕ) (name : Piece → ℕ) : Type 0 where
  pub below : (p : Piece) → IsPiece plan p → name p < count
  pub eastward : (a b : Piece) → MeetsAtEast plan a b → name a ≡ name b
  pub southward : (a b : Piece) → MeetsAtSouth plan a b → name a ≡ name b
  pub home : ℕ → Piece
  pub exists : (n : ℕ) → n < count → IsPiece plan (home n)
  pub bears : (n : ℕ) → n < count → name (home n) ≡ n
  pub leads : (p : Piece) → IsPiece plan p → Connected plan p (home (name p))

-- Two nets of tiles have one name exactly where neighbouring tiles join them, one after another.
abbrev pub NamesAreNets : Type 0
NamesAreNets = (plan : Plan) (count : ℕ) (name : Piece → ℕ) (p q : Piece) → AreNames plan count name → IsPiece plan p → IsPiece plan q
    → (name p ≡ name q) ↔ Connected plan p q

-- Parts of plans, and plans with the same tiles.
use Rattle.std.specs.Prelude.{◌≡◌, ◌↔◌, ℕ, ◌+◌, ◌^◌, ◌<◌, ◌≤◌, ℤ, map, flat_map}
use Rattle.std.specs.List.{range_with_len}
use Rattle.geom.specs.declared.layer.Layer.{Layer}
use Rattle.stick_grid.specs.Tilings.{Tiling, IsTiling}
use Rattle.stick_grid.specs.Plans.{Plan, IsPlan, Covers, plan_of}
use Rattle.stick_grid.specs.Pieces.{Piece, MeetsAtEast, MeetsAtSouth, Connected}
use Rattle.stick_grid.specs.Names.{IsPiece, AreNames}
use Rattle.stick_grid.specs.Devices.{transistors_of}

-- The first plan is a part of the second; its north-west corner lies in this row and column.
pub record IsWindow (part whole : Plan) (row col : ℕ) : Type 0 where
  pub rows : row + part.rows ≤ whole.rows
  pub cols : col + part.cols ≤ whole.cols
  pub tiles : (r c : ℕ) → r < part.rows → c < part.cols → part.tile r c ≡ whole.tile (row + r) (col + c)

-- the net of a tile of the part, in the whole
abbrev pub moved_piece : ℕ → ℕ → Piece → Piece
moved_piece row col p = record { row = row + p.row; col = col + p.col; net = p.net }

-- A part of a plan is a plan, and has the nets of its tiles; what meets and what is joined in it meets and is joined in the whole.
pub record KeepsPlan (part whole : Plan) (row col : ℕ) : Type 0 where
  pub plan : IsPlan part
  pub piece : (p : Piece) → IsPiece part p → IsPiece whole (moved_piece row col p)
  pub piece_back : (p : Piece) → p.row < part.rows → p.col < part.cols → IsPiece whole (moved_piece row col p) → IsPiece part p
  pub eastward : (a b : Piece) → MeetsAtEast part a b → MeetsAtEast whole (moved_piece row col a) (moved_piece row col b)
  pub southward : (a b : Piece) → MeetsAtSouth part a b → MeetsAtSouth whole (moved_piece row col a) (moved_piece row col b)
  pub joined : (a b : Piece) → Connected part a b → Connected whole (moved_piece row col a) (moved_piece row col b)

abbrev pub WindowsKeepPlans : Type 0
WindowsKeepPlans = (part whole : Plan) (row col : ℕ) → IsPlan whole → IsWindow part whole row col → KeepsPlan part whole row col

-- The two plans have the same tiles, whatever they tell beyond their last row and column.
pub record HaveSameTiles (one other : Plan) : Type 0 where
  pub rows : one.rows ≡ other.rows
  pub cols : one.cols ≡ other.cols
  pub tiles : (row col : ℕ) → row < one.rows → col < one.cols → one.tile row col ≡ other.tile row col

-- All is the same in them: whether they are plans, their squares, their transistors and the names of their nets.
pub record AgreeInAll (one other : Plan) : Type 0 where
  pub plan : IsPlan one → IsPlan other
  pub squares : (layer : Layer) (x y : ℤ) → Covers one layer x y ↔ Covers other layer x y
  pub transistors : transistors_of one ≡ transistors_of other
  pub names : (count : ℕ) (name : Piece → ℕ) → AreNames one count name → AreNames other count name

abbrev pub SameTilesAgree : Type 0
SameTilesAgree = (one other : Plan) → HaveSameTiles one other → AgreeInAll one other

-- the tiling with the tiles of the plan
abbrev pub tiling_of : Plan → Tiling
tiling_of plan = record { rows = plan.rows; cols = plan.cols; tiles = flat_map (λ row. map (plan.tile row) (range_with_len 0 plan.cols)) (range_with_len 0 plan.rows) }

-- A plan of at most 2^20 rows and columns, and of one at least, is the plan of its tiling.
abbrev pub PlansAreTilings : Type 0
PlansAreTilings = (plan : Plan) → IsPlan plan → 1 ≤ plan.rows → plan.rows ≤ 2 ^ 20 → 1 ≤ plan.cols → plan.cols ≤ 2 ^ 20
    → IsTiling (tiling_of plan) × HaveSameTiles plan (plan_of (tiling_of plan))

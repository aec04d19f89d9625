-- The squares of a plan lie in its rows and columns of tiles.
use Rattle.std.proofs.Common.{ℕ, ◌*◌, ℤ, pos, ◌≤ℤ◌, ◌<ℤ◌, arith}
use Rattle.std.proofs.lemmas.Int.{ints}
use Rattle.geom.specs.declared.layer.Layer.{Layer}
use Rattle.geom.specs.Conduction.{Drawing}
use Rattle.micro_tiles.specs.Shapes.{TilesKeepInside}
use Rattle.stick_grid.specs.Plans.{Plan, IsPlan, Covers}

-- the squares lie in so many columns and rows of tiles
pub record LiesInTiles (Drawn : Drawing) (cols rows : ℕ) : Type 0 where
  pub left : (layer : Layer) (x y : ℤ) → Drawn layer x y → pos 0 ≤ℤ x
  pub right : (layer : Layer) (x y : ℤ) → Drawn layer x y → x <ℤ pos (14 * cols)
  pub bottom : (layer : Layer) (x y : ℤ) → Drawn layer x y → pos 0 ≤ℤ y
  pub top : (layer : Layer) (x y : ℤ) → Drawn layer x y → y <ℤ pos (14 * rows)

module _ (inside : TilesKeepInside) (plan : Plan) (is : IsPlan plan) where
  pub plan_lies : LiesInTiles (Covers plan) plan.cols plan.rows
  plan_lies = record {
    left = λ layer x y h. let at = (inside (plan.tile h.row h.col) (is.known h.row h.col h.is_row h.is_col)).all layer _ _ h.covered in
        let edge = at.left in omega (arith, ints, edge);
    right = λ layer x y h. let at = (inside (plan.tile h.row h.col) (is.known h.row h.col h.is_row h.is_col)).all layer _ _ h.covered in
        let edge = at.right in let below = h.is_col in omega (arith, ints, edge, below);
    bottom = λ layer x y h. let at = (inside (plan.tile h.row h.col) (is.known h.row h.col h.is_row h.is_col)).all layer _ _ h.covered in
        let edge = at.bottom in omega (arith, ints, edge);
    top = λ layer x y h. let at = (inside (plan.tile h.row h.col) (is.known h.row h.col h.is_row h.is_col)).all layer _ _ h.covered in
        let edge = at.top in let below = h.is_row in omega (arith, ints, edge, below);
  }

-- Classes that are rectangles.
use Rattle.std.proofs.Common.{◌≡◌, ◌↔◌, ℤ, inl, inr, arith}
use Rattle.std.proofs.lemmas.Int.{ints}
use Rattle.geom.specs.Squares.{BoxShape, Inside}
use Rattle.geom.specs.Rows.{Squares}
use Rattle.geom.specs.Conduction.{Leads}
use Rattle.nmos_model.specs.Channels.{IsByRow}
use Rattle.lambda_rules.specs.Classes.{InClass, IsClass, IsRound}

at_corner : (r : BoxShape) (x y : ℤ) → Inside r x y → IsByRow x y r.x1 r.y1 → (x ≡ r.x1) × (y ≡ r.y1)
at_corner r x y i (inl below) = let b = i.bottom in absurd (omega (arith, ints))
at_corner r x y i (inr level) = let e = level.0 in let l = level.1 in let b = i.left in (omega (arith, ints), e)

-- The class of the square is the whole rectangle.
module _ (S : Squares) (r : BoxShape) (x y : ℤ) (inside : Inside r x y) (class : (u v : ℤ) → Leads S x y u v ↔ Inside r u v) where
  corner_in : Inside r r.x1 r.y1
  corner_in =
      let right = inside.right in
      let top = inside.top in
      let left = inside.left in
      let bottom = inside.bottom in
      record { left = omega (arith, ints); right = omega (arith, ints); bottom = omega (arith, ints); top = omega (arith, ints) }

  -- The first square of the class is the rectangle's lower left corner,
  pub first_at : IsClass S x y → (x ≡ r.x1) × (y ≡ r.y1)
  first_at is = at_corner r x y inside (is.first r.x1 r.y1 (record { inside = is.holds.inside; leads = (class r.x1 r.y1).1 corner_in }))

  -- and the rectangle is the least one round the class.
  pub round_of : S x y → IsRound (InClass S x y) r
  round_of member = record {
    holds = λ u v c. (class u v).0 c.leads;
    least = λ other all u v i. all u v (record { inside = member; leads = (class u v).1 i });
  }

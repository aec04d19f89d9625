-- Boxes over a square.
use Rattle.std.proofs.Common.{ℤ, List, [], ◌∷◌, ◌++◌, ◌⊎◌, inl, inr, refl, sym, subst}
use Rattle.geom.specs.Squares.{BoxShape, Inside}
use Rattle.geom.specs.Rows.{Among, Over}

pub over_left : (m n : List BoxShape) (x y : ℤ) → Over m x y → Over (m ++ n) x y
over_left [] n x y h = absurd h
over_left (c ∷ cs) n x y (inl h) = inl h
over_left (c ∷ cs) n x y (inr h) = inr (over_left cs n x y h)

pub over_right : (m n : List BoxShape) (x y : ℤ) → Over n x y → Over (m ++ n) x y
over_right [] n x y h = h
over_right (c ∷ cs) n x y h = inr (over_right cs n x y h)

pub over_cases : (m n : List BoxShape) (x y : ℤ) → Over (m ++ n) x y → Over m x y ⊎ Over n x y
over_cases [] n x y h = inr h
over_cases (c ∷ cs) n x y (inl h) = inl (inl h)
over_cases (c ∷ cs) n x y (inr h) = elim (over_cases cs n x y h) [ inl k ↦ inl (inr k) | inr k ↦ inr k ]

-- a box over a square
pub record OverBy (bs : List BoxShape) (x y : ℤ) : Type 0 where
  pub box : BoxShape
  pub among : Among bs box
  pub inside : Inside box x y

pub over_by : (bs : List BoxShape) (x y : ℤ) → Over bs x y → OverBy bs x y
over_by [] x y h = absurd h
over_by (b ∷ bs) x y (inl h) = record { box = b; among = inl refl; inside = h }
over_by (b ∷ bs) x y (inr h) = let c : OverBy bs x y = over_by bs x y h in record { box = c.box; among = inr c.among; inside = c.inside }

pub over_of : (bs : List BoxShape) (b : BoxShape) (x y : ℤ) → Among bs b → Inside b x y → Over bs x y
over_of [] b x y h i = absurd h
over_of (c ∷ cs) b x y (inl e) i = let P : BoxShape → Type 0 = λ v. Inside v x y in inl (subst P (sym e) i)
over_of (c ∷ cs) b x y (inr h) i = inr (over_of cs b x y h i)

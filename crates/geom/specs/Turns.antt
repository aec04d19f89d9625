-- The eight axis transforms, on points and on unit squares.
use Rattle.std.specs.Prelude.{◌≡◌, ◌^◌, Bool, ℤ, pos, neg_ℤ, ◌+ℤ◌, ◌≤ℤ◌, if◌then◌else◌}
use Rattle.std.specs.Int.{int_min, int_max}
use Rattle.geom.specs.declared.orient.Orient.{Orient}
use Rattle.geom.specs.Squares.{BoxShape, Inside}

-- a coordinate of a corner of a box
pub record IsReachable (v : ℤ) : Type 0 where
  pub from : neg_ℤ (pos (2 ^ 40)) ≤ℤ v
  pub to : v ≤ℤ pos (2 ^ 40)

-- a coordinate of a move
pub record IsMove (v : ℤ) : Type 0 where
  pub from : neg_ℤ (pos (2 ^ 41)) ≤ℤ v
  pub to : v ≤ℤ pos (2 ^ 41)

-- a coordinate, negated where the flag is set
abbrev pub flipped : Bool → ℤ → ℤ
flipped negated v = if negated then neg_ℤ v else v

-- where the point (x, y) comes to: the coordinates are exchanged first, then negated
abbrev pub turned_x : Orient → ℤ → ℤ → ℤ
turned_x o x y = flipped o.neg_x (if o.swap then y else x)

abbrev pub turned_y : Orient → ℤ → ℤ → ℤ
turned_y o x y = flipped o.neg_y (if o.swap then x else y)

-- The box between the images of two opposite corners, moved by (dx, dy).
abbrev pub moved : BoxShape → Orient → ℤ → ℤ → BoxShape
moved b o dx dy = record {
  layer = b.layer;
  x1 = int_min (turned_x o b.x1 b.y1) (turned_x o b.x2 b.y2) +ℤ dx;
  y1 = int_min (turned_y o b.x1 b.y1) (turned_y o b.x2 b.y2) +ℤ dy;
  x2 = int_max (turned_x o b.x1 b.y1) (turned_x o b.x2 b.y2) +ℤ dx;
  y2 = int_max (turned_y o b.x1 b.y1) (turned_y o b.x2 b.y2) +ℤ dy;
}

-- The square (x, y) comes to the square (u, v): the lower left of the images of two opposite corners, moved by (dx, dy).
pub record ComesTo (o : Orient) (dx dy x y u v : ℤ) : Type 0 where
  pub across : u ≡ int_min (turned_x o x y) (turned_x o (x +ℤ pos 1) (y +ℤ pos 1)) +ℤ dx
  pub upward : v ≡ int_min (turned_y o x y) (turned_y o (x +ℤ pos 1) (y +ℤ pos 1)) +ℤ dy

-- The square (u, v) is the image of a square of the box.
pub record ImageOf (b : BoxShape) (o : Orient) (dx dy u v : ℤ) : Type 0 where
  pub x : ℤ
  pub y : ℤ
  pub inside : Inside b x y
  pub image : ComesTo o dx dy x y u v

-- The edges of a segment of a wire, in one direction.
use Rattle.std.specs.Prelude.{◌≡◌, ℤ, pos, ◌+ℤ◌, ◌-ℤ◌, ◌*ℤ◌, ◌≤ℤ◌}
use Rattle.std.specs.Int.{int_min, int_max}
use Rattle.cif_shapes.specs.Wires.{AreAlike, IsTwiceReachable}

-- Two coordinates in half λ, whose squares of this width have edges in λ within reach of the origin.
pub record IsSpan (one other width : ℤ) : Type 0 where
  pub wide : pos 1 ≤ℤ width
  pub first : AreAlike one width
  pub second : AreAlike other width
  pub from : IsTwiceReachable (int_min one other -ℤ width)
  pub to : IsTwiceReachable (int_max one other +ℤ width)

-- The edges round these squares.
pub record AreEdges (one other width lower upper : ℤ) : Type 0 where
  pub low : pos 2 *ℤ lower ≡ int_min one other -ℤ width
  pub high : pos 2 *ℤ upper ≡ int_max one other +ℤ width

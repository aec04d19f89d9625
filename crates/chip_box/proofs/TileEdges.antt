-- The edges of tiles before and behind a number.
use Rattle.std.proofs.Common.{◌≡◌, ◌+◌, ◌/◌, ℤ, pos, negsuc, neg_ℤ, ◌-ℤ◌, arith}
use Rattle.std.specs.Int.{int_rem_euclid}
use Rattle.std.proofs.lemmas.Int.{ints}
use Rattle.chip_box.specs.Extents.{IsEdgeBefore, IsEdgeBehind}

pub rem_edge : (v r : ℤ) → r ≡ int_rem_euclid v (pos 14) → IsEdgeBefore v (v -ℤ r)
rem_edge (pos a) r e = record {
  tiles = record { tiles = pos (a / 14); edge = omega (arith, ints, e) };
  low = omega (arith, ints, e);
  high = omega (arith, ints, e);
}
rem_edge (negsuc a) r e = record {
  tiles = record { tiles = neg_ℤ (pos (a / 14 + 1)); edge = omega (arith, ints, e) };
  low = omega (arith, ints, e);
  high = omega (arith, ints, e);
}

pub turned_edge : (v edge : ℤ) → IsEdgeBefore (pos 0 -ℤ v) edge → IsEdgeBehind v (pos 0 -ℤ edge)
turned_edge v edge h =
    let is = h.tiles.edge in
    let low = h.low in
    let high = h.high in
    record {
      tiles = record { tiles = neg_ℤ h.tiles.tiles; edge = omega (arith, ints, is) };
      low = omega (arith, ints, high);
      high = omega (arith, ints, low);
    }

-- Points that are near.
use Rattle.std.proofs.Common.{◌≡◌, ℕ, ◌+◌, ◌*◌, ◌^◌, ◌≤◌, ◌+ℤ◌, arith}
use Rattle.std.specs.Int.{int_min, int_max}
use Rattle.std.proofs.lemmas.Int.{ints, clamps}
use Rattle.cif_drawing.specs.declared.wide_point.WidePoint.{WidePoint}
use Rattle.cif_drawing.specs.declared.measure.Extent.{Extent}
use Rattle.cif_drawing.specs.Placements.{IsNear}
use Rattle.cif_drawing.specs.Measures.{RoundBoth, IsNearExtent}

-- the least and the greatest of near points
pub near_min : (n : ℕ) (p q r : WidePoint) → r.x ≡ int_min p.x q.x → r.y ≡ int_min p.y q.y → IsNear n p → IsNear n q → IsNear n r
near_min n p q r x y h k = record {
  left = omega (arith, ints, clamps, h.left, k.left);
  right = omega (arith, ints, clamps, h.right, k.right);
  bottom = omega (arith, ints, clamps, h.bottom, k.bottom);
  top = omega (arith, ints, clamps, h.top, k.top);
}

pub near_max : (n : ℕ) (p q r : WidePoint) → r.x ≡ int_max p.x q.x → r.y ≡ int_max p.y q.y → IsNear n p → IsNear n q → IsNear n r
near_max n p q r x y h k = record {
  left = omega (arith, ints, clamps, h.left, k.left);
  right = omega (arith, ints, clamps, h.right, k.right);
  bottom = omega (arith, ints, clamps, h.bottom, k.bottom);
  top = omega (arith, ints, clamps, h.top, k.top);
}

pub near_plus : (m n : ℕ) (p q r : WidePoint) → r.x ≡ p.x +ℤ q.x → r.y ≡ p.y +ℤ q.y → IsNear m p → IsNear n q → IsNear (m + n) r
near_plus m n p q r x y h k = record {
  left = omega (arith, ints, h.left, k.left);
  right = omega (arith, ints, h.right, k.right);
  bottom = omega (arith, ints, h.bottom, k.bottom);
  top = omega (arith, ints, h.top, k.top);
}

pub near_both : (n : ℕ) (e f r : Extent) → RoundBoth e f r → IsNearExtent n e → IsNearExtent n f → IsNearExtent n r
near_both n e f r h a b = record {
  low = near_min ((n + 1) * 2 ^ 103) e.low f.low r.low h.left h.bottom a.low b.low;
  high = near_max ((n + 1) * 2 ^ 103) e.high f.high r.high h.right h.top a.high b.high;
}

pub near_more : (m n : ℕ) (p : WidePoint) → m ≤ n → IsNear m p → IsNear n p
near_more m n p h k = record {
  left = omega (arith, ints, k.left);
  right = omega (arith, ints, k.right);
  bottom = omega (arith, ints, k.bottom);
  top = omega (arith, ints, k.top);
}

pub near_extent_more : (m n : ℕ) (e : Extent) → m ≤ n → IsNearExtent m e → IsNearExtent n e
near_extent_more m n e h k = record {
  low = near_more ((m + 1) * 2 ^ 103) ((n + 1) * 2 ^ 103) e.low (omega arith) k.low;
  high = near_more ((m + 1) * 2 ^ 103) ((n + 1) * 2 ^ 103) e.high (omega arith) k.high;
}

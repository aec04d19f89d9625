-- The squares of a turned and moved box are the images of its squares.
use Rattle.std.proofs.Common.{◌≡◌, ◌↔◌, ℤ, pos, ◌+ℤ◌, ◌-ℤ◌, ◌≤ℤ◌, ◌<ℤ◌, Bool, true, false, Option, Some, None, IfSome, arith}
use Rattle.std.specs.Int.{int_min, int_max}
use Rattle.std.proofs.lemmas.Int.{ints, clamps}
use Rattle.geom.specs.declared.orient.Orient.{Orient}
use Rattle.geom.specs.Squares.{BoxShape, Inside, IsBox}
use Rattle.geom.specs.Turns.{flipped, moved, ImageOf}

-- the coordinate of a square that comes to u
abbrev source : Bool → ℤ → ℤ → ℤ
source false by u = u -ℤ by
source true by u = by -ℤ u -ℤ pos 1

-- A coordinate of a square lies between two edges where its image lies between theirs.
pub record Along (negated : Bool) (by from to u : ℤ) : Type 0 where
  low : from ≤ℤ source negated by u
  high : source negated by u <ℤ to
  image : u ≡ int_min (flipped negated (source negated by u)) (flipped negated (source negated by u +ℤ pos 1)) +ℤ by

along : (negated : Bool) (by from to u : ℤ) → from <ℤ to
    → (int_min (flipped negated from) (flipped negated to) +ℤ by) ≤ℤ u
    → u <ℤ (int_max (flipped negated from) (flipped negated to) +ℤ by)
    → Along negated by from to u
along false by from to u order low high = record { low = omega (arith, ints, clamps); high = omega (arith, ints, clamps); image = omega (arith, ints, clamps) }
along true by from to u order low high = record { low = omega (arith, ints, clamps); high = omega (arith, ints, clamps); image = omega (arith, ints, clamps) }

record Between (negated : Bool) (by from to u : ℤ) : Type 0 where
  low : (int_min (flipped negated from) (flipped negated to) +ℤ by) ≤ℤ u
  high : u <ℤ (int_max (flipped negated from) (flipped negated to) +ℤ by)

between : (negated : Bool) (by from to x u : ℤ) → from ≤ℤ x → x <ℤ to
    → u ≡ int_min (flipped negated x) (flipped negated (x +ℤ pos 1)) +ℤ by
    → Between negated by from to u
between false by from to x u low high image = record { low = omega (arith, ints, clamps); high = omega (arith, ints, clamps) }
between true by from to x u low high image = record { low = omega (arith, ints, clamps); high = omega (arith, ints, clamps) }

squares : (swap neg_x neg_y : Bool) (b : BoxShape) (dx dy u v : ℤ) → IsBox b
    → let o : Orient = record { swap = swap; neg_x = neg_x; neg_y = neg_y } in
    Inside (moved b o dx dy) u v ↔ ImageOf b o dx dy u v
squares false neg_x neg_y b dx dy u v box = (
  λ h.
      let a : Along neg_x dx b.x1 b.x2 u = along neg_x dx b.x1 b.x2 u box.across.order h.left h.right in
      let p : Along neg_y dy b.y1 b.y2 v = along neg_y dy b.y1 b.y2 v box.upward.order h.bottom h.top in
      record {
        x = source neg_x dx u;
        y = source neg_y dy v;
        inside = record { left = a.low; right = a.high; bottom = p.low; top = p.high };
        image = record { across = a.image; upward = p.image };
      },
  λ i.
      let a : Between neg_x dx b.x1 b.x2 u = between neg_x dx b.x1 b.x2 i.x u i.inside.left i.inside.right i.image.across in
      let p : Between neg_y dy b.y1 b.y2 v = between neg_y dy b.y1 b.y2 i.y v i.inside.bottom i.inside.top i.image.upward in
      record { left = a.low; right = a.high; bottom = p.low; top = p.high },
)
squares true neg_x neg_y b dx dy u v box = (
  λ h.
      let a : Along neg_x dx b.y1 b.y2 u = along neg_x dx b.y1 b.y2 u box.upward.order h.left h.right in
      let p : Along neg_y dy b.x1 b.x2 v = along neg_y dy b.x1 b.x2 v box.across.order h.bottom h.top in
      record {
        x = source neg_y dy v;
        y = source neg_x dx u;
        inside = record { left = p.low; right = p.high; bottom = a.low; top = a.high };
        image = record { across = a.image; upward = p.image };
      },
  λ i.
      let a : Between neg_x dx b.y1 b.y2 u = between neg_x dx b.y1 b.y2 i.y u i.inside.bottom i.inside.top i.image.across in
      let p : Between neg_y dy b.x1 b.x2 v = between neg_y dy b.x1 b.x2 i.x v i.inside.left i.inside.right i.image.upward in
      record { left = a.low; right = a.high; bottom = p.low; top = p.high },
)

-- The box between the images of two corners covers exactly the images of the box's squares.
pub covers_images : (b : BoxShape) (o : Orient) (dx dy : ℤ) → IsBox b
    → (u v : ℤ) → Inside (moved b o dx dy) u v ↔ ImageOf b o dx dy u v
covers_images b o dx dy box u v = squares o.swap o.neg_x o.neg_y b dx dy u v box

-- A box that is made, if one is, and is the moved box covers exactly those images.
pub images_of_equal : (b : BoxShape) (o : Orient) (dx dy : ℤ) → IsBox b → (made : Option BoxShape)
    → IfSome made (λ m. m ≡ moved b o dx dy)
    → IfSome made (λ m. (u v : ℤ) → Inside m u v ↔ ImageOf b o dx dy u v)
images_of_equal b o dx dy box None h = h
images_of_equal b o dx dy box (Some m) h = rw h (covers_images b o dx dy box)

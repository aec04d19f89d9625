-- The boxes that the text of a chip draws cover the squares of the chip.
use Rattle.std.proofs.Common.{◌≡◌, ◌⊎◌, ◌↔◌, inl, inr, ℤ, ◌-ℤ◌, List, [], ◌∷◌, ◌++◌, map, flat_map, slice_get, Option, Some, None, refl, sym, subst, arith}
use Rattle.std.proofs.lemmas.Int.{ints}
use Rattle.geom.specs.declared.layer.Layer.{Layer}
use Rattle.geom.specs.declared.chip.Call.{Call}
use Rattle.geom.specs.Squares.{BoxShape, Covered, Inside}
use Rattle.geom.specs.Chips.{ChipShape, Calls, CalledAt, ChipCovers}
use Rattle.cif_write.specs.WrittenChips.{shifted, kind_at, chip_boxes}

-- the square of a moved box
inside_shifted : (dx dy x y : ℤ) (b : BoxShape) → Inside b (x -ℤ dx) (y -ℤ dy) → Inside (shifted dx dy b) x y
inside_shifted dx dy x y b h = let left = h.left in let right = h.right in let bottom = h.bottom in let top = h.top in record {
  left = omega (arith, ints, left);
  right = omega (arith, ints, right);
  bottom = omega (arith, ints, bottom);
  top = omega (arith, ints, top);
}

inside_back : (dx dy x y : ℤ) (b : BoxShape) → Inside (shifted dx dy b) x y → Inside b (x -ℤ dx) (y -ℤ dy)
inside_back dx dy x y b h = let left = h.left in let right = h.right in let bottom = h.bottom in let top = h.top in record {
  left = omega (arith, ints, left);
  right = omega (arith, ints, right);
  bottom = omega (arith, ints, bottom);
  top = omega (arith, ints, top);
}

module _ (layer : Layer) (x y : ℤ) where
  covered_shifted : (dx dy : ℤ) (boxes : List BoxShape) → Covered boxes layer (x -ℤ dx) (y -ℤ dy) → Covered (map (shifted dx dy) boxes) layer x y
  covered_shifted dx dy [] h = absurd h
  covered_shifted dx dy (b ∷ boxes) (inl h) = inl (h.0, inside_shifted dx dy x y b h.1)
  covered_shifted dx dy (b ∷ boxes) (inr h) = inr (covered_shifted dx dy boxes h)

  covered_back : (dx dy : ℤ) (boxes : List BoxShape) → Covered (map (shifted dx dy) boxes) layer x y → Covered boxes layer (x -ℤ dx) (y -ℤ dy)
  covered_back dx dy [] h = absurd h
  covered_back dx dy (b ∷ boxes) (inl h) = inl (h.0, inside_back dx dy x y b h.1)
  covered_back dx dy (b ∷ boxes) (inr h) = inr (covered_back dx dy boxes h)

  first_covers : (one other : List BoxShape) → Covered one layer x y → Covered (one ++ other) layer x y
  first_covers [] other h = absurd h
  first_covers (b ∷ one) other (inl h) = inl h
  first_covers (b ∷ one) other (inr h) = inr (first_covers one other h)

  second_covers : (one other : List BoxShape) → Covered other layer x y → Covered (one ++ other) layer x y
  second_covers [] other h = h
  second_covers (b ∷ one) other h = inr (second_covers one other h)

  either_covers : (one other : List BoxShape) → Covered (one ++ other) layer x y → Covered one layer x y ⊎ Covered other layer x y
  either_covers [] other h = inr h
  either_covers (b ∷ one) other (inl h) = inl (inl h)
  either_covers (b ∷ one) other (inr h) = elim (either_covers one other h) [ inl here ↦ inl (inr here) | inr there ↦ inr there ]

  module _ (kinds : List (List BoxShape)) where
    abbrev boxes_at : Call → List BoxShape
    boxes_at call = kind_at call (slice_get kinds call.kind)

    call_covers : (call : Call) → Calls kinds call layer x y → Covered (boxes_at call) layer x y
    call_covers call h =
        subst (λ kind. Covered (kind_at call kind) layer x y) (sym h.kind) (covered_shifted call.x call.y h.boxes h.covered)

    call_back : (call : Call) (kind : Option (List BoxShape)) → slice_get kinds call.kind ≡ kind → Covered (kind_at call kind) layer x y
        → Calls kinds call layer x y
    call_back call None is h = absurd h
    call_back call (Some boxes) is h = record { boxes = boxes; kind = is; covered = covered_back call.x call.y boxes h }

    calls_cover : (calls : List Call) → CalledAt kinds calls layer x y → Covered (flat_map boxes_at calls) layer x y
    calls_cover [] h = absurd h
    calls_cover (call ∷ calls) (inl h) = first_covers (boxes_at call) (flat_map boxes_at calls) (call_covers call h)
    calls_cover (call ∷ calls) (inr h) = second_covers (boxes_at call) (flat_map boxes_at calls) (calls_cover calls h)

    calls_back : (calls : List Call) → Covered (flat_map boxes_at calls) layer x y → CalledAt kinds calls layer x y
    calls_back [] h = absurd h
    calls_back (call ∷ calls) h = elim (either_covers (boxes_at call) (flat_map boxes_at calls) h) [
      | inl here ↦ inl (call_back call (slice_get kinds call.kind) refl here)
      | inr there ↦ inr (calls_back calls there)
    ]

-- the boxes that the text draws cover exactly the squares of the chip
pub written_boxes_cover : (chip : ChipShape) (layer : Layer) (x y : ℤ) → ChipCovers chip layer x y ↔ Covered (chip_boxes chip) layer x y
written_boxes_cover chip layer x y = (calls_cover layer x y chip.kinds chip.calls, calls_back layer x y chip.kinds chip.calls)

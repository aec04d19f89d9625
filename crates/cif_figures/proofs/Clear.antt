-- Numbers and distances of which none is too great or off the grid.
use Rattle.std.proofs.Common.{◌≡◌, inl, inr, ◌≤◌, ◌^◌, ℤ, pos, ◌*ℤ◌, List, [], ◌∷◌, ◌++◌, ap, subst, arith}
use Rattle.std.specs.Int.RustNames.{unsigned_abs}
use Rattle.std.proofs.lemmas.Int.{unsigned_abs-mul}
use Rattle.geom.specs.CifCommands.{CifScale}
use Rattle.geom.specs.CifCodes.{SomeIs, IsTooGreat, IsOffGrid, IsFarOff}
use Rattle.cif_figures.specs.Rectangles.{IsDrawnEdge}

-- no number is too great, and no distance off the grid or far
pub record IsClear (scale : CifScale) (numbers distances : List ℤ) : Type 0 where
  pub few : SomeIs IsTooGreat numbers → ⊥
  pub on_grid : SomeIs (IsOffGrid scale) distances → ⊥
  pub not_far : SomeIs (IsFarOff scale) distances → ⊥

some_left : (Is : ℤ → Type 0) (xs ys : List ℤ) → SomeIs Is xs → SomeIs Is (xs ++ ys)
some_left Is [] ys h = absurd h
some_left Is (x ∷ xs) ys (inl h) = inl h
some_left Is (x ∷ xs) ys (inr h) = inr (some_left Is xs ys h)

some_right : (Is : ℤ → Type 0) (xs ys : List ℤ) → SomeIs Is ys → SomeIs Is (xs ++ ys)
some_right Is [] ys h = h
some_right Is (x ∷ xs) ys h = inr (some_right Is xs ys h)

pub clear_front : (scale : CifScale) (xs ys ds es : List ℤ) → IsClear scale (xs ++ ys) (ds ++ es) → IsClear scale xs ds
clear_front scale xs ys ds es h = record {
  few = λ g. h.few (some_left IsTooGreat xs ys g);
  on_grid = λ g. h.on_grid (some_left (IsOffGrid scale) ds es g);
  not_far = λ g. h.not_far (some_left (IsFarOff scale) ds es g);
}

pub clear_behind : (scale : CifScale) (xs ys ds es : List ℤ) → IsClear scale (xs ++ ys) (ds ++ es) → IsClear scale ys es
clear_behind scale xs ys ds es h = record {
  few = λ g. h.few (some_right IsTooGreat xs ys g);
  on_grid = λ g. h.on_grid (some_right (IsOffGrid scale) ds es g);
  not_far = λ g. h.not_far (some_right (IsFarOff scale) ds es g);
}

-- a distance that is found, for one that is on the grid and not far
pub drawn_edge : (scale : CifScale) (z v : ℤ) → v ≡ z → unsigned_abs v ≤ 2 ^ 55 → (IsOffGrid scale z → ⊥) → (IsFarOff scale z → ⊥)
    → IsDrawnEdge scale v
drawn_edge scale z v e h a b =
    let P : ℤ → Type 0 = λ n. IsOffGrid scale n in
    let Q : ℤ → Type 0 = λ n. IsFarOff scale n in
    record { near = h; on_grid = λ k. a (subst P e k); not_far = λ k. b (subst Q e k) }

-- twice a number that is found
pub drawn_twice : (scale : CifScale) (z v : ℤ) → v ≡ z → unsigned_abs v ≤ 2 ^ 52 → (IsOffGrid scale (pos 2 *ℤ z) → ⊥)
    → (IsFarOff scale (pos 2 *ℤ z) → ⊥)
    → IsDrawnEdge scale (pos 2 *ℤ v)
drawn_twice scale z v e h a b =
    drawn_edge scale (pos 2 *ℤ z) (pos 2 *ℤ v) (ap (λ (n : ℤ). pos 2 *ℤ n) e) (let m = unsigned_abs-mul (pos 2) v in omega (arith, m, h)) a b

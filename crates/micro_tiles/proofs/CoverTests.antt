-- The tests of what covers and what conducts at a square tell so.
use Rattle.std.proofs.Common.{◌≡◌, ◌↔◌, IsTrue, ℕ, zero, suc, ◌+◌, ℤ, Bool, true, false, not, ◌&&◌, ◌||◌, List, [], ◌∷◌, take, Some, slice_get, inl, inr, refl, sym, ◌∙◌, subst, arith}
use Rattle.std.specs.List.{list_any}
use Rattle.std.proofs.Math.Dec.{T}
use Rattle.std.proofs.lemmas.Bool.{and_parts, or_cases, or_parts}
use Rattle.geom.specs.declared.layer.Layer.{Layer}
use Rattle.geom.specs.declared.layer.Layer.TheVariants.{Diffusion, Poly, Metal, Cut, Implant}
use Rattle.geom.specs.Squares.{BoxShape, Inside, Covered}
use Rattle.geom.specs.Conduction.{Conducts}
use Rattle.micro_tiles.specs.Conducting.{is_inside, covers, is_covered, conducts}
use Rattle.micro_tiles.specs.Table.{boxes}
use Rattle.micro_tiles.proofs.BoxTests.{le_true, lt_true, same_self, same_eq}

-- ---- a box over a square

passed : (t : Bool) → T t → t ≡ true
passed true h = refl
passed false h = absurd h

inside : (b : BoxShape) (x y : ℤ) → is_inside b x y ≡ true → Inside b x y
inside b x y h =
    let both = and_parts _ _ h in
    let across = and_parts _ _ both.0 in
    let upward = and_parts _ _ both.1 in
    record { left = le_true b.x1 x across.0; right = lt_true x b.x2 across.1; bottom = le_true b.y1 y upward.0; top = lt_true y b.y2 upward.1 }

is_inside_of : (b : BoxShape) (x y : ℤ) → Inside b x y → is_inside b x y ≡ true
is_inside_of b x y i = rw (passed _ i.left.le, passed _ i.right.lt, passed _ i.bottom.le, passed _ i.top.lt) refl

module _ (layer : Layer) (x y : ℤ) where
  over : (b : BoxShape) → covers layer x y b ≡ true → (b.layer ≡ layer) × Inside b x y
  over b h = let both = and_parts _ _ h in (same_eq b.layer layer both.0, inside b x y both.1)

  over_is : (b : BoxShape) → b.layer ≡ layer → Inside b x y → covers layer x y b ≡ true
  over_is b e i = rw (same_self b.layer layer e, is_inside_of b x y i) refl

  -- ---- some box over a square

  covered : (bs : List BoxShape) → list_any (covers layer x y) bs ≡ true → Covered bs layer x y
  covered [] h = cc
  covered (b ∷ bs) h = elim (or_cases _ _ h) [ inl first ↦ inl (over b first) | inr rest ↦ inr (covered bs rest) ]

  covered_is : (bs : List BoxShape) → Covered bs layer x y → list_any (covers layer x y) bs ≡ true
  covered_is [] h = absurd h
  covered_is (b ∷ bs) (inl first) = rw (over_is b first.0 first.1) refl
  covered_is (b ∷ bs) (inr rest) = either (covers layer x y b) (list_any (covers layer x y) bs) (covered_is bs rest)
    where
      either : (s t : Bool) → t ≡ true → (s || t) ≡ true
      either true t e = refl
      either false t e = e

-- ---- what conducts

module _ (tile : ℕ) (x y : ℤ) where
  bare : (d p : Bool) → (d && not p) ≡ true → (d ≡ true) × (p ≡ true → ⊥)
  bare true false e = (refl, λ f. cc)
  bare true true e = cc
  bare false p e = cc

  bare_is : (d p : Bool) → d ≡ true → (p ≡ true → ⊥) → (d && not p) ≡ true
  bare_is true false e f = refl
  bare_is true true e f = absurd (f refl)
  bare_is false p e f = cc

  -- the test of a conductor is passed exactly where the tile conducts
  pub conducts_is : (layer : Layer) → (conducts tile layer x y ≡ true) ↔ Conducts (Covered (boxes tile)) layer x y
  conducts_is Metal = (covered Metal x y (boxes tile), covered_is Metal x y (boxes tile))
  conducts_is Poly = (covered Poly x y (boxes tile), covered_is Poly x y (boxes tile))
  conducts_is Diffusion = (
    λ h.
        let b = bare (is_covered tile Diffusion x y) (is_covered tile Poly x y) h in
        (covered Diffusion x y (boxes tile) b.0, λ p. b.1 (covered_is Poly x y (boxes tile) p)),
    λ c. bare_is (is_covered tile Diffusion x y) (is_covered tile Poly x y) (covered_is Diffusion x y (boxes tile) c.0) (λ p. c.1 (covered Poly x y (boxes tile) p)),
  )
  conducts_is Cut = (λ h. cc, λ c. absurd c)
  conducts_is Implant = (λ h. cc, λ c. absurd c)

pub meaning : (tile : ℕ) (layer : Layer) (x y : ℤ) (t : Bool) → t ≡ conducts tile layer x y → IsTrue t ↔ Conducts (Covered (boxes tile)) layer x y
meaning tile layer x y t e = let is = conducts_is tile x y layer in (λ h. is.0 (sym e ∙ h), λ c. e ∙ is.1 c)

-- ---- the boxes so far

-- a box that covers the square settles it
pub found : (layer : Layer) (x y : ℤ) (bs : List BoxShape) (i : ℕ) (b : BoxShape) → slice_get bs i ≡ Some b → true ≡ covers layer x y b
    → true ≡ list_any (covers layer x y) bs
found layer x y [] i b e h = cc
found layer x y (c ∷ bs) zero b e h = let same : c ≡ b = cc in rw (same, ← h) refl
found layer x y (c ∷ bs) (suc i) b e h = rw (← found layer x y bs i b e h) (last (covers layer x y c))
  where
    last : (s : Bool) → true ≡ (s || true)
    last true = refl
    last false = refl

-- one more box that does not cover the square
next : (layer : Layer) (x y : ℤ) (bs : List BoxShape) (i : ℕ) (b : BoxShape) → slice_get bs i ≡ Some b → false ≡ covers layer x y b
    → list_any (covers layer x y) (take i bs) ≡ false → list_any (covers layer x y) (take (suc i) bs) ≡ false
next layer x y [] i b e h none = cc
next layer x y (c ∷ bs) zero b e h none = let same : c ≡ b = cc in rw (same, ← h) refl
next layer x y (c ∷ bs) (suc i) b e h none =
    let neither = or_parts (covers layer x y c) (list_any (covers layer x y) (take i bs)) none in
    rw (neither.0, next layer x y bs i b e h neither.1) refl

pub more : (layer : Layer) (x y : ℤ) (bs : List BoxShape) (i : ℕ) (b : BoxShape) → slice_get bs i ≡ Some b → false ≡ covers layer x y b
    → list_any (covers layer x y) (take i bs) ≡ false → list_any (covers layer x y) (take (i + 1) bs) ≡ false
more layer x y bs i b e h none =
    let up : suc i ≡ i + 1 = omega arith in
    subst (λ n. list_any (covers layer x y) (take n bs) ≡ false) up (next layer x y bs i b e h none)

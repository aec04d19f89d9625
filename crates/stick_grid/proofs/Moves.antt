-- The boxes of tiles, moved to their places, and the squares that they cover.
use Rattle.std.proofs.Common.{◌≡◌, ◌↔◌, ◌⊎◌, inl, inr, refl, ℕ, zero, suc, ◌+◌, ◌-◌, ◌*◌, ◌<◌, ◌≤◌, ℤ, pos, ◌-ℤ◌, List, [], ◌∷◌, ◌++◌, map, take, append_assoc, Some, arith, ap, sym, ◌∙◌, subst, false, slice_get}
use Rattle.std.specs.List.{range_with_len, flat_map}
use Rattle.std.proofs.lemmas.Int.{ints, clamps}
use Rattle.std.proofs.lemmas.Nat.{div-mul-add, div_below}
use Rattle.std.proofs.lemmas.Bool.{cases_eq}
use Rattle.std.proofs.lemmas.List.{map-append}
use Rattle.geom.specs.declared.layer.Layer.{Layer}
use Rattle.geom.specs.declared.orient.Orient.{Orient}
use Rattle.geom.specs.Squares.{BoxShape, Inside, Covered}
use Rattle.geom.specs.Turns.{moved}
use Rattle.micro_tiles.specs.Boxes.{IsInTile}
use Rattle.micro_tiles.specs.Table.{boxes}
use Rattle.stick_grid.specs.Plans.{Plan, Covers}
use Rattle.stick_grid.specs.PlanBoxes.{tile_box, boxes_in, boxes_in_row, boxes_of_plan}
use Rattle.stick_grid.proofs.ListedRows.{flat_more}

abbrev pub straight : Orient
straight = record { swap = false; neg_x = false; neg_y = false }

-- A box that is moved only is that of the tile in its place.
pub moved_is : (b : BoxShape) (east north : ℕ) → IsInTile b → moved b straight (pos (14 * east)) (pos (14 * north)) ≡ tile_box east north b
moved_is b east north within =
    let m = moved b straight (pos (14 * east)) (pos (14 * north)) in
    let t = tile_box east north b in
    let x1 : m.x1 ≡ t.x1 = omega (arith, ints, clamps) in
    let y1 : m.y1 ≡ t.y1 = omega (arith, ints, clamps) in
    let x2 : m.x2 ≡ t.x2 = omega (arith, ints, clamps) in
    let y2 : m.y2 ≡ t.y2 = omega (arith, ints, clamps) in
    λ i. record { layer = b.layer; x1 = x1 i; y1 = y1 i; x2 = x2 i; y2 = y2 i }

-- Two lists cover what one or the other covers.
pub both : (bs cs : List BoxShape) (layer : Layer) (x y : ℤ) → Covered (bs ++ cs) layer x y ↔ (Covered bs layer x y ⊎ Covered cs layer x y)
both [] cs layer x y = (λ h. inr h, λ h. elim h [ inl none ↦ absurd none | inr c ↦ c ])
both (b ∷ bs) cs layer x y =
    let rest = both bs cs layer x y in (
      λ h. elim h [ inl first ↦ inl (inl first) | inr more ↦ elim (rest.0 more) [ inl m ↦ inl (inr m) | inr c ↦ inr c ] ],
      λ h. elim h [ inl front ↦ elim front [ inl first ↦ inl first | inr more ↦ inr (rest.1 (inl more)) ] | inr c ↦ inr (rest.1 (inr c)) ],
    )

-- the boxes of a list up to one, and that one
next_is : {X : Type 0} (xs : List X) (i : ℕ) (x : X) → slice_get xs i ≡ Some x → take (suc i) xs ≡ take i xs ++ x ∷ []
next_is [] i x e = cc
next_is (y ∷ ys) zero x e = let same : y ≡ x = cc in rw same refl
next_is (y ∷ ys) (suc i) x e = ap (λ l. y ∷ l) (next_is ys i x e)

pub one_more : {X : Type 0} (xs : List X) (i : ℕ) (x : X) → slice_get xs i ≡ Some x → take (i + 1) xs ≡ take i xs ++ x ∷ []
one_more xs i x e = let next : suc i ≡ i + 1 = omega arith in subst (λ n. take n xs ≡ take i xs ++ x ∷ []) next (next_is xs i x e)

pub row_below : (row col rows cols : ℕ) → col < cols → row * cols + col < rows * cols → row < rows
row_below row col rows cols small h = subst (λ r. r < rows) (div-mul-add row cols col small) (div_below (row * cols + col) cols rows (omega arith) h)

-- ---- squares

inside_tile : (b : BoxShape) (east north : ℕ) (x y : ℤ) → Inside (tile_box east north b) x y ↔ Inside b (x -ℤ pos (14 * east)) (y -ℤ pos (14 * north))
inside_tile b east north x y = (
  λ h. record { left = omega (arith, ints); right = omega (arith, ints); bottom = omega (arith, ints); top = omega (arith, ints) },
  λ h. record { left = omega (arith, ints); right = omega (arith, ints); bottom = omega (arith, ints); top = omega (arith, ints) },
)

covered_tile : (bs : List BoxShape) (east north : ℕ) (layer : Layer) (x y : ℤ)
    → Covered (map (tile_box east north) bs) layer x y ↔ Covered bs layer (x -ℤ pos (14 * east)) (y -ℤ pos (14 * north))
covered_tile [] east north layer x y = (λ h. h, λ h. h)
covered_tile (b ∷ bs) east north layer x y =
    let one = inside_tile b east north x y in
    let rest = covered_tile bs east north layer x y in (
      λ h. elim h [ inl first ↦ inl (first.0, one.0 first.1) | inr more ↦ inr (rest.0 more) ],
      λ h. elim h [ inl first ↦ inl (first.0, one.1 first.1) | inr more ↦ inr (rest.1 more) ],
    )

-- one of the lists of so many numbers covers the square
abbrev CoveredBy : (ℕ → List BoxShape) → ℕ → ℕ → Layer → ℤ → ℤ → Type 0
CoveredBy f a n layer x y = (k : ℕ) × (a ≤ k) × (k < a + n) × Covered (f k) layer x y

covered_flat : (f : ℕ → List BoxShape) (a n : ℕ) (layer : Layer) (x y : ℤ) → Covered (flat_map f (range_with_len a n)) layer x y ↔ CoveredBy f a n layer x y
covered_flat f a zero layer x y = (λ h. absurd h, λ h. let low = h.1 in let high = h.2 in absurd (omega arith))
covered_flat f a (suc n) layer x y =
    let parts = both (f a) (flat_map f (range_with_len (a + 1) n)) layer x y in
    let rest = covered_flat f (a + 1) n layer x y in (
      λ h. elim (parts.0 h) [
        | inl first ↦ (a, omega arith, omega arith, first)
        | inr later ↦ let r = rest.0 later in let low = r.1 in let high = r.2 in (r.0, omega arith, omega arith, r.3)
      ],
      λ h. let low = h.1 in let high = h.2 in elim (cases_eq h.0 a) [
        | inl e ↦ parts.1 (inl (subst (λ k. Covered (f k) layer x y) e h.3))
        | inr other ↦ parts.1 (inr (rest.1 (h.0, omega arith, omega arith, h.3)))
      ],
    )

-- The boxes of a plan cover what the plan covers.
pub drawn_covers : (plan : Plan) (layer : Layer) (x y : ℤ) → Covered (boxes_of_plan plan) layer x y ↔ Covers plan layer x y
drawn_covers plan layer x y = (
  λ h.
      let r = (covered_flat (boxes_in_row plan) 0 plan.rows layer x y).0 h in
      let c = (covered_flat (boxes_in plan r.0) 0 plan.cols layer x y).0 r.3 in
      let is_row = r.2 in
      let is_col = c.2 in
      record {
        row = r.0;
        col = c.0;
        is_row = omega arith;
        is_col = omega arith;
        covered = (covered_tile (boxes (plan.tile r.0 c.0)) c.0 (plan.rows - 1 - r.0) layer x y).0 c.3;
      },
  λ h.
      let is_row = h.is_row in
      let is_col = h.is_col in
      let tile = (covered_tile (boxes (plan.tile h.row h.col)) h.col (plan.rows - 1 - h.row) layer x y).1 h.covered in
      let row = (covered_flat (boxes_in plan h.row) 0 plan.cols layer x y).1 (h.col, omega arith, omega arith, tile) in
      (covered_flat (boxes_in_row plan) 0 plan.rows layer x y).1 (h.row, omega arith, omega arith, row),
)

-- one number more
pub flat_next : (f : ℕ → List BoxShape) (old : List BoxShape) (n : ℕ) → (old ++ flat_map f (range_with_len 0 n)) ++ f n ≡ old ++ flat_map f (range_with_len 0 (n + 1))
flat_next f old n =
    let next : suc n ≡ n + 1 = omega arith in
    append_assoc old (flat_map f (range_with_len 0 n)) (f n)
    ∙ ap (λ l. old ++ l) (sym (flat_more f n) ∙ ap (λ (k : ℕ). flat_map f (range_with_len 0 k)) next)

-- one box more
pub map_next : (f : BoxShape → BoxShape) (old bs : List BoxShape) (i : ℕ) (b : BoxShape) → slice_get bs i ≡ Some b
    → (old ++ map f (take i bs)) ++ f b ∷ [] ≡ old ++ map f (take (i + 1) bs)
map_next f old bs i b e =
    append_assoc old (map f (take i bs)) (f b ∷ [])
    ∙ ap (λ l. old ++ l) (sym (map-append f (take i bs) (b ∷ [])) ∙ ap (map f) (sym (one_more bs i b e)))

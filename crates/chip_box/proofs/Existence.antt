-- Boxes with squares have a least rectangle of whole tiles round them.
use Rattle.std.proofs.Common.{◌≡◌, ◌⊎◌, inl, inr, ℕ, ℤ, pos, negsuc, ◌+ℤ◌, ◌-ℤ◌, ◌≤ℤ◌, ◌<ℤ◌, List, [], ◌∷◌, refl, sym, subst, arith}
use Rattle.std.specs.Int.{int_rem_euclid}
use Rattle.std.proofs.lemmas.Int.{ints}
use Rattle.geom.specs.declared.chip.Rect.{Rect}
use Rattle.geom.specs.Squares.{BoxShape}
use Rattle.geom.specs.Rows.{Among}
use Rattle.chip_box.specs.declared.extent.Extent.{Extent}
use Rattle.chip_box.specs.Extents.{IsOrdered, Surrounds, IsEdgeBefore, IsEdgeBehind, RectanglesExist}
use Rattle.chip_box.proofs.Rectangles.{is_box, is_wide}
use Rattle.chip_box.proofs.Surrounding.{both_surround, box_surrounds}
use Rattle.chip_box.proofs.TileEdges.{rem_edge, turned_edge}

-- how far one number lies behind another, if it does
between : (a b : ℤ) → ((n : ℕ) × (a +ℤ pos n ≡ b)) ⊎ (b <ℤ a)
between a b = by (b -ℤ a) refl
  where
    by : (d : ℤ) → (b -ℤ a) ≡ d → ((n : ℕ) × (a +ℤ pos n ≡ b)) ⊎ (b <ℤ a)
    by (pos n) e = inl (n, omega (arith, ints, e))
    by (negsuc n) e = inr (omega (arith, ints, e))

-- one of two numbers that is not behind either, and one that is not before either
abbrev IsFirst : ℤ → ℤ → ℤ → Type 0
IsFirst a b v = (v ≤ℤ a) × (v ≤ℤ b) × ((v ≡ a) ⊎ (v ≡ b))

abbrev IsLast : ℤ → ℤ → ℤ → Type 0
IsLast a b v = (a ≤ℤ v) × (b ≤ℤ v) × ((v ≡ a) ⊎ (v ≡ b))

first_of_two : (a b : ℤ) → (v : ℤ) × IsFirst a b v
first_of_two a b = elim (between a b) [
  | inl n ↦ (let e = n.1 in (a, (omega (arith, ints), omega (arith, ints, e), inl refl)))
  | inr less ↦ (b, (omega (arith, ints, less), omega (arith, ints), inr refl))
]

last_of_two : (a b : ℤ) → (v : ℤ) × IsLast a b v
last_of_two a b = elim (between a b) [
  | inl n ↦ (let e = n.1 in (b, (omega (arith, ints, e), omega (arith, ints), inr refl)))
  | inr less ↦ (a, (omega (arith, ints), omega (arith, ints, less), inl refl))
]

-- the edges of some boxes
surrounded : (first : BoxShape) (boxes : List BoxShape) → ((b : BoxShape) → Among (first ∷ boxes) b → IsOrdered b)
    → (e : Extent) × Surrounds (first ∷ boxes) e
surrounded first [] ordered =
    let e : Extent = record { west = first.x1; south = first.y1; east = first.x2; north = first.y2 } in
    (e, box_surrounds first e (ordered first (inl refl)) refl refl refl refl)
surrounded first (b ∷ boxes) ordered =
    let one : Extent = record { west = first.x1; south = first.y1; east = first.x2; north = first.y2 } in
    let rest = surrounded b boxes (λ c among. ordered c (inr among)) in
    let other = rest.0 in
    let w = first_of_two one.west other.west in
    let s = first_of_two one.south other.south in
    let a = last_of_two one.east other.east in
    let n = last_of_two one.north other.north in
    let e : Extent = record { west = w.0; south = s.0; east = a.0; north = n.0 } in (
      e,
      both_surround (first ∷ []) (b ∷ boxes) one other e (box_surrounds first one (ordered first (inl refl)) refl refl refl refl) rest.1
          w.1.0 w.1.1 w.1.2 s.1.0 s.1.1 s.1.2 a.1.0 a.1.1 a.1.2 n.1.0 n.1.1 n.1.2,
    )

-- the edges of tiles round them
edge_before : (v : ℤ) → (edge : ℤ) × IsEdgeBefore v edge
edge_before v = (v -ℤ int_rem_euclid v (pos 14), rem_edge v (int_rem_euclid v (pos 14)) refl)

edge_behind : (v : ℤ) → (edge : ℤ) × IsEdgeBehind v edge
edge_behind v = let before = edge_before (pos 0 -ℤ v) in (pos 0 -ℤ before.0, turned_edge v before.0 before.1)

-- from one edge to a later one
reach : (from to low high : ℤ) → from <ℤ to → IsEdgeBefore from low → IsEdgeBehind to high → (n : ℕ) × (low +ℤ pos n ≡ high)
reach from to low high order first last = elim (between low high) [
  | inl n ↦ n
  | inr less ↦ (let f = first.low in let l = last.high in absurd (omega (arith, ints, less, order, f, l)))
]

pub rectangles_exist : RectanglesExist
rectangles_exist [] some ordered = absurd (some refl)
rectangles_exist (first ∷ boxes) some ordered =
    let e = surrounded first boxes ordered in
    let wide = is_wide (first ∷ boxes) e.0 e.1 in
    let w = edge_before e.0.west in
    let s = edge_before e.0.south in
    let a = edge_behind e.0.east in
    let n = edge_behind e.0.north in
    let width = reach e.0.west e.0.east w.0 a.0 wide.0 w.1 a.1 in
    let height = reach e.0.south e.0.north s.0 n.0 wide.1 s.1 n.1 in
    let r : Rect = record { x = w.0; y = s.0; width = width.0; height = height.0 } in (
      r,
      is_box (first ∷ boxes) e.0 r e.1 w.1 s.1 (subst (IsEdgeBehind e.0.east) (sym width.1) a.1)
          (subst (IsEdgeBehind e.0.north) (sym height.1) n.1),
    )

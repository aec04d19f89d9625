-- Squares that are near each other lie in one tile, behind the common side of two tiles, or in the corners of tiles.
use Rattle.std.proofs.Common.{◌≡◌, ℕ, ◌+◌, ◌-◌, ◌*◌, ℤ, pos, ◌-ℤ◌, ◌≤ℤ◌, ◌<ℤ◌, ◌⊎◌, inl, inr, refl, sym, arith}
use Rattle.std.proofs.lemmas.Int.{ints}
use Rattle.std.proofs.lemmas.Bool.{cases_order}
use Rattle.micro_tiles.specs.declared.side.Side.{Side}
use Rattle.micro_tiles.specs.declared.side.Side.TheVariants.{North, East, South, West}
use Rattle.micro_tiles.specs.Sides.{opposite}
use Rattle.micro_tiles.specs.Shapes.{IsInner}
use Rattle.micro_tiles.specs.Strips.{behind_x, behind_y}
use Rattle.lambda_rules.specs.Classes.{IsNear, AreWithin}
use Rattle.stick_grid.specs.Plans.{Plan, local_x, local_y}
use Rattle.tile_rules.proofs.Tiled.{LiesIn}

-- ---- in one line of tiles

-- Two numbers of a line of tiles, each from the beginning of its tile: they lie in one tile, or near the end of one and near the
-- beginning of the next.
data InLine (a b : ℕ) (p q : ℤ) : Type 0 where
  same : a ≡ b → InLine a b p q
  after : b ≡ a + 1 → pos 11 ≤ℤ p → q <ℤ pos 3 → InLine a b p q
  before : a ≡ b + 1 → p <ℤ pos 3 → pos 11 ≤ℤ q → InLine a b p q

-- the number is one of a tile's
record IsOf (a : ℕ) (x : ℤ) : Type 0 where
  from : pos (14 * a) ≤ℤ x
  to : x <ℤ pos (14 * a + 14)

in_line : (a b : ℕ) (x u : ℤ) → IsOf a x → IsOf b u → IsNear 3 x u → InLine a b (x -ℤ pos (14 * a)) (u -ℤ pos (14 * b))
in_line a b x u h k near =
    let p = h.from in
    let q = h.to in
    let r = k.from in
    let s = k.to in
    let m = near.first in
    let n = near.second in
    elim (cases_order a b) [
      | inl e ↦ same e
      | inr other ↦ elim other [
        | inl below ↦ after (omega (arith, ints)) (omega (arith, ints)) (omega (arith, ints))
        | inr above ↦ before (omega (arith, ints)) (omega (arith, ints)) (omega (arith, ints))
      ]
    ]

-- ---- in the plane

-- The square of a tile lies less than 3 behind the side.
pub record IsBehind (side : Side) (x y : ℤ) : Type 0 where
  pub depth : ℤ
  pub place : ℤ
  pub across : x ≡ behind_x side depth place
  pub upward : y ≡ behind_y side depth place
  pub from : pos 0 ≤ℤ depth
  pub to : depth <ℤ pos 3

-- It lies so behind a side, and less than 3 from one of its ends.
pub record InCorner (x y : ℤ) : Type 0 where
  pub side : Side
  pub behind : IsBehind side x y
  pub far : (behind.place <ℤ pos 3) ⊎ (pos 11 ≤ℤ behind.place)

-- The second tile is the neighbour beyond this side of the first.
abbrev pub IsBeyond : Side → ℕ → ℕ → ℕ → ℕ → Type 0
IsBeyond North row col r c = (row ≡ r + 1) × (c ≡ col)
IsBeyond East row col r c = (r ≡ row) × (c ≡ col + 1)
IsBeyond South row col r c = (r ≡ row + 1) × (c ≡ col)
IsBeyond West row col r c = (r ≡ row) × (col ≡ c + 1)

-- How the tiles of two squares lie that are near each other: one tile, two with a common side behind which the squares lie, or two that
-- touch in a corner.
pub data Lie (row col r c : ℕ) (x y u v : ℤ) : Type 0 where
  together : row ≡ r → col ≡ c → Lie row col r c x y u v
  across : (side : Side) → IsBeyond side row col r c → IsBehind side x y → IsBehind (opposite side) u v → Lie row col r c x y u v
  corner : InCorner x y → Lie row col r c x y u v

abbrev pub AreNear : Plan → (row col r c : ℕ) (x y u v : ℤ) → Type 0
AreNear plan row col r c x y u v = Lie row col r c (local_x col x) (local_y plan row y) (local_x c u) (local_y plan r v)

by_north : (x y : ℤ) → IsInner (pos 0) x y → pos 11 ≤ℤ y → IsBehind North x y
by_north x y i h =
    let top = i.top in
    record { depth = pos 13 -ℤ y; place = x; across = refl; upward = omega (arith, ints); from = omega (arith, ints); to = omega (arith, ints) }

by_south : (x y : ℤ) → IsInner (pos 0) x y → y <ℤ pos 3 → IsBehind South x y
by_south x y i h = record { depth = y; place = x; across = refl; upward = refl; from = i.bottom; to = h }

by_east : (x y : ℤ) → IsInner (pos 0) x y → pos 11 ≤ℤ x → IsBehind East x y
by_east x y i h =
    let right = i.right in
    record { depth = pos 13 -ℤ x; place = y; across = omega (arith, ints); upward = refl; from = omega (arith, ints); to = omega (arith, ints) }

by_west : (x y : ℤ) → IsInner (pos 0) x y → x <ℤ pos 3 → IsBehind West x y
by_west x y i h = record { depth = x; place = y; across = refl; upward = refl; from = i.left; to = h }

module _ (plan : Plan) (row col r c : ℕ) (x y u v : ℤ) (h : LiesIn plan row col x y) (k : LiesIn plan r c u v) where
  columns : IsNear 3 x u → InLine col c (local_x col x) (local_x c u)
  columns near =
      let i = h.inner in
      let j = k.inner in
      in_line col c x u (record { from = omega (arith, ints, i.left); to = omega (arith, ints, i.right) })
      (record { from = omega (arith, ints, j.left); to = omega (arith, ints, j.right) }) near

  rows : IsNear 3 y v → InLine (plan.rows - 1 - row) (plan.rows - 1 - r) (local_y plan row y) (local_y plan r v)
  rows near =
      let i = h.inner in
      let j = k.inner in
      in_line (plan.rows - 1 - row) (plan.rows - 1 - r) y v (record { from = omega (arith, ints, i.bottom); to = omega (arith, ints, i.top) })
      (record { from = omega (arith, ints, j.bottom); to = omega (arith, ints, j.top) }) near

  rows_beside : plan.rows - 1 - r ≡ plan.rows - 1 - row + 1 → row ≡ r + 1
  rows_beside e = let a = h.is_row in let b = k.is_row in omega arith

  rows_back : plan.rows - 1 - row ≡ plan.rows - 1 - r + 1 → r ≡ row + 1
  rows_back e = let a = h.is_row in let b = k.is_row in omega arith

  same_row : plan.rows - 1 - row ≡ plan.rows - 1 - r → row ≡ r
  same_row e = let a = h.is_row in let b = k.is_row in omega arith

  lie : (p q s w : ℤ) → IsInner (pos 0) p q → IsInner (pos 0) s w → InLine col c p s → InLine (plan.rows - 1 - row) (plan.rows - 1 - r) q w
      → Lie row col r c p q s w
  unfolding by_east by_west
  lie p q s w i j (same e) (same f) = together (same_row f) e
  lie p q s w i j (same e) (after f m n) = across North (rows_beside f, sym e) (by_north p q i m) (by_south s w j n)
  lie p q s w i j (same e) (before f m n) = across South (rows_back f, sym e) (by_south p q i m) (by_north s w j n)
  lie p q s w i j (after e m n) (same f) = across East (sym (same_row f), e) (by_east p q i m) (by_west s w j n)
  lie p q s w i j (before e m n) (same f) = across West (sym (same_row f), e) (by_west p q i m) (by_east s w j n)
  lie p q s w i j (after e m n) (after f k l) = corner (record { side = East; behind = by_east p q i m; far = inr k })
  lie p q s w i j (after e m n) (before f k l) = corner (record { side = East; behind = by_east p q i m; far = inl k })
  lie p q s w i j (before e m n) (after f k l) = corner (record { side = West; behind = by_west p q i m; far = inr k })
  lie p q s w i j (before e m n) (before f k l) = corner (record { side = West; behind = by_west p q i m; far = inl k })

  pub near_of : AreWithin 3 x y u v → AreNear plan row col r c x y u v
  near_of within =
      lie (local_x col x) (local_y plan row y) (local_x c u) (local_y plan r v) h.inner k.inner (columns within.across) (rows within.upward)

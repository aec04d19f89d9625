-- Squares of a plan that share a side lie in one tile, or at the common border of two neighbours.
use Rattle.std.proofs.Common.{◌≡◌, ℕ, ◌+◌, ℤ, pos, ◌+ℤ◌, ◌⊎◌, inl, inr, sym, subst, arith}
use Rattle.std.proofs.lemmas.Int.{ints}
use Rattle.std.proofs.lemmas.Bool.{cases_eq}
use Rattle.geom.specs.Conduction.{ShareSide}
use Rattle.stick_grid.specs.Plans.{Plan, local_x, local_y}
use Rattle.stick_grid.proofs.Places.{LiesIn}

-- The first square is at the east border of a tile, the second at the west border of its eastern neighbour.
pub record AcrossEast (row col r c : ℕ) (x u : ℤ) : Type 0 where
  pub row_is : r ≡ row
  pub col_is : c ≡ col + 1
  pub first : local_x col x ≡ pos 13
  pub second : local_x c u ≡ pos 0

-- The first square is at the south border of a tile, the second at the north border of its southern neighbour.
pub record AcrossSouth (plan : Plan) (row col r c : ℕ) (y v : ℤ) : Type 0 where
  pub row_is : r ≡ row + 1
  pub col_is : c ≡ col
  pub first : local_y plan row y ≡ pos 0
  pub second : local_y plan r v ≡ pos 13

-- How two squares that share a side lie: together in one tile, or the second in the tile to the east, west, south or north.
pub data Neighbours (plan : Plan) (row col r c : ℕ) (x y u v : ℤ) : Type 0 where
  together : row ≡ r → col ≡ c → Neighbours plan row col r c x y u v
  east : AcrossEast row col r c x u → Neighbours plan row col r c x y u v
  west : AcrossEast r c row col u x → Neighbours plan row col r c x y u v
  south : AcrossSouth plan row col r c y v → Neighbours plan row col r c x y u v
  north : AcrossSouth plan r c row col v y → Neighbours plan row col r c x y u v

-- the second square is the one to the east of the first
eastward : (plan : Plan) (row col r c : ℕ) (x y u : ℤ) → LiesIn plan row col x y → LiesIn plan r c u y → u ≡ x +ℤ pos 1
    → ((row ≡ r) × (col ≡ c)) ⊎ AcrossEast row col r c x u
eastward plan row col r c x y u h k e =
    let i = h.inner in
    let j = k.inner in
    let a = h.is_row in
    let b = k.is_row in
    let rows : row ≡ r = omega (arith, ints, i.bottom, i.top, j.bottom, j.top) in
    elim (cases_eq c col) [
      | inl same ↦ inl (rows, sym same)
      | inr other ↦
          let next : c ≡ col + 1 = omega (arith, ints, i.left, i.right, j.left, j.right) in
          inr (record {
            row_is = sym rows;
            col_is = next;
            first = omega (arith, ints, i.left, i.right, j.left, j.right);
            second = omega (arith, ints, i.left, i.right, j.left, j.right);
          })
    ]

-- the second square is the one to the south of the first
southward : (plan : Plan) (row col r c : ℕ) (x y v : ℤ) → LiesIn plan row col x y → LiesIn plan r c x v → y ≡ v +ℤ pos 1
    → ((row ≡ r) × (col ≡ c)) ⊎ AcrossSouth plan row col r c y v
southward plan row col r c x y v h k e =
    let i = h.inner in
    let j = k.inner in
    let a = h.is_row in
    let b = k.is_row in
    let cols : col ≡ c = omega (arith, ints, i.left, i.right, j.left, j.right) in
    elim (cases_eq r row) [
      | inl same ↦ inl (sym same, cols)
      | inr other ↦
          let next : r ≡ row + 1 = omega (arith, ints, i.bottom, i.top, j.bottom, j.top) in
          inr (record {
            row_is = next;
            col_is = sym cols;
            first = omega (arith, ints, i.bottom, i.top, j.bottom, j.top);
            second = omega (arith, ints, i.bottom, i.top, j.bottom, j.top);
          })
    ]

pub neighbours_of : (plan : Plan) (row col r c : ℕ) (x y u v : ℤ) → LiesIn plan row col x y → LiesIn plan r c u v → ShareSide x y u v → Neighbours plan row col r c x y u v
neighbours_of plan row col r c x y u v h k side = elim side [
  | inl upright ↦
      let l : LiesIn plan row col u y = subst (λ a. LiesIn plan row col a y) upright.0 h in
      elim upright.1 [
        | inl up ↦ elim (southward plan r c row col u v y k l up) [ inl one ↦ together (sym one.0) (sym one.1) | inr across ↦ north across ]
        | inr down ↦ elim (southward plan row col r c u y v l k down) [ inl one ↦ together one.0 one.1 | inr across ↦ south across ]
      ]
  | inr level ↦
      let l : LiesIn plan row col x v = subst (λ b. LiesIn plan row col x b) level.0 h in
      elim level.1 [
        | inl right ↦ elim (eastward plan row col r c x v u l k right) [ inl one ↦ together one.0 one.1 | inr across ↦ east across ]
        | inr left ↦ elim (eastward plan r c row col u v x k l left) [ inl one ↦ together (sym one.0) (sym one.1) | inr across ↦ west across ]
      ]
]

-- The numbers of the nets of a tiling's tiles.
use Rattle.std.proofs.Common.{◌≡◌, ℕ, ◌+◌, ◌*◌, ◌/◌, ◌%◌, ◌<◌, refl, arith}
use Rattle.std.proofs.lemmas.Nat.{div-mul-add, mod-mul-add, mul-add-lt, div_below}
use Rattle.std.proofs.Math.Nat.{div-add-mod', mod-lt}
use Rattle.stick_grid.specs.declared.place.Place.{Place}
use Rattle.stick_grid.specs.Tilings.{Tiling, IsTiling}
use Rattle.stick_grid.specs.Pieces.{Piece}
use Rattle.stick_grid.specs.PieceGraph.{place_of, number_of}

-- the place of a number by its row and column
pub place_is : (tiling : Tiling) (number cols : ℕ) (place : Place) → cols ≡ tiling.cols → place.row * cols + place.col ≡ number / 4 → place.col < cols
    → place ≡ place_of tiling number
place_is tiling number cols place as_cols e small =
    let row = div-mul-add place.row cols place.col small in
    let col = mod-mul-add place.row cols place.col small in
    rw (← e, ← as_cols, row, col) refl

-- the place of the tile of a net
abbrev pub place : Piece → Place
place piece = record { row = piece.row; col = piece.col }

-- the number of a net
abbrev pub number : Tiling → Piece → ℕ
number tiling piece = number_of tiling (place piece) piece.net

-- the net of a number
abbrev pub piece : Tiling → ℕ → Piece
piece tiling n = record { row = n / 4 / tiling.cols; col = n / 4 % tiling.cols; net = n % 4 }

-- The net is one of the four of a tile.
pub record InTiling (tiling : Tiling) (piece : Piece) : Type 0 where
  pub is_row : piece.row < tiling.rows
  pub is_col : piece.col < tiling.cols
  pub few : piece.net < 4

module _ (tiling : Tiling) where
  module _ (p : Piece) (inner : InTiling tiling p) where
    quarter : number tiling p / 4 ≡ p.row * tiling.cols + p.col
    quarter = let few = inner.few in omega arith

    rest : number tiling p % 4 ≡ p.net
    rest = let few = inner.few in omega arith

    -- the number leads back to the net
    pub piece_back : piece tiling (number tiling p) ≡ p
    piece_back =
        let row = div-mul-add p.row tiling.cols p.col inner.is_col in
        let col = mod-mul-add p.row tiling.cols p.col inner.is_col in
        rw (quarter, rest, row, col) refl

    pub number_within : number tiling p < 4 * (tiling.rows * tiling.cols)
    number_within =
        let below = mul-add-lt p.row tiling.cols p.col tiling.rows inner.is_row inner.is_col in
        let turn : tiling.rows * tiling.cols ≡ tiling.cols * tiling.rows = omega arith in
        let few = inner.few in
        omega arith

  module _ (given : IsTiling tiling) (n : ℕ) (within : n < 4 * (tiling.rows * tiling.cols)) where
    some_col : 0 < tiling.cols
    some_col = let some = given.some_col in omega arith

    -- a number is that of a net
    pub piece_in : InTiling tiling (piece tiling n)
    piece_in = record {
      is_row = div_below (n / 4) tiling.cols tiling.rows some_col (omega arith);
      is_col = mod-lt (n / 4) some_col;
      few = omega arith;
    }

  -- the number of the net of a number
  pub number_back : (n : ℕ) → number tiling (piece tiling n) ≡ n
  number_back n = let split = div-add-mod' (n / 4) tiling.cols in omega (arith, split)

-- Lists of tiles that are filled row by row.
use Rattle.std.proofs.Common.{◌≡◌, ℕ, ◌+◌, ◌*◌, ◌<◌, inl, inr, List, [], ◌∷◌, ◌++◌, length, get_or, sym, ◌∙◌, arith}
use Rattle.std.proofs.lemmas.List.{get_or_push, get_or_append_left, length_push}
use Rattle.std.proofs.lemmas.Nat.{same_from_place}
use Rattle.std.proofs.lemmas.Bool.{cases_eq}

-- There are so many tiles, and each is as asked of its row and column.
pub record IsFilled (cols n : ℕ) (Is : ℕ → ℕ → ℕ → Type 0) (tiles : List ℕ) : Type 0 where
  pub size : length tiles ≡ n
  pub each : (row col : ℕ) → col < cols → row * cols + col < n → Is row col (get_or tiles (row * cols + col) 0)

pub fill_none : (cols : ℕ) (Is : ℕ → ℕ → ℕ → Type 0) → IsFilled cols 0 Is []
fill_none cols Is = record { size = omega arith; each = λ row col small before. absurd (omega arith) }

pub fill_more : (cols n : ℕ) (Is : ℕ → ℕ → ℕ → Type 0) (tiles : List ℕ) (row col tile : ℕ) → row * cols + col ≡ n → col < cols → Is row col tile
    → IsFilled cols n Is tiles → IsFilled cols (n + 1) Is (tiles ++ tile ∷ [])
fill_more cols n Is tiles row col tile e small is filled = record {
  size = let s = length_push tiles tile in let f = filled.size in omega arith;
  each = λ r c below before. elim (cases_eq (r * cols + c) n) [
    | inl same ↦
        let place = same_from_place r c row col cols below small (same ∙ sym e) in
        let last : get_or (tiles ++ tile ∷ []) (r * cols + c) 0 ≡ tile = get_or_push tiles tile 0 (r * cols + c) (filled.size ∙ sym same) in
        rw (last, place.0, place.1) is
    | inr other ↦
        let lower : r * cols + c < n = omega arith in
        let within : r * cols + c < length tiles = rw filled.size lower in
        rw (get_or_append_left tiles (tile ∷ []) 0 (r * cols + c) within) (filled.each r c below lower)
  ];
}

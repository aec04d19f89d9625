-- The tiles of a plan, row by row.
use Rattle.std.proofs.Common.{◌≡◌, ℕ, zero, suc, ◌+◌, ◌≤◌, List, [], ◌∷◌, ◌++◌, map, append_assoc, sym, ap, ◌∙◌, add-one, arith}
use Rattle.std.specs.Prelude.{flat_map}
use Rattle.std.specs.List.{range_with_len}
use Rattle.std.proofs.lemmas.List.{append-nil}
use Rattle.std.proofs.lemmas.List.FromFn.{map-range_with_len_more}
use Rattle.stick_grid.specs.Plans.{Plan, IsPlan, plan_of}
use Rattle.stick_grid.specs.Tilings.{Tiling, IsTiling}
use Rattle.stick_grid.specs.Windows.{tiling_of, HaveSameTiles, PlansAreTilings}

-- a list with one more of the tiles
pub tiles_more : (f : ℕ → ℕ) (old tiles : List ℕ) (n t : ℕ) → tiles ≡ old ++ map f (range_with_len 0 n) → t ≡ f n
    → tiles ++ t ∷ [] ≡ old ++ map f (range_with_len 0 (n + 1))
tiles_more f old tiles n t e h =
    let here : 0 + n ≡ n = omega arith in
    ap (λ l. l ++ t ∷ []) e ∙ append_assoc old (map f (range_with_len 0 n)) (t ∷ [])
    ∙ ap (λ (x : ℕ). old ++ (map f (range_with_len 0 n) ++ x ∷ [])) h ∙ ap (λ l. old ++ l) (sym (map-range_with_len_more f 0 n n here))

flat_more : (f : ℕ → List ℕ) (a n j : ℕ) → a + n ≡ j → flat_map f (range_with_len a (suc n)) ≡ flat_map f (range_with_len a n) ++ f j
flat_more f a zero j e = let h : a ≡ j = omega arith in append-nil (f a) ∙ ap f h
flat_more f a (suc n) j e =
    ap (λ l. f a ++ l) (flat_more f (a + 1) n j (omega arith)) ∙ sym (append_assoc (f a) (flat_map f (range_with_len (a + 1) n)) (f j))

-- one row more
pub rows_more : (f : ℕ → List ℕ) (old tiles : List ℕ) (n : ℕ) → old ≡ flat_map f (range_with_len 0 n) → tiles ≡ old ++ f n
    → tiles ≡ flat_map f (range_with_len 0 (n + 1))
rows_more f old tiles n e h =
    let here : 0 + n ≡ n = omega arith in
    h ∙ ap (λ l. l ++ f n) e ∙ sym (flat_more f 0 n n here) ∙ ap (λ (k : ℕ). flat_map f (range_with_len 0 k)) (sym (add-one n))

pub tiling_is : (plan : Plan) (rows cols : ℕ) (tiles : List ℕ) → rows ≡ plan.rows → cols ≡ plan.cols → tiles ≡ (tiling_of plan).tiles
    → ◌≡◌ {A = Tiling} (record { rows = rows; cols = cols; tiles = tiles }) (tiling_of plan)
tiling_is plan rows cols tiles row_count col_count are = λ i. record { rows = row_count i; cols = col_count i; tiles = are i }

pub block_tiling : PlansAreTilings → (plan : Plan) → IsPlan plan → (side : ℕ) → side ≡ plan.rows → side ≡ plan.cols → 1 ≤ side → side ≤ 700
    → IsTiling (tiling_of plan) × HaveSameTiles plan (plan_of (tiling_of plan))
block_tiling tilings plan is side rows cols some few =
    tilings plan is (omega (arith, rows, some)) (omega (arith, rows, few)) (omega (arith, cols, some)) (omega (arith, cols, few))

-- Lines that run straight from place to place, and how they cross the borders between places. A place is a row, counted
-- from the north, and a column, counted from the west.
use Rattle.std.specs.Prelude.{ℕ, ◌+◌, ◌≤◌, Bool, true, not, ◌&&◌, ◌||◌, ◌==◌, nat_lt, cond, min, max, List, [], ◌∷◌}

abbrev pub BlockPlace : Type 0
BlockPlace = ℕ × ℕ

abbrev pub row_of : BlockPlace → ℕ
row_of p = p.0

abbrev pub col_of : BlockPlace → ℕ
col_of p = p.1

-- the border before number a lies between numbers x and y: one of them is before it and the other is not
abbrev pub separates : ℕ → ℕ → ℕ → Bool
separates x y a = cond (nat_lt x a) (not (nat_lt y a)) (nat_lt y a)

-- how often a stretch from p to q, on the line with number x, crosses the border before number a: once or never
abbrev pub stretch_crossings : (BlockPlace → ℕ) → (BlockPlace → ℕ) → BlockPlace → BlockPlace → ℕ → ℕ → ℕ
stretch_crossings along across p q a x = cond (across p == x && (across q == x && separates (along p) (along q) a)) 1 0

-- how often a line from p crosses that border
abbrev pub crossings : (BlockPlace → ℕ) → (BlockPlace → ℕ) → BlockPlace → List BlockPlace → ℕ → ℕ → ℕ
crossings along across p [] a x = 0
crossings along across p (q ∷ rest) a x = stretch_crossings along across p q a x + crossings along across q rest a x

-- how often the line from p crosses the north border of the place in row r and column c, and its west border
abbrev pub norths : BlockPlace → List BlockPlace → ℕ → ℕ → ℕ
norths p rest r c = crossings row_of col_of p rest r c

abbrev pub wests : BlockPlace → List BlockPlace → ℕ → ℕ → ℕ
wests p rest r c = crossings col_of row_of p rest c r

-- each stretch keeps to a row or to a column
abbrev pub is_straight : BlockPlace → List BlockPlace → Bool
is_straight p [] = true
is_straight p (q ∷ rest) = (row_of p == row_of q || col_of p == col_of q) && is_straight q rest

-- the place lies on the straight stretch from p to q, both included
abbrev pub IsOnStretch : BlockPlace → BlockPlace → ℕ → ℕ → Type 0
IsOnStretch p q r c = (min (row_of p) (row_of q) ≤ r) × (r ≤ max (row_of p) (row_of q)) × (min (col_of p) (col_of q) ≤ c) × (c ≤ max
    (col_of p) (col_of q))

-- Marks at the borders that edges cross.
use Rattle.std.proofs.Common.{◌≡◌, ◌≢◌, ℕ, zero, suc, ◌+◌, ◌*◌, ◌<◌, ◌≤◌, Bool, true, false, cond, ◌&&◌, ◌||◌, ◌==◌, nat_lt, nat_le, min, max, inl, inr, ◌⊎◌, Some, List, [], ◌∷◌, ◌++◌, length, get_or, take, drop, map, append_assoc, add-one, refl, sym, ap, subst, ◌∙◌, arith, eq-eqb}
use Rattle.std.specs.Prelude.{slice_get, slice_set, flat_map}
use Rattle.std.specs.List.{list_any, range_with_len}
use Rattle.std.specs.Option.{option_map_or}
use Rattle.std.proofs.lemmas.Bool.{cases_lt, cases_eq, lt-ltb, le-ltb, le-leb, lt-leb, ne_eqb}
use Rattle.std.proofs.lemmas.Nat.{same_from_place, mul-le}
use Rattle.std.proofs.lemmas.List.{length-append, append-nil}
use Rattle.std.proofs.lemmas.List.FromFn.{length-map-range_with_len, get_or-map-range_with_len}
use Rattle.std.proofs.lemmas.Option.{slice_get-get_or}
use Rattle.block_grid.specs.declared.kind.BlockKind.{BlockKind}
use Rattle.block_grid.specs.declared.standing.Standing.{Standing}
use Rattle.block_grid.specs.Sheets.{node_kind, node_on}
use Rattle.block_grid.specs.Lines.{BlockPlace, row_of, col_of, separates, stretch_crossings, crossings}
use Rattle.block_grid.specs.Raster.{AddsMarks, is_met}

-- ---- lists

pub get_same : {X : Type 0} (xs : List X) (i : ℕ) (x : X) → i < length xs → slice_get (slice_set xs i x) i ≡ Some x
get_same [] i x below = absurd (omega arith)
get_same (y ∷ ys) zero x below = refl
get_same (y ∷ ys) (suc i) x below = get_same ys i x (omega (arith, below))

pub get_other : {X : Type 0} (xs : List X) (i j : ℕ) (x : X) → i ≢ j → slice_get (slice_set xs i x) j ≡ slice_get xs j
get_other [] i j x ne = refl
get_other (y ∷ ys) zero zero x ne = absurd (ne refl)
get_other (y ∷ ys) zero (suc j) x ne = refl
get_other (y ∷ ys) (suc i) zero x ne = refl
get_other (y ∷ ys) (suc i) (suc j) x ne = get_other ys i j x (λ e. ne (ap suc e))

-- ---- tests

or_assoc : (a b c : Bool) → ((a || b) || c) ≡ (a || (b || c))
or_assoc true b c = refl
or_assoc false b c = refl

or_false : (a : Bool) → (a || false) ≡ a
or_false true = refl
or_false false = refl

or_true : (a : Bool) → (a || true) ≡ true
or_true true = refl
or_true false = refl

-- the borders between two numbers, by the lower and the higher one
abbrev pub between : ℕ → ℕ → ℕ → Bool
between low high line = nat_lt low line && nat_le line high

pub met_between : (x y line : ℕ) → separates x y line ≡ between (min x y) (max x y) line
met_between x y line = elim (cases_lt x line) [
  | inl below ↦ elim (cases_lt y line) [
    | inl also ↦ rw (lt-ltb x line below, lt-ltb y line also, lt-leb line (max x y) (omega arith)) (and_no (nat_lt (min x y) line))
    | inr other ↦ rw (lt-ltb x line below, le-ltb y line other, lt-ltb (min x y) line (omega arith), le-leb line (max x y) (omega arith)) refl
  ]
  | inr above ↦ elim (cases_lt y line) [
    | inl also ↦ rw (le-ltb x line above, lt-ltb y line also, lt-ltb (min x y) line (omega arith), le-leb line (max x y) (omega arith)) refl
    | inr other ↦ rw (le-ltb x line above, le-ltb y line other, le-ltb (min x y) line (omega arith)) refl
  ]
]
  where
    and_no : (b : Bool) → false ≡ (b && false)
    and_no true = refl
    and_no false = refl

-- a border of a stretch along a column
pub met_here : (p q : BlockPlace) (line at : ℕ) → col_of p ≡ col_of q
    → is_met p q line at ≡ ((col_of p == at) && between (min (row_of p) (row_of q)) (max (row_of p) (row_of q)) line)
met_here p q line at same = elim (cases_eq (col_of p) at) [
  | inl here ↦ rw (eq-eqb (col_of p) at here, eq-eqb (col_of q) at (sym same ∙ here)) (by (separates (row_of p) (row_of q) line) ∙ met_between (row_of p) (row_of q) line)
  | inr ne ↦ rw (ne_eqb (col_of p) at ne) refl
]
  where
    by : (b : Bool) → nat_lt 0 (cond b 1 0) ≡ b
    by true = refl
    by false = refl

pub not_met : (p q : BlockPlace) (line at : ℕ) → (col_of p ≡ col_of q → ⊥) → is_met p q line at ≡ false
not_met p q line at differ = elim (cases_eq (col_of p) at) [
  | inl here ↦ rw (eq-eqb (col_of p) at here, ne_eqb (col_of q) at (λ e. differ (here ∙ sym e))) refl
  | inr ne ↦ rw (ne_eqb (col_of p) at ne) refl
]

-- ---- steps

-- so far the borders up to a line are marked
abbrev pub so_far : ℕ → ℕ → ℕ → ℕ → ℕ → Bool
so_far col low row line at = (col == at) && between low row line

pub nothing_so_far : (width : ℕ) (marks : List Bool) (col low : ℕ) → AddsMarks width marks marks (so_far col low low)
nothing_so_far width marks col low line at b below is = is ∙ ap Some (sym (none b))
  where
    empty : between low low line ≡ false
    empty = elim (cases_lt low line) [
      | inl less ↦ rw (lt-ltb low line less, lt-leb line low less) refl
      | inr high ↦ rw (le-ltb low line high) refl
    ]

    and_no : (t : Bool) → (t && false) ≡ false
    and_no true = refl
    and_no false = refl

    none : (b : Bool) → (b || so_far col low low line at) ≡ b
    none b = ap (λ (t : Bool). b || ((col == at) && t)) empty ∙ ap (λ (t : Bool). b || t) (and_no (col == at)) ∙ or_false b

pub mark_more : (width : ℕ) (old now : List Bool) (col low row : ℕ) → col < width → low ≤ row → (row + 1) * width + col < length now
    → AddsMarks width old now (so_far col low row) → AddsMarks width old (slice_set now ((row + 1) * width + col) true) (so_far col low (row + 1))
mark_more width old now col low row is_col high within h line at b below is = elim (cases_eq col at) [
  | inl here ↦ elim (cases_eq line (row + 1)) [
    | inl same ↦
        let place : (row + 1) * width + col ≡ line * width + at = ap (λ (n : ℕ). n * width + col) (sym same) ∙ ap (λ (n : ℕ). line * width + n) here in
        ap (slice_get (slice_set now ((row + 1) * width + col) true)) (sym place) ∙ get_same now ((row + 1) * width + col) true within
        ∙ ap Some (sym (rw (eq-eqb col at here, lt-ltb low line (omega (arith, same, high)), le-leb line (row + 1) (omega (arith, same))) (or_true b)))
    | inr ne ↦
        get_other now ((row + 1) * width + col) (line * width + at) true (λ e. ne (sym (same_from_place (row + 1) col line at width is_col below e).0))
        ∙ h line at b below is ∙ ap Some (ap (λ (t : Bool). b || ((col == at) && (nat_lt low line && t))) (more (cases_lt line (row + 1)) ne))
  ]
  | inr ne ↦
      get_other now ((row + 1) * width + col) (line * width + at) true (λ e. ne (same_from_place (row + 1) col line at width is_col below e).1)
      ∙ h line at b below is ∙ ap Some (rw (ne_eqb col at ne) refl)
]
  where
    more : (line < row + 1) ⊎ (row + 1 ≤ line) → (line ≡ row + 1 → ⊥) → nat_le line row ≡ nat_le line (row + 1)
    more (inl less) ne = rw (le-leb line row (omega (arith, less)), le-leb line (row + 1) (omega (arith, less))) refl
    more (inr low) ne = rw (lt-leb line row (omega (arith, low)), lt-leb line (row + 1) (omega (arith, low, ne))) refl

-- ---- whole edges

-- what is marked so far and what is still to be marked is what was marked and what the edge crosses
abbrev pub IsLeft : ℕ → List Bool → List Bool → (ℕ → ℕ → Bool) → (ℕ → ℕ → Bool) → Type 0
IsLeft width old now rest all =
    (line at : ℕ) (b : Bool) → at < width → slice_get old (line * width + at) ≡ Some b
    → (m : Bool) × (slice_get now (line * width + at) ≡ Some m) × ((m || rest line at) ≡ (b || all line at))

pub all_left : (width : ℕ) (old : List Bool) (all : ℕ → ℕ → Bool) → IsLeft width old old all all
all_left width old all line at b below is = (b, is, refl)

or_sum : (a b : ℕ) → nat_lt 0 (a + b) ≡ (nat_lt 0 a || nat_lt 0 b)
or_sum a b = elim (cases_lt 0 a) [
  | inl some ↦ rw (lt-ltb 0 a some, lt-ltb 0 (a + b) (omega (arith, some))) refl
  | inr none ↦ let e : a + b ≡ b = omega (arith, none) in rw (e, le-ltb 0 a none) refl
]

pub one_less : (width : ℕ) (old now later : List Bool) (met rest whole all : ℕ → ℕ → Bool) → IsLeft width old now whole all
    → ((line at : ℕ) → whole line at ≡ (met line at || rest line at)) → AddsMarks width now later met → IsLeft width old later rest all
one_less width old now later met rest whole all left split adds line at b below is =
    let k = left line at b below is in
    (k.0 || met line at, adds line at k.0 below k.1, or_assoc k.0 (met line at) (rest line at) ∙ ap (λ (t : Bool). k.0 || t) (sym (split line at)) ∙ k.2)

pub none_left : (width : ℕ) (old now later : List Bool) (met whole all : ℕ → ℕ → Bool) → IsLeft width old now whole all
    → ((line at : ℕ) → whole line at ≡ met line at) → AddsMarks width now later met → AddsMarks width old later all
none_left width old now later met whole all left is_whole adds line at b below is =
    let k = left line at b below is in
    adds line at k.0 below k.1 ∙ ap Some (ap (λ (t : Bool). k.0 || t) (sym (is_whole line at)) ∙ k.2)

-- the crossings of a line, of its first stretch and of the rest
module _ (along across : BlockPlace → ℕ) where
  first_stretch : (p q : BlockPlace) (rest : List BlockPlace) (line at : ℕ)
      → nat_lt 0 (crossings along across p (q ∷ rest) line at)
      ≡ (nat_lt 0 (stretch_crossings along across p q line at) || nat_lt 0 (crossings along across q rest line at))
  first_stretch p q rest line at = or_sum (stretch_crossings along across p q line at) (crossings along across q rest line at)

  last_stretch : (p q : BlockPlace) (line at : ℕ) → nat_lt 0 (crossings along across p (q ∷ []) line at) ≡ nat_lt 0 (stretch_crossings along across p q line at)
  last_stretch p q line at = first_stretch p q [] line at ∙ or_false (nat_lt 0 (stretch_crossings along across p q line at))

  drop_next : (xs : List BlockPlace) (i : ℕ) (d : BlockPlace) → i < length xs → drop i xs ≡ get_or xs i d ∷ drop (i + 1) xs
  drop_next [] i d below = absurd (omega arith)
  drop_next (x ∷ xs) zero d below = refl
  drop_next (x ∷ xs) (suc i) d below =
      drop_next xs i d (omega (arith, below)) ∙ ap (λ (n : ℕ). get_or xs i d ∷ drop n (x ∷ xs)) (let e : suc (i + 1) ≡ suc i + 1 = omega arith in e)

  drop_all : (xs : List BlockPlace) (i : ℕ) → length xs ≤ i → drop i xs ≡ []
  drop_all [] zero low = refl
  drop_all [] (suc i) low = refl
  drop_all (x ∷ xs) zero low = absurd (omega arith)
  drop_all (x ∷ xs) (suc i) low = drop_all xs i (omega (arith, low))

  pub next_stretch : (here : BlockPlace) (items rest : List BlockPlace) (i : ℕ) (d : BlockPlace) → i < length items → (line at : ℕ)
      → nat_lt 0 (crossings along across here (drop i items ++ rest) line at)
      ≡ (nat_lt 0 (stretch_crossings along across here (get_or items i d) line at)
      || nat_lt 0 (crossings along across (get_or items i d) (drop (i + 1) items ++ rest) line at))
  next_stretch here items rest i d below line at =
      ap (λ l. nat_lt 0 (crossings along across here (l ++ rest) line at)) (drop_next items i d below)
      ∙ first_stretch here (get_or items i d) (drop (i + 1) items ++ rest) line at

  pub end_stretch : (here : BlockPlace) (items : List BlockPlace) (end : BlockPlace) (i : ℕ) → length items ≤ i → (line at : ℕ)
      → nat_lt 0 (crossings along across here (drop i items ++ end ∷ []) line at) ≡ nat_lt 0 (stretch_crossings along across here end line at)
  end_stretch here items end i low line at =
      ap (λ l. nat_lt 0 (crossings along across here (l ++ end ∷ []) line at)) (drop_all items i low) ∙ last_stretch here end line at

-- ---- places

pub index_in : (width long row high col : ℕ) → row < high → (high + 1) * width ≤ long → col < width → (row + 1) * width + col < long
index_in width long row high col below fits inner =
    let most = mul-le (row + 2) width (high + 1) width (omega (arith, below)) (omega arith) in
    let split : (row + 2) * width ≡ (row + 1) * width + width = grind arith in
    omega (arith, most, split, fits, inner)

pub line_fits : (width lines row : ℕ) → row < lines → (row + 1) * width ≤ lines * width
line_fits width lines row below = mul-le (row + 1) width lines width (omega (arith, below)) (omega arith)

pub higher : (width long x y : ℕ) → (x + 1) * width ≤ long → (y + 1) * width ≤ long → (max x y + 1) * width ≤ long
higher width long x y one other = elim (cases_lt x y) [
  | inl less ↦ let e : max x y ≡ y = omega (arith, less) in subst (λ (n : ℕ). (n + 1) * width ≤ long) (sym e) other
  | inr low ↦ let e : max x y ≡ x = omega (arith, low) in subst (λ (n : ℕ). (n + 1) * width ≤ long) (sym e) one
]

-- one more of some
pub any_more : {X : Type 0} (p : X → Bool) (xs : List X) (i : ℕ) (d : X) → i < length xs → list_any p (take (i + 1) xs) ≡ (list_any p (take i xs) || p (get_or xs i d))
any_more p [] i d below = absurd (omega arith)
any_more p (x ∷ xs) zero d below = or_false (p x)
any_more p (x ∷ xs) (suc i) d below =
    ap (λ (n : ℕ). list_any p (take n (x ∷ xs))) (let e : suc i + 1 ≡ suc (i + 1) = omega arith in e)
    ∙ ap (λ (t : Bool). p x || t) (any_more p xs i d (omega (arith, below))) ∙ sym (or_assoc (p x) (list_any p (take i xs)) (p (get_or xs i d)))

-- ---- rows

get_first : {X : Type 0} (xs ys : List X) (k : ℕ) → k < length xs → slice_get (xs ++ ys) k ≡ slice_get xs k
get_first [] ys k below = absurd (omega arith)
get_first (x ∷ xs) ys zero below = refl
get_first (x ∷ xs) ys (suc k) below = get_first xs ys k (omega (arith, below))

get_second : {X : Type 0} (xs ys : List X) (n k : ℕ) → n ≡ length xs → slice_get (xs ++ ys) (n + k) ≡ slice_get ys k
get_second [] ys n k e = ap (slice_get ys) (omega (arith, e))
get_second (x ∷ xs) ys zero k e = absurd (omega (arith, e))
get_second (x ∷ xs) ys (suc n) k e = ap (slice_get (x ∷ xs ++ ys)) (let s : suc n + k ≡ suc (n + k) = omega arith in s) ∙ get_second xs ys n k (omega (arith, e))

module _ {X : Type 0} (f : ℕ → ℕ → X) (cols : ℕ) where
  abbrev row_of_all : ℕ → List X
  row_of_all row = map (f row) (range_with_len 0 cols)

  pub rows_long : (a n : ℕ) → length (flat_map row_of_all (range_with_len a n)) ≡ n * cols
  rows_long a zero = let e : 0 * cols ≡ 0 = omega arith in sym e
  rows_long a (suc n) =
      let one = length-map-range_with_len (f a) 0 cols in
      let rest = rows_long (a + 1) n in
      let long = length-append (row_of_all a) (flat_map row_of_all (range_with_len (a + 1) n)) in
      let split : suc n * cols ≡ cols + n * cols = grind arith in
      omega (arith, one, rest, long, split)

  pub rows_get : (a n r c : ℕ) → r < n → c < cols → slice_get (flat_map row_of_all (range_with_len a n)) (r * cols + c) ≡ Some (f (a + r) c)
  rows_get a zero r c below inner = absurd (omega (arith, below))
  rows_get a (suc n) zero c below inner =
      let one = length-map-range_with_len (f a) 0 cols in
      let at : 0 * cols + c ≡ c = omega arith in
      let here : a ≡ a + 0 = omega arith in
      ap (slice_get (row_of_all a ++ flat_map row_of_all (range_with_len (a + 1) n))) at
      ∙ get_first (row_of_all a) (flat_map row_of_all (range_with_len (a + 1) n)) c (omega (arith, one, inner))
      ∙ slice_get-get_or (row_of_all a) c (f a c) (omega (arith, one, inner))
      ∙ ap Some (get_or-map-range_with_len (f a) 0 cols c c (f a c) inner (omega arith) ∙ ap (λ (n : ℕ). f n c) here)
  rows_get a (suc n) (suc r) c below inner =
      let one = length-map-range_with_len (f a) 0 cols in
      let at : suc r * cols + c ≡ cols + (r * cols + c) = grind arith in
      let here : a + 1 + r ≡ a + suc r = omega arith in
      ap (slice_get (row_of_all a ++ flat_map row_of_all (range_with_len (a + 1) n))) at
      ∙ get_second (row_of_all a) (flat_map row_of_all (range_with_len (a + 1) n)) cols (r * cols + c) (sym one)
      ∙ rows_get (a + 1) n r c (omega (arith, below)) inner ∙ ap (λ (n : ℕ). Some (f n c)) here

  pub row_more : (n : ℕ) → flat_map row_of_all (range_with_len 0 (n + 1)) ≡ flat_map row_of_all (range_with_len 0 n) ++ row_of_all n
  row_more n = ap (λ (k : ℕ). flat_map row_of_all (range_with_len 0 k)) (add-one n) ∙ from 0 n n (omega arith)
    where
      from : (a n j : ℕ) → a + n ≡ j → flat_map row_of_all (range_with_len a (suc n)) ≡ flat_map row_of_all (range_with_len a n) ++ row_of_all j
      from a zero j e = let h : a ≡ j = omega (arith, e) in append-nil (row_of_all a) ∙ ap row_of_all h
      from a (suc n) j e =
          ap (λ l. row_of_all a ++ l) (from (a + 1) n j (omega (arith, e)))
          ∙ sym (append_assoc (row_of_all a) (flat_map row_of_all (range_with_len (a + 1) n)) (row_of_all j))

-- ---- nodes

abbrev pub put_at : List Standing → ℕ → ℕ → BlockKind → BlockKind
put_at nodes r c k = option_map_or node_kind (node_on nodes r c) k

pub put_one : (cols : ℕ) (old now : List BlockKind) (node : Standing) (nodes : List Standing) → node.col < cols → node.row * cols + node.col < length now
    → ((r c : ℕ) (k : BlockKind) → c < cols → slice_get old (r * cols + c) ≡ Some k → slice_get now (r * cols + c) ≡ Some (put_at nodes r c k))
    → (r c : ℕ) (k : BlockKind) → c < cols → slice_get old (r * cols + c) ≡ Some k
    → slice_get (slice_set now (node.row * cols + node.col) (node_kind node)) (r * cols + c) ≡ Some (put_at (node ∷ nodes) r c k)
put_one cols old now node nodes inner within h r c k is_col is = elim (cases_eq node.row r) [
  | inl rows ↦ elim (cases_eq node.col c) [
    | inl columns ↦
        let place : node.row * cols + node.col ≡ r * cols + c = ap (λ (n : ℕ). n * cols + node.col) rows ∙ ap (λ (n : ℕ). r * cols + n) columns in
        ap (slice_get (slice_set now (node.row * cols + node.col) (node_kind node))) (sym place)
        ∙ get_same now (node.row * cols + node.col) (node_kind node) within ∙ ap Some (rw (eq-eqb node.row r rows, eq-eqb node.col c columns) refl)
    | inr ne ↦
        get_other now (node.row * cols + node.col) (r * cols + c) (node_kind node) (λ e. ne (same_from_place node.row node.col r c cols inner is_col e).1)
        ∙ h r c k is_col is ∙ ap Some (rw (ne_eqb node.col c ne) (both (node.row == r)))
  ]
  | inr ne ↦
      get_other now (node.row * cols + node.col) (r * cols + c) (node_kind node) (λ e. ne (same_from_place node.row node.col r c cols inner is_col e).0)
      ∙ h r c k is_col is ∙ ap Some (rw (ne_eqb node.row r ne) refl)
]
  where
    both : (t : Bool) → put_at nodes r c k ≡ option_map_or node_kind (cond (t && false) (Some node) (node_on nodes r c)) k
    both true = refl
    both false = refl

pub nodes_next : (xs : List Standing) (i : ℕ) (d : Standing) → i < length xs → drop i xs ≡ get_or xs i d ∷ drop (i + 1) xs
nodes_next [] i d below = absurd (omega arith)
nodes_next (x ∷ xs) zero d below = refl
nodes_next (x ∷ xs) (suc i) d below =
    nodes_next xs i d (omega (arith, below)) ∙ ap (λ (n : ℕ). get_or xs i d ∷ drop n (x ∷ xs)) (let e : suc (i + 1) ≡ suc i + 1 = omega arith in e)

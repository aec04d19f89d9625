-- Places to which nothing of a sheet comes.
use Rattle.std.proofs.Common.{◌≡◌, ℕ, ◌+◌, ◌<◌, ◌≤◌, Bool, true, false, nat_lt, nat_eq, cond, ◌&&◌, None, List, [], ◌∷◌, get_or, All, refl, arith}
use Rattle.std.specs.List.{find}
use Rattle.std.proofs.lemmas.Bool.{lt-ltb}
use Rattle.std.proofs.lemmas.Bool.Decides.{nat_tests}
use Rattle.std.proofs.lemmas.List.Elements.{All-head, All-tail, All-cons, All-push, All-map}
use Rattle.block_grid.specs.Lines.{BlockPlace, row_of, col_of, crossings, stretch_crossings}
use Rattle.block_grid.specs.Sheets.{DrawnEdge, line_of, north_of, west_of, sides_of, Sheet, node_on, IsOnSheet, IsDrawn, IsSheet}
use Rattle.block_grid.specs.Changes.{rows_shifted, cols_shifted, edge_moved, with_rows, with_cols}
use Rattle.block_grid.proofs.Inside.{starts_inside, finishes_inside}
use Rattle.block_grid.proofs.Moves.{IsUpright, IsLevelled, node_on_none}
use Rattle.block_grid.proofs.Inserted.{rows_new, cols_new}
use Rattle.block_grid.proofs.Shifts.{on_new}

-- no edge comes to the place, and no node stands there
pub record Away (s : Sheet) (r c : ℕ) : Type 0 where
  pub edges : All (λ e. sides_of e r c ≡ 0) s.edges
  pub nodes : node_on s.nodes r c ≡ None

-- a line before a border does not cross it
crossings_before : (f g : BlockPlace → ℕ) (a x : ℕ) (p : BlockPlace) (rest : List BlockPlace) → All (λ q. f q < a) (p ∷ rest) →
    crossings f g p rest a x ≡ 0
crossings_before f g a x p [] all = refl
crossings_before f g a x p (q ∷ rest) all =
    let tail : All (λ q. f q < a) (q ∷ rest) = All-tail (λ q. f q < a) p (q ∷ rest) all in
    rw (
      stretch_before f g a x p q (All-head (λ q. f q < a) p (q ∷ rest) all) (All-head (λ q. f q < a) q rest tail),
      crossings_before f g a x q rest tail,
    ) refl
  where
    off : (m n : Bool) → ◌≡◌ {A = ℕ} (cond (m && (n && false)) 1 0) 0
    off true true = refl
    off true false = refl
    off false n = refl

    stretch_before : (f g : BlockPlace → ℕ) (a x : ℕ) (p q : BlockPlace) → f p < a → f q < a → stretch_crossings f g p q a x ≡ 0
    stretch_before f g a x p q hp hq = rw (lt-ltb (f p) a hp, lt-ltb (f q) a hq) (off (nat_eq (g p) x) (nat_eq (g q) x))

-- a line that has no place on the line with number x crosses no border of it
crossings_off : (f g : BlockPlace → ℕ) (a x : ℕ) (p : BlockPlace) (rest : List BlockPlace) → All (λ q. nat_eq (g q) x ≡ false) (p ∷ rest) →
    crossings f g p rest a x ≡ 0
crossings_off f g a x p [] all = refl
crossings_off f g a x p (q ∷ rest) all = rw (
  All-head (λ q. nat_eq (g q) x ≡ false) p (q ∷ rest) all,
  crossings_off f g a x q rest (All-tail (λ q. nat_eq (g q) x ≡ false) p (q ∷ rest) all),
) refl

-- no line crosses the rim
pub crossings_rim : (f g : BlockPlace → ℕ) (x : ℕ) (p : BlockPlace) (rest : List BlockPlace) → crossings f g p rest 0 x ≡ 0
crossings_rim f g x p [] = refl
crossings_rim f g x p (q ∷ rest) = rw (stretch_rim f g x p q, crossings_rim f g x q rest) refl
  where
    never : (n : ℕ) → nat_lt n 0 ≡ false
    never n = grind (arith, nat_tests)

    off : (m n : Bool) → ◌≡◌ {A = ℕ} (cond (m && (n && false)) 1 0) 0
    off true true = refl
    off true false = refl
    off false n = refl

    stretch_rim : (f g : BlockPlace → ℕ) (x : ℕ) (p q : BlockPlace) → stretch_crossings f g p q 0 x ≡ 0
    stretch_rim f g x p q = rw (never (f p), never (f q)) (off (nat_eq (g p) x) (nat_eq (g q) x))

find-all_fail : {A : Type 0} (p : A → Bool) (xs : List A) → All (λ x. p x ≡ false) xs → find p xs ≡ None
find-all_fail p [] all = refl
find-all_fail p (x ∷ xs) all = rw (All-head (λ x. p x ≡ false) x xs all) (find-all_fail p xs (All-tail (λ x. p x ≡ false) x xs all))

-- each place of an edge
edge_inside : (s : Sheet) (e : DrawnEdge) → IsSheet s → IsDrawn s e → All (IsOnSheet s) (e.start ∷ line_of e)
edge_inside s e sheet d = All-cons (IsOnSheet s) e.start (line_of e) (starts_inside s e sheet d) (All-push
    (IsOnSheet s) e.turns e.finish d.inside (finishes_inside s e sheet d))

less_differs : (m n : ℕ) → m < n → nat_eq m n ≡ false
less_differs m n h = grind (arith, nat_tests)

south_of_sheet : (s : Sheet) (e : DrawnEdge) → IsSheet s → IsDrawn s e → (r c : ℕ) → s.rows ≤ r → sides_of e r c ≡ 0
south_of_sheet s e sheet d r c far =
    let inside : All (IsOnSheet s) (e.start ∷ line_of e) = edge_inside s e sheet d in
    rw (
      crossings_before row_of col_of r c e.start (line_of e) (λ k p lt. let on : row_of (get_or (e.start ∷ line_of e) k p) < s.rows =
          (inside k p lt).0 in omega arith),
      crossings_before row_of col_of (r + 1) c e.start (line_of e) (λ k p lt. let on : row_of (get_or (e.start ∷ line_of e) k p) < s.rows =
          (inside k p lt).0 in omega arith),
      crossings_off col_of row_of c r e.start (line_of e) (λ k p lt. let on : row_of (get_or (e.start ∷ line_of e) k p) < s.rows =
          (inside k p lt).0 in less_differs _ _ (omega arith)),
      crossings_off col_of row_of (c + 1) r e.start (line_of e) (λ k p lt. let on : row_of (get_or (e.start ∷ line_of e) k p) < s.rows =
          (inside k p lt).0 in less_differs _ _ (omega arith)),
    )
    refl

east_of_sheet : (s : Sheet) (e : DrawnEdge) → IsSheet s → IsDrawn s e → (r c : ℕ) → s.cols ≤ c → sides_of e r c ≡ 0
east_of_sheet s e sheet d r c far =
    let inside : All (IsOnSheet s) (e.start ∷ line_of e) = edge_inside s e sheet d in
    rw (
      crossings_before col_of row_of c r e.start (line_of e) (λ k p lt. let on : col_of (get_or (e.start ∷ line_of e) k p) < s.cols =
          (inside k p lt).1 in omega arith),
      crossings_before col_of row_of (c + 1) r e.start (line_of e) (λ k p lt. let on : col_of (get_or (e.start ∷ line_of e) k p) < s.cols =
          (inside k p lt).1 in omega arith),
      crossings_off row_of col_of r c e.start (line_of e) (λ k p lt. let on : col_of (get_or (e.start ∷ line_of e) k p) < s.cols =
          (inside k p lt).1 in less_differs _ _ (omega arith)),
      crossings_off row_of col_of (r + 1) c e.start (line_of e) (λ k p lt. let on : col_of (get_or (e.start ∷ line_of e) k p) < s.cols =
          (inside k p lt).1 in less_differs _ _ (omega arith)),
    )
    refl

pub away_south : (s : Sheet) → IsSheet s → (r c : ℕ) → s.rows ≤ r → Away s r c
away_south s sheet r c far = record {
  edges = λ k e lt. south_of_sheet s _ sheet (sheet.drawn k e lt) r c far;
  nodes = find-all_fail (λ n. nat_eq n.row r && nat_eq n.col c) s.nodes (λ k n lt. let on : (get_or s.nodes k n).row < s.rows =
      (sheet.nodes_inside k n lt).0 in rw (less_differs (get_or s.nodes k n).row r (omega arith)) refl);
}

pub away_east : (s : Sheet) → IsSheet s → (r c : ℕ) → s.cols ≤ c → Away s r c
away_east s sheet r c far = record {
  edges = λ k e lt. east_of_sheet s _ sheet (sheet.drawn k e lt) r c far;
  nodes = find-all_fail (λ n. nat_eq n.row r && nat_eq n.col c) s.nodes (λ k n lt. let on : (get_or s.nodes k n).col < s.cols =
      (sheet.nodes_inside k n lt).1 in rw (less_differs (get_or s.nodes k n).col c (omega arith)) (no_second (nat_eq (get_or s.nodes k n).row r)));
}
  where
    no_second : (b : Bool) → (b && false) ≡ false
    no_second true = refl
    no_second false = refl

-- Rows and columns that come in at the front are empty.
pub away_rows : (s : Sheet) (by r c : ℕ) → r < by → Away (with_rows s 0 by) r c
away_rows s by r c low = record {
  edges = All-map (λ e. sides_of e r c ≡ 0) (edge_moved (rows_shifted 0 by)) s.edges (λ k e lt.
      let up : IsUpright (edge_moved (rows_shifted 0 by) (get_or s.edges k e)) r c (north_of (get_or s.edges k e) 0 c) = rows_new 0 by r c
      (omega arith) (omega arith) (get_or s.edges k e) in
      rw (up.north, up.south, up.west, up.east, crossings_rim row_of col_of c (get_or s.edges k e).start (line_of (get_or s.edges k e))) refl);
  nodes = node_on_none (rows_shifted 0 by) s.nodes r c (λ p. rw (on_new 0 by r (row_of p) (omega arith) (omega arith)) refl);
}

pub away_cols : (s : Sheet) (by r c : ℕ) → c < by → Away (with_cols s 0 by) r c
away_cols s by r c low = record {
  edges = All-map (λ e. sides_of e r c ≡ 0) (edge_moved (cols_shifted 0 by)) s.edges (λ k e lt.
      let along : IsLevelled (edge_moved (cols_shifted 0 by) (get_or s.edges k e)) r c (west_of (get_or s.edges k e) r 0) = cols_new 0 by r c
      (omega arith) (omega arith) (get_or s.edges k e) in
      rw (
        along.north,
        along.south,
        along.west,
        along.east,
        crossings_rim col_of row_of r (get_or s.edges k e).start (line_of (get_or s.edges k e)),
      ) refl);
  nodes = node_on_none (cols_shifted 0 by) s.nodes r c (λ p. rw (on_new 0 by c (col_of p) (omega arith) (omega arith)) (no_second (nat_eq
      (row_of p) r)));
}
  where
    no_second : (b : Bool) → (b && false) ≡ false
    no_second true = refl
    no_second false = refl

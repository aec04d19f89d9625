-- What stands in a square, which edges it has, and how many rows and columns.
use Rattle.std.proofs.Common.{◌≡◌, ◌∙◌, ℕ, zero, suc, ◌+◌, ◌*◌, ◌^◌, ◌≤◌, Bool, true, false, not, nat_eq, cond, List, [], ◌∷◌, ◌++◌, length, map, slice_get, flat_map, count_by, refl, sym, ap, arith, length-append, append_assoc}
use Rattle.std.specs.List.{range_with_len}
use Rattle.std.specs.Option.{option_map_or}
use Rattle.std.proofs.lemmas.List.{map-append, append-nil}
use Rattle.std.proofs.lemmas.List.Concat.{flat_map-append}
use Rattle.std.proofs.lemmas.List.Sums.{sum_by-append, sum_by-cons}
use Rattle.tree_layout.proofs.Recurrence.{most_lines}
use Rattle.block_grid.specs.declared.standing.Standing.{Standing}
use Rattle.block_grid.specs.Lines.{BlockPlace}
use Rattle.block_grid.specs.Sheets.{DrawnEdge, Sheet}
use Rattle.block_grid.specs.Changes.{node_moved, edge_moved, rows_shifted, cols_shifted, side_by_side}
use Rattle.channel_route.specs.Drawing.{drawn, ends_of, name_of}
use Rattle.tree_layout.specs.declared.numbered.Entry.{Entry}
use Rattle.tree_layout.specs.declared.links.Link.{Link}
use Rattle.tree_layout.specs.Numbered.{node_at}
use Rattle.tree_layout.specs.Squares.{with_link, with_links, links_out, links_between, four, square}
use Rattle.tree_layout.specs.Drawing.{IsOrdered}
use Rattle.tree_layout.proofs.FourPowers.{four_more}

-- what a number stands for in a sheet, and an edge by the names of its ends
abbrev pub names_at : List Entry → ℕ → List (ℕ × Bool)
names_at entries i = option_map_or (λ (e : Entry). (e.node, nat_eq i 0) ∷ []) (slice_get entries i) []

abbrev pub ends_by : List Entry → Link → ℕ × ℕ × Bool
ends_by entries l = (node_at entries l.parent, node_at entries l.child, l.heavy)

abbrev pub names_in : List Entry → ℕ → ℕ → List (ℕ × Bool)
names_in entries first n = flat_map (names_at entries) (range_with_len first n)

ends_moved : (h : BlockPlace → BlockPlace) (es : List DrawnEdge) → map ends_of (map (edge_moved h) es) ≡ map ends_of es
ends_moved h [] = refl
ends_moved h (e ∷ es) = ap (λ xs. ends_of e ∷ xs) (ends_moved h es)

names_moved : (h : BlockPlace → BlockPlace) (ns : List Standing) → map name_of (map (node_moved h) ns) ≡ map name_of ns
names_moved h [] = refl
names_moved h (n ∷ ns) = ap (λ xs. name_of n ∷ xs) (names_moved h ns)

pub range_split : (a m n : ℕ) → range_with_len a (m + n) ≡ range_with_len a m ++ range_with_len (a + m) n
range_split a zero n = let e : 0 + n ≡ n = omega arith in let f : a ≡ a + 0 = omega arith in ap (range_with_len a) e ∙ ap (λ x. range_with_len x n) f
range_split a (suc m) n =
    let e : suc m + n ≡ suc (m + n) = omega arith in
    let f : a + 1 + m ≡ a + suc m = omega arith in
    ap (range_with_len a) e ∙ ap (λ xs. a ∷ xs) (range_split (a + 1) m n) ∙ ap (λ x. a ∷ (range_with_len (a + 1) m ++ range_with_len x n)) f

pub names_split : (entries : List Entry) (a m n : ℕ) → names_in entries a (m + n) ≡ names_in entries a m ++ names_in entries (a + m) n
names_split entries a m n = ap (flat_map (names_at entries)) (range_split a m n) ∙ flat_map-append (names_at entries) (range_with_len a m) (range_with_len (a + m) n)

pub names_four : (entries : List Entry) (a q : ℕ) → names_in entries a (4 * q)
    ≡ (names_in entries a q ++ names_in entries (a + q) q) ++ (names_in entries (a + 2 * q) q ++ names_in entries (a + 3 * q) q)
names_four entries a q =
    let e : 4 * q ≡ (q + q) + (q + q) = omega arith in
    let f : a + (q + q) ≡ a + 2 * q = omega arith in
    let g : a + 2 * q + q ≡ a + 3 * q = omega arith in
    ap (names_in entries a) e ∙ names_split entries a (q + q) (q + q)
    ∙ ap (λ xs. xs ++ names_in entries (a + (q + q)) (q + q)) (names_split entries a q q)
    ∙ ap (λ n. (names_in entries a q ++ names_in entries (a + q) q) ++ names_in entries n (q + q)) f
    ∙ ap (λ xs. (names_in entries a q ++ names_in entries (a + q) q) ++ xs) (names_split entries (a + 2 * q) q q)
    ∙ ap (λ n. (names_in entries a q ++ names_in entries (a + q) q) ++ (names_in entries (a + 2 * q) q ++ names_in entries n q)) g

pub two_names : (x y : Sheet) → map name_of (side_by_side x y).nodes ≡ map name_of x.nodes ++ map name_of y.nodes
two_names x y = map-append name_of x.nodes (map (node_moved (cols_shifted 0 x.cols)) y.nodes) ∙ ap (λ xs. map name_of x.nodes ++ xs) (names_moved (cols_shifted 0 x.cols) y.nodes)

module _ (a b c d : Sheet) where
  pub four_names : map name_of (four a b c d).nodes ≡ (map name_of a.nodes ++ map name_of b.nodes) ++ (map name_of c.nodes ++ map name_of d.nodes)
  four_names =
      map-append name_of (side_by_side a b).nodes (map (node_moved (rows_shifted 0 (side_by_side a b).rows)) (side_by_side c d).nodes)
      ∙ ap (λ xs. map name_of (side_by_side a b).nodes ++ xs) (names_moved (rows_shifted 0 (side_by_side a b).rows) (side_by_side c d).nodes)
      ∙ ap (λ xs. xs ++ map name_of (side_by_side c d).nodes) (two_names a b) ∙ ap (λ xs. (map name_of a.nodes ++ map name_of b.nodes) ++ xs) (two_names c d)

  pub four_ends : map ends_of (four a b c d).edges ≡ (map ends_of a.edges ++ map ends_of b.edges) ++ (map ends_of c.edges ++ map ends_of d.edges)
  four_ends =
      map-append ends_of (side_by_side a b).edges (map (edge_moved (rows_shifted 0 (side_by_side a b).rows)) (side_by_side c d).edges)
      ∙ ap (λ xs. map ends_of (side_by_side a b).edges ++ xs) (ends_moved (rows_shifted 0 (side_by_side a b).rows) (side_by_side c d).edges)
      ∙ ap (λ xs. xs ++ map ends_of (side_by_side c d).edges) (two a b) ∙ ap (λ xs. (map ends_of a.edges ++ map ends_of b.edges) ++ xs) (two c d)
    where
      two : (x y : Sheet) → map ends_of (side_by_side x y).edges ≡ map ends_of x.edges ++ map ends_of y.edges
      two x y = map-append ends_of x.edges (map (edge_moved (cols_shifted 0 x.cols)) y.edges) ∙ ap (λ xs. map ends_of x.edges ++ xs) (ends_moved (cols_shifted 0 x.cols) y.edges)

  pub four_rows : (m : ℕ) → a.rows ≤ m → b.rows ≤ m → c.rows ≤ m → d.rows ≤ m → (four a b c d).rows ≤ 2 * m
  four_rows m p q r s = grind arith

  pub four_cols : (m : ℕ) → a.cols ≤ m → b.cols ≤ m → c.cols ≤ m → d.cols ≤ m → (four a b c d).cols ≤ 2 * m
  four_cols m p q r s = grind arith

-- what is known of drawn edges
pub record DrawingLaws : Type 0 where
  pub heavy_rows : (s : Sheet) (parent child : ℕ) → (drawn s parent child true).rows ≡ s.rows + 1
  pub light_rows : (s : Sheet) (parent child : ℕ) → (drawn s parent child false).rows ≡ s.rows + 2
  pub cols : (s : Sheet) (parent child : ℕ) (heavy : Bool) → (drawn s parent child heavy).cols ≡ s.cols + 1
  pub edges : (s : Sheet) (parent child : ℕ) (heavy : Bool) → map ends_of (drawn s parent child heavy).edges ≡ map ends_of s.edges ++ (parent, child, heavy) ∷ []
  pub nodes : (s : Sheet) (parent child : ℕ) (heavy : Bool) → map name_of (drawn s parent child heavy).nodes ≡ map name_of s.nodes

module _ (k : DrawingLaws) (entries : List Entry) where
  pub links_names : (s : Sheet) (ls : List Link) → map name_of (with_links entries s ls).nodes ≡ map name_of s.nodes
  links_names s [] = refl
  links_names s (l ∷ ls) = links_names (with_link entries s l) ls ∙ k.nodes s (node_at entries l.parent) (node_at entries l.child) l.heavy

  pub links_ends : (s : Sheet) (ls : List Link) → map ends_of (with_links entries s ls).edges ≡ map ends_of s.edges ++ map (ends_by entries) ls
  links_ends s [] = sym (append-nil (map ends_of s.edges))
  links_ends s (l ∷ ls) = links_ends (with_link entries s l) ls
      ∙ ap (λ xs. xs ++ map (ends_by entries) ls) (k.edges s (node_at entries l.parent) (node_at entries l.child) l.heavy)
      ∙ append_assoc (map ends_of s.edges) (ends_by entries l ∷ []) (map (ends_by entries) ls)

  one_rows : (s : Sheet) (parent child : ℕ) (heavy : Bool) → (drawn s parent child heavy).rows ≡ s.rows + 1 + cond (not heavy) 1 0
  one_rows s parent child true = omega (arith, k.heavy_rows s parent child)
  one_rows s parent child false = omega (arith, k.light_rows s parent child)

  pub links_rows : (s : Sheet) (ls : List Link) → (with_links entries s ls).rows ≡ s.rows + length ls + count_by (λ l. not l.heavy) ls
  links_rows s [] = omega arith
  links_rows s (l ∷ ls) = omega (
    arith,
    links_rows (with_link entries s l) ls,
    one_rows s (node_at entries l.parent) (node_at entries l.child) l.heavy,
    sum_by-cons (λ (m : Link). cond (not m.heavy) 1 0) l ls,
  )

  pub links_cols : (s : Sheet) (ls : List Link) → (with_links entries s ls).cols ≡ s.cols + length ls
  links_cols s [] = omega arith
  links_cols s (l ∷ ls) = omega (arith, links_cols (with_link entries s l) ls, k.cols s (node_at entries l.parent) (node_at entries l.child) l.heavy)

  -- few edges run between the quarters of a square
  module _ (o : IsOrdered entries) where
    pub few_between : (j first : ℕ) → length (links_between entries first (4 ^ j)) ≤ 6 * (j + 1)
    few_between j first =
        let q : ℕ = 4 ^ j in
        let e : 4 ^ (j + 1) ≡ 4 ^ j * 4 = four_more j in
        omega (
          arith,
          length-append (links_out entries first (first + 4 ^ j) (first + 4 * 4 ^ j))
              (links_out entries (first + 4 ^ j) (first + 2 * 4 ^ j) (first + 4 * 4 ^ j) ++ links_out entries (first + 2 * 4 ^ j) (first + 3 * 4 ^ j) (first + 4 * 4 ^ j)),
          length-append (links_out entries (first + 4 ^ j) (first + 2 * 4 ^ j) (first + 4 * 4 ^ j)) (links_out entries (first + 2 * 4 ^ j) (first + 3 * 4 ^ j) (first + 4 * 4 ^ j)),
          o.few_links (j + 1) first (first + 4 ^ j) (first + 4 * 4 ^ j) (omega arith) (omega (arith, e)),
          o.few_links (j + 1) (first + 4 ^ j) (first + 2 * 4 ^ j) (first + 4 * 4 ^ j) (omega arith) (omega (arith, e)),
          o.few_links (j + 1) (first + 2 * 4 ^ j) (first + 3 * 4 ^ j) (first + 4 * 4 ^ j) (omega arith) (omega (arith, e)),
        )

    pub light_between : (j first : ℕ) → count_by (λ l. not l.heavy) (links_between entries first (4 ^ j)) ≤ 3
    light_between j first = omega (
      arith,
      sum_by-append (λ (l : Link). cond (not l.heavy) 1 0) (links_out entries first (first + 4 ^ j) (first + 4 * 4 ^ j))
          (links_out entries (first + 4 ^ j) (first + 2 * 4 ^ j) (first + 4 * 4 ^ j) ++ links_out entries (first + 2 * 4 ^ j) (first + 3 * 4 ^ j) (first + 4 * 4 ^ j)),
      sum_by-append (λ (l : Link). cond (not l.heavy) 1 0) (links_out entries (first + 4 ^ j) (first + 2 * 4 ^ j) (first + 4 * 4 ^ j))
          (links_out entries (first + 2 * 4 ^ j) (first + 3 * 4 ^ j) (first + 4 * 4 ^ j)),
      o.few_light first (first + 4 ^ j) (first + 4 * 4 ^ j),
      o.few_light (first + 4 ^ j) (first + 2 * 4 ^ j) (first + 4 * 4 ^ j),
      o.few_light (first + 2 * 4 ^ j) (first + 3 * 4 ^ j) (first + 4 * 4 ^ j),
    )

    -- A square has few rows and few columns.

    pub few_rows : (j first : ℕ) → (square entries j first).rows ≤ most_lines j
    few_rows zero first = omega arith
    few_rows (suc j) first =
        let m : ℕ = most_lines j in
        let s : Sheet = four (square entries j first) (square entries j (first + 4 ^ j)) (square entries j (first + 2 * 4 ^ j)) (square entries j (first + 3 * 4 ^ j)) in
        let joined : s.rows ≤ 2 * most_lines j =
        four_rows (square entries j first) (square entries j (first + 4 ^ j)) (square entries j (first + 2 * 4 ^ j)) (square entries j (first + 3 * 4 ^ j)) (most_lines j)
        (few_rows j first) (few_rows j (first + 4 ^ j)) (few_rows j (first + 2 * 4 ^ j)) (few_rows j (first + 3 * 4 ^ j)) in
        omega (arith, joined, links_rows s (links_between entries first (4 ^ j)), few_between j first, light_between j first)

    pub few_cols : (j first : ℕ) → (square entries j first).cols ≤ most_lines j
    few_cols zero first = omega arith
    few_cols (suc j) first =
        let s : Sheet = four (square entries j first) (square entries j (first + 4 ^ j)) (square entries j (first + 2 * 4 ^ j)) (square entries j (first + 3 * 4 ^ j)) in
        let joined : s.cols ≤ 2 * most_lines j =
        four_cols (square entries j first) (square entries j (first + 4 ^ j)) (square entries j (first + 2 * 4 ^ j)) (square entries j (first + 3 * 4 ^ j)) (most_lines j)
        (few_cols j first) (few_cols j (first + 4 ^ j)) (few_cols j (first + 2 * 4 ^ j)) (few_cols j (first + 3 * 4 ^ j)) in
        omega (arith, joined, links_cols s (links_between entries first (4 ^ j)), few_between j first)

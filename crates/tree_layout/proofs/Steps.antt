-- A square is made of four squares.
use Rattle.std.proofs.Common.{◌≡◌, ◌∙◌, ℕ, suc, ◌+◌, ◌-◌, ◌*◌, ◌^◌, ◌≤◌, None, List, length, All, AllPairs, refl, sym, ap, subst, arith}
use Rattle.std.proofs.Math.Pow.{pow_mono}
use Rattle.tree_layout.proofs.Recurrence.{most_lines, lines_are}
use Rattle.block_grid.specs.Sheets.{Sheet, stands_at}
use Rattle.block_grid.specs.Changes.{side_by_side}
use Rattle.tree_layout.specs.declared.numbered.Entry.{Entry}
use Rattle.tree_layout.specs.declared.links.Link.{Link}
use Rattle.tree_layout.specs.Squares.{with_links, links_between, four, four_squares, square}
use Rattle.tree_layout.specs.Drawing.{AreApart, IsOrdered, MayLink}
use Rattle.tree_layout.proofs.FourPowers.{four_more}
use Rattle.tree_layout.proofs.Sides.{DrawingLaws, few_rows, few_cols, few_between, four_rows, four_cols}
use Rattle.tree_layout.proofs.Between.{between_pairs}
use Rattle.tree_layout.proofs.Ports.{may_all}
use Rattle.tree_layout.proofs.Apart.{squares_apart, halves_apart}

small_lines : (j : ℕ) → j ≤ 6 → most_lines j ≤ 1024
small_lines j h = let p : 2 ^ j ≤ 2 ^ 6 = pow_mono h in omega (arith, lines_are j, p)

module _ (k : DrawingLaws) (entries : List Entry) (o : IsOrdered entries) (j first quarter : ℕ) (few : j ≤ 6) (q : quarter ≡ 4 ^ j) where
  module _ (nw ne sw se : Sheet) (e1 : nw ≡ square entries j first) (e2 : ne ≡ square entries j (first + quarter)) (e3 : sw ≡ square entries j (first + 2 * quarter))
      (e4 : se ≡ square entries j (first + 3 * quarter)) where
    pub north : All (λ node. stands_at nw.nodes node.node ≡ None) ne.nodes
    north = rw (e1, e2) (squares_apart k entries o j first (first + quarter) (omega (arith, q)))

    pub south : All (λ node. stands_at sw.nodes node.node ≡ None) se.nodes
    south = rw (e3, e4) (squares_apart k entries o j (first + 2 * quarter) (first + 3 * quarter) (omega (arith, q)))

    pub differ : All (λ node. stands_at (side_by_side nw ne).nodes node.node ≡ None) (side_by_side sw se).nodes
    differ = rw (e1, e2, e3, e4) (halves_apart k entries o j first (first + quarter) (first + 2 * quarter) (first + 3 * quarter) (omega (arith, q)) (omega (arith, q)) (omega (arith, q)))

    pub north_cols : nw.cols + ne.cols ≤ 2 ^ 20
    north_cols = rw (e1, e2) (omega (arith, few_cols k entries o j first, few_cols k entries o j (first + quarter), small_lines j few))

    pub south_cols : sw.cols + se.cols ≤ 2 ^ 20
    south_cols = rw (e3, e4) (omega (arith, few_cols k entries o j (first + 2 * quarter), few_cols k entries o j (first + 3 * quarter), small_lines j few))

    pub rows : (side_by_side nw ne).rows + (side_by_side sw se).rows ≤ 2 ^ 20
    rows =
        let all : (four nw ne sw se).rows ≤ 2 * most_lines j = four_rows nw ne sw se (most_lines j) (rw e1 (few_rows k entries o j first)) (rw e2 (few_rows k entries o j (first + quarter)))
        (rw e3 (few_rows k entries o j (first + 2 * quarter))) (rw e4 (few_rows k entries o j (first + 3 * quarter))) in
        omega (arith, all, small_lines j few)

    pub joined : (s : Sheet) → s ≡ four nw ne sw se → s ≡ four_squares entries j first
    joined s e = e ∙ rw (e1, e2, e3, e4, q) refl

  -- the edges between them
  module _ (s : Sheet) (ls : List Link) (e : s ≡ four_squares entries j first) (f : ls ≡ links_between entries first quarter) where
    same : ls ≡ links_between entries first (4 ^ j)
    same = f ∙ ap (links_between entries first) q

    pub may : All (MayLink entries s) ls
    may = subst (λ t. All (MayLink entries t) ls) (sym e) (subst (All (MayLink entries (four_squares entries j first))) (sym same) (may_all k entries o j first))

    pub apart : AllPairs AreApart ls
    apart = subst (AllPairs AreApart) (sym f) (between_pairs entries o first quarter)

    pub few_links : length ls ≤ 42
    few_links = omega (arith, ap (length {A = Link}) same, few_between k entries o j first)

    pub room_rows : s.rows + 2 * length ls ≤ 2 ^ 20
    room_rows =
        let all : (four_squares entries j first).rows ≤ 2 * most_lines j =
        four_rows (square entries j first) (square entries j (first + 4 ^ j)) (square entries j (first + 2 * 4 ^ j)) (square entries j (first + 3 * 4 ^ j)) (most_lines j)
        (few_rows k entries o j first) (few_rows k entries o j (first + 4 ^ j)) (few_rows k entries o j (first + 2 * 4 ^ j)) (few_rows k entries o j (first + 3 * 4 ^ j)) in
        let is : s.rows ≡ (four_squares entries j first).rows = ap (λ (t : Sheet). t.rows) e in
        omega (arith, is, all, small_lines j few, few_links)

    pub room_cols : s.cols + length ls ≤ 2 ^ 20
    room_cols =
        let all : (four_squares entries j first).cols ≤ 2 * most_lines j =
        four_cols (square entries j first) (square entries j (first + 4 ^ j)) (square entries j (first + 2 * 4 ^ j)) (square entries j (first + 3 * 4 ^ j)) (most_lines j)
        (few_cols k entries o j first) (few_cols k entries o j (first + 4 ^ j)) (few_cols k entries o j (first + 2 * 4 ^ j)) (few_cols k entries o j (first + 3 * 4 ^ j)) in
        let is : s.cols ≡ (four_squares entries j first).cols = ap (λ (t : Sheet). t.cols) e in
        omega (arith, is, all, small_lines j few, few_links)

    pub done : (t : Sheet) → t ≡ with_links entries s ls → t ≡ square entries (j + 1) first
    done t h =
        let n : suc j ≡ j + 1 = omega arith in
        h ∙ ap (λ u. with_links entries u ls) e ∙ ap (with_links entries (four_squares entries j first)) same ∙ ap (λ m. square entries m first) n

pub same_apart : (a a' b b' : Sheet) → a ≡ a' → b ≡ b' → All (λ node. stands_at a'.nodes node.node ≡ None) b'.nodes → All (λ node. stands_at a.nodes node.node ≡ None) b.nodes
same_apart a a' b b' e f h = rw (e, f) h

-- a quarter of a square
pub four_quarters : (level : ℕ) → (level ≡ 0 → ⊥) → 4 * 4 ^ (level - 1) ≡ 4 ^ level
four_quarters level some =
    let e : level ≡ level - 1 + 1 = grind (arith, some) in
    let f : 4 ^ level ≡ 4 ^ (level - 1 + 1) = ap (λ n. 4 ^ n) e in
    omega (arith, f, four_more (level - 1))

-- What drawing keeps: the ends of edges, the nodes, and the order of their rows and columns.
use Rattle.std.proofs.Common.{◌≡◌, ◌⊎◌, ◌∙◌, ℕ, ◌+◌, ◌<◌, ◌≤◌, Bool, true, false, nat_lt, Some, IsSome, List, [], ◌∷◌, ◌++◌, map, unwrap_or, refl, inl, inr, sym, ap, subst, arith}
use Rattle.std.specs.Option.{option_map}
use Rattle.std.proofs.lemmas.Bool.{cases_lt, lt-ltb, le-ltb}
use Rattle.std.proofs.lemmas.List.{map-append}
use Rattle.block_grid.specs.declared.standing.Standing.{Standing}
use Rattle.block_grid.specs.Lines.{BlockPlace, row_of, col_of}
use Rattle.block_grid.specs.Sheets.{DrawnEdge, Sheet, stands_at}
use Rattle.block_grid.specs.Changes.{shifted, rows_shifted, cols_shifted, node_moved, edge_moved, with_rows, with_cols}
use Rattle.channel_route.specs.Drawing.{place_in, with_col_right_of, with_row_below, with_row_above, with_room, drawn, ends_of, name_of}
use Rattle.channel_route.proofs.Rooms.{shift_before, shift_behind, stands_in}

ends_moved : (h : BlockPlace → BlockPlace) (es : List DrawnEdge) → map ends_of (map (edge_moved h) es) ≡ map ends_of es
ends_moved h [] = refl
ends_moved h (e ∷ es) = ap (λ xs. ends_of e ∷ xs) (ends_moved h es)

names_moved : (h : BlockPlace → BlockPlace) (ns : List Standing) → map name_of (map (node_moved h) ns) ≡ map name_of ns
names_moved h [] = refl
names_moved h (n ∷ ns) = ap (λ xs. name_of n ∷ xs) (names_moved h ns)

room_ends : (heavy : Bool) (s : Sheet) (parent child : ℕ) → map ends_of (with_room heavy s parent child).edges ≡ map ends_of s.edges
room_ends true s parent child = ends_moved (rows_shifted (row_of (place_in (with_col_right_of s parent) child)) 1) (with_col_right_of s parent).edges
    ∙ ends_moved (cols_shifted (col_of (place_in s parent) + 1) 1) s.edges
room_ends false s parent child = ends_moved (cols_shifted s.cols 1) (with_row_above (with_row_below s parent) child).edges
    ∙ ends_moved (rows_shifted (row_of (place_in (with_row_below s parent) child)) 1) (with_row_below s parent).edges
    ∙ ends_moved (rows_shifted (row_of (place_in s parent) + 1) 1) s.edges

pub edges_drawn : (s : Sheet) (parent child : ℕ) (heavy : Bool) → map ends_of (drawn s parent child heavy).edges ≡ map ends_of s.edges ++ (parent, child, heavy) ∷ []
edges_drawn s parent child heavy = map-append ends_of (with_room heavy s parent child).edges _ ∙ ap (λ xs. xs ++ (parent, child, heavy) ∷ []) (room_ends heavy s parent child)

pub nodes_drawn : (s : Sheet) (parent child : ℕ) (heavy : Bool) → map name_of (drawn s parent child heavy).nodes ≡ map name_of s.nodes
nodes_drawn s parent child true = names_moved (rows_shifted (row_of (place_in (with_col_right_of s parent) child)) 1) (with_col_right_of s parent).nodes
    ∙ names_moved (cols_shifted (col_of (place_in s parent) + 1) 1) s.nodes
nodes_drawn s parent child false = names_moved (cols_shifted s.cols 1) (with_row_above (with_row_below s parent) child).nodes
    ∙ names_moved (rows_shifted (row_of (place_in (with_row_below s parent) child)) 1) (with_row_below s parent).nodes
    ∙ names_moved (rows_shifted (row_of (place_in s parent) + 1) 1) s.nodes

pub cols_drawn : (s : Sheet) (parent child : ℕ) (heavy : Bool) → (drawn s parent child heavy).cols ≡ s.cols + 1
cols_drawn s parent child true = refl
cols_drawn s parent child false = refl

pub light_rows_drawn : (s : Sheet) (parent child : ℕ) → (drawn s parent child false).rows ≡ s.rows + 2
light_rows_drawn s parent child = omega arith

shift_order_by : (at x y : ℕ) → (x < at) ⊎ (at ≤ x) → (y < at) ⊎ (at ≤ y) → (x < y) ⊎ (y ≤ x) → nat_lt (shifted at 1 x) (shifted at 1 y) ≡ nat_lt x y
shift_order_by at x y a b (inl c) = lt-ltb _ _ (less a b) ∙ sym (lt-ltb x y c)
  where
    less : (x < at) ⊎ (at ≤ x) → (y < at) ⊎ (at ≤ y) → shifted at 1 x < shifted at 1 y
    less (inl p) (inl q) = let e = shift_before at x p in let f = shift_before at y q in omega arith
    less (inl p) (inr q) = let e = shift_before at x p in let f = shift_behind at y q in omega arith
    less (inr p) (inl q) = absurd (omega arith)
    less (inr p) (inr q) = let e = shift_behind at x p in let f = shift_behind at y q in omega arith
shift_order_by at x y a b (inr c) = le-ltb _ _ (more a b) ∙ sym (le-ltb x y c)
  where
    more : (x < at) ⊎ (at ≤ x) → (y < at) ⊎ (at ≤ y) → shifted at 1 y ≤ shifted at 1 x
    more (inl p) (inl q) = let e = shift_before at x p in let f = shift_before at y q in omega arith
    more (inr p) (inl q) = let e = shift_behind at x p in let f = shift_before at y q in omega arith
    more (inl p) (inr q) = absurd (omega arith)
    more (inr p) (inr q) = let e = shift_behind at x p in let f = shift_behind at y q in omega arith

-- lines keep their order
shift_order : (at x y : ℕ) → nat_lt (shifted at 1 x) (shifted at 1 y) ≡ nat_lt x y
shift_order at x y = shift_order_by at x y (cases_lt x at) (cases_lt y at) (cases_lt x y)

-- what is known of two nodes of a sheet, and of them on another one
record Same (s t : Sheet) (v w : ℕ) : Type 0 where
  first : IsSome (stands_at t.nodes v)
  second : IsSome (stands_at t.nodes w)
  rows : nat_lt (row_of (place_in t v)) (row_of (place_in t w)) ≡ nat_lt (row_of (place_in s v)) (row_of (place_in s w))
  cols : nat_lt (col_of (place_in t v)) (col_of (place_in t w)) ≡ nat_lt (col_of (place_in s v)) (col_of (place_in s w))

module _ (moved_rows : (s : Sheet) (at by v : ℕ) → stands_at (with_rows s at by).nodes v ≡ option_map (rows_shifted at by) (stands_at s.nodes v))
    (moved_cols : (s : Sheet) (at by v : ℕ) → stands_at (with_cols s at by).nodes v ≡ option_map (cols_shifted at by) (stands_at s.nodes v)) where
  rows_stand : (s : Sheet) (at v : ℕ) → IsSome (stands_at s.nodes v) → stands_at (with_rows s at 1).nodes v ≡ Some (rows_shifted at 1 (place_in s v))
  rows_stand s at v h = moved_rows s at 1 v ∙ ap (option_map (rows_shifted at 1)) (stands_in s v h)

  cols_stand : (s : Sheet) (at v : ℕ) → IsSome (stands_at s.nodes v) → stands_at (with_cols s at 1).nodes v ≡ Some (cols_shifted at 1 (place_in s v))
  cols_stand s at v h = moved_cols s at 1 v ∙ ap (option_map (cols_shifted at 1)) (stands_in s v h)

  placed : (s : Sheet) (v : ℕ) (p : BlockPlace) → stands_at s.nodes v ≡ Some p → place_in s v ≡ p
  placed s v p e = ap (λ o. unwrap_or o (0, 0)) e

  two : (f : BlockPlace → ℕ) (a a' b b' : BlockPlace) → a ≡ a' → b ≡ b' → nat_lt (f a) (f b) ≡ nat_lt (f a') (f b')
  two f a a' b b' e h = rw (e, h) refl

  rows_same : (s : Sheet) (at v w : ℕ) → IsSome (stands_at s.nodes v) → IsSome (stands_at s.nodes w) → Same s (with_rows s at 1) v w
  rows_same s at v w a b =
      let p = rows_stand s at v a in
      let q = rows_stand s at w b in
      record {
        first = subst IsSome (sym p) refl;
        second = subst IsSome (sym q) refl;
        rows = two row_of _ _ _ _ (placed (with_rows s at 1) v _ p) (placed (with_rows s at 1) w _ q) ∙ shift_order at (row_of (place_in s v)) (row_of (place_in s w));
        cols = two col_of _ _ _ _ (placed (with_rows s at 1) v _ p) (placed (with_rows s at 1) w _ q);
      }

  cols_same : (s : Sheet) (at v w : ℕ) → IsSome (stands_at s.nodes v) → IsSome (stands_at s.nodes w) → Same s (with_cols s at 1) v w
  cols_same s at v w a b =
      let p = cols_stand s at v a in
      let q = cols_stand s at w b in
      record {
        first = subst IsSome (sym p) refl;
        second = subst IsSome (sym q) refl;
        rows = two row_of _ _ _ _ (placed (with_cols s at 1) v _ p) (placed (with_cols s at 1) w _ q);
        cols = two col_of _ _ _ _ (placed (with_cols s at 1) v _ p) (placed (with_cols s at 1) w _ q) ∙ shift_order at (col_of (place_in s v)) (col_of (place_in s w));
      }

  both : (s t u : Sheet) (v w : ℕ) → Same s t v w → Same t u v w → Same s u v w
  both s t u v w a b = record { first = b.first; second = b.second; rows = b.rows ∙ a.rows; cols = b.cols ∙ a.cols }

  room_same : (heavy : Bool) (s : Sheet) (parent child v w : ℕ) → IsSome (stands_at s.nodes v) → IsSome (stands_at s.nodes w) → Same s (with_room heavy s parent child) v w
  room_same true s parent child v w a b =
      let f = cols_same s (col_of (place_in s parent) + 1) v w a b in
      both s (with_col_right_of s parent) (with_room true s parent child) v w f (rows_same (with_col_right_of s parent) (row_of (place_in (with_col_right_of s parent) child)) v w f.first f.second)
  room_same false s parent child v w a b =
      let f = rows_same s (row_of (place_in s parent) + 1) v w a b in
      let low : Sheet = with_row_below s parent in
      let g = both s (with_row_below s parent) (with_row_above (with_row_below s parent) child) v w f
      (rows_same (with_row_below s parent) (row_of (place_in (with_row_below s parent) child)) v w f.first f.second) in
      both s (with_row_above (with_row_below s parent) child) (with_room false s parent child) v w g (cols_same (with_row_above (with_row_below s parent) child) s.cols v w g.first g.second)

  pub rows_kept : (s : Sheet) (parent child : ℕ) (heavy : Bool) (v w : ℕ) → IsSome (stands_at s.nodes v) → IsSome (stands_at s.nodes w)
      → nat_lt (row_of (place_in (drawn s parent child heavy) v)) (row_of (place_in (drawn s parent child heavy) w)) ≡ nat_lt (row_of (place_in s v)) (row_of (place_in s w))
  rows_kept s parent child heavy v w a b = (room_same heavy s parent child v w a b).rows

  pub cols_kept : (s : Sheet) (parent child : ℕ) (heavy : Bool) (v w : ℕ) → IsSome (stands_at s.nodes v) → IsSome (stands_at s.nodes w)
      → nat_lt (col_of (place_in (drawn s parent child heavy) v)) (col_of (place_in (drawn s parent child heavy) w)) ≡ nat_lt (col_of (place_in s v)) (col_of (place_in s w))
  cols_kept s parent child heavy v w a b = (room_same heavy s parent child v w a b).cols

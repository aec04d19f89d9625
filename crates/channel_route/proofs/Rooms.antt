-- The room that is made for an edge, and the edge that may be drawn there.
use Rattle.std.proofs.Common.{◌≡◌, ◌≢◌, ◌⊎◌, ◌∙◌, ℕ, ◌+◌, ◌-◌, ◌<◌, ◌≤◌, Bool, true, false, cond, Option, Some, None, IsSome, List, [], ◌∷◌, map, All, unwrap_or, if◌then◌else◌, refl, inl, inr, sym, ap, subst, arith}
use Rattle.std.specs.Option.{option_map}
use Rattle.std.proofs.lemmas.Bool.{cases_lt, lt-ltb, le-ltb}
use Rattle.std.proofs.lemmas.List.Elements.{All-map, All-cons, All-nil}
use Rattle.block_grid.specs.declared.kind.BlockKind.TheVariants.{Empty, Horizontal, Vertical}
use Rattle.block_grid.specs.Lines.{BlockPlace, row_of, col_of}
use Rattle.block_grid.specs.Sheets.{DrawnEdge, Sheet, IsSheet, IsInOpen, IsOutOpen, IsOnSheet, stands_at, block_at, is_crossed_north, is_crossed_west}
use Rattle.block_grid.specs.Changes.{shifted, rows_shifted, cols_shifted, edge_moved, with_rows, with_cols}
use Rattle.block_grid.specs.Laying.{MayDraw}
use Rattle.channel_route.specs.Drawing.{place_in}
use Rattle.channel_route.proofs.Lines.{heavy_straight, heavy_never_returns, light_straight, light_never_returns}
use Rattle.channel_route.proofs.Passing.{IsLevel, level_by, upright_by, level_uncrossed, HeavyRoom, heavy_free, LightRoom, light_free}

-- what is known of insertion and of open ports
pub record SheetLaws : Type 0 where
  pub rows_kept : (s : Sheet) (at by r c : ℕ) → block_at (with_rows s at by) (shifted at by r) c ≡ block_at s r c
  pub cols_kept : (s : Sheet) (at by r c : ℕ) → block_at (with_cols s at by) r (shifted at by c) ≡ block_at s r c
  pub rows_new : (s : Sheet) (at by r c : ℕ) → at ≤ r → r < at + by → block_at (with_rows s at by) r c ≡ (if is_crossed_north s at c then Vertical else Empty)
  pub cols_new : (s : Sheet) (at by r c : ℕ) → at ≤ c → c < at + by → block_at (with_cols s at by) r c ≡ (if is_crossed_west s r at then Horizontal else Empty)
  pub moved_rows : (s : Sheet) (at by v : ℕ) → stands_at (with_rows s at by).nodes v ≡ option_map (rows_shifted at by) (stands_at s.nodes v)
  pub moved_cols : (s : Sheet) (at by v : ℕ) → stands_at (with_cols s at by).nodes v ≡ option_map (cols_shifted at by) (stands_at s.nodes v)
  pub inside : (s : Sheet) → IsSheet s → (v : ℕ) (p : BlockPlace) → stands_at s.nodes v ≡ Some p → IsOnSheet s p
  pub apart : (s : Sheet) → IsSheet s → (v w : ℕ) (p : BlockPlace) → stands_at s.nodes v ≡ Some p → stands_at s.nodes w ≡ Some p → v ≡ w
  pub east_rim : (s : Sheet) → IsSheet s → (r : ℕ) → is_crossed_west s r s.cols ≡ false
  pub east_port : (s : Sheet) → IsSheet s → (v : ℕ) (p : BlockPlace) → stands_at s.nodes v ≡ Some p → IsOutOpen s v true → is_crossed_west s (row_of p) (col_of p + 1) ≡ false
  pub south_port : (s : Sheet) → IsSheet s → (v : ℕ) (p : BlockPlace) → stands_at s.nodes v ≡ Some p → IsOutOpen s v false → is_crossed_north s (row_of p + 1) (col_of p) ≡ false
  pub north_port : (s : Sheet) → IsSheet s → (v : ℕ) (p : BlockPlace) → stands_at s.nodes v ≡ Some p → IsInOpen s v → is_crossed_north s (row_of p) (col_of p) ≡ false

-- Numbers of lines that shift.

pub shift_before : (at x : ℕ) → x < at → shifted at 1 x ≡ x
shift_before at x h = ap (λ b. cond b x (x + 1)) (lt-ltb x at h)

pub shift_behind : (at x : ℕ) → at ≤ x → shifted at 1 x ≡ x + 1
shift_behind at x h = ap (λ b. cond b x (x + 1)) (le-ltb x at h)

shift_off_by : (at x : ℕ) → (x < at) ⊎ (at ≤ x) → shifted at 1 x ≡ at → ⊥
shift_off_by at x (inl h) e = let f = shift_before at x h in omega arith
shift_off_by at x (inr h) e = let f = shift_behind at x h in omega arith

-- no line has the number of a new one
pub shift_off : (at x : ℕ) → shifted at 1 x ≢ at
shift_off at x e = shift_off_by at x (cases_lt x at) e

shift_le_by : (at x : ℕ) → (x < at) ⊎ (at ≤ x) → shifted at 1 x ≤ x + 1
shift_le_by at x (inl h) = let f = shift_before at x h in omega arith
shift_le_by at x (inr h) = let f = shift_behind at x h in omega arith

pub shift_le : (at x : ℕ) → shifted at 1 x ≤ x + 1
shift_le at x = shift_le_by at x (cases_lt x at)

-- every other line was there before
pub unshift : (at x : ℕ) → x ≢ at → (y : ℕ) × (shifted at 1 y ≡ x)
unshift at x off = by (cases_lt x at)
  where
    by : (x < at) ⊎ (at ≤ x) → (y : ℕ) × (shifted at 1 y ≡ x)
    by (inl h) = (x, shift_before at x h)
    by (inr h) = let lt : at < x = grind (arith, off) in (x - 1, shift_behind at (x - 1) (omega arith) ∙ omega arith)

pub three : (P : BlockPlace → Type 0) (x y z : BlockPlace) → P x → P y → P z → All P (x ∷ y ∷ z ∷ [])
three P x y z a b c = All-cons P x (y ∷ z ∷ []) a (All-cons P y (z ∷ []) b (All-cons P z [] c (All-nil P)))

pub four : (P : BlockPlace → Type 0) (w x y z : BlockPlace) → P w → P x → P y → P z → All P (w ∷ x ∷ y ∷ z ∷ [])
four P w x y z d a b c = All-cons P w (x ∷ y ∷ z ∷ []) d (three P x y z a b c)

next_by : (at x : ℕ) → at ≢ x + 1 → (x < at) ⊎ (at ≤ x) → shifted at 1 (x + 1) ≡ shifted at 1 x + 1
next_by at x off (inl h) =
    let lt : x + 1 < at = grind (arith, off) in let a = shift_before at x h in let b = shift_before at (x + 1) lt in omega (arith, a, b)
next_by at x off (inr h) = let a = shift_behind at x h in let b = shift_behind at (x + 1) (omega arith) in omega (arith, a, b)

-- neighbours that the new line does not part stay neighbours
pub shift_next : (at x : ℕ) → at ≢ x + 1 → shifted at 1 (x + 1) ≡ shifted at 1 x + 1
shift_next at x off = next_by at x off (cases_lt x at)

-- a node that stands
pub stands_in : (s : Sheet) (v : ℕ) → IsSome (stands_at s.nodes v) → stands_at s.nodes v ≡ Some (place_in s v)
stands_in s v h = by (stands_at s.nodes v) h
  where
    by : (o : Option BlockPlace) → IsSome o → o ≡ Some (unwrap_or o (0, 0))
    by (Some p) h = refl
    by None h = cc

module _ (k : SheetLaws) where
  rows_stand : (s : Sheet) (at v : ℕ) (p : BlockPlace) → stands_at s.nodes v ≡ Some p → stands_at (with_rows s at 1).nodes v ≡ Some (rows_shifted at 1 p)
  rows_stand s at v p e = k.moved_rows s at 1 v ∙ ap (option_map (rows_shifted at 1)) e

  cols_stand : (s : Sheet) (at v : ℕ) (p : BlockPlace) → stands_at s.nodes v ≡ Some p → stands_at (with_cols s at 1).nodes v ≡ Some (cols_shifted at 1 p)
  cols_stand s at v p e = k.moved_cols s at 1 v ∙ ap (option_map (cols_shifted at 1)) e

  pub placed : (s : Sheet) (v : ℕ) (p : BlockPlace) → stands_at s.nodes v ≡ Some p → place_in s v ≡ p
  placed s v p e = ap (λ o. unwrap_or o (0, 0)) e

  out_kept : (h : BlockPlace → BlockPlace) (edges : List DrawnEdge) (v : ℕ) (heavy : Bool) → All (λ e. e.parent ≡ v → e.heavy ≢ heavy) edges
      → All (λ e. e.parent ≡ v → e.heavy ≢ heavy) (map (edge_moved h) edges)
  out_kept h edges v heavy free = All-map (λ (e : DrawnEdge). e.parent ≡ v → e.heavy ≢ heavy) (edge_moved h) edges free

  in_kept : (h : BlockPlace → BlockPlace) (edges : List DrawnEdge) (v : ℕ) → All (λ e. e.child ≢ v) edges → All (λ e. e.child ≢ v) (map (edge_moved h) edges)
  in_kept h edges v free = All-map (λ (e : DrawnEdge). e.child ≢ v) (edge_moved h) edges free

  -- the nodes of an edge stand apart
  ends_apart : (t : Sheet) → IsSheet t → (v w : ℕ) → v ≢ w → (p q : BlockPlace) → stands_at t.nodes v ≡ Some p → stands_at t.nodes w ≡ Some q
      → row_of p ≡ row_of q → col_of p ≢ col_of q
  ends_apart t sheet v w differ p q a b row col =
      let same : p ≡ q = pair_same p q row col in
      differ (k.apart t sheet v w q (subst (λ x. stands_at t.nodes v ≡ Some x) same a) b)
    where
      pair_same : (p q : BlockPlace) → row_of p ≡ row_of q → col_of p ≡ col_of q → p ≡ q
      pair_same (a, b) (c, d) e f = rw (e, f) refl

  -- A heavy edge from a node at p to one at q, which is at q1 once the column came in.
  module _ (s : Sheet) (parent child : ℕ) (p q : BlockPlace) (differ : parent ≢ child) (at_p : stands_at s.nodes parent ≡ Some p)
      (at_q : stands_at s.nodes child ≡ Some q) (out : IsOutOpen s parent true) (into : IsInOpen s child) (sheet : IsSheet s) where
    abbrev pub wide : Sheet
    wide = with_cols s (col_of p + 1) 1

    abbrev pub roomy : Sheet
    roomy = with_rows (with_cols s (col_of p + 1) 1) (row_of q) 1

    abbrev pub p' : BlockPlace
    p' = (shifted (row_of q) 1 (row_of p), col_of p)

    abbrev pub q' : BlockPlace
    q' = (row_of q + 1, shifted (col_of p + 1) 1 (col_of q))

    wide_p : stands_at wide.nodes parent ≡ Some p
    wide_p = cols_stand s (col_of p + 1) parent p at_p ∙ ap (λ n. Some (row_of p, n)) (shift_before (col_of p + 1) (col_of p) (omega arith))

    pub wide_q : stands_at wide.nodes child ≡ Some (row_of q, shifted (col_of p + 1) 1 (col_of q))
    wide_q = cols_stand s (col_of p + 1) child q at_q

    pub roomy_p : stands_at roomy.nodes parent ≡ Some p'
    roomy_p = rows_stand wide (row_of q) parent p wide_p

    pub roomy_q : stands_at roomy.nodes child ≡ Some q'
    roomy_q = rows_stand wide (row_of q) child (row_of q, shifted (col_of p + 1) 1 (col_of q)) wide_q
        ∙ ap (λ n. Some (n, shifted (col_of p + 1) 1 (col_of q))) (shift_behind (row_of q) (row_of q) (omega arith))

    level : (r : ℕ) → IsLevel (block_at wide r (col_of p + 1))
    level r = level_by _ _ (k.cols_new s (col_of p + 1) 1 r (col_of p + 1) (omega arith) (omega arith))

    room : IsSheet wide → HeavyRoom roomy (shifted (row_of q) 1 (row_of p)) (col_of p) (row_of q) (shifted (col_of p + 1) 1 (col_of q))
    room sheet1 = record {
      first = k.rows_kept wide (row_of q) 1 (row_of p) (col_of p + 1) ∙ k.cols_new s (col_of p + 1) 1 (row_of p) (col_of p + 1) (omega arith) (omega arith)
          ∙ ap (λ b. cond b Horizontal Empty) (k.east_port s sheet parent p at_p out);
      column = λ r off. let y = unshift (row_of q) r off in
          subst (λ n. IsLevel (block_at roomy n (col_of p + 1))) y.1 (subst IsLevel (sym (k.rows_kept wide (row_of q) 1 y.0 (col_of p + 1))) (level y.0));
      corner = k.rows_new wide (row_of q) 1 (row_of q) (col_of p + 1) (omega arith) (omega arith)
          ∙ ap (λ b. cond b Vertical Empty) (level_uncrossed wide (row_of q) (col_of p + 1) (level (row_of q)));
      row = λ c. upright_by _ _ (k.rows_new wide (row_of q) 1 (row_of q) c (omega arith) (omega arith));
      last = k.rows_new wide (row_of q) 1 (row_of q) (shifted (col_of p + 1) 1 (col_of q)) (omega arith) (omega arith)
          ∙ ap (λ b. cond b Vertical Empty)
          (k.north_port wide sheet1 child (row_of q, shifted (col_of p + 1) 1 (col_of q)) wide_q (in_kept (cols_shifted (col_of p + 1) 1) s.edges child into));
    }

    turns_inside : All (IsOnSheet roomy) ((row_of p', col_of p + 1) ∷ (row_of q, col_of p + 1) ∷ (row_of q, col_of q') ∷ [])
    turns_inside =
        let i = k.inside s sheet parent p at_p in
        let j = k.inside s sheet child q at_q in
        let a = shift_le (row_of q) (row_of p) in
        let b = shift_le (col_of p + 1) (col_of q) in
        three (IsOnSheet roomy) _ _ _ (omega (arith, i.0), omega (arith, i.1)) (omega (arith, j.0), omega (arith, i.1)) (omega (arith, j.0), omega (arith, j.1))

    -- the edge in its room
    pub heavy_at : IsSheet wide → IsSheet roomy → MayDraw roomy (record {
      parent = parent;
      child = child;
      heavy = true;
      start = p';
      turns = (row_of p', col_of p + 1) ∷ (row_of q, col_of p + 1) ∷ (row_of q, col_of q') ∷ [];
      finish = q';
    })
    heavy_at sheet1 sheet2 =
        let off_row = shift_off (row_of q) (row_of p) in
        let off_col = shift_off (col_of p + 1) (col_of q) in
        let far = ends_apart roomy sheet2 parent child differ p' q' roomy_p roomy_q in
        record {
          ends_differ = differ;
          starts = roomy_p;
          finishes = roomy_q;
          out_open = out_kept (rows_shifted (row_of q) 1) wide.edges parent true (out_kept (cols_shifted (col_of p + 1) 1) s.edges parent true out);
          in_open = in_kept (rows_shifted (row_of q) 1) wide.edges child (in_kept (cols_shifted (col_of p + 1) 1) s.edges child into);
          inside = turns_inside;
          straight = heavy_straight (row_of p') (col_of p) (row_of q) (row_of q + 1) (col_of q') off_row off_col far refl;
          leaves = (refl, omega arith);
          enters = (refl, omega arith);
          never_returns = heavy_never_returns (row_of p') (col_of p) (row_of q) (row_of q + 1) (col_of q') off_row off_col far refl;
          free = heavy_free roomy (row_of p') (col_of p) (row_of q) (row_of q + 1) (col_of q') refl (room sheet1);
        }

  -- A light edge from a node at p to one at q, which is in row x once the first row came in.
  module _ (s : Sheet) (parent child : ℕ) (p q : BlockPlace) (differ : parent ≢ child) (at_p : stands_at s.nodes parent ≡ Some p)
      (at_q : stands_at s.nodes child ≡ Some q) (out : IsOutOpen s parent false) (into : IsInOpen s child) (sheet : IsSheet s) where
    abbrev pub low : Sheet
    low = with_rows s (row_of p + 1) 1

    abbrev pub x : ℕ
    x = shifted (row_of p + 1) 1 (row_of q)

    abbrev pub mid : Sheet
    mid = with_rows (with_rows s (row_of p + 1) 1) (shifted (row_of p + 1) 1 (row_of q)) 1

    abbrev pub spacious : Sheet
    spacious = with_cols (with_rows (with_rows s (row_of p + 1) 1) (shifted (row_of p + 1) 1 (row_of q)) 1) s.cols 1

    abbrev pub p2 : BlockPlace
    p2 = (shifted (shifted (row_of p + 1) 1 (row_of q)) 1 (row_of p), col_of p)

    abbrev pub q2 : BlockPlace
    q2 = (shifted (row_of p + 1) 1 (row_of q) + 1, col_of q)

    left : col_of p < s.cols
    left = (k.inside s sheet parent p at_p).1

    right : col_of q < s.cols
    right = (k.inside s sheet child q at_q).1

    low_p : stands_at low.nodes parent ≡ Some p
    low_p = rows_stand s (row_of p + 1) parent p at_p ∙ ap (λ n. Some (n, col_of p)) (shift_before (row_of p + 1) (row_of p) (omega arith))

    pub low_q : stands_at low.nodes child ≡ Some (x, col_of q)
    low_q = rows_stand s (row_of p + 1) child q at_q

    mid_p : stands_at mid.nodes parent ≡ Some p2
    mid_p = rows_stand low x parent p low_p

    mid_q : stands_at mid.nodes child ≡ Some q2
    mid_q = rows_stand low x child (x, col_of q) low_q ∙ ap (λ n. Some (n, col_of q)) (shift_behind x x (omega arith))

    pub spacious_p : stands_at spacious.nodes parent ≡ Some p2
    spacious_p = cols_stand mid s.cols parent p2 mid_p ∙ ap (λ n. Some (row_of p2, n)) (shift_before s.cols (col_of p) left)

    pub spacious_q : stands_at spacious.nodes child ≡ Some q2
    spacious_q = cols_stand mid s.cols child q2 mid_q ∙ ap (λ n. Some (row_of q2, n)) (shift_before s.cols (col_of q) right)

    beside_parent : shifted x 1 (row_of p + 1) ≡ row_of p2 + 1
    beside_parent = shift_next x (row_of p) (shift_off (row_of p + 1) (row_of q))

    col_kept : (r c : ℕ) → c < s.cols → block_at spacious r c ≡ block_at mid r c
    col_kept r c h = ap (λ n. block_at spacious r n) (sym (shift_before s.cols c h)) ∙ k.cols_kept mid s.cols 1 r c

    first_row : (c : ℕ) → c < s.cols → block_at spacious (row_of p2 + 1) c ≡ cond (is_crossed_north s (row_of p + 1) c) Vertical Empty
    first_row c h = col_kept (row_of p2 + 1) c h ∙ ap (λ n. block_at mid n c) (sym beside_parent) ∙ k.rows_kept low x 1 (row_of p + 1) c
        ∙ k.rows_new s (row_of p + 1) 1 (row_of p + 1) c (omega arith) (omega arith)

    second_row : (c : ℕ) → c < s.cols → block_at spacious x c ≡ cond (is_crossed_north low x c) Vertical Empty
    second_row c h = col_kept x c h ∙ k.rows_new low x 1 x c (omega arith) (omega arith)

    light_room : IsSheet low → IsSheet mid → LightRoom spacious (row_of p2) (col_of p) s.cols x (col_of q)
    light_room sheet1 sheet2 = record {
      first = first_row (col_of p) left ∙ ap (λ b. cond b Vertical Empty) (k.south_port s sheet parent p at_p out);
      row = λ c h. upright_by _ _ (first_row c h);
      column = λ r. k.cols_new mid s.cols 1 r s.cols (omega arith) (omega arith) ∙ ap (λ b. cond b Horizontal Empty) (k.east_rim mid sheet2 r);
      second = λ c h. upright_by _ _ (second_row c h);
      last = second_row (col_of q) right
          ∙ ap (λ b. cond b Vertical Empty) (k.north_port low sheet1 child (x, col_of q) low_q (in_kept (rows_shifted (row_of p + 1) 1) s.edges child into));
    }

    light_inside : All (IsOnSheet spacious) ((row_of p2 + 1, col_of p) ∷ (row_of p2 + 1, s.cols) ∷ (x, s.cols) ∷ (x, col_of q) ∷ [])
    light_inside =
        let i = k.inside s sheet parent p at_p in
        let j = k.inside s sheet child q at_q in
        let a = shift_le (row_of p + 1) (row_of q) in
        let b = shift_le x (row_of p) in
        four (IsOnSheet spacious) _ _ _ _ (omega (arith, i.0), omega (arith, i.1)) (omega (arith, i.0), omega arith) (omega (arith, j.0), omega arith)
        (omega (arith, j.0), omega (arith, j.1))

    -- the edge in its room
    pub light_at : IsSheet low → IsSheet mid → IsSheet spacious → MayDraw spacious (record {
      parent = parent;
      child = child;
      heavy = false;
      start = p2;
      turns = (row_of p2 + 1, col_of p) ∷ (row_of p2 + 1, s.cols) ∷ (x, s.cols) ∷ (x, col_of q) ∷ [];
      finish = q2;
    })
    light_at sheet1 sheet2 sheet3 =
        let off_parent = shift_off x (row_of p) in
        let off_row : row_of p2 + 1 ≢ x = λ e. shift_off x (row_of p + 1) (beside_parent ∙ e) in
        let far = ends_apart spacious sheet3 parent child differ p2 q2 spacious_p spacious_q in
        record {
          ends_differ = differ;
          starts = spacious_p;
          finishes = spacious_q;
          out_open = out_kept (cols_shifted s.cols 1) mid.edges parent false (out_kept (rows_shifted x 1) low.edges parent false
              (out_kept (rows_shifted (row_of p + 1) 1) s.edges parent false out));
          in_open = in_kept (cols_shifted s.cols 1) mid.edges child (in_kept (rows_shifted x 1) low.edges child (in_kept (rows_shifted (row_of p + 1) 1) s.edges child into));
          inside = light_inside;
          straight = light_straight (row_of p2) (col_of p) s.cols x (x + 1) (col_of q) off_parent off_row left right far refl;
          leaves = (refl, omega arith);
          enters = (refl, omega arith);
          never_returns = light_never_returns (row_of p2) (col_of p) s.cols x (x + 1) (col_of q) off_parent off_row left right far refl;
          free = light_free spacious (row_of p2) (col_of p) s.cols x (x + 1) (col_of q) left right refl (light_room sheet1 sheet2);
        }

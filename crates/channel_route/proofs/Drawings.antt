-- Edges that may be drawn in the room that is made for them.
use Rattle.std.proofs.Common.{◌≡◌, ◌≢◌, ◌∙◌, ℕ, ◌+◌, ◌-◌, ◌<◌, ◌≤◌, ◌^◌, Bool, true, false, Some, None, Option, IsSome, unwrap_or, List, [], ◌∷◌, refl, sym, ap, subst, arith}
use Rattle.block_grid.specs.Lines.{BlockPlace, row_of, col_of}
use Rattle.block_grid.specs.Sheets.{DrawnEdge, Sheet, IsSheet, IsInOpen, IsOutOpen, IsOnSheet, stands_at}
use Rattle.block_grid.specs.Changes.{with_rows, with_cols}
use Rattle.block_grid.specs.Laying.{MayDraw, edge_over, with_edge}
use Rattle.channel_route.specs.Drawing.{drawn, place_in, with_col_right_of, with_row_below, with_row_above, with_last_col, with_room, turns_along, turns_in}
use Rattle.channel_route.proofs.Rooms.{SheetLaws, stands_in, placed, roomy, p', q', wide_q, roomy_p, roomy_q, heavy_at, x, mid, spacious, p2, q2, low_q, spacious_p, spacious_q, light_at}

-- an edge from its ends and the last column
abbrev between : ℕ → ℕ → Bool → ℕ → BlockPlace → BlockPlace → DrawnEdge
between parent child heavy last p q = record { parent = parent; child = child; heavy = heavy; start = p; turns = turns_along heavy p q last; finish = q }

over_is : (t : Sheet) (parent child : ℕ) (heavy : Bool) (p q : BlockPlace) → place_in t parent ≡ p → place_in t child ≡ q
    → edge_over t parent child heavy (turns_in heavy t parent child) ≡ between parent child heavy (t.cols - 1) p q
over_is t parent child heavy p q a b =
    ap (λ x. between parent child heavy (t.cols - 1) x (place_in t child)) a ∙ ap (λ x. between parent child heavy (t.cols - 1) p x) b

-- the sheet and the turning points, where they are known by equations
pub may_same : (t now : Sheet) (parent child : ℕ) (heavy : Bool) (turns : List BlockPlace) → now ≡ t → turns ≡ turns_in heavy t parent child
    → MayDraw t (edge_over t parent child heavy (turns_in heavy t parent child)) → MayDraw now (edge_over now parent child heavy turns)
may_same t now parent child heavy turns a b h = rw (a, b) h

-- the place before the next one
back : (n : ℕ) → n + 1 - 1 ≡ n
back n = omega arith

module _ (k : SheetLaws) (s : Sheet) (parent child : ℕ) (differ : parent ≢ child) (parent_stands : IsSome (stands_at s.nodes parent))
    (child_stands : IsSome (stands_at s.nodes child)) (into : IsInOpen s child) (sheet : IsSheet s) where
  abbrev p : BlockPlace
  p = place_in s parent

  abbrev q : BlockPlace
  q = place_in s child

  at_p : stands_at s.nodes parent ≡ Some p
  at_p = stands_in s parent parent_stands

  at_q : stands_at s.nodes child ≡ Some q
  at_q = stands_in s child child_stands

  module _ (out : IsOutOpen s parent true) where
    room_is : with_room true s parent child ≡ roomy k s parent child p q differ at_p at_q out into sheet
    room_is = ap (λ n. with_rows (with_col_right_of s parent) n 1)
        (ap row_of (placed k (with_col_right_of s parent) child _ (wide_q k s parent child p q differ at_p at_q out into sheet)))

    abbrev in_room : ℕ → DrawnEdge
    in_room n = record {
      parent = parent;
      child = child;
      heavy = true;
      start = p' k s parent child p q differ at_p at_q out into sheet;
      turns = (row_of (p' k s parent child p q differ at_p at_q out into sheet), col_of p + 1) ∷ (n, col_of p + 1)
          ∷ (n, col_of (q' k s parent child p q differ at_p at_q out into sheet)) ∷ [];
      finish = q' k s parent child p q differ at_p at_q out into sheet;
    }

    edge_is : (t : Sheet) → t ≡ roomy k s parent child p q differ at_p at_q out into sheet
        → edge_over t parent child true (turns_in true t parent child) ≡ in_room (row_of q)
    edge_is t e =
        over_is t parent child true _ _
        (ap (λ u. place_in u parent) e ∙ placed k (roomy k s parent child p q differ at_p at_q out into sheet) parent _ (roomy_p k s parent child p q differ at_p at_q out into sheet))
        (ap (λ u. place_in u child) e ∙ placed k (roomy k s parent child p q differ at_p at_q out into sheet) child _ (roomy_q k s parent child p q differ at_p at_q out into sheet))
        ∙ ap in_room (back (row_of q))

    -- the heavy edge may be drawn in its room
    pub heavy_may : IsSheet (with_col_right_of s parent) → IsSheet (with_room true s parent child)
        → MayDraw (with_room true s parent child) (edge_over (with_room true s parent child) parent child true (turns_in true (with_room true s parent child) parent child))
    heavy_may sheet1 sheet2 =
        subst (MayDraw (with_room true s parent child)) (sym (edge_is (with_room true s parent child) room_is))
        (subst (λ t. MayDraw t (in_room (row_of q))) (sym room_is)
        (heavy_at k s parent child p q differ at_p at_q out into sheet sheet1 (subst IsSheet room_is sheet2)))

  module _ (out : IsOutOpen s parent false) where
    space_is : with_room false s parent child ≡ spacious k s parent child p q differ at_p at_q out into sheet
    space_is = ap (λ n. with_cols (with_rows (with_row_below s parent) n 1) s.cols 1)
        (ap row_of (placed k (with_row_below s parent) child _ (low_q k s parent child p q differ at_p at_q out into sheet)))

    mid_is : with_row_above (with_row_below s parent) child ≡ mid k s parent child p q differ at_p at_q out into sheet
    mid_is = ap (λ n. with_rows (with_row_below s parent) n 1)
        (ap row_of (placed k (with_row_below s parent) child _ (low_q k s parent child p q differ at_p at_q out into sheet)))

    abbrev in_space : ℕ → ℕ → DrawnEdge
    in_space n last = record {
      parent = parent;
      child = child;
      heavy = false;
      start = p2 k s parent child p q differ at_p at_q out into sheet;
      turns = (row_of (p2 k s parent child p q differ at_p at_q out into sheet) + 1, col_of p)
          ∷ (row_of (p2 k s parent child p q differ at_p at_q out into sheet) + 1, last) ∷ (n, last) ∷ (n, col_of q) ∷ [];
      finish = q2 k s parent child p q differ at_p at_q out into sheet;
    }

    light_edge_is : (t : Sheet) → t ≡ spacious k s parent child p q differ at_p at_q out into sheet
        → edge_over t parent child false (turns_in false t parent child) ≡ in_space (x k s parent child p q differ at_p at_q out into sheet) s.cols
    light_edge_is t e =
        over_is t parent child false _ _
        (ap (λ u. place_in u parent) e
        ∙ placed k (spacious k s parent child p q differ at_p at_q out into sheet) parent _ (spacious_p k s parent child p q differ at_p at_q out into sheet))
        (ap (λ u. place_in u child) e
        ∙ placed k (spacious k s parent child p q differ at_p at_q out into sheet) child _ (spacious_q k s parent child p q differ at_p at_q out into sheet))
        ∙ ap (λ n. in_space n (t.cols - 1)) (back (x k s parent child p q differ at_p at_q out into sheet))
        ∙ ap (in_space (x k s parent child p q differ at_p at_q out into sheet)) (ap (λ (u : Sheet). u.cols - 1) e ∙ back s.cols)

    -- the light edge may be drawn in its room
    pub light_may : IsSheet (with_row_below s parent) → IsSheet (with_row_above (with_row_below s parent) child) → IsSheet (with_room false s parent child)
        → MayDraw (with_room false s parent child) (edge_over (with_room false s parent child) parent child false (turns_in false (with_room false s parent child) parent child))
    light_may sheet1 sheet2 sheet3 =
        subst (MayDraw (with_room false s parent child)) (sym (light_edge_is (with_room false s parent child) space_is))
        (subst (λ t. MayDraw t (in_space (x k s parent child p q differ at_p at_q out into sheet) s.cols)) (sym space_is)
        (light_at k s parent child p q differ at_p at_q out into sheet sheet1 (subst IsSheet mid_is sheet2) (subst IsSheet space_is sheet3)))

-- What the calls leave, one after another.
module _ (s : Sheet) (parent child : ℕ) where
  pub heavy_now : (now1 now2 : Sheet) (a b : BlockPlace) → a ≡ place_in s parent → now1 ≡ with_cols s (col_of a + 1) 1 → b ≡ place_in now1 child
      → now2 ≡ with_rows now1 (row_of b) 1 → (now1 ≡ with_col_right_of s parent) × (now2 ≡ with_room true s parent child)
  heavy_now now1 now2 a b ea e1 eb e2 =
      let first : now1 ≡ with_col_right_of s parent = e1 ∙ ap (λ x. with_cols s (col_of x + 1) 1) ea in
      (first, e2 ∙ ap (λ x. with_rows now1 (row_of x) 1) eb ∙ ap (λ t. with_row_above t child) first)

  pub light_now : (now1 now2 now3 : Sheet) (a b : BlockPlace) (last : ℕ) → a ≡ place_in s parent → now1 ≡ with_rows s (row_of a + 1) 1 → b ≡ place_in now1 child
      → now2 ≡ with_rows now1 (row_of b) 1 → last ≡ now2.cols → now3 ≡ with_cols now2 last 1
      → (now1 ≡ with_row_below s parent) × (now2 ≡ with_row_above (with_row_below s parent) child) × (now3 ≡ with_room false s parent child)
  light_now now1 now2 now3 a b last ea e1 eb e2 el e3 =
      let first : now1 ≡ with_row_below s parent = e1 ∙ ap (λ x. with_rows s (row_of x + 1) 1) ea in
      let second : now2 ≡ with_row_above (with_row_below s parent) child =
      e2 ∙ ap (λ x. with_rows now1 (row_of x) 1) eb ∙ ap (λ t. with_row_above t child) first in
      (first, second, e3 ∙ ap (λ n. with_cols now2 n 1) el ∙ ap with_last_col second)

  pub turns_now : (heavy : Bool) (now t : Sheet) (a b : BlockPlace) (last : ℕ) (turns : List BlockPlace) → now ≡ t → a ≡ place_in now parent → b ≡ place_in now child
      → turns ≡ turns_along heavy a b last → turns_along heavy (place_in now parent) (place_in now child) last ≡ turns_in heavy now parent child
      → turns ≡ turns_in heavy t parent child
  turns_now heavy now t a b last turns e ea eb et same = et ∙ ap (λ x. turns_along heavy x b last) ea
      ∙ ap (λ x. turns_along heavy (place_in now parent) x last) eb ∙ same ∙ ap (λ u. turns_in heavy u parent child) e

  pub drawn_now : (heavy : Bool) (now : Sheet) (turns : List BlockPlace) → now ≡ with_room heavy s parent child
      → turns ≡ turns_in heavy (with_room heavy s parent child) parent child → with_edge now (edge_over now parent child heavy turns) ≡ drawn s parent child heavy
  drawn_now heavy now turns e f = ap (λ t. with_edge t (edge_over t parent child heavy turns)) e
      ∙ ap (λ xs. with_edge (with_room heavy s parent child) (edge_over (with_room heavy s parent child) parent child heavy xs)) f

-- the last column before another one came in behind it
pub last_is : (now2 now3 : Sheet) (last : ℕ) → last ≡ now2.cols → now3 ≡ with_cols now2 last 1 → last ≡ now3.cols - 1
last_is now2 now3 last a b = let e : now3.cols ≡ now2.cols + 1 = ap (λ (t : Sheet). t.cols) b in omega (arith, a, e)

-- a number of a row is small
pub row_small : ((s : Sheet) → IsSheet s → (v : ℕ) (p : BlockPlace) → stands_at s.nodes v ≡ Some p → IsOnSheet s p) → (t : Sheet) → IsSheet t → (v : ℕ) (p : BlockPlace)
    → p ≡ place_in t v → row_of p + 1 < 2 ^ 32
row_small inside t sheet v p e = rw e (by (stands_at t.nodes v) refl)
  where
    by : (o : Option BlockPlace) → stands_at t.nodes v ≡ o → row_of (unwrap_or o (0, 0)) + 1 < 2 ^ 32
    by None is = omega arith
    by (Some q) is = let h : row_of q < t.rows = (inside t sheet v q is).0 in let few : t.rows ≤ 2 ^ 20 = sheet.few_rows in omega arith

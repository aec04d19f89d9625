-- Edges that may be drawn may still be drawn after others.
use Rattle.std.proofs.Common.{◌≡◌, ◌≢◌, ℕ, zero, suc, ◌+◌, ◌*◌, ◌^◌, ◌<◌, ◌≤◌, Bool, true, false, nat_eq, cond, Some, IsSome, List, [], ◌∷◌, ◌++◌, length, map, take, get_or, All, AllPairs, refl, sym, ap, ◌∙◌, subst, arith}
use Rattle.std.specs.List.{find}
use Rattle.std.specs.Option.{option_map}
use Rattle.std.proofs.lemmas.List.Elements.{All-map, All-push, All-head, All-tail, All-cons, All-nil}
use Rattle.std.proofs.lemmas.List.{take_all}
use Rattle.std.proofs.lemmas.List.Sums.{fold_more}
use Rattle.block_grid.specs.declared.standing.Standing.{Standing}
use Rattle.block_grid.specs.Lines.{BlockPlace}
use Rattle.block_grid.specs.Sheets.{DrawnEdge, Sheet, IsInOpen, IsOutOpen, stands_at}
use Rattle.channel_route.specs.Drawing.{drawn, ends_of, name_of}
use Rattle.tree_layout.specs.declared.numbered.Entry.{Entry}
use Rattle.tree_layout.specs.declared.links.Link.{Link}
use Rattle.tree_layout.specs.Numbered.{node_at}
use Rattle.tree_layout.specs.Squares.{with_link, with_links}
use Rattle.tree_layout.specs.Drawing.{MayLink, AreApart}

-- nodes with the same names stand alike
stand_by : (v : ℕ) (ns ms : List Standing) → map name_of ns ≡ map name_of ms → IsSome (stands_at ms v) → IsSome (stands_at ns v)
stand_by v [] [] e h = h
stand_by v [] (m ∷ ms) e h = cc
stand_by v (n ∷ ns) [] e h = cc
stand_by v (n ∷ ns) (m ∷ ms) e h =
    let one : name_of n ≡ name_of m = cc in
    let rest : map name_of ns ≡ map name_of ms = cc in
    let same : n.node ≡ m.node = ap (λ (p : ℕ × Bool). p.0) one in
    by (nat_eq n.node v) (nat_eq m.node v) (ap (λ x. nat_eq x v) same) h (stand_by v ns ms rest)
  where
    by : (a b : Bool) → a ≡ b → IsSome (option_map {U = BlockPlace} (λ (m : Standing). (m.row, m.col)) (cond b (Some m) (find (λ m. nat_eq m.node v) ms)))
        → (IsSome (stands_at ms v) → IsSome (stands_at ns v))
        → IsSome (option_map {U = BlockPlace} (λ (m : Standing). (m.row, m.col)) (cond a (Some n) (find (λ m. nat_eq m.node v) ns)))
    by true true e h rec = refl
    by false false e h rec = rec h
    by true false e h rec = refl
    by false true e h rec = cc

-- what is said of all edges by their ends
pub all_ends : (P : ℕ × ℕ × Bool → Type 0) (es : List DrawnEdge) → All P (map ends_of es) → All (λ e. P (ends_of e)) es
all_ends P [] h = All-nil (λ (e : DrawnEdge). P (ends_of e))
all_ends P (e ∷ es) h = All-cons (λ (e : DrawnEdge). P (ends_of e)) e es (All-head P (ends_of e) (map ends_of es) h) (all_ends P es (All-tail P (ends_of e) (map ends_of es) h))

module _ (edges_drawn : (s : Sheet) (parent child : ℕ) (heavy : Bool) → map ends_of (drawn s parent child heavy).edges ≡ map ends_of s.edges ++ (parent, child, heavy) ∷ [])
    (nodes_drawn : (s : Sheet) (parent child : ℕ) (heavy : Bool) → map name_of (drawn s parent child heavy).nodes ≡ map name_of s.nodes) where
  abbrev OutFree : ℕ → Bool → ℕ × ℕ × Bool → Type 0
  OutFree v heavy x = x.0 ≡ v → x.2 ≢ heavy

  abbrev InFree : ℕ → ℕ × ℕ × Bool → Type 0
  InFree v x = x.1 ≢ v

  out_after : (s : Sheet) (p c v : ℕ) (r heavy : Bool) → IsOutOpen s v heavy → (p ≡ v → r ≢ heavy) → IsOutOpen (drawn s p c r) v heavy
  out_after s p c v r heavy free off = all_ends (OutFree v heavy) (drawn s p c r).edges
      (subst (All (OutFree v heavy)) (sym (edges_drawn s p c r)) (All-push (OutFree v heavy) (map ends_of s.edges) (p, c, r) (All-map (OutFree v heavy) ends_of s.edges free) off))

  in_after : (s : Sheet) (p c v : ℕ) (r : Bool) → IsInOpen s v → c ≢ v → IsInOpen (drawn s p c r) v
  in_after s p c v r free off = all_ends (InFree v) (drawn s p c r).edges
      (subst (All (InFree v)) (sym (edges_drawn s p c r)) (All-push (InFree v) (map ends_of s.edges) (p, c, r) (All-map (InFree v) ends_of s.edges free) off))

  stands_after : (s : Sheet) (p c v : ℕ) (r : Bool) → IsSome (stands_at s.nodes v) → IsSome (stands_at (drawn s p c r).nodes v)
  stands_after s p c v r h = stand_by v (drawn s p c r).nodes s.nodes (nodes_drawn s p c r) h

  module _ (entries : List Entry) (once : (i k : ℕ) → i < length entries → k < length entries → node_at entries i ≡ node_at entries k → i ≡ k) where
    pub may_after : (s : Sheet) (l m : Link) → MayLink entries s l → MayLink entries s m → AreApart l m → MayLink entries (with_link entries s l) m
    may_after s l m a b apart = record {
      parent_in = b.parent_in;
      child_in = b.child_in;
      differ = b.differ;
      parent_stands = stands_after s _ _ _ l.heavy b.parent_stands;
      child_stands = stands_after s _ _ _ l.heavy b.child_stands;
      out_open = out_after s _ _ _ l.heavy m.heavy b.out_open (λ e. apart.0 (once l.parent m.parent a.parent_in b.parent_in e));
      in_open = in_after s _ _ _ l.heavy b.in_open (λ e. apart.1 (once l.child m.child a.child_in b.child_in e));
    }

read_same : (xs : List Link) (i : ℕ) (d d' : Link) → i < length xs → get_or xs i d ≡ get_or xs i d'
read_same [] i d d' h = absurd (omega arith)
read_same (x ∷ xs) zero d d' h = refl
read_same (x ∷ xs) (suc i) d d' h = read_same xs i d d' (omega arith)

-- the sheet after the first edges, on which the others may still be drawn
pub record Drawing (entries : List Entry) (old now : Sheet) (links : List Link) (i : ℕ) : Type 0 where
  pub is : now ≡ with_links entries old (take i links)
  pub may : (k : ℕ) (d : Link) → i ≤ k → k < length links → MayLink entries now (get_or links k d)
  pub rows : now.rows ≤ old.rows + 2 * i
  pub cols : now.cols ≤ old.cols + i

pub start : (entries : List Entry) (old : Sheet) (links : List Link) → All (MayLink entries old) links → Drawing entries old old links 0
start entries old links may = record { is = refl; may = λ k d le lt. may k d lt; rows = omega arith; cols = omega arith }

module _ (edges_drawn : (s : Sheet) (parent child : ℕ) (heavy : Bool) → map ends_of (drawn s parent child heavy).edges ≡ map ends_of s.edges ++ (parent, child, heavy) ∷ [])
    (nodes_drawn : (s : Sheet) (parent child : ℕ) (heavy : Bool) → map name_of (drawn s parent child heavy).nodes ≡ map name_of s.nodes)
    (heavy_rows : (s : Sheet) (parent child : ℕ) → (drawn s parent child true).rows ≡ s.rows + 1)
    (light_rows : (s : Sheet) (parent child : ℕ) → (drawn s parent child false).rows ≡ s.rows + 2)
    (more_cols : (s : Sheet) (parent child : ℕ) (heavy : Bool) → (drawn s parent child heavy).cols ≡ s.cols + 1) (entries : List Entry)
    (once : (i k : ℕ) → i < length entries → k < length entries → node_at entries i ≡ node_at entries k → i ≡ k) where
  pub two_rows : (heavy : Bool) (s : Sheet) (parent child : ℕ) → (drawn s parent child heavy).rows ≤ s.rows + 2
  two_rows true s parent child = omega (arith, heavy_rows s parent child)
  two_rows false s parent child = omega (arith, light_rows s parent child)

  pub next : (old now now' : Sheet) (links : List Link) (i : ℕ) (d : Link) → i < length links → AllPairs AreApart links → Drawing entries old now links i
      → now' ≡ with_link entries now (get_or links i d) → Drawing entries old now' links (i + 1)
  next old now now' links i d lt apart h e =
      let l : Link = get_or links i d in
      let rows : (with_link entries now l).rows ≤ now.rows + 2 = two_rows l.heavy now (node_at entries l.parent) (node_at entries l.child) in
      let cols : (with_link entries now l).cols ≡ now.cols + 1 = more_cols now (node_at entries l.parent) (node_at entries l.child) l.heavy in
      record {
        is = e ∙ ap (λ s. with_link entries s l) h.is ∙ sym (fold_more (with_link entries) old links i d lt);
        may = λ k d' le lt'. subst (λ s. MayLink entries s (get_or links k d')) (sym e)
            (may_after edges_drawn nodes_drawn entries once now l (get_or links k d') (h.may i d (omega arith) lt) (h.may k d' (omega arith) lt')
            (subst (λ x. AreApart x (get_or links k d')) (read_same links i d' d lt) (apart i k d' (omega arith) lt')));
        rows = omega (arith, ap (λ (s : Sheet). s.rows) e, rows, h.rows);
        cols = omega (arith, ap (λ (s : Sheet). s.cols) e, cols, h.cols);
      }

pub room_rows : (entries : List Entry) (old now : Sheet) (links : List Link) (i : ℕ) → Drawing entries old now links i → i < length links
    → old.rows + 2 * length links ≤ 2 ^ 20 → now.rows + 2 ≤ 2 ^ 20
room_rows entries old now links i h lt few = omega (arith, h.rows)

pub room_cols : (entries : List Entry) (old now : Sheet) (links : List Link) (i : ℕ) → Drawing entries old now links i → i < length links
    → old.cols + length links ≤ 2 ^ 20 → now.cols + 1 ≤ 2 ^ 20
room_cols entries old now links i h lt few = omega (arith, h.cols)

pub finished : (entries : List Entry) (old now : Sheet) (links : List Link) (i : ℕ) → Drawing entries old now links i → length links ≤ i
    → now ≡ with_links entries old links
finished entries old now links i h past = h.is ∙ ap (with_links entries old) (take_all i links past)

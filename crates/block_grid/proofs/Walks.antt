-- A walk over places that occur once is a line that never returns to itself.
use Rattle.std.proofs.Common.{◌≡◌, ◌≢◌, ℕ, ◌+◌, ◌⊎◌, inl, inr, Bool, true, false, IsTrue, nat_eq, ◌==◌, ◌&&◌, ◌||◌, Some, None, List, [], ◌∷◌, ◌++◌, get_or, All, refl, sym, ◌∙◌, subst, arith, rules}
use Rattle.std.specs.List.{AllPairs}
use Rattle.std.proofs.lemmas.Bool.{eq-eqb}
use Rattle.std.proofs.lemmas.Bool.Decides.{nat_tests}
use Rattle.std.proofs.lemmas.List.Elements.{All-head, All-tail, All-cons, All-nil, All-push}
use Rattle.std.proofs.lemmas.List.Kept.{AllPairs-cons}
use Rattle.std.proofs.lemmas.List.Quantifiers.{all_pairs_push}
use Rattle.block_grid.specs.Lines.{BlockPlace, row_of, col_of, is_straight, IsOnStretch}
use Rattle.block_grid.specs.Sheets.{DrawnEdge, line_of, Sheet, node_on, stands_at, block_at, IsSheet}
use Rattle.block_grid.specs.Laying.{IsOnLine, NeverReturns, MayPass, IsFreeBetween, IsFreeLine, AreNeighbours, IsWalk, ArePassed, MayDraw, MayLay}
use Rattle.block_grid.proofs.Lists.{AllPairs-first, AllPairs-tail}
use Rattle.block_grid.proofs.Stretches.{IsAt}
use Rattle.block_grid.proofs.Nodes.{on_own_place, on_place, empty_block, horizontal_block, vertical_block}

abbrev Differ : BlockPlace → BlockPlace → Type 0
Differ p q = row_of p ≡ row_of q → col_of p ≢ col_of q

-- a stretch between neighbours has no place but its ends
short_stretch : (p q : BlockPlace) (r c : ℕ) → AreNeighbours p q → IsOnStretch p q r c → IsAt p r c ⊎ IsAt q r c
short_stretch p q r c near on =
    elim near as (λ _. IsAt p r c ⊎ IsAt q r c) [
      | inl x ↦ two (nat_eq c (col_of p)) refl x.0 x.1
      | inr y ↦ two_rows (nat_eq r (row_of p)) refl y.0 y.1
    ]
  where
    eq_of : (m n : ℕ) → nat_eq m n ≡ true → m ≡ n
    eq_of m n e = grind (arith, nat_tests)

    two : (b : Bool) → nat_eq c (col_of p) ≡ b → row_of p ≡ row_of q → ((col_of p + 1 ≡ col_of q) ⊎ (col_of q + 1 ≡ col_of p)) →
        IsAt p r c ⊎ IsAt q r c
    two true e row step = inl (omega arith, eq_of c (col_of p) e)
    two false e row step = let ne : c ≢ col_of p = grind (arith, nat_tests) in inr (
      omega arith,
      elim step as (λ _. c ≡ col_of q) [
        | inl x ↦
            omega arith
        | inr y ↦ omega arith
      ],
    )

    two_rows : (b : Bool) → nat_eq r (row_of p) ≡ b → col_of p ≡ col_of q → ((row_of p + 1 ≡ row_of q) ⊎ (row_of q + 1 ≡ row_of p)) →
        IsAt p r c ⊎ IsAt q r c
    two_rows true e col step = inl (eq_of r (row_of p) e, omega arith)
    two_rows false e col step = let ne : r ≢ row_of p = grind (arith, nat_tests) in inr (
      elim step as (λ _. r ≡ row_of q) [
        | inl x ↦
            omega arith
        | inr y ↦ omega arith
      ],
      omega arith,
    )

neighbours_differ : (p q : BlockPlace) → AreNeighbours p q → Differ p q
neighbours_differ p q near row col =
    elim near as (λ _. ⊥) [
      | inl x ↦ elim x.1 as (λ _. ⊥) [ inl u ↦ omega arith | inr v ↦ omega arith ]
      | inr y ↦ elim y.1 as (λ _. ⊥) [
        | inl u ↦
            omega arith
        | inr v ↦ omega arith
      ]
    ]

not_on_walk : (p q : BlockPlace) (rest : List BlockPlace) → All (Differ p) (q ∷ rest) → IsWalk q rest → IsOnLine q rest (row_of p) (col_of p) → ⊥
not_on_walk p q [] all walk on = All-head (Differ p) q [] all on.0 on.1
not_on_walk p q (t ∷ rest) all walk on =
    let later : All (Differ p) (t ∷ rest) = All-tail (Differ p) q (t ∷ rest) all in
    elim on as (λ _. ⊥) [
      | inl x ↦ elim (short_stretch q t (row_of p) (col_of p) walk.0 x) as (λ _. ⊥) [
        | inl at ↦ All-head (Differ p) q (t ∷ rest) all at.0 at.1
        | inr at ↦ All-head (Differ p) t rest later at.0 at.1
      ]
      | inr y ↦ not_on_walk p t rest later walk.1 y
    ]

walk_never_returns : (p : BlockPlace) (rest : List BlockPlace) → IsWalk p rest → AllPairs Differ (p ∷ rest) → NeverReturns p rest
walk_never_returns p [] walk once = tt
walk_never_returns p (q ∷ rest) walk once = (
  neighbours_differ p q walk.0,
  λ r c on later. elim (short_stretch p q r c walk.0 on) as (λ _. IsAt q r c) [
    | inl at ↦ absurd (not_on_walk p q rest (AllPairs-first Differ p (q ∷ rest) once) walk.1 (moved r c at later))
    | inr at ↦ at
  ],
  walk_never_returns q rest walk.1 (AllPairs-tail Differ p (q ∷ rest) once),
)
  where
    moved : (r c : ℕ) → IsAt p r c → IsOnLine q rest r c → IsOnLine q rest (row_of p) (col_of p)
    moved r c at on = subst (λ y. IsOnLine q rest (row_of p) y) at.1 (subst (λ x. IsOnLine q rest x c) at.0 on)

walk_straight : (p : BlockPlace) (rest : List BlockPlace) → IsWalk p rest → IsTrue (is_straight p rest)
walk_straight p [] walk = search rules
walk_straight p (q ∷ rest) walk =
    elim walk.0 as (λ _. IsTrue ((row_of p == row_of q || col_of p == col_of q) && is_straight q rest)) [
      | inl x ↦ rw (eq-eqb (row_of p) (row_of q) x.0) (walk_straight q rest walk.1)
      | inr y ↦ rw (eq-eqb (col_of p) (col_of q) y.0) (second (row_of p == row_of q) (walk_straight q rest walk.1))
    ]
  where
    second : (a : Bool) → IsTrue (is_straight q rest) → IsTrue ((a || true) && is_straight q rest)
    second true h = h
    second false h = h

between_none : (s : Sheet) (p q : BlockPlace) → AreNeighbours p q → IsFreeBetween s p q
between_none s p q near r c on not_p not_q =
    elim (short_stretch p q r c near on) as (λ _. MayPass (block_at s r c) p q q) [
      | inl at ↦ absurd (not_p at.0 at.1)
      | inr at ↦
          absurd (not_q at.0 at.1)
    ]

walk_free : (s : Sheet) (p : BlockPlace) (rest : List BlockPlace) → IsWalk p rest → ArePassed s p rest → IsFreeLine s p rest
walk_free s p [] walk passed = tt
walk_free s p (q ∷ []) walk passed = between_none s p q walk.0
walk_free s p (q ∷ (t ∷ rest)) walk passed = (between_none s p q walk.0, passed.0, walk_free s q (t ∷ rest) walk.1 passed.1)

-- no node stands where a line may pass
pass_no_node : (s : Sheet) (p q t : BlockPlace) → MayPass (block_at s (row_of q) (col_of q)) p q t → node_on s.nodes (row_of q) (col_of q) ≡ None
pass_no_node s p q t may =
    elim may as (λ _. node_on s.nodes (row_of q) (col_of q) ≡ None) [
      | inl x ↦ (empty_block s (row_of q) (col_of q) x).0
      | inr y ↦ elim y as (λ _. node_on s.nodes (row_of q) (col_of q) ≡ None) [
        | inl u ↦ (horizontal_block s (row_of q) (col_of q) u.0).0
        | inr v ↦ (vertical_block s (row_of q) (col_of q) v.0).0
      ]
    ]

no_nodes_on : (s : Sheet) (p f : BlockPlace) (path : List BlockPlace) → ArePassed s p (path ++ f ∷ []) →
    All (λ q. node_on s.nodes (row_of q) (col_of q) ≡ None) path
no_nodes_on s p f [] passed = All-nil (λ q. node_on s.nodes (row_of q) (col_of q) ≡ None)
no_nodes_on s p f (q ∷ []) passed = All-cons (λ x. node_on s.nodes (row_of x) (col_of x) ≡ None) q [] (pass_no_node s p q f passed.0) (All-nil
    (λ x. node_on s.nodes (row_of x) (col_of x) ≡ None))
no_nodes_on s p f (q ∷ (t ∷ path)) passed = All-cons (λ x. node_on s.nodes (row_of x) (col_of x) ≡ None) q (t ∷ path)
    (pass_no_node s p q t passed.0) (no_nodes_on s q f (t ∷ path) passed.1)

module _ (s : Sheet) (e : DrawnEdge) (sheet : IsSheet s) (may : MayLay s e) where
  not_on_path : (v : ℕ) (p : BlockPlace) → stands_at s.nodes v ≡ Some p → All (Differ p) e.turns
  not_on_path v p stands k d lt row col =
      on_place s.nodes v p stands (subst (λ y. node_on s.nodes (row_of p) y ≡ None) (sym col) (subst (λ x. node_on s.nodes x (col_of
      (get_or e.turns k d)) ≡ None) (sym row) (no_nodes_on s e.start e.finish e.turns may.passed k d lt)))

  ends_apart : Differ e.start e.finish
  ends_apart row col =
      elim (node_on s.nodes (row_of e.start) (col_of e.start)) as (λ o. node_on s.nodes (row_of e.start) (col_of e.start) ≡ o → ⊥) [
        | None ↦ λ none. on_place s.nodes e.parent e.start may.starts none
        | Some n ↦ λ is. may.ends_differ (sym
            (on_own_place s sheet e.parent e.start n may.starts is) ∙ on_own_place s sheet e.child e.finish n may.finishes (subst
            (λ y. node_on s.nodes (row_of e.finish) y ≡ Some n) col (subst (λ x. node_on s.nodes x (col_of e.start) ≡ Some n) row is)))
      ] refl

  all_once : AllPairs Differ (e.start ∷ line_of e)
  all_once =
      AllPairs-cons Differ e.start (line_of e) (All-push (Differ e.start) e.turns e.finish (not_on_path e.parent e.start may.starts) ends_apart)
      (all_pairs_push Differ e.turns e.finish may.once (λ k d lt row col. not_on_path e.child e.finish may.finishes k d lt (sym row) (sym col)))

  pub may_draw : MayDraw s e
  may_draw = record {
    ends_differ = may.ends_differ;
    starts = may.starts;
    finishes = may.finishes;
    out_open = may.out_open;
    in_open = may.in_open;
    inside = may.inside;
    straight = walk_straight e.start (line_of e) may.walk;
    leaves = may.leaves;
    enters = may.enters;
    never_returns = walk_never_returns e.start (line_of e) may.walk all_once;
    free = walk_free s e.start (line_of e) may.walk may.passed;
  }

-- The edges at a node's place are those of its ports.
use Rattle.std.proofs.Common.{◌≡◌, ℕ, zero, suc, ◌+◌, ◌<◌, Bool, true, false, not, ◌&&◌, nat_lt, nat_eq, ◌==◌, cond, Option, Some, None, List, [], ◌∷◌, length, get_or, All, refl, sym, ap, subst, ◌∙◌, arith}
use Rattle.std.specs.List.{find}
use Rattle.std.proofs.lemmas.Bool.{eq-eqb}
use Rattle.std.proofs.lemmas.List.Elements.{All-head, All-tail}
use Rattle.block_grid.specs.declared.standing.Standing.{Standing}
use Rattle.block_grid.specs.Lines.{BlockPlace, row_of, col_of}
use Rattle.block_grid.specs.Sheets.{DrawnEdge, Sheet, north_of, west_of, node_on, stands_at, EndsOn, IsSheet}
use Rattle.block_grid.specs.Bundles.{edge_north, edge_west, CrossAtPorts, BundlesEndAtPorts, FoundNodesStand, StandingNodesAreFound}
use Rattle.block_grid.proofs.Nodes.{on_own_place, on_place, at_own_place, find-at}

find_agree : {A : Type 0} (p q : A → Bool) (xs : List A) → All (λ x. p x ≡ q x) xs → find p xs ≡ find q xs
find_agree p q [] h = refl
find_agree {A} p q (x ∷ xs) h =
    rw (All-head (λ y. p y ≡ q y) x xs h, find_agree p q xs (All-tail (λ y. p y ≡ q y) x xs h)) refl

find_nothing : {A : Type 0} (p : A → Bool) (xs : List A) → All (λ x. p x ≡ false) xs → find p xs ≡ None
find_nothing p [] h = refl
find_nothing {A} p (x ∷ xs) h = rw (All-head (λ y. p y ≡ false) x xs h) (find_nothing p xs (All-tail (λ y. p y ≡ false) x xs h))

bit_tells : (b : Bool) (n : ℕ) → n ≡ cond b 1 0 → nat_lt 0 n ≡ b
bit_tells true n e = rw e refl
bit_tells false n e = rw e refl

module _ (s : Sheet) (r c : ℕ) (node : Standing) (sheet : IsSheet s) (is : node_on s.nodes r c ≡ Some node) where
  ends : (k : ℕ) (d : DrawnEdge) → k < length s.edges → EndsOn node.node (get_or s.edges k d) r c
  ends k d lt = (sheet.drawn k d lt).ends r c node is

  pub cross_at_ports : CrossAtPorts s node.node r c
  cross_at_ports = record {
    north = find_agree (λ e. nat_lt 0 (north_of e r c)) (λ e. e.child == node.node) s.edges (λ k d lt. bit_tells _ _ (ends k d lt).north);
    south = find_agree (λ e. nat_lt 0 (north_of e (r + 1) c)) (λ e. e.parent == node.node && not e.heavy) s.edges
        (λ k d lt. bit_tells _ _ (ends k d lt).south);
    west = find_nothing (λ e. nat_lt 0 (west_of e r c)) s.edges (λ k d lt. bit_tells false _ (ends k d lt).west);
    east = find_agree (λ e. nat_lt 0 (west_of e r (c + 1))) (λ e. e.parent == node.node && e.heavy) s.edges
        (λ k d lt. bit_tells _ _ (ends k d lt).east);
  }

pub bundles_end_at_ports : BundlesEndAtPorts
bundles_end_at_ports s r c node sheet is = cross_at_ports s r c node sheet is

-- ---- where nodes stand

pub standing_nodes_are_found : StandingNodesAreFound
standing_nodes_are_found s v p sheet stands = by (node_on s.nodes (row_of p) (col_of p)) refl
  where
    by : (o : Option Standing) → node_on s.nodes (row_of p) (col_of p) ≡ o
        → (node : Standing) × (node_on s.nodes (row_of p) (col_of p) ≡ Some node) × (node.node ≡ v)
    by None e = absurd (on_place s.nodes v p stands e)
    by (Some n) e = (n, e, on_own_place s sheet v p n stands e)

and_first : (a b : Bool) → (a && b) ≡ true → a ≡ true
and_first true b e = refl
and_first false b e = cc

-- a node of the list stands somewhere
some_place : (nodes : List Standing) (k : ℕ) (n : Standing) → k < length nodes → ((d : Standing) → get_or nodes k d ≡ n)
    → (p : BlockPlace) × (stands_at nodes n.node ≡ Some p)
some_place [] k n lt at = absurd (omega arith)
some_place (x ∷ xs) zero n lt at = ((x.row, x.col), rw (eq-eqb x.node n.node (ap (λ (y : Standing). y.node) (at x))) refl)
some_place (x ∷ xs) (suc k) n lt at =
    elim (nat_eq x.node n.node) as (λ b. nat_eq x.node n.node ≡ b → (p : BlockPlace) × (stands_at (x ∷ xs) n.node ≡ Some p)) [
      | true ↦ λ e. ((x.row, x.col), rw e refl)
      | false ↦ λ e. let found = some_place xs k n (omega arith) at in (found.0, rw e found.1)
    ] refl

pub found_nodes_stand : FoundNodesStand
found_nodes_stand s r c node sheet is =
    let other = find-at (λ m. nat_eq m.row r && nat_eq m.col c) s.nodes node is in
    let place = some_place s.nodes other.0 node other.1 other.2 in
    let at = at_own_place s sheet node.node place.0 r c node place.1 is refl in
    place.1 ∙ ap (λ (p : BlockPlace). Some p) (pair (sym at.0) (sym at.1))
  where
    pair : {p : BlockPlace} {a b : ℕ} → row_of p ≡ a → col_of p ≡ b → p ≡ (a, b)
    pair e f = λ i. (e i, f i)

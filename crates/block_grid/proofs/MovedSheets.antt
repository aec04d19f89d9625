-- A sheet whose places move in order is a sheet again.
use Rattle.std.proofs.Common.{◌≡◌, ◌≢◌, ℕ, ◌<◌, ◌≤◌, ◌^◌, nat_eq, Option, Some, None, List, [], ◌∷◌, map, refl, ap, sym, ◌∙◌, subst}
use Rattle.std.specs.Option.{option_map}
use Rattle.std.proofs.lemmas.Bool.{eq-eqb, eqb-true}
use Rattle.std.proofs.lemmas.List.Elements.{All-map}
use Rattle.block_grid.specs.declared.standing.Standing.{Standing}
use Rattle.block_grid.specs.Lines.{BlockPlace, row_of, col_of, is_straight}
use Rattle.block_grid.specs.Sheets.{DrawnEdge, line_of, north_of, south_of, west_of, sides_of, Sheet, node_on, GoesThrough, EndsOn, AreClear, IsOnSheet, IsDrawn, IsSheet}
use Rattle.block_grid.specs.Changes.{node_moved, edge_moved, sheet_moved}
use Rattle.block_grid.proofs.Lists.{AllPairs-map}
use Rattle.block_grid.proofs.Moves.{Origin, kept, upright, level, line_moved, stands_moved, node_on_moved, node_on_none, crossed_once, passes_kept, ends_kept, passes_upright, passes_level, clear_kept, clear_upright, clear_level}

none_before : {A B : Type 0} (f : A → B) (o : Option A) → option_map f o ≡ None → o ≡ None
none_before f None e = refl
none_before f (Some x) e = cc

some_before : {A B : Type 0} (f : A → B) (o : Option A) (y : B) → option_map f o ≡ Some y → (x : A) × (o ≡ Some x) × (f x ≡ y)
some_before f None y e = cc
some_before f (Some x) y e = (x, refl, cc)

pub straight_moved : (h : BlockPlace → BlockPlace) → ((p q : BlockPlace) →
    nat_eq (row_of (h p)) (row_of (h q)) ≡ nat_eq (row_of p) (row_of q)) → ((p q : BlockPlace) →
    nat_eq (col_of (h p)) (col_of (h q)) ≡ nat_eq (col_of p) (col_of q))
    → (p : BlockPlace) (rest : List BlockPlace) → is_straight (h p) (map h rest) ≡ is_straight p rest
straight_moved h rows cols p [] = refl
straight_moved h rows cols p (q ∷ rest) = rw (rows p q, cols p q, straight_moved h rows cols q rest) refl

module _ (s : Sheet) (h : BlockPlace → BlockPlace) (rows' cols' : ℕ)
    (same_row : (p q : BlockPlace) → nat_eq (row_of (h p)) (row_of (h q)) ≡ nat_eq (row_of p) (row_of q))
    (same_col : (p q : BlockPlace) → nat_eq (col_of (h p)) (col_of (h q)) ≡ nat_eq (col_of p) (col_of q))
    (inside : (p : BlockPlace) → IsOnSheet s p → (row_of (h p) < rows') × (col_of (h p) < cols'))
    (origin : (r c : ℕ) → Origin h r c) where
  row_back : (p q : BlockPlace) → row_of (h p) ≡ row_of (h q) → row_of p ≡ row_of q
  row_back p q e = eqb-true _ _ (sym (same_row p q) ∙ eq-eqb _ _ e)

  col_back : (p q : BlockPlace) → col_of (h p) ≡ col_of (h q) → col_of p ≡ col_of q
  col_back p q e = eqb-true _ _ (sym (same_col p q) ∙ eq-eqb _ _ e)

  passes_moved : (e : DrawnEdge) → IsDrawn s e → (r c : ℕ) → Origin h r c → node_on (map (node_moved h) s.nodes) r c ≡ None →
      GoesThrough (edge_moved h e) r c
  passes_moved e d r c (kept r0 c0 image same) none =
      passes_kept (edge_moved h e) e r c r0 c0 (same e) (d.passes r0 c0 (none_before (node_moved h) _ (sym
      (node_on_moved h s.nodes r c r0 c0 image) ∙ none)))
  passes_moved e d r c (upright r0 c0 away up) none = passes_upright (edge_moved h e) r c _ (crossed_once s e d r0 c0).0 (up e)
  passes_moved e d r c (level r0 c0 away along) none = passes_level (edge_moved h e) r c _ (crossed_once s e d r0 c0).1 (along e)

  ends_moved : (e : DrawnEdge) → IsDrawn s e → (r c : ℕ) → Origin h r c → (n : Standing) → node_on (map (node_moved h) s.nodes) r c ≡ Some n →
      EndsOn n.node (edge_moved h e) r c
  ends_moved e d r c (kept r0 c0 image same) n is =
      let back = some_before (node_moved h) (node_on s.nodes r0 c0) n (sym (node_on_moved h s.nodes r c r0 c0 image) ∙ is) in
      subst (λ (m : Standing). EndsOn m.node (edge_moved h e) r c) back.2 (ends_kept h (back.0).node e r c r0 c0 (same e)
      (d.ends r0 c0 back.0 back.1))
  ends_moved e d r c (upright r0 c0 away up) n is = let e' = node_on_none h s.nodes r c away in cc
  ends_moved e d r c (level r0 c0 away along) n is = let e' = node_on_none h s.nodes r c away in cc

  clear_at : (e f : DrawnEdge) → AreClear e f → (r c : ℕ) → Origin h r c
      → (0 < north_of (edge_moved h e) r c → north_of (edge_moved h f) r c ≡ 0) × (0 < west_of (edge_moved h e) r c →
      west_of (edge_moved h f) r c ≡ 0)
      × (2 ≤ sides_of (edge_moved h e) r c → 2 ≤ sides_of (edge_moved h f) r c → north_of (edge_moved h e) r c ≡ south_of (edge_moved h e) r c)
  clear_at e f clear r c (kept r0 c0 image same) = clear_kept (edge_moved h e) e (edge_moved h f) f r c r0 c0 (same e) (same f) clear
  clear_at e f clear r c (upright r0 c0 away up) = clear_upright (edge_moved h e) e (edge_moved h f) f r c r0 c0 (up e) (up f) clear
  clear_at e f clear r c (level r0 c0 away along) = clear_level (edge_moved h e) e (edge_moved h f) f r c r0 c0 (along e) (along f) clear

  clear_moved : (e f : DrawnEdge) → AreClear e f → AreClear (edge_moved h e) (edge_moved h f)
  clear_moved e f clear = record {
    north = λ r c. (clear_at e f clear r c (origin r c)).0;
    west = λ r c. (clear_at e f clear r c (origin r c)).1;
    crossing = λ r c. (clear_at e f clear r c (origin r c)).2;
  }

  drawn_moved : (e : DrawnEdge) → IsDrawn s e → IsDrawn (sheet_moved h rows' cols' s) (edge_moved h e)
  drawn_moved e d = record {
    ends_differ = d.ends_differ;
    starts = stands_moved h s.nodes e.parent ∙ ap (option_map h) d.starts;
    finishes = stands_moved h s.nodes e.child ∙ ap (option_map h) d.finishes;
    inside = All-map (IsOnSheet (sheet_moved h rows' cols' s)) h e.turns (λ k p lt. inside _ (d.inside k p lt));
    straight = rw (line_moved h e, straight_moved h same_row same_col e.start (line_of e)) d.straight;
    passes = λ r c. passes_moved e d r c (origin r c);
    ends = λ r c. ends_moved e d r c (origin r c);
  }

  pub moved_sheet : IsSheet s → 1 ≤ rows' → 1 ≤ cols' → rows' ≤ 2 ^ 20 → cols' ≤ 2 ^ 20 → IsSheet (sheet_moved h rows' cols' s)
  moved_sheet sheet some_rows some_cols few_rows few_cols = record {
    some_rows = some_rows;
    some_cols = some_cols;
    few_rows = few_rows;
    few_cols = few_cols;
    nodes_inside = All-map (λ (n : Standing). (n.row < rows') × (n.col < cols')) (node_moved h) s.nodes (λ k n lt. inside _
        (sheet.nodes_inside k n lt));
    nodes_once = AllPairs-map (λ (m n : Standing). m.node ≢ n.node) (node_moved h) s.nodes sheet.nodes_once;
    places_once = AllPairs-map (λ (m n : Standing). m.row ≡ n.row → m.col ≢ n.col) (node_moved h) s.nodes
        (λ i j n lt in_list rows cols. sheet.places_once i j n lt in_list (row_back _ _ rows) (col_back _ _ cols));
    drawn = All-map (IsDrawn (sheet_moved h rows' cols' s)) (edge_moved h) s.edges (λ k e lt. drawn_moved _ (sheet.drawn k e lt));
    clear = AllPairs-map AreClear (edge_moved h) s.edges (λ i j e lt in_list. clear_moved _ _ (sheet.clear i j e lt in_list));
  }

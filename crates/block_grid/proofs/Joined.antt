-- Two sheets that keep out of each other's way make one sheet.
use Rattle.std.proofs.Common.{◌≡◌, ◌≢◌, ℕ, zero, suc, ◌+◌, ◌<◌, ◌≤◌, ◌^◌, ◌⊎◌, inl, inr, Bool, true, false, nat_lt, nat_eq, cond, ◌&&◌, Option, Some, None, List, [], ◌∷◌, ◌++◌, length, get_or, map, max, All, refl, ap, sym, ◌∙◌, subst, arith}
use Rattle.std.specs.List.{find}
use Rattle.std.specs.Option.{option_map, option_or}
use Rattle.std.proofs.lemmas.Bool.{eqb-true, eq-eqb}
use Rattle.std.proofs.lemmas.Bool.Decides.{nat_tests}
use Rattle.std.proofs.lemmas.List.Folds.{find-append}
use Rattle.std.proofs.lemmas.List.Elements.{All-head, All-tail, All-append, All-map}
use Rattle.block_grid.specs.declared.standing.Standing.{Standing}
use Rattle.block_grid.specs.Lines.{BlockPlace}
use Rattle.block_grid.specs.Sheets.{DrawnEdge, north_of, south_of, west_of, sides_of, Sheet, node_on, stands_at, EndsOn, AreClear, IsDrawn, IsSheet}
use Rattle.block_grid.specs.Changes.{node_moved, rows_shifted, cols_shifted, with_rows, with_cols, side_by_side, stacked}
use Rattle.block_grid.proofs.Lists.{AllPairs-append}
use Rattle.block_grid.proofs.Away.{Away, away_south, away_east, away_rows, away_cols}

stands-append : (xs ys : List Standing) (v : ℕ) → stands_at (xs ++ ys) v ≡ option_or (stands_at xs v) (stands_at ys v)
stands-append [] ys v = refl
stands-append (x ∷ xs) ys v =
    elim (nat_eq x.node v) as (λ b. option_map (λ (m : Standing). (
      m.row,
      m.col,
    )) (cond b (Some x) (find (λ m. nat_eq m.node v) (xs ++ ys))) ≡ option_or (option_map (λ (m : Standing). (
      m.row,
      m.col,
    )) (cond b (Some x) (find (λ m. nat_eq m.node v) xs))) (stands_at ys v)) [ true ↦ refl | false ↦ stands-append xs ys v ]

-- a fact of all elements at the one that is found
find-All : {A : Type 0} (P : A → Type 0) (p : A → Bool) (xs : List A) (x : A) → All P xs → find p xs ≡ Some x → P x
find-All P p [] x all e = cc
find-All P p (y ∷ ys) x all e =
    elim (p y) as (λ b. cond b (Some y) (find p ys) ≡ Some x → P x) [
      | true ↦ λ is. let same : y ≡ x = cc in subst P same (All-head P y ys all)
      | false ↦ λ is. find-All P p ys x (All-tail P y ys all) is
    ] e

-- an element that passes is found
find-member : {A : Type 0} (p : A → Bool) (xs : List A) (k : ℕ) (d : A) → k < length xs → p (get_or xs k d) ≡ true → find p xs ≡ None → ⊥
find-member p [] k d lt fits none = omega arith
find-member p (x ∷ xs) zero d lt fits none = let e : cond (p x) (Some x) (find p xs) ≡ Some x = rw fits refl in cc
find-member p (x ∷ xs) (suc k) d lt fits none =
    elim (p x) as (λ b. cond b (Some x) (find p xs) ≡ None → ⊥) [ true ↦ λ is. cc | false ↦ λ is. find-member p xs k d (omega arith) fits is ] none

-- a node that stands somewhere has the facts of all nodes
stands-All : (P : ℕ → Type 0) (xs : List Standing) (v : ℕ) (p : BlockPlace) → All (λ (n : Standing). P n.node) xs → stands_at xs v ≡ Some p → P v
stands-All P [] v p all e = cc
stands-All P (x ∷ xs) v p all e =
    elim (nat_eq x.node v) as (λ b. nat_eq x.node v ≡ b → option_map (λ (m : Standing). (
      m.row,
      m.col,
    )) (cond b (Some x) (find (λ m. nat_eq m.node v) xs)) ≡ Some p → P v) [
      | true ↦ λ same is. subst P (eqb-true x.node v same) (All-head (λ (n : Standing). P n.node) x xs all)
      | false ↦ λ same is. stands-All P xs v p (All-tail (λ (n : Standing). P n.node) x xs all) is
    ] refl e

-- what stands on a place stands somewhere
on_stands : (xs : List Standing) (r c : ℕ) (n : Standing) → node_on xs r c ≡ Some n → stands_at xs n.node ≡ None → ⊥
on_stands [] r c n e none = cc
on_stands (x ∷ xs) r c n e none =
    elim (nat_eq x.row r && nat_eq x.col c) as (λ b. cond b (Some x) (find (λ m. nat_eq m.row r && nat_eq m.col c) xs) ≡ Some n → ⊥) [
      | true ↦ λ is. let same : nat_eq x.node n.node ≡ true = eq-eqb x.node n.node (let e' : x ≡ n = cc in ap (λ (m : Standing). m.node) e') in
          let found : stands_at (x ∷ xs) n.node ≡ Some (x.row, x.col) = rw same refl in cc
      | false ↦ λ is. on_stands xs r c n is (later (nat_eq x.node n.node) none)
    ] e
  where
    later : (b : Bool) → option_map {U = BlockPlace} (λ (m : Standing). (
      m.row,
      m.col,
    )) (cond b (Some x) (find (λ m. nat_eq m.node n.node) xs)) ≡ None → stands_at xs n.node ≡ None
    later true h = cc
    later false h = h

or_none : {A : Type 0} (o p : Option A) → option_or o p ≡ None → (o ≡ None) × (p ≡ None)
or_none None p e = (refl, e)
or_none (Some x) p e = cc

or_some : {A : Type 0} (o p : Option A) (x : A) → option_or o p ≡ Some x → (o ≡ Some x) ⊎ ((o ≡ None) × (p ≡ Some x))
or_some None p x e = inr (refl, e)
or_some (Some y) p x e = inl e

module _ (s t : Sheet) (rows' cols' : ℕ) (sheet_s : IsSheet s) (sheet_t : IsSheet t)
    (apart : (r c : ℕ) → Away s r c ⊎ Away t r c)
    (differ : All (λ (n : Standing). stands_at s.nodes n.node ≡ None) t.nodes)
    (rows_s : s.rows ≤ rows') (rows_t : t.rows ≤ rows') (cols_s : s.cols ≤ cols') (cols_t : t.cols ≤ cols') where
  abbrev both : Sheet
  both = record { rows = rows'; cols = cols'; nodes = s.nodes ++ t.nodes; edges = s.edges ++ t.edges }

  on_both : (r c : ℕ) → node_on (s.nodes ++ t.nodes) r c ≡ option_or (node_on s.nodes r c) (node_on t.nodes r c)
  on_both r c = find-append (λ n. nat_eq n.row r && nat_eq n.col c) s.nodes t.nodes

  -- an edge that keeps away from the place of a node that is not its own
  ends_away : (e : DrawnEdge) (v r c : ℕ) → sides_of e r c ≡ 0 → e.child ≢ v → e.parent ≢ v → EndsOn v e r c
  ends_away e v r c none child parent =
      let not_child : nat_eq e.child v ≡ false = grind (arith, nat_tests) in
      let not_parent : nat_eq e.parent v ≡ false = grind (arith, nat_tests) in
      record {
        north = rw not_child (omega arith);
        south = rw not_parent (omega arith);
        west = omega arith;
        east = rw not_parent (omega arith);
      }

  new_node : (r c : ℕ) (n : Standing) → node_on t.nodes r c ≡ Some n → stands_at s.nodes n.node ≡ None
  new_node r c n is = find-All (λ (m : Standing). stands_at s.nodes m.node ≡ None) (λ m. nat_eq m.row r && nat_eq m.col c) t.nodes n differ is

  not_end : (v w : ℕ) (p : BlockPlace) → stands_at s.nodes v ≡ Some p → stands_at s.nodes w ≡ None → v ≢ w
  not_end v w p some none same = let e : stands_at s.nodes w ≡ Some p = subst (λ x. stands_at s.nodes x ≡ Some p) same some in cc

  first_ends : (e : DrawnEdge) → IsDrawn s e → (k : ℕ) (d : DrawnEdge) → k < length s.edges → get_or s.edges k d ≡ e →
      (r c : ℕ) (n : Standing) → node_on (s.nodes ++ t.nodes) r c ≡ Some n → EndsOn n.node e r c
  first_ends e drawn k d lt at r c n is =
      elim (or_some (node_on s.nodes r c) (node_on t.nodes r c) n (sym (on_both r c) ∙ is)) as (λ _. EndsOn n.node e r c) [
        | inl own ↦ drawn.ends r c n own
        | inr other ↦ elim (apart r c) as (λ _. EndsOn n.node e r c) [
          | inl away ↦
              let none : sides_of e r c ≡ 0 = subst (λ x. sides_of x r c ≡ 0) at (away.edges k d lt) in
              let new : stands_at s.nodes n.node ≡ None = new_node r c n other.1 in
              ends_away e n.node r c none (not_end e.child n.node e.finish drawn.finishes new) (not_end e.parent n.node e.start drawn.starts new)
          | inr away ↦ let none : node_on t.nodes r c ≡ None = away.nodes in let some : node_on t.nodes r c ≡ Some n = other.1 in cc
        ]
      ]

  first_drawn : (e : DrawnEdge) → IsDrawn s e → (k : ℕ) (d : DrawnEdge) → k < length s.edges → get_or s.edges k d ≡ e → IsDrawn both e
  first_drawn e drawn k d lt at = record {
    ends_differ = drawn.ends_differ;
    starts = rw (stands-append s.nodes t.nodes e.parent, drawn.starts) refl;
    finishes = rw (stands-append s.nodes t.nodes e.child, drawn.finishes) refl;
    inside = λ i p h. let on = drawn.inside i p h in (omega arith, omega arith);
    straight = drawn.straight;
    passes = λ r c none. drawn.passes r c (or_none (node_on s.nodes r c) (node_on t.nodes r c) (sym (on_both r c) ∙ none)).0;
    ends = first_ends e drawn k d lt at;
  }

  second_new : (v : ℕ) (p : BlockPlace) → stands_at t.nodes v ≡ Some p → stands_at s.nodes v ≡ None
  second_new v p is = stands-All (λ w. stands_at s.nodes w ≡ None) t.nodes v p differ is

  not_found : (v w r c : ℕ) (n : Standing) → stands_at s.nodes v ≡ None → node_on s.nodes r c ≡ Some n → v ≢ n.node
  not_found v w r c n none is same = on_stands s.nodes r c n is (subst (λ x. stands_at s.nodes x ≡ None) same none)

  second_ends : (e : DrawnEdge) → IsDrawn t e → (k : ℕ) (d : DrawnEdge) → k < length t.edges → get_or t.edges k d ≡ e →
      (r c : ℕ) (n : Standing) → node_on (s.nodes ++ t.nodes) r c ≡ Some n → EndsOn n.node e r c
  second_ends e drawn k d lt at r c n is =
      elim (or_some (node_on s.nodes r c) (node_on t.nodes r c) n (sym (on_both r c) ∙ is)) as (λ _. EndsOn n.node e r c) [
        | inl own ↦ elim (apart r c) as (λ _. EndsOn n.node e r c) [
          | inl away ↦ let none : node_on s.nodes r c ≡ None = away.nodes in cc
          | inr away ↦
              let none : sides_of e r c ≡ 0 = subst (λ x. sides_of x r c ≡ 0) at (away.edges k d lt) in
              ends_away e n.node r c none (not_found e.child 0 r c n (second_new e.child e.finish drawn.finishes) own)
              (not_found e.parent 0 r c n (second_new e.parent e.start drawn.starts) own)
        ]
        | inr other ↦ drawn.ends r c n other.1
      ]

  second_drawn : (e : DrawnEdge) → IsDrawn t e → (k : ℕ) (d : DrawnEdge) → k < length t.edges → get_or t.edges k d ≡ e → IsDrawn both e
  second_drawn e drawn k d lt at = record {
    ends_differ = drawn.ends_differ;
    starts = rw (stands-append s.nodes t.nodes e.parent, second_new e.parent e.start drawn.starts) drawn.starts;
    finishes = rw (stands-append s.nodes t.nodes e.child, second_new e.child e.finish drawn.finishes) drawn.finishes;
    inside = λ i p h. let on = drawn.inside i p h in (omega arith, omega arith);
    straight = drawn.straight;
    passes = λ r c none. drawn.passes r c (or_none (node_on s.nodes r c) (node_on t.nodes r c) (sym (on_both r c) ∙ none)).1;
    ends = second_ends e drawn k d lt at;
  }

  across : (i : ℕ) (e : DrawnEdge) → i < length s.edges → (j : ℕ) (f : DrawnEdge) → j < length t.edges →
      AreClear (get_or s.edges i e) (get_or t.edges j f)
  across i e lt j f lt' = record {
    north = λ r c h. elim (apart r c) as (λ _. north_of (get_or t.edges j f) r c ≡ 0) [
      | inl away ↦ let none : sides_of (get_or s.edges i e) r c ≡ 0 = away.edges i e lt in absurd (omega arith)
      | inr away ↦ let none : sides_of (get_or t.edges j f) r c ≡ 0 = away.edges j f lt' in omega arith
    ];
    west = λ r c h. elim (apart r c) as (λ _. west_of (get_or t.edges j f) r c ≡ 0) [
      | inl away ↦ let none : sides_of (get_or s.edges i e) r c ≡ 0 = away.edges i e lt in absurd (omega arith)
      | inr away ↦ let none : sides_of (get_or t.edges j f) r c ≡ 0 = away.edges j f lt' in omega arith
    ];
    crossing = λ r c h k. elim (apart r c) as (λ _. north_of (get_or s.edges i e) r c ≡ south_of (get_or s.edges i e) r c) [
      | inl away ↦ let none : sides_of (get_or s.edges i e) r c ≡ 0 = away.edges i e lt in absurd (omega arith)
      | inr away ↦ let none : sides_of (get_or t.edges j f) r c ≡ 0 = away.edges j f lt' in absurd (omega arith)
    ];
  }

  nodes_across : (i : ℕ) (m : Standing) → i < length s.nodes → (j : ℕ) (n : Standing) → j < length t.nodes →
      (get_or s.nodes i m).node ≢ (get_or t.nodes j n).node
  nodes_across i m lt j n lt' same =
      let none : stands_at s.nodes (get_or t.nodes j n).node ≡ None = differ j n lt' in
      let own : stands_at s.nodes (get_or s.nodes i m).node ≡ None = subst (λ x. stands_at s.nodes x ≡ None) (sym same) none in
      find-member (λ x. nat_eq x.node (get_or s.nodes i m).node) s.nodes i m lt (eq-eqb _ _ refl) (lost (find (λ x. nat_eq x.node
      (get_or s.nodes i m).node) s.nodes) own)
    where
      lost : (o : Option Standing) → option_map {U = BlockPlace} (λ (x : Standing). (x.row, x.col)) o ≡ None → o ≡ None
      lost None e = refl
      lost (Some x) e = cc

  places_across : (i : ℕ) (m : Standing) → i < length s.nodes → (j : ℕ) (n : Standing) → j < length t.nodes →
      (get_or s.nodes i m).row ≡ (get_or t.nodes j n).row → (get_or s.nodes i m).col ≢ (get_or t.nodes j n).col
  places_across i m lt j n lt' row col =
      elim (apart (get_or s.nodes i m).row (get_or s.nodes i m).col) as (λ _. ⊥) [
        | inl away ↦ find-member (λ x. nat_eq x.row (get_or s.nodes i m).row && nat_eq x.col (get_or s.nodes i m).col) s.nodes i m lt (rw
            (eq-eqb (get_or s.nodes i m).row (get_or s.nodes i m).row refl) (eq-eqb _ _ refl)) away.nodes
        | inr away ↦ find-member (λ x. nat_eq x.row (get_or s.nodes i m).row && nat_eq x.col (get_or s.nodes i m).col) t.nodes j n lt' (rw
            (eq-eqb (get_or t.nodes j n).row (get_or s.nodes i m).row (sym row)) (eq-eqb _ _ (sym col))) away.nodes
      ]

  pub joined_sheet : rows' ≤ 2 ^ 20 → cols' ≤ 2 ^ 20 → IsSheet both
  joined_sheet few_rows few_cols = record {
    some_rows = let h : 1 ≤ s.rows = sheet_s.some_rows in omega arith;
    some_cols = let h : 1 ≤ s.cols = sheet_s.some_cols in omega arith;
    few_rows = few_rows;
    few_cols = few_cols;
    nodes_inside = All-append (λ (n : Standing). (n.row < rows') × (n.col < cols')) s.nodes t.nodes
        (λ k n lt. let on = sheet_s.nodes_inside k n lt in (omega arith, omega arith)) (λ k n lt. let on = sheet_t.nodes_inside k n lt in
        (omega arith, omega arith));
    nodes_once = AllPairs-append (λ (m n : Standing). m.node ≢ n.node) s.nodes t.nodes sheet_s.nodes_once sheet_t.nodes_once nodes_across;
    places_once = AllPairs-append (λ (m n : Standing). m.row ≡ n.row →
        m.col ≢ n.col) s.nodes t.nodes sheet_s.places_once sheet_t.places_once places_across;
    drawn = All-append (IsDrawn both) s.edges t.edges (λ k e lt. first_drawn _ (sheet_s.drawn k e lt) k e lt refl) (λ k e lt. second_drawn _
        (sheet_t.drawn k e lt) k e lt refl);
    clear = AllPairs-append AreClear s.edges t.edges sheet_s.clear sheet_t.clear across;
  }

-- moved nodes are still others
still_differ : (s : Sheet) (h : BlockPlace → BlockPlace) (nodes : List Standing) →
    All (λ (n : Standing). stands_at s.nodes n.node ≡ None) nodes →
    All (λ (n : Standing). stands_at s.nodes n.node ≡ None) (map (node_moved h) nodes)
still_differ s h nodes all = All-map (λ (n : Standing). stands_at s.nodes n.node ≡ None) (node_moved h) nodes all

below_or_not : (a b : ℕ) → (a < b) ⊎ (b ≤ a)
below_or_not a b = elim (nat_lt a b) as (λ x. nat_lt a b ≡ x → (a < b) ⊎ (b ≤ a)) [
  | true ↦ λ e. inl (grind (arith, nat_tests))
  | false ↦
      λ e. inr (grind (arith, nat_tests))
] refl

pub side_by_side_sheet : (s t : Sheet) → IsSheet s → IsSheet (with_cols t 0 s.cols) →
    All (λ (n : Standing). stands_at s.nodes n.node ≡ None) t.nodes → IsSheet (side_by_side s t)
side_by_side_sheet s t sheet_s sheet_t differ =
    let rows_s : s.rows ≤ 2 ^ 20 = sheet_s.few_rows in
    let rows_t : t.rows ≤ 2 ^ 20 = sheet_t.few_rows in
    joined_sheet s (with_cols t 0 s.cols) (max s.rows t.rows) (t.cols + s.cols) sheet_s sheet_t
    (λ r c. elim (below_or_not c s.cols) as (λ _. Away s r c ⊎ Away (with_cols t 0 s.cols) r c) [
      | inl low ↦
          inr (away_cols t s.cols r c low)
      | inr high ↦ inl (away_east s sheet_s r c high)
    ])
    (still_differ s (cols_shifted 0 s.cols) t.nodes differ) (omega arith) (omega arith) (omega arith) (omega arith) (omega arith) sheet_t.few_cols

pub stacked_sheet : (s t : Sheet) → IsSheet s → IsSheet (with_rows t 0 s.rows) →
    All (λ (n : Standing). stands_at s.nodes n.node ≡ None) t.nodes → IsSheet (stacked s t)
stacked_sheet s t sheet_s sheet_t differ =
    let cols_s : s.cols ≤ 2 ^ 20 = sheet_s.few_cols in
    let cols_t : t.cols ≤ 2 ^ 20 = sheet_t.few_cols in
    joined_sheet s (with_rows t 0 s.rows) (t.rows + s.rows) (max s.cols t.cols) sheet_s sheet_t
    (λ r c. elim (below_or_not r s.rows) as (λ _. Away s r c ⊎ Away (with_rows t 0 s.rows) r c) [
      | inl low ↦
          inr (away_rows t s.rows r c low)
      | inr high ↦ inl (away_south s sheet_s r c high)
    ])
    (still_differ s (rows_shifted 0 s.rows) t.nodes differ) (omega arith) (omega arith) (omega arith) (omega arith) sheet_t.few_rows (omega arith)

-- a sheet by its parts
pub sheet_of : (rows cols : ℕ) (nodes : List Standing) (edges : List DrawnEdge) (s : Sheet) → rows ≡ s.rows → cols ≡ s.cols → nodes ≡ s.nodes →
    edges ≡ s.edges → IsSheet s → IsSheet (record { rows = rows; cols = cols; nodes = nodes; edges = edges })
sheet_of rows cols nodes edges s same_rows same_cols same_nodes same_edges sheet = rw (same_rows, same_cols, same_nodes, same_edges) sheet

-- One node has one place, and one place has one node.
use Rattle.std.proofs.Common.{◌≡◌, ℕ, suc, ◌+◌, ◌<◌, ◌≤◌, ◌⊎◌, inl, inr, Bool, true, false, nat_lt, nat_eq, cond, ◌&&◌, Option, Some, None, List, [], ◌∷◌, length, get_or, refl, ap, sym, ◌∙◌, arith}
use Rattle.std.specs.List.{find}
use Rattle.std.specs.Option.{option_map, option_map_or}
use Rattle.std.proofs.lemmas.Bool.{eqb-true, eq-eqb}
use Rattle.std.proofs.lemmas.Bool.Decides.{nat_tests}
use Rattle.std.proofs.lemmas.List.Folds.{list_any_at}
use Rattle.block_grid.specs.declared.standing.Standing.{Standing}
use Rattle.block_grid.specs.declared.kind.BlockKind.{BlockKind}
use Rattle.block_grid.specs.declared.kind.BlockKind.TheVariants.{Empty, Horizontal, Vertical, Node, Frame}
use Rattle.block_grid.specs.Lines.{BlockPlace, row_of, col_of}
use Rattle.block_grid.specs.Sheets.{DrawnEdge, Sheet, node_on, stands_at, north_of, west_of, is_crossed_north, is_crossed_west, wire_kind, node_kind, block_at, IsSheet}
use Rattle.block_grid.proofs.Stretches.{IsAt}

-- what is found stands at a number of the list and passes
pub find-at : {A : Type 0} (p : A → Bool) (xs : List A) (x : A) → find p xs ≡ Some x → (k : ℕ) × (k < length xs) × ((d : A) →
    get_or xs k d ≡ x) × (p x ≡ true)
find-at p [] x e = cc
find-at {A} p (y ∷ ys) x e =
    elim (p y) as (λ b. p y ≡ b → cond b (Some y) (find p ys) ≡ Some x → (k : ℕ) × (k < length (y ∷ ys)) × ((d : A) →
    get_or (y ∷ ys) k d ≡ x) × (p x ≡ true)) [
      | true ↦ λ fits is. let same : y ≡ x = cc in (0, omega arith, λ d. same, ap p (sym same) ∙ fits)
      | false ↦ λ fits is. let later = find-at p ys x is in (suc later.0, omega arith, λ d. later.2 d, later.3)
    ] refl e

found_from : (o : Option Standing) (p : BlockPlace) → option_map {U = BlockPlace} (λ (m : Standing). (m.row, m.col)) o ≡ Some p →
    (m : Standing) × (o ≡ Some m) × (m.row ≡ row_of p) × (m.col ≡ col_of p)
found_from None p e = cc
found_from (Some m) p e = let same : ◌≡◌ {A = BlockPlace} (m.row, m.col) p = cc in (m, refl, ap row_of same, ap col_of same)

and_first : (a b : Bool) → (a && b) ≡ true → a ≡ true
and_first true b e = refl
and_first false b e = cc

and_second : (a b : Bool) → (a && b) ≡ true → b ≡ true
and_second true b e = e
and_second false b e = cc

three : (i j : ℕ) → (i ≡ j) ⊎ (i < j) ⊎ (j < i)
three i j = elim (nat_lt i j) as (λ x. nat_lt i j ≡ x → (i ≡ j) ⊎ (i < j) ⊎ (j < i)) [
  | true ↦ λ e. inr (inl (grind (arith, nat_tests)))
  | false ↦ λ e. elim (nat_lt j i) as (λ y. nat_lt j i ≡ y → (i ≡ j) ⊎ (i < j) ⊎ (j < i)) [
    | true ↦ λ f. inr (inr (grind (arith, nat_tests)))
    | false ↦ λ f. let a : j ≤ i = grind (arith, nat_tests) in let b : i ≤ j = grind (arith, nat_tests) in inl (omega arith)
  ] refl
] refl

module _ (s : Sheet) (sheet : IsSheet s) where
  same_standing : (m n : Standing) (i j : ℕ) → i < length s.nodes → j < length s.nodes → ((d : Standing) → get_or s.nodes i d ≡ m) →
      ((d : Standing) → get_or s.nodes j d ≡ n) → (m.node ≡ n.node) ⊎ ((m.row ≡ n.row) × (m.col ≡ n.col)) → m ≡ n
  same_standing m n i j lti ltj ati atj alike =
      elim (three i j) as (λ _. m ≡ n) [
        | inl same ↦ sym (ati m) ∙ ap (λ k. get_or s.nodes k m) same ∙ atj m
        | inr other ↦ elim other as (λ _. m ≡ n) [
          | inl lt ↦ absurd (elim alike as (λ _. ⊥) [
            | inl node ↦ sheet.nodes_once i j m lt ltj (ap (λ (x : Standing). x.node) (ati m) ∙ node ∙ sym (ap (λ (x : Standing). x.node) (atj m)))
            | inr place ↦ sheet.places_once i j m lt ltj (ap (λ (x : Standing). x.row) (ati m) ∙ place.0 ∙ sym (ap (λ (x : Standing). x.row)
                (atj m))) (ap (λ (x : Standing). x.col) (ati m) ∙ place.1 ∙ sym (ap (λ (x : Standing). x.col) (atj m)))
          ])
          | inr gt ↦ absurd (elim alike as (λ _. ⊥) [
            | inl node ↦ sheet.nodes_once j i m gt lti (ap (λ (x : Standing). x.node) (atj m) ∙ sym node ∙ sym (ap (λ (x : Standing). x.node)
                (ati m)))
            | inr place ↦ sheet.places_once j i m gt lti (ap (λ (x : Standing). x.row) (atj m) ∙ sym place.0 ∙ sym (ap (λ
                (x : Standing). x.row) (ati m))) (ap (λ (x : Standing). x.col) (atj m) ∙ sym place.1 ∙ sym (ap (λ (x : Standing). x.col)
                (ati m)))
          ])
        ]
      ]

  -- the node on the place of v is v
  pub on_own_place : (v : ℕ) (p : BlockPlace) (n : Standing) → stands_at s.nodes v ≡ Some p → node_on s.nodes (row_of p) (col_of p) ≡ Some n →
      n.node ≡ v
  on_own_place v p n stands is =
      let own = found_from (find (λ m. nat_eq m.node v) s.nodes) p stands in
      let first = find-at (λ m. nat_eq m.node v) s.nodes own.0 own.1 in
      let other = find-at (λ m. nat_eq m.row (row_of p) && nat_eq m.col (col_of p)) s.nodes n is in
      let row : n.row ≡ row_of p = eqb-true n.row (row_of p) (and_first _ _ other.3) in
      let col : n.col ≡ col_of p = eqb-true n.col (col_of p) (and_second _ _ other.3) in
      let same : own.0 ≡ n = same_standing own.0 n first.0 other.0 first.1 other.1 first.2 other.2 (inr (own.2 ∙ sym row, own.3 ∙ sym col)) in
      sym (ap (λ (x : Standing). x.node) same) ∙ eqb-true (own.0).node v first.3

  -- v stands on no other place than its own
  pub at_own_place : (v : ℕ) (p : BlockPlace) (r c : ℕ) (n : Standing) → stands_at s.nodes v ≡ Some p → node_on s.nodes r c ≡ Some n →
      n.node ≡ v → IsAt p r c
  at_own_place v p r c n stands is node =
      let own = found_from (find (λ m. nat_eq m.node v) s.nodes) p stands in
      let first = find-at (λ m. nat_eq m.node v) s.nodes own.0 own.1 in
      let other = find-at (λ m. nat_eq m.row r && nat_eq m.col c) s.nodes n is in
      let row : n.row ≡ r = eqb-true n.row r (and_first _ _ other.3) in
      let col : n.col ≡ c = eqb-true n.col c (and_second _ _ other.3) in
      let same : own.0 ≡ n = same_standing own.0 n first.0 other.0 first.1 other.1 first.2 other.2 (inl (eqb-true
      (own.0).node v first.3 ∙ sym node)) in
      (sym row ∙ sym (ap (λ (x : Standing). x.row) same) ∙ own.2, sym col ∙ sym (ap (λ (x : Standing). x.col) same) ∙ own.3)

-- some node is on the place where one stands
pub on_place : (nodes : List Standing) (v : ℕ) (p : BlockPlace) → stands_at nodes v ≡ Some p → node_on nodes (row_of p) (col_of p) ≡ None → ⊥
on_place [] v p e none = cc
on_place (x ∷ xs) v p e none =
    elim (nat_eq x.node v) as (λ b. option_map {U = BlockPlace} (λ (m : Standing). (
      m.row,
      m.col,
    )) (cond b (Some x) (find (λ m. nat_eq m.node v) xs)) ≡ Some p → ⊥) [
      | true ↦ λ is. let same : ◌≡◌ {A = BlockPlace} (x.row, x.col) p = cc in here (ap row_of same) (ap col_of same) none
      | false ↦ λ is. on_place xs v p is (later (nat_eq x.row (row_of p) && nat_eq x.col (col_of p)) none)
    ] e
  where
    later : (b : Bool) → cond b (Some x) (find (λ m. nat_eq m.row (row_of p) && nat_eq m.col (col_of p)) xs) ≡ None →
        find (λ m. nat_eq m.row (row_of p) && nat_eq m.col (col_of p)) xs ≡ None
    later true h = cc
    later false h = h

    here : x.row ≡ row_of p → x.col ≡ col_of p →
        cond (nat_eq x.row (row_of p) && nat_eq x.col (col_of p)) (Some x) (find (λ m. nat_eq m.row (row_of p) && nat_eq m.col
        (col_of p)) xs) ≡ None → ⊥
    here row col h = let e' : nat_eq x.row (row_of p) ≡ true = eq-eqb _ _ row in let f : nat_eq x.col (col_of p) ≡ true = eq-eqb _ _ col in
        let g : cond (nat_eq x.row (row_of p) && nat_eq x.col (col_of p)) (Some x) (find (λ m. nat_eq m.row (row_of p) && nat_eq m.col
        (col_of p)) xs) ≡ Some x = rw (e', f) refl in cc

-- What an empty block and a straight bundle tell of the borders round them.
abbrev pub IsUncrossed : Bool → Bool → Type 0
IsUncrossed a b = (a ≡ false) × (b ≡ false)

empty_wire : (n s w e : Bool) → wire_kind n s w e ≡ Empty → IsUncrossed n s × IsUncrossed w e
empty_wire false false false false h = ((refl, refl), (refl, refl))
empty_wire false false false true h = cc
empty_wire false false true false h = cc
empty_wire false false true true h = cc
empty_wire false true false false h = cc
empty_wire false true false true h = cc
empty_wire false true true false h = cc
empty_wire false true true true h = cc
empty_wire true false false false h = cc
empty_wire true false false true h = cc
empty_wire true false true false h = cc
empty_wire true false true true h = cc
empty_wire true true false false h = cc
empty_wire true true false true h = cc
empty_wire true true true false h = cc
empty_wire true true true true h = cc

horizontal_wire : (n s w e : Bool) → wire_kind n s w e ≡ Horizontal → IsUncrossed n s
horizontal_wire false false w e h = (refl, refl)
horizontal_wire false true false false h = cc
horizontal_wire false true false true h = cc
horizontal_wire false true true false h = cc
horizontal_wire false true true true h = cc
horizontal_wire true false false false h = cc
horizontal_wire true false false true h = cc
horizontal_wire true false true false h = cc
horizontal_wire true false true true h = cc
horizontal_wire true true false false h = cc
horizontal_wire true true false true h = cc
horizontal_wire true true true false h = cc
horizontal_wire true true true true h = cc

vertical_wire : (n s w e : Bool) → wire_kind n s w e ≡ Vertical → IsUncrossed w e
vertical_wire n s false false h = (refl, refl)
vertical_wire false false false true h = cc
vertical_wire false false true false h = cc
vertical_wire false false true true h = cc
vertical_wire false true false true h = cc
vertical_wire false true true false h = cc
vertical_wire false true true true h = cc
vertical_wire true false false true h = cc
vertical_wire true false true false h = cc
vertical_wire true false true true h = cc
vertical_wire true true false true h = cc
vertical_wire true true true false h = cc
vertical_wire true true true true h = cc

-- the block of a place without a node is its wire block
no_node : (o : Option Standing) (w k : BlockKind) → option_map_or node_kind o w ≡ k → ((n : Standing) → node_kind n ≡ k → ⊥) → (o ≡ None) × (w ≡ k)
no_node None w k e never = (refl, e)
no_node (Some n) w k e never = absurd (never n e)

not_empty : (n : Standing) → node_kind n ≡ Empty → ⊥
not_empty n e = elim n.frame as (λ b. cond b (Frame n.node) (Node n.node) ≡ Empty → ⊥) [ true ↦ λ h. cc | false ↦ λ h. cc ] e

not_horizontal : (n : Standing) → node_kind n ≡ Horizontal → ⊥
not_horizontal n e = elim n.frame as (λ b. cond b (Frame n.node) (Node n.node) ≡ Horizontal → ⊥) [ true ↦ λ h. cc | false ↦ λ h. cc ] e

not_vertical : (n : Standing) → node_kind n ≡ Vertical → ⊥
not_vertical n e = elim n.frame as (λ b. cond b (Frame n.node) (Node n.node) ≡ Vertical → ⊥) [ true ↦ λ h. cc | false ↦ λ h. cc ] e

pub empty_block : (s : Sheet) (r c : ℕ) → block_at s r c ≡ Empty →
    (node_on s.nodes r c ≡ None) × IsUncrossed (is_crossed_north s r c) (is_crossed_north s (r + 1) c) × IsUncrossed (is_crossed_west s r c)
    (is_crossed_west s r (c + 1))
empty_block s r c h =
    let none = no_node (node_on s.nodes r c) _ Empty h not_empty in
    let sides = empty_wire (is_crossed_north s r c) (is_crossed_north s (r + 1) c) (is_crossed_west s r c) (is_crossed_west s r (c + 1)) none.1 in
    (none.0, sides.0, sides.1)

pub horizontal_block : (s : Sheet) (r c : ℕ) → block_at s r c ≡ Horizontal →
    (node_on s.nodes r c ≡ None) × IsUncrossed (is_crossed_north s r c) (is_crossed_north s (r + 1) c)
horizontal_block s r c h =
    let none = no_node (node_on s.nodes r c) _ Horizontal h not_horizontal in
    (none.0, horizontal_wire (is_crossed_north s r c) (is_crossed_north s (r + 1) c) (is_crossed_west s r c) (is_crossed_west s r (c + 1)) none.1)

pub vertical_block : (s : Sheet) (r c : ℕ) → block_at s r c ≡ Vertical →
    (node_on s.nodes r c ≡ None) × IsUncrossed (is_crossed_west s r c) (is_crossed_west s r (c + 1))
vertical_block s r c h =
    let none = no_node (node_on s.nodes r c) _ Vertical h not_vertical in
    (none.0, vertical_wire (is_crossed_north s r c) (is_crossed_north s (r + 1) c) (is_crossed_west s r c) (is_crossed_west s r (c + 1)) none.1)

-- an edge does not cross a border that none crosses
zero_unless : (n : ℕ) → (nat_lt 0 n ≡ true → ⊥) → n ≡ 0
zero_unless n never = elim (nat_lt 0 n) as (λ x. nat_lt 0 n ≡ x → n ≡ 0) [
  | true ↦ λ e. absurd (never e)
  | false ↦ λ e. grind (
    arith,
    nat_tests,
  )
] refl

pub no_north : (s : Sheet) (r c k : ℕ) (d : DrawnEdge) → k < length s.edges → is_crossed_north s r c ≡ false → north_of (get_or s.edges k d) r c ≡ 0
no_north s r c k d lt none = zero_unless _ (λ some. let any : is_crossed_north s r c ≡ true = list_any_at (λ e. nat_lt 0
    (north_of e r c)) s.edges k d lt some in cc)

pub no_west : (s : Sheet) (r c k : ℕ) (d : DrawnEdge) → k < length s.edges → is_crossed_west s r c ≡ false → west_of (get_or s.edges k d) r c ≡ 0
no_west s r c k d lt none = zero_unless _ (λ some. let any : is_crossed_west s r c ≡ true = list_any_at (λ e. nat_lt 0
    (west_of e r c)) s.edges k d lt some in cc)

-- no two nodes stand at one place
pub stand_apart : (s : Sheet) → IsSheet s → (v w : ℕ) (p : BlockPlace) → stands_at s.nodes v ≡ Some p → stands_at s.nodes w ≡ Some p → v ≡ w
stand_apart s sheet v w p a b = by (node_on s.nodes (row_of p) (col_of p)) refl
  where
    by : (o : Option Standing) → node_on s.nodes (row_of p) (col_of p) ≡ o → v ≡ w
    by None e = absurd (on_place s.nodes v p a e)
    by (Some n) e = sym (on_own_place s sheet v p n a e) ∙ on_own_place s sheet w p n b e

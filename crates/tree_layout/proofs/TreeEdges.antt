-- The edges between the entries of a tree are those of the tree, each once.
use Rattle.std.proofs.Common.{◌≡◌, ◌∙◌, ◌⊎◌, ℕ, zero, suc, ◌+◌, ◌*◌, ◌^◌, ◌<◌, ◌≤◌, Bool, true, false, not, ◌&&◌, nat_eq, cond, Option, Some, None, List, [], ◌∷◌, length, map, flat_map, IsPermutation, drop, get_or, slice_index, sum_by, refl, sym, ap, inl, inr, arith}
use Rattle.std.specs.List.{range_with_len}
use Rattle.std.specs.Option.{option_and_then}
use Rattle.std.proofs.lemmas.Bool.{cases_lt, and_from, and_parts, eq-eqb, eqb-true}
use Rattle.std.proofs.lemmas.List.{drop_all}
use Rattle.std.proofs.lemmas.List.Sums.{sum_by-append, sum_by-cons, sum_by-drop_more}
use Rattle.star_normal.specs.Tables.{TreeTable}
use Rattle.star_normal.specs.Sizes.{size_at}
use Rattle.light_order.specs.Order.{child_of, light_of, heavy_of, light_first}
use Rattle.light_order.specs.Crossings.{TreeEdge, edge_to, edges_from, tree_edges, number_of}
use Rattle.tree_layout.specs.declared.numbered.Entry.{Entry}
use Rattle.tree_layout.specs.declared.links.Link.{Link}
use Rattle.tree_layout.specs.Numbered.{ends_in_tree, entries_of, node_at, child_at}
use Rattle.tree_layout.specs.Squares.{link_to, links}
use Rattle.tree_layout.proofs.Sides.{ends_by}
use Rattle.tree_layout.proofs.Numbering.{OrderLaws, number_small}
use Rattle.tree_layout.proofs.Ordered.{child_is, none_at, node_is, stands, behind}
use Rattle.tree_layout.proofs.AllEdges.{in_part, before, all_within}
use Rattle.tree_layout.proofs.Permuted.{permuted, sum_map}

-- sums over the entries of a list by their numbers
sum_from : (f g : ℕ → ℕ) (xs : List ℕ) (a n : ℕ) → ((i : ℕ) → i < length xs → g i ≡ f (get_or xs i 0)) → ((i : ℕ) → length xs ≤ i → g i ≡ 0) → length xs ≤ a + n
    → sum_by g (range_with_len a n) ≡ sum_by f (drop a xs)
sum_from f g xs a zero same none past = sym (ap (sum_by f) (drop_all a xs (omega arith)))
sum_from f g xs a (suc n) same none past = by (cases_lt a (length xs)) (sum_from f g xs (a + 1) n same none (omega arith))
  where
    by : (a < length xs) ⊎ (length xs ≤ a) → sum_by g (range_with_len (a + 1) n) ≡ sum_by f (drop (a + 1) xs) → sum_by g (a ∷ range_with_len (a + 1) n) ≡ sum_by f (drop a xs)
    by (inl lt) rec = omega (arith, rec, sum_by-cons g a (range_with_len (a + 1) n), sum_by-drop_more f xs a 0 lt, same a lt)
    by (inr le) rec = omega (arith, rec, sum_by-cons g a (range_with_len (a + 1) n), none a le, ap (sum_by f) (drop_all a xs le), ap (sum_by f) (drop_all (a + 1) xs (omega arith)))

-- ends that are the same
abbrev same_role : Bool → Bool → Bool
same_role true b = b
same_role false b = not b

abbrev same_ends : ℕ × ℕ × Bool → ℕ × ℕ × Bool → Bool
same_ends x y = nat_eq x.0 y.0 && (nat_eq x.1 y.1 && same_role x.2 y.2)

own_role : (b : Bool) → same_role b b ≡ true
own_role true = refl
own_role false = refl

role_is : (a b : Bool) → same_role a b ≡ true → a ≡ b
role_is true true e = refl
role_is true false e = cc
role_is false true e = cc
role_is false false e = refl

own_ends : (x : ℕ × ℕ × Bool) → same_ends x x ≡ true
own_ends x = and_from _ _ (eq-eqb x.0 x.0 refl) (and_from _ _ (eq-eqb x.1 x.1 refl) (own_role x.2))

ends_are : (x y : ℕ × ℕ × Bool) → same_ends x y ≡ true → x ≡ y
ends_are x y e =
    let p = and_parts (nat_eq x.0 y.0) (nat_eq x.1 y.1 && same_role x.2 y.2) e in
    let q = and_parts (nat_eq x.1 y.1) (same_role x.2 y.2) p.1 in
    ap (λ a. (a, x.1, x.2)) (eqb-true x.0 y.0 p.0) ∙ ap (λ b. (y.0, b, x.2)) (eqb-true x.1 y.1 q.0) ∙ ap (λ c. (y.0, y.1, c)) (role_is x.2 y.2 q.1)

module _ (table : TreeTable) (laws : OrderLaws table) (numbers : (i : ℕ) → i < length table.nodes + 1 → number_of (light_first table) (slice_index (light_first table) i) ≡ Some i)
    (one : (v w c : ℕ) (h k : Bool) → child_of table h v ≡ Some c → child_of table k w ≡ Some c → (v ≡ w) × (h ≡ k)) where
  abbrev order : List ℕ
  order = light_first table

  abbrev entries : List Entry
  entries = entries_of table

  -- each child has a number
  record HasNumber (w : ℕ) : Type 0 where
    number : ℕ
    is : number_of order w ≡ Some number

  heavy_number : (v i w : ℕ) → number_of order v ≡ Some i → heavy_of table v ≡ Some w → (o : Option ℕ) → light_of table v ≡ o → HasNumber w
  heavy_number v i w at e None f = record { number = i + 1; is = laws.alone v i w at f e }
  heavy_number v i w at e (Some l) f = record { number = i + 2 * size_at table.nodes l; is = laws.heavy v i l w at f e }

  child_number : (h : Bool) (v i w : ℕ) → number_of order v ≡ Some i → child_of table h v ≡ Some w → HasNumber w
  child_number false v i w at e = record { number = i + 1; is = laws.light v i w at e }
  child_number true v i w at e = heavy_number v i w at e (light_of table v) refl

  module _ (f : ℕ × ℕ × Bool → ℕ) (end : ℕ) (room : length table.nodes + 1 ≤ end) where
    abbrev of_link : Link → ℕ
    of_link l = f (ends_by entries l)

    abbrev of_edge : TreeEdge → ℕ
    of_edge e = f (ends_in_tree e)

    edge_same : (i c v w : ℕ) (h : Bool) → c < end → node_at entries i ≡ v → node_at entries c ≡ w → sum_by of_link (link_to 0 end i h (Some c)) ≡ sum_by of_edge (edge_to v h (Some w))
    edge_same i c v w h lt a b =
        ap (λ x. sum_by of_link (cond x (record { parent = i; child = c; heavy = h } ∷ []) [])) (in_part 0 end c (omega arith) lt)
        ∙ ap (λ x. 0 + f (x, node_at entries c, h)) a ∙ ap (λ x. 0 + f (v, x, h)) b

    child_same : (h : Bool) (i : ℕ) → i < length table.nodes + 1 → (o : Option ℕ) → child_of table h (get_or order i 0) ≡ o
        → sum_by of_link (link_to 0 end i h (option_and_then (number_of order) o)) ≡ sum_by of_edge (edge_to (get_or order i 0) h o)
    child_same h i lt None e = refl
    child_same h i lt (Some w) e =
        let n = child_number h (get_or order i 0) i w (numbers i lt) e in
        let small : n.number < length table.nodes + 1 = omega (arith, laws.size, number_small order w n.number n.is) in
        ap (λ o. sum_by of_link (link_to 0 end i h o)) n.is
        ∙ edge_same i n.number (get_or order i 0) w h (omega arith) (node_is table laws numbers one i lt)
        (node_is table laws numbers one n.number small ∙ stands table laws numbers one w n.number n.is)

    at_number : (i : ℕ) → i < length table.nodes + 1 → before of_link entries (behind table laws numbers one) end i ≡ sum_by of_edge (edges_from table (get_or order i 0))
    at_number i lt = omega (
      arith,
      sum_by-append of_link (link_to 0 end i false (child_at entries false i)) (link_to 0 end i true (child_at entries true i)),
      ap (λ o. sum_by of_link (link_to 0 end i false o)) (child_is table laws numbers one false i lt),
      ap (λ o. sum_by of_link (link_to 0 end i true o)) (child_is table laws numbers one true i lt),
      child_same false i lt (light_of table (get_or order i 0)) refl,
      child_same true i lt (heavy_of table (get_or order i 0)) refl,
      sum_by-append of_edge (edge_to (get_or order i 0) false (light_of table (get_or order i 0))) (edge_to (get_or order i 0) true (heavy_of table (get_or order i 0))),
    )

    beyond : (i : ℕ) → length table.nodes + 1 ≤ i → before of_link entries (behind table laws numbers one) end i ≡ 0
    beyond i le = omega (
      arith,
      sum_by-append of_link (link_to 0 end i false (child_at entries false i)) (link_to 0 end i true (child_at entries true i)),
      ap (λ o. sum_by of_link (link_to 0 end i false o)) (none_at table laws numbers one false i le),
      ap (λ o. sum_by of_link (link_to 0 end i true o)) (none_at table laws numbers one true i le),
    )

    flat_sum : (xs : List ℕ) → sum_by of_edge (flat_map (edges_from table) xs) ≡ sum_by (λ v. sum_by of_edge (edges_from table v)) xs
    flat_sum [] = refl
    flat_sum (x ∷ xs) = omega (
      arith,
      sum_by-append of_edge (edges_from table x) (flat_map (edges_from table) xs),
      sum_by-cons (λ v. sum_by of_edge (edges_from table v)) x xs,
      flat_sum xs,
    )

    pub edges_sum : ((value : ℕ → ℕ) → sum_by value order ≡ sum_by value (range_with_len 0 (length table.nodes + 1)))
        → sum_by (before of_link entries (behind table laws numbers one) end) (range_with_len 0 end) ≡ sum_by of_edge (tree_edges table)
    edges_sum sums = omega (
      arith,
      sum_from (λ v. sum_by of_edge (edges_from table v)) (before of_link entries (behind table laws numbers one) end) order 0 end
          (λ i lt. at_number i (omega (arith, laws.size))) (λ i le. beyond i (omega (arith, laws.size))) (omega (arith, laws.size)),
      sums (λ v. sum_by of_edge (edges_from table v)),
      flat_sum (range_with_len 0 (length table.nodes + 1)),
    )

  pub edges_once : (j : ℕ) → length table.nodes + 1 ≤ 4 ^ j → ((value : ℕ → ℕ) → sum_by value order ≡ sum_by value (range_with_len 0 (length table.nodes + 1)))
      → IsPermutation (map ends_in_tree (tree_edges table)) (map (ends_by entries) (links entries j 0))
  edges_once j room sums =
      let end : 0 + 4 ^ j ≡ 4 ^ j = omega arith in
      permuted same_ends own_ends ends_are (map ends_in_tree (tree_edges table)) (map (ends_by entries) (links entries j 0)) (λ f.
      omega (
        arith,
        sum_map f ends_in_tree (tree_edges table),
        sum_map f (ends_by entries) (links entries j 0),
        all_within (λ l. f (ends_by entries l)) entries (behind table laws numbers one) j 0,
        ap (λ n. sum_by (before (λ l. f (ends_by entries l)) entries (behind table laws numbers one) n) (range_with_len 0 (4 ^ j))) end,
        edges_sum f (4 ^ j) room sums,
      ))

-- Few edges run between the entries of a tree, since few edges cross a place of the order.
use Rattle.std.proofs.Common.{◌≡◌, ◌∙◌, ◌⊎◌, ℕ, zero, suc, ◌+◌, ◌-◌, ◌<◌, ◌≤◌, Bool, true, false, not, ◌&&◌, nat_lt, nat_le, cond, Option, Some, None, List, [], ◌∷◌, length, drop, get_or, slice_index, flat_map, count_by, sum_by, refl, ap, inl, inr, arith, length-append}
use Rattle.std.specs.List.{range_with_len}
use Rattle.std.proofs.lemmas.Bool.{cases_lt, and_parts, leb-true, ltb-true, le-leb, lt-ltb, le-ltb, and_from}
use Rattle.std.proofs.lemmas.List.{drop_all}
use Rattle.std.proofs.lemmas.List.Concat.{length-flat_map}
use Rattle.std.proofs.lemmas.List.Sums.{sum_by-append, sum_by-cons, sum_by-drop_more, sum_by-take-drop}
use Rattle.light_order.specs.Order.{child_of, light_of, heavy_of, light_first}
use Rattle.light_order.specs.Crossings.{TreeEdge, edge_to, edges_from, number_of, is_parted, is_across, are_across, crosses, crossings, light_crossings}
use Rattle.star_normal.specs.Tables.{TreeTable}
use Rattle.tree_layout.specs.declared.links.Link.{Link}
use Rattle.std.specs.Option.{option_and_then}
use Rattle.tree_layout.specs.declared.numbered.Entry.{Entry}
use Rattle.tree_layout.specs.Numbered.{entries_of, child_at}
use Rattle.tree_layout.specs.Squares.{link_to, links_from, links_out}
use Rattle.tree_layout.proofs.Numbering.{OrderLaws}
use Rattle.tree_layout.proofs.Ordered.{child_is, none_at}

past : (f : ℕ → ℕ) (xs : List ℕ) (i : ℕ) → length xs ≤ i → sum_by f (drop i xs) ≡ 0
past f xs i h = ap (sum_by f) (drop_all i xs h)

-- a part of a sum of values by their numbers
part_sum : (f : ℕ → ℕ) (g : ℕ → ℕ) (xs : List ℕ) (a n : ℕ) → ((i : ℕ) → a ≤ i → i < a + n → i < length xs → g i ≤ f (get_or xs i 0))
    → ((i : ℕ) → a ≤ i → i < a + n → length xs ≤ i → g i ≡ 0) → sum_by g (range_with_len a n) ≤ sum_by f (drop a xs)
part_sum f g xs a zero small none = omega arith
part_sum f g xs a (suc n) small none = by (cases_lt a (length xs)) (part_sum f g xs (a + 1) n (λ i p q r. small i (omega arith) (omega arith) r) (λ i p q r. none i (omega arith) (omega arith) r))
  where
    by : (a < length xs) ⊎ (length xs ≤ a) → sum_by g (range_with_len (a + 1) n) ≤ sum_by f (drop (a + 1) xs) → sum_by g (a ∷ range_with_len (a + 1) n) ≤ sum_by f (drop a xs)
    by (inl lt) rec = omega (arith, rec, sum_by-cons g a (range_with_len (a + 1) n), sum_by-drop_more f xs a 0 lt, small a (omega arith) (omega arith) lt)
    by (inr le) rec = omega (arith, rec, past f xs (a + 1) (omega arith), sum_by-cons g a (range_with_len (a + 1) n), none a (omega arith) (omega arith) le)

pub whole_sum : (f : ℕ → ℕ) (g : ℕ → ℕ) (xs : List ℕ) (a n : ℕ) → ((i : ℕ) → a ≤ i → i < a + n → i < length xs → g i ≤ f (get_or xs i 0))
    → ((i : ℕ) → a ≤ i → i < a + n → length xs ≤ i → g i ≡ 0) → sum_by g (range_with_len a n) ≤ sum_by f xs
whole_sum f g xs a n small none = omega (arith, part_sum f g xs a n small none, sum_by-take-drop f xs a)

-- an edge between numbers on both sides of a border crosses it
pub crosses_it : (from border end i c : ℕ) → from ≤ i → i < border → border ≤ c → c < end → is_across from end border i c ≡ true
crosses_it from border end i c a b d e =
    and_from _ _ (le-leb from i a) (and_from _ _ (lt-ltb i end (omega arith)) (and_from _ _ (le-leb from c (omega arith)) (and_from _ _ (lt-ltb c end e) parted)))
  where
    parted : is_parted border i c ≡ true
    parted = ap (λ x. cond x (not (nat_lt c border)) (nat_lt c border)) (lt-ltb i border b) ∙ ap not (le-ltb c border d)

count_flat : {A : Type 0} (q : A → Bool) (f : ℕ → List A) (xs : List ℕ) → count_by q (flat_map f xs) ≡ sum_by (λ v. count_by q (f v)) xs
count_flat q f [] = refl
count_flat q f (x ∷ xs) = omega (
  arith,
  sum_by-append (λ e. cond (q e) 1 0) (f x) (flat_map f xs),
  sum_by-cons (λ v. count_by q (f v)) x xs,
  count_flat q f xs,
)

module _ (table : TreeTable) (laws : OrderLaws table) (numbers : (i : ℕ) → i < length table.nodes + 1 → number_of (light_first table) (slice_index (light_first table) i) ≡ Some i)
    (one : (v w c : ℕ) (h k : Bool) → child_of table h v ≡ Some c → child_of table k w ≡ Some c → (v ≡ w) × (h ≡ k)) (sums : (value : ℕ → ℕ) → sum_by value (light_first table) ≡ sum_by value (range_with_len 0 (length table.nodes + 1))) (from border end : ℕ) where
  abbrev order : List ℕ
  order = light_first table

  abbrev test : TreeEdge → Bool
  test e = crosses (light_first table) from end border e.parent e.child

  abbrev light_test : TreeEdge → Bool
  light_test e = not e.heavy && crosses (light_first table) from end border e.parent e.child

  abbrev entries : List Entry
  entries = entries_of table

  crossed : (v w i c : ℕ) → number_of order v ≡ Some i → number_of order w ≡ Some c → from ≤ i → i < border → border ≤ c → c < end → crosses order from end border v w ≡ true
  crossed v w i c a b p q r s = ap (λ o. are_across from end border o (number_of order w)) a ∙ ap (λ o. are_across from end border (Some i) o) b ∙ crosses_it from border end i c p q r s

  one_of : (b x : Bool) (i c : ℕ) (h : Bool) → (b ≡ true → x ≡ true) → length {A = Link} (cond b (record { parent = i; child = c; heavy = h } ∷ []) []) ≤ cond x 1 0
  one_of false x i c h f = omega arith
  one_of true x i c h f = let e : ◌≡◌ {A = ℕ} (cond x 1 0) 1 = ap (λ y. cond y 1 0) (f refl) in omega (arith, e)

  link_by : (v w i : ℕ) (h : Bool) → number_of order v ≡ Some i → from ≤ i → i < border → (o : Option ℕ) → number_of order w ≡ o
      → length (link_to border end i h o) ≤ cond (crosses order from end border v w) 1 0
  link_by v w i h at p q None e = omega arith
  link_by v w i h at p q (Some c) e = one_of (nat_le border c && nat_lt c end) (crosses order from end border v w) i c h
      (λ t. let s = and_parts (nat_le border c) (nat_lt c end) t in crossed v w i c at e p q (leb-true border c s.0) (ltb-true c end s.1))

  one_link : (v i : ℕ) (h : Bool) → number_of order v ≡ Some i → from ≤ i → i < border → (p : Option ℕ) → length (link_to border end i h (option_and_then (number_of order) p)) ≤ count_by test (edge_to v h p)
  one_link v i h at p q None = omega arith
  one_link v i h at p q (Some w) = omega (arith, link_by v w i h at p q (number_of order w) refl)

  at_number : (i : ℕ) → from ≤ i → i < border → i < length table.nodes + 1 → length (links_from entries border end i) ≤ count_by test (edges_from table (get_or order i 0))
  at_number i p q w =
      let v : ℕ = get_or order i 0 in
      omega (
        arith,
        length-append (link_to border end i false (child_at entries false i)) (link_to border end i true (child_at entries true i)),
        ap (λ o. length (link_to border end i false o)) (child_is table laws numbers one false i w),
        ap (λ o. length (link_to border end i true o)) (child_is table laws numbers one true i w),
        one_link (get_or order i 0) i false (numbers i w) p q (light_of table (get_or order i 0)),
        one_link (get_or order i 0) i true (numbers i w) p q (heavy_of table (get_or order i 0)),
        sum_by-append (λ e. cond (test e) 1 0) (edge_to (get_or order i 0) false (light_of table (get_or order i 0))) (edge_to (get_or order i 0) true (heavy_of table (get_or order i 0))),
      )

  beyond : (i : ℕ) → length table.nodes + 1 ≤ i → length (links_from entries border end i) ≡ 0
  beyond i h = omega (
    arith,
    length-append (link_to border end i false (child_at entries false i)) (link_to border end i true (child_at entries true i)),
    ap (λ o. length (link_to border end i false o)) (none_at table laws numbers one false i h),
    ap (λ o. length (link_to border end i true o)) (none_at table laws numbers one true i h),
  )

  pub few_cross : from ≤ border → length (links_out entries from border end) ≤ crossings table order from end border
  few_cross le = omega (
    arith,
    length-flat_map (links_from entries border end) (range_with_len from (border - from)),
    whole_sum (λ v. count_by test (edges_from table v)) (λ i. length (links_from entries border end i)) order from (border - from)
        (λ i p q r. at_number i p (omega arith) (omega (arith, laws.size))) (λ i p q r. beyond i (omega (arith, laws.size))),
    sums (λ v. count_by test (edges_from table v)),
    count_flat test (edges_from table) (range_with_len 0 (length table.nodes + 1)),
  )

  -- The same for edges to light children.

  light_one : (v i : ℕ) (o : Option ℕ) → count_by (λ l. not l.heavy) (link_to border end i false o) ≡ length (link_to border end i false o)
  light_one v i None = refl
  light_one v i (Some c) = by (nat_le border c && nat_lt c end)
    where
      by : (b : Bool) → count_by {X = Link} (λ l. not l.heavy) (cond b (record { parent = i; child = c; heavy = false } ∷ []) []) ≡ length {A = Link} (cond b (record { parent = i; child = c; heavy = false } ∷ []) [])
      by true = refl
      by false = refl

  heavy_none : (i : ℕ) (o : Option ℕ) → count_by (λ l. not l.heavy) (link_to border end i true o) ≡ 0
  heavy_none i None = refl
  heavy_none i (Some c) = by (nat_le border c && nat_lt c end)
    where
      by : (b : Bool) → count_by {X = Link} (λ l. not l.heavy) (cond b (record { parent = i; child = c; heavy = true } ∷ []) []) ≡ 0
      by true = refl
      by false = refl

  light_edge : (v : ℕ) (p : Option ℕ) → count_by light_test (edge_to v false p) ≡ count_by test (edge_to v false p)
  light_edge v None = refl
  light_edge v (Some w) = refl

  light_at : (i : ℕ) → from ≤ i → i < border → i < length table.nodes + 1 → count_by (λ l. not l.heavy) (links_from entries border end i) ≤ count_by light_test (edges_from table (get_or order i 0))
  light_at i p q w = omega (
    arith,
    sum_by-append (λ (l : Link). cond (not l.heavy) 1 0) (link_to border end i false (child_at entries false i)) (link_to border end i true (child_at entries true i)),
    light_one (get_or order i 0) i (child_at entries false i),
    heavy_none i (child_at entries true i),
    ap (λ o. length (link_to border end i false o)) (child_is table laws numbers one false i w),
    one_link (get_or order i 0) i false (numbers i w) p q (light_of table (get_or order i 0)),
    light_edge (get_or order i 0) (light_of table (get_or order i 0)),
    sum_by-append (λ e. cond (light_test e) 1 0) (edge_to (get_or order i 0) false (light_of table (get_or order i 0))) (edge_to (get_or order i 0) true (heavy_of table (get_or order i 0))),
  )

  light_beyond : (i : ℕ) → length table.nodes + 1 ≤ i → count_by (λ l. not l.heavy) (links_from entries border end i) ≡ 0
  light_beyond i h = omega (
    arith,
    sum_by-append (λ (l : Link). cond (not l.heavy) 1 0) (link_to border end i false (child_at entries false i)) (link_to border end i true (child_at entries true i)),
    ap (λ o. count_by (λ (l : Link). not l.heavy) (link_to border end i false o)) (none_at table laws numbers one false i h),
    ap (λ o. count_by (λ (l : Link). not l.heavy) (link_to border end i true o)) (none_at table laws numbers one true i h),
  )

  pub light_cross : from ≤ border → count_by (λ l. not l.heavy) (links_out entries from border end) ≤ light_crossings table order from end border
  light_cross le = omega (
    arith,
    count_flat (λ (l : Link). not l.heavy) (links_from entries border end) (range_with_len from (border - from)),
    whole_sum (λ v. count_by light_test (edges_from table v)) (λ i. count_by (λ (l : Link). not l.heavy) (links_from entries border end i)) order from (border - from)
        (λ i p q r. light_at i p (omega arith) (omega (arith, laws.size))) (λ i p q r. light_beyond i (omega (arith, laws.size))),
    sums (λ v. count_by light_test (edges_from table v)),
    count_flat light_test (edges_from table) (range_with_len 0 (length table.nodes + 1)),
  )

  pub none_out : border ≤ from → links_out entries from border end ≡ []
  none_out le = let e : border - from ≡ 0 = omega arith in ap (λ n. flat_map (links_from entries border end) (range_with_len from n)) e

-- Entries of the nodes of a tree.
use Rattle.std.proofs.Common.{◌≡◌, ◌∙◌, ℕ, ◌+◌, ◌*◌, ◌^◌, ◌<◌, ◌≤◌, ◌==◌, Option, Some, None, IfSome, List, length, get_or, count_by, slice_index, refl, sym, ap, subst, arith}
use Rattle.std.specs.Option.{option_map, option_and_then}
use Rattle.std.proofs.lemmas.List.Quantifiers.{position-Some}
use Rattle.star_normal.specs.Tables.{TreeTable}
use Rattle.star_normal.specs.Sizes.{AreSizes, size_at}
use Rattle.light_order.specs.Order.{light_of, heavy_of, light_first}
use Rattle.light_order.specs.Crossings.{number_of}
use Rattle.tree_layout.specs.declared.numbered.Entry.{Entry}
use Rattle.tree_layout.specs.Numbered.{entry_of}

-- what is known of the order
pub record OrderLaws (table : TreeTable) : Type 0 where
  pub once : (v : ℕ) → v < length table.nodes + 1 → count_by (λ x. x == v) (light_first table) ≡ 1
  pub size : length (light_first table) ≡ length table.nodes + 1
  pub light : (v i c : ℕ) → number_of (light_first table) v ≡ Some i → light_of table v ≡ Some c → number_of (light_first table) c ≡ Some (i + 1)
  pub heavy : (v i l c : ℕ) → number_of (light_first table) v ≡ Some i → light_of table v ≡ Some l → heavy_of table v ≡ Some c
      → number_of (light_first table) c ≡ Some (i + 2 * size_at table.nodes l)
  pub alone : (v i c : ℕ) → number_of (light_first table) v ≡ Some i → light_of table v ≡ None → heavy_of table v ≡ Some c → number_of (light_first table) c ≡ Some (i + 1)

pub number_small : (order : List ℕ) (v i : ℕ) → number_of order v ≡ Some i → i < length order
number_small order v i e = (position-Some (λ x. x == v) order i 0 e).0

module _ (table : TreeTable) (laws : OrderLaws table) (few : length table.nodes ≤ 8191) (sizes : List ℕ) (z : AreSizes table.nodes sizes) (v i : ℕ)
    (at : number_of (light_first table) v ≡ Some i) where
  pub small : i + 1 < 2 ^ 32
  small = let h = number_small (light_first table) v i at in omega (arith, laws.size)

  light_by : (o : Option ℕ) → light_of table v ≡ o → option_map (λ c. i + 1) o ≡ option_and_then (number_of (light_first table)) o
  light_by None e = refl
  light_by (Some c) e = sym (laws.light v i c at e)

  pub light_entry : (o : Option ℕ) → o ≡ light_of table v → option_map (λ c. i + 1) o ≡ option_and_then (number_of (light_first table)) (light_of table v)
  light_entry o e = ap (option_map (λ c. i + 1)) e ∙ light_by (light_of table v) refl

  sized : (o : Option ℕ) → IfSome o (λ c. c < length table.nodes) → (l : ℕ) → o ≡ Some l → l < length table.nodes
  sized None h l e = cc
  sized (Some x) h l e = let s : x ≡ l = cc in subst (λ n. n < length table.nodes) s h

  pub behind : (o p : Option ℕ) → o ≡ light_of table v → p ≡ heavy_of table v → IfSome o (λ c. c < length table.nodes)
      → (l h : ℕ) → o ≡ Some l → p ≡ Some h → (l < length sizes) × (i + 2 * slice_index sizes l < 2 ^ 32)
  behind o p a b inside l h e f =
      let w : l < length table.nodes = sized o inside l e in
      let n = number_small (light_first table) h _ (laws.heavy v i l h at (sym a ∙ e) (sym b ∙ f)) in
      (omega (arith, z.size), omega (arith, n, laws.size, z.each l w))

  heavy_by : (o p r : Option ℕ) → light_of table v ≡ o → heavy_of table v ≡ p → IfSome o (λ c. c < length table.nodes) → (p ≡ None → r ≡ None)
      → ((h : ℕ) → p ≡ Some h → o ≡ None → r ≡ Some (i + 1)) → ((l h : ℕ) → p ≡ Some h → o ≡ Some l → r ≡ Some (i + 2 * slice_index sizes l))
      → r ≡ option_and_then (number_of (light_first table)) p
  heavy_by o None r a b inside none alone both = none refl
  heavy_by None (Some h) r a b inside none alone both = alone h refl refl ∙ sym (laws.alone v i h at a b)
  heavy_by (Some l) (Some h) r a b inside none alone both = both l h refl refl ∙ ap (λ n. Some (i + 2 * n)) (z.each l inside) ∙ sym (laws.heavy v i l h at a b)

  pub heavy_entry : (o p r : Option ℕ) → o ≡ light_of table v → p ≡ heavy_of table v → IfSome o (λ c. c < length table.nodes) → (p ≡ None → r ≡ None)
      → ((h : ℕ) → p ≡ Some h → o ≡ None → r ≡ Some (i + 1)) → ((l h : ℕ) → p ≡ Some h → o ≡ Some l → r ≡ Some (i + 2 * slice_index sizes l))
      → r ≡ option_and_then (number_of (light_first table)) (heavy_of table v)
  heavy_entry o p r a b inside none alone both = heavy_by o p r (sym a) (sym b) inside none alone both ∙ ap (option_and_then (number_of (light_first table))) b

  pub whole_entry : (l h : Option ℕ) → l ≡ option_and_then (number_of (light_first table)) (light_of table v) → h ≡ option_and_then (number_of (light_first table)) (heavy_of table v)
      → ◌≡◌ {A = Entry} (record { node = v; light = l; heavy = h }) (entry_of table v)
  whole_entry l h a b = rw (a, b) refl

-- an entry of the order, in a list that is the order
module _ (table : TreeTable) (size : length (light_first table) ≡ length table.nodes + 1)
    (inside : (i : ℕ) → i < length table.nodes + 1 → slice_index (light_first table) i ≤ length table.nodes)
    (numbers : (i : ℕ) → i < length table.nodes + 1 → number_of (light_first table) (slice_index (light_first table) i) ≡ Some i) (items : List ℕ) (e : items ≡ light_first table) (i : ℕ)
    (lt : i < length items) where
  lt' : i < length table.nodes + 1
  lt' = omega (arith, lt, ap (length {A = ℕ}) e, size)

  pub node_inside : get_or items i 0 ≤ length table.nodes
  node_inside = subst (λ xs. get_or xs i 0 ≤ length table.nodes) (sym e) (inside i lt')

  pub node_number : number_of (light_first table) (get_or items i 0) ≡ Some i
  node_number = subst (λ xs. number_of (light_first table) (get_or xs i 0) ≡ Some i) (sym e) (numbers i lt')

-- Where the children of a node stand in the order, and that each node has one parent.
use Rattle.std.proofs.Common.{◌≡◌, ◌∙◌, ◌⊎◌, ℕ, zero, suc, ◌+◌, ◌*◌, ◌<◌, ◌≤◌, ◌==◌, cond, Option, Some, None, List, [], ◌∷◌, ◌++◌, length, slice_get, count_by, refl, sym, ap, subst, inl, inr, arith, length-append, append_assoc}
use Rattle.std.specs.Option.{option_and_then}
use Rattle.std.proofs.lemmas.Bool.{cases_eq, cases_lt, cases_order, ne_eqb}
use Rattle.std.proofs.lemmas.List.{append-nil}
use Rattle.std.proofs.lemmas.List.Sums.{sum_by-cons, sum_by-append}
use Rattle.std.proofs.lemmas.Option.{slice_get_past}
use Rattle.star_normal.specs.declared.node.Node.{Node}
use Rattle.star_normal.specs.Tables.{TreeTable, IsTree}
use Rattle.star_normal.specs.Sizes.{size_at, light_child, heavy_child, ShareLeaves}
use Rattle.light_order.specs.Order.{frame, light_of, heavy_of, light_first}
use Rattle.light_order.specs.Crossings.{number_of}
use Rattle.light_order.proofs.Uses.{upto_hit, not_hit}
use Rattle.light_order.proofs.Parts.{part, PartOf, tip, fork, shape, node_at, all_nodes, part_length}
use Rattle.light_order.proofs.Unrolled.{light_is, heavy_is}
use Rattle.light_order.proofs.Counted.{frame_heavy}
use Rattle.light_order.proofs.Places.{number_at}

module _ (table : TreeTable) (t : IsTree table)
    (share : (k light heavy : ℕ) (node : Node) → slice_get table.nodes k ≡ Some node → light_child (size_at table.nodes) node.kind ≡ Some light
    → heavy_child (size_at table.nodes) node.kind ≡ Some heavy → ShareLeaves table.nodes k light heavy) where
  abbrev order : List ℕ
  order = light_first table

  -- a part stands in the order as a whole
  record Stands (v : ℕ) : Type 0 where
    front : List ℕ
    back : List ℕ
    is : order ≡ front ++ (part table v ++ back)

  once : (v : ℕ) → v < length table.nodes + 1 → count_by (λ x. x == v) order ≡ 1
  once v h = all_nodes table t (λ x. cond (x == v) 1 0) ∙ upto_hit v _ h

  number_in : (v : ℕ) → v < length table.nodes + 1 → (front back : List ℕ) → order ≡ front ++ v ∷ back → number_of order v ≡ Some (length front)
  number_in v h front back e = subst (λ xs. number_of xs v ≡ Some (length front)) (sym e)
      (number_at v front back (subst (λ xs. count_by (λ x. x == v) xs ≡ 1) e (once v h)))

  headed_by : (k : ℕ) (node : Node) → PartOf table k node → (rest : List ℕ) × (part table k ≡ k ∷ rest)
  headed_by k node (tip a b c d e) = ([], e)
  headed_by k node (fork l h a b p q f e) = (part table l ++ part table h, e)

  headed : (k : ℕ) → k < length table.nodes → (rest : List ℕ) × (part table k ≡ k ∷ rest)
  headed k w = let n = node_at table t k w in headed_by k n.0 (shape table t k n.0 n.1)

  number_of_part : (k : ℕ) → k < length table.nodes → (front back : List ℕ) → order ≡ front ++ (part table k ++ back) → number_of order k ≡ Some (length front)
  number_of_part k w front back e =
      let r = headed k w in
      number_in k (omega arith) front (r.0 ++ back) (e ∙ ap (λ xs. front ++ (xs ++ back)) r.1)

  -- where the children of a part stand
  left_at : (k l h : ℕ) (front back : List ℕ) → order ≡ front ++ (part table k ++ back) → part table k ≡ k ∷ (part table l ++ part table h)
      → order ≡ (front ++ k ∷ []) ++ (part table l ++ (part table h ++ back))
  left_at k l h front back at is = at ∙ ap (λ xs. front ++ (xs ++ back)) is ∙ ap (λ xs. front ++ (k ∷ xs)) (append_assoc (part table l) (part table h) back)
      ∙ sym (append_assoc front (k ∷ []) (part table l ++ (part table h ++ back)))

  right_at : (k l h : ℕ) (front back : List ℕ) → order ≡ front ++ (part table k ++ back) → part table k ≡ k ∷ (part table l ++ part table h)
      → order ≡ ((front ++ k ∷ []) ++ part table l) ++ (part table h ++ back)
  right_at k l h front back at is = left_at k l h front back at is ∙ sym (append_assoc (front ++ k ∷ []) (part table l) (part table h ++ back))

  abbrev Below : ℕ → Type 0
  Below k = (front back : List ℕ) → order ≡ front ++ (part table k ++ back) → (v : ℕ) → 1 ≤ count_by (λ x. x == v) (part table k) → Stands v

  itself : (k v : ℕ) (front back : List ℕ) → order ≡ front ++ (part table k ++ back) → v ≡ k → Stands v
  itself k v front back e same = record { front = front; back = back; is = e ∙ ap (λ n. front ++ (part table n ++ back)) (sym same) }

  in_tip : (k v : ℕ) (front back : List ℕ) → order ≡ front ++ (part table k ++ back) → part table k ≡ k ∷ [] → 1 ≤ count_by (λ x. x == v) (part table k)
      → (v ≡ k) ⊎ (v ≡ k → ⊥) → Stands v
  in_tip k v front back e is some (inl same) = itself k v front back e same
  in_tip k v front back e is some (inr other) = absurd (omega (arith, not_hit k v other, ap (count_by (λ x. x == v)) is))

  in_kids : (k l h v : ℕ) (front back : List ℕ) → order ≡ front ++ (part table k ++ back) → part table k ≡ k ∷ (part table l ++ part table h) → Below l → Below h
      → 1 ≤ count_by (λ x. x == v) (part table l) + count_by (λ x. x == v) (part table h) → (count_by (λ x. x == v) (part table l) < 1) ⊎ (1 ≤ count_by (λ x. x == v) (part table l)) → Stands v
  in_kids k l h v front back e is bl bh some (inr here) = bl (front ++ k ∷ []) (part table h ++ back) (left_at k l h front back e is) v here
  in_kids k l h v front back e is bl bh some (inl none) = bh ((front ++ k ∷ []) ++ part table l) back (right_at k l h front back e is) v (omega arith)

  in_fork : (k l h v : ℕ) (front back : List ℕ) → order ≡ front ++ (part table k ++ back) → part table k ≡ k ∷ (part table l ++ part table h) → Below l → Below h
      → 1 ≤ count_by (λ x. x == v) (part table k) → (v ≡ k) ⊎ (v ≡ k → ⊥) → Stands v
  in_fork k l h v front back e is bl bh some (inl same) = itself k v front back e same
  in_fork k l h v front back e is bl bh some (inr other) = in_kids k l h v front back e is bl bh
      (omega (
        arith,
        not_hit k v other,
        ap (count_by (λ x. x == v)) is,
        sum_by-cons (λ x. cond (x == v) 1 0) k (part table l ++ part table h),
        sum_by-append (λ x. cond (x == v) 1 0) (part table l) (part table h),
      ))
      (cases_lt _ 1)

  below_by : (k : ℕ) (node : Node) → PartOf table k node → ((j : ℕ) → j < k → Below j) → Below k
  below_by k node (tip a b c d is) rec front back e v some = in_tip k v front back e is some (cases_eq v k)
  below_by k node (fork l h a b p q f is) rec front back e v some = in_fork k l h v front back e is (rec l p) (rec h q) some (cases_eq v k)

  below_all : (n k : ℕ) → k < n → k < length table.nodes → Below k
  below_all zero k h w = absurd (omega arith)
  below_all (suc n) k h w = let x = node_at table t k w in below_by k x.0 (shape table t k x.0 x.1) (λ j lt. below_all n j (omega arith) (omega arith))

  root_at : order ≡ (frame table ∷ []) ++ (part table table.root ++ [])
  root_at = ap (λ xs. frame table ∷ xs) (sym (append-nil (part table table.root)))

  stands : (v : ℕ) → v < length table.nodes → Stands v
  stands v w = below_all (suc table.root) table.root (omega arith) t.root_in_table (frame table ∷ []) [] root_at v
      (omega (arith, once v (omega arith), not_hit (frame table) v (λ e. omega arith), sum_by-cons (λ x. cond (x == v) 1 0) (frame table) (part table table.root)))

  -- the numbers of a node's children
  record Numbers (v l h : ℕ) : Type 0 where
    at : ℕ
    self : number_of order v ≡ Some at
    light : number_of order l ≡ Some (at + 1)
    heavy : number_of order h ≡ Some (at + 2 * size_at table.nodes l)

  numbers : (v l h : ℕ) → v < length table.nodes → l < v → h < v → part table v ≡ v ∷ (part table l ++ part table h) → Numbers v l h
  numbers v l h w p q is =
      let s = stands v w in
      let wl : l < length table.nodes = omega arith in
      let b1 : length (s.front ++ v ∷ []) ≡ length s.front + 1 = omega (arith, length-append s.front (v ∷ [])) in
      let b2 : length ((s.front ++ v ∷ []) ++ part table l) ≡ length s.front + 2 * size_at table.nodes l =
      omega (arith, b1, length-append (s.front ++ v ∷ []) (part table l), part_length table t share l wl) in
      record {
        at = length s.front;
        self = number_of_part v w s.front s.back s.is;
        light = number_of_part l wl (s.front ++ v ∷ []) (part table h ++ s.back) (left_at v l h s.front s.back s.is is) ∙ ap (λ n. Some n) b1;
        heavy = number_of_part h (omega arith) ((s.front ++ v ∷ []) ++ part table l) s.back (right_at v l h s.front s.back s.is is) ∙ ap (λ n. Some n) b2;
      }

  same_number : (a b : ℕ) (o : Option ℕ) → o ≡ Some a → o ≡ Some b → a ≡ b
  same_number a b o e f = cc

  light_by : (v i c : ℕ) (node : Node) → v < length table.nodes → slice_get table.nodes v ≡ Some node → PartOf table v node → number_of order v ≡ Some i → light_of table v ≡ Some c
      → number_of order c ≡ Some (i + 1)
  light_by v i c node w e (tip a b x d is) at l = let f : light_of table v ≡ None = light_is table v node e ∙ a in cc
  light_by v i c node w e (fork l h a b p q f is) at at_l =
      let n = numbers v l h w p q is in
      let same : l ≡ c = same_number l c (light_of table v) (light_is table v node e ∙ a) at_l in
      let i' : n.at ≡ i = same_number _ _ (number_of order v) n.self at in
      ap (number_of order) (sym same) ∙ n.light ∙ ap (λ m. Some (m + 1)) i'

  heavy_by : (v i l' c : ℕ) (node : Node) → v < length table.nodes → slice_get table.nodes v ≡ Some node → PartOf table v node → number_of order v ≡ Some i → light_of table v ≡ Some l'
      → heavy_of table v ≡ Some c → number_of order c ≡ Some (i + 2 * size_at table.nodes l')
  heavy_by v i l' c node w e (tip a b x d is) at l hv = let f : light_of table v ≡ None = light_is table v node e ∙ a in cc
  heavy_by v i l' c node w e (fork l h a b p q f is) at at_l at_h =
      let n = numbers v l h w p q is in
      let same : l ≡ l' = same_number l l' (light_of table v) (light_is table v node e ∙ a) at_l in
      let same' : h ≡ c = same_number h c (heavy_of table v) (heavy_is table v node w e ∙ b) at_h in
      let i' : n.at ≡ i = same_number _ _ (number_of order v) n.self at in
      ap (number_of order) (sym same') ∙ n.heavy ∙ ap (λ m. Some (m + 2 * size_at table.nodes l)) i' ∙ ap (λ m. Some (i + 2 * size_at table.nodes m)) same

  -- a node with a light child is none but those of the tree
  in_table : (v c : ℕ) → light_of table v ≡ Some c → (v < length table.nodes) ⊎ (length table.nodes ≤ v) → v < length table.nodes
  in_table v c e (inl h) = h
  in_table v c e (inr h) =
      let none : light_of table v ≡ None = ap (option_and_then (λ n. light_child (size_at table.nodes) n.kind)) (slice_get_past table.nodes v h) in cc

  pub light_number : (v i c : ℕ) → number_of order v ≡ Some i → light_of table v ≡ Some c → number_of order c ≡ Some (i + 1)
  light_number v i c at l =
      let w = in_table v c l (cases_lt v (length table.nodes)) in
      let x = node_at table t v w in light_by v i c x.0 w x.1 (shape table t v x.0 x.1) at l

  pub heavy_number : (v i l c : ℕ) → number_of order v ≡ Some i → light_of table v ≡ Some l → heavy_of table v ≡ Some c → number_of order c ≡ Some (i + 2 * size_at table.nodes l)
  heavy_number v i l c at e h =
      let w = in_table v l e (cases_lt v (length table.nodes)) in
      let x = node_at table t v w in heavy_by v i l c x.0 w x.1 (shape table t v x.0 x.1) at e h

  alone_by : (v i c : ℕ) (node : Node) → v < length table.nodes → slice_get table.nodes v ≡ Some node → PartOf table v node → light_of table v ≡ None → heavy_of table v ≡ Some c
      → number_of order c ≡ Some (i + 1)
  alone_by v i c node w e (tip a b x d is) l h = let f : heavy_of table v ≡ None = heavy_is table v node w e ∙ b in cc
  alone_by v i c node w e (fork l h a b p q f is) none at_h = let g : light_of table v ≡ Some l = light_is table v node e ∙ a in cc

  alone_cases : (v i c : ℕ) → number_of order v ≡ Some i → light_of table v ≡ None → heavy_of table v ≡ Some c → (v ≡ frame table) ⊎ ((v < frame table) ⊎ (frame table < v))
      → number_of order c ≡ Some (i + 1)
  alone_cases v i c at l h (inl is) =
      let root : table.root ≡ c = same_number table.root c (heavy_of table (frame table)) (frame_heavy table) (ap (heavy_of table) (sym is) ∙ h) in
      let first : number_of order (frame table) ≡ Some 0 = number_in (frame table) (omega arith) [] (part table table.root) refl in
      let i' : 0 ≡ i = same_number 0 i (number_of order (frame table)) first (ap (number_of order) (sym is) ∙ at) in
      ap (number_of order) (sym root) ∙ number_of_part table.root t.root_in_table (frame table ∷ []) [] root_at ∙ ap (λ m. Some (m + 1)) i'
  alone_cases v i c at l h (inr (inl w)) = let x = node_at table t v w in alone_by v i c x.0 w x.1 (shape table t v x.0 x.1) l h
  alone_cases v i c at l h (inr (inr far)) =
      let none : heavy_of table v ≡ None =
      ap (λ b. cond b (Some table.root) (option_and_then (λ n. heavy_child (size_at table.nodes) n.kind) (slice_get table.nodes v))) (ne_eqb v (frame table) (λ q. omega arith))
      ∙ ap (option_and_then (λ n. heavy_child (size_at table.nodes) n.kind)) (slice_get_past table.nodes v (omega arith)) in cc

  pub alone_number : (v i c : ℕ) → number_of order v ≡ Some i → light_of table v ≡ None → heavy_of table v ≡ Some c → number_of order c ≡ Some (i + 1)
  alone_number v i c at l h = alone_cases v i c at l h (cases_order v (frame table))

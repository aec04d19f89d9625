-- Few edges cross a place of the light-first order.
use Rattle.std.proofs.Common.{◌≡◌, ◌∙◌, ◌⊎◌, ℕ, zero, suc, ◌+◌, ◌*◌, ◌<◌, ◌≤◌, ◌^◌, Bool, true, false, not, ◌&&◌, ◌==◌, cond, Some, List, [], ◌∷◌, ◌++◌, length, slice_get, count_by, sum_by, refl, sym, ap, subst, inl, inr, arith, length-append, append_assoc}
use Rattle.std.proofs.lemmas.Bool.{cases_lt}
use Rattle.std.proofs.lemmas.List.{append-nil}
use Rattle.std.proofs.lemmas.List.Sums.{sum_by-cons, sum_by-append}
use Rattle.star_normal.specs.declared.node.Node.{Node}
use Rattle.star_normal.specs.Tables.{TreeTable, IsTree}
use Rattle.star_normal.specs.Sizes.{size_at, light_child, heavy_child, ShareLeaves}
use Rattle.light_order.specs.Order.{frame, light_first}
use Rattle.light_order.specs.Crossings.{TreeEdge, edges_from, tree_edges, number_of, is_across, are_across, crosses, crossings, light_crossings}
use Rattle.light_order.proofs.Uses.{upto_hit}
use Rattle.light_order.proofs.Parts.{part, PartOf, tip, fork, shape, node_at, all_nodes, part_length}
use Rattle.light_order.proofs.Unrolled.{light_is, heavy_is}
use Rattle.light_order.proofs.Counted.{all_edges, of_heavy, edges_both, edges_none, edges_frame}
use Rattle.light_order.proofs.Places.{number_at}
use Rattle.light_order.proofs.Powers.{below}
use Rattle.light_order.proofs.Held.{Across, across, Held, held_leaf, held_fork, held_same, all_before}

count_split : (h q : TreeEdge → Bool) (es : List TreeEdge) → count_by q es ≡ count_by (λ e. h e && q e) es + count_by (λ e. not (h e) && q e) es
count_split h q [] = refl
count_split h q (e ∷ es) = omega (
  arith,
  one (h e) (q e),
  count_split h q es,
  sum_by-cons (λ e. cond (q e) 1 0) e es,
  sum_by-cons (λ e. cond (h e && q e) 1 0) e es,
  sum_by-cons (λ e. cond (not (h e) && q e) 1 0) e es,
)
  where
    one : (a b : Bool) → ◌≡◌ {A = ℕ} (cond b 1 0) (cond (a && b) 1 0 + cond (not a && b) 1 0)
    one true true = refl
    one true false = refl
    one false true = refl
    one false false = refl

module _ (table : TreeTable) (t : IsTree table)
    (share : (k light heavy : ℕ) (node : Node) → slice_get table.nodes k ≡ Some node → light_child (size_at table.nodes) node.kind ≡ Some light
    → heavy_child (size_at table.nodes) node.kind ≡ Some heavy → ShareLeaves table.nodes k light heavy)
    (from to place : ℕ) where
  abbrev order : List ℕ
  order = light_first table

  abbrev heavy_test : TreeEdge → Bool
  heavy_test e = e.heavy && crosses (light_first table) from to place e.parent e.child

  abbrev light_test : TreeEdge → Bool
  light_test e = not e.heavy && crosses (light_first table) from to place e.parent e.child

  abbrev heavies : ℕ → ℕ
  heavies v = count_by heavy_test (edges_from table v)

  abbrev lights : ℕ → ℕ
  lights v = count_by light_test (edges_from table v)

  number_in : (v : ℕ) → v < length table.nodes + 1 → (front back : List ℕ) → order ≡ front ++ v ∷ back → number_of order v ≡ Some (length front)
  number_in v h front back e =
      let once : count_by (λ x. x == v) order ≡ 1 = all_nodes table t (λ x. cond (x == v) 1 0) ∙ upto_hit v _ h in
      subst (λ xs. number_of xs v ≡ Some (length front)) (sym e) (number_at v front back (subst (λ xs. count_by (λ x. x == v) xs ≡ 1) e once))

  headed_by : (k : ℕ) (node : Node) → PartOf table k node → (rest : List ℕ) × (part table k ≡ k ∷ rest)
  headed_by k node (tip a b c d e) = ([], e)
  headed_by k node (fork l h a b p q f e) = (part table l ++ part table h, e)

  headed : (k : ℕ) → k < length table.nodes → (rest : List ℕ) × (part table k ≡ k ∷ rest)
  headed k w = let n = node_at table t k w in headed_by k n.0 (shape table t k n.0 n.1)

  number_of_part : (k : ℕ) → k < length table.nodes → (front back : List ℕ) → order ≡ front ++ (part table k ++ back) → number_of order k ≡ Some (length front)
  number_of_part k w front back e =
      let r = headed k w in
      number_in k (omega arith) front (r.0 ++ back) (e ∙ ap (λ xs. front ++ (xs ++ back)) r.1)

  crosses_at : (v c i k : ℕ) → number_of order v ≡ Some i → number_of order c ≡ Some k → crosses order from to place v c ≡ is_across from to place i k
  crosses_at v c i k a b = ap (λ o. are_across from to place o (number_of order c)) a ∙ ap (λ o. are_across from to place (Some i) o) b

  across_at : (v c i k : ℕ) → number_of order v ≡ Some i → number_of order c ≡ Some k → i < k → Across from to place i k (cond (crosses order from to place v c) 1 0)
  across_at v c i k a b lt = subst (λ q. Across from to place i k (cond q 1 0)) (sym (crosses_at v c i k a b)) (across from to place i k lt)

  abbrev IsHeld : ℕ → ℕ → Type 0
  IsHeld k base = Held from to place base (length (part table k)) (sum_by heavies (part table k)) (sum_by lights (part table k))

  -- a part in the order
  held_by : (k : ℕ) (node : Node) → k < length table.nodes → slice_get table.nodes k ≡ Some node → PartOf table k node → (front back : List ℕ)
      → order ≡ front ++ (part table k ++ back)
      → ((j : ℕ) → j < k → (front back : List ℕ) → order ≡ front ++ (part table j ++ back) → IsHeld j (length front)) → IsHeld k (length front)
  held_by k node w e (tip a b c d is) front back at rec =
      let h : heavies k ≡ 0 = edges_none table heavy_test k (light_is table k node e ∙ a) (heavy_is table k node w e ∙ b) in
      let l : lights k ≡ 0 = edges_none table light_test k (light_is table k node e ∙ a) (heavy_is table k node w e ∙ b) in
      subst (λ xs. Held from to place (length front) (length xs) (sum_by heavies xs) (sum_by lights xs)) (sym is)
      (held_leaf from to place (length front) _ _ (omega (arith, h)) (omega (arith, l)))
  held_by k node w e (fork l h a b p q f is) front back at rec =
      let wl : l < length table.nodes = omega arith in
      let wh : h < length table.nodes = omega arith in
      let at1 : order ≡ (front ++ k ∷ []) ++ (part table l ++ (part table h ++ back)) =
      at ∙ ap (λ xs. front ++ (xs ++ back)) is ∙ ap (λ xs. front ++ (k ∷ xs)) (append_assoc (part table l) (part table h) back)
      ∙ sym (append_assoc front (k ∷ []) (part table l ++ (part table h ++ back))) in
      let at2 : order ≡ ((front ++ k ∷ []) ++ part table l) ++ (part table h ++ back) = at1 ∙ sym (append_assoc (front ++ k ∷ []) (part table l) (part table h ++ back)) in
      let b1 : length (front ++ k ∷ []) ≡ length front + 1 = omega (arith, length-append front (k ∷ [])) in
      let b2 : length ((front ++ k ∷ []) ++ part table l) ≡ length front + 1 + length (part table l) =
      omega (arith, b1, length-append (front ++ k ∷ []) (part table l)) in
      let nk : number_of order k ≡ Some (length front) = number_of_part k w front back at in
      let nl : number_of order l ≡ Some (length front + 1) = number_of_part l wl (front ++ k ∷ []) (part table h ++ back) at1 ∙ ap (λ n. Some n) b1 in
      let nh : number_of order h ≡ Some (length front + 1 + length (part table l)) =
      number_of_part h wh ((front ++ k ∷ []) ++ part table l) back at2 ∙ ap (λ n. Some n) b2 in
      let hl : IsHeld l (length front + 1) = subst (IsHeld l) b1 (rec l p (front ++ k ∷ []) (part table h ++ back) at1) in
      let hh : IsHeld h (length front + 1 + length (part table l)) = subst (IsHeld h) b2 (rec h q ((front ++ k ∷ []) ++ part table l) back at2) in
      let s = share k l h node e a b in
      let lenl : length (part table l) + 1 ≡ 2 * size_at table.nodes l = part_length table t share l wl in
      let lenh : length (part table h) + 1 ≡ 2 * size_at table.nodes h = part_length table t share h wh in
      let rl = headed l wl in
      let hk : heavies k ≡ cond (crosses order from to place k h) 1 0 =
      edges_both table heavy_test k l h (light_is table k node e ∙ a) (heavy_is table k node w e ∙ b) ∙ omega arith in
      let lk : lights k ≡ cond (crosses order from to place k l) 1 0 =
      edges_both table light_test k l h (light_is table k node e ∙ a) (heavy_is table k node w e ∙ b) ∙ omega arith in
      let whole = held_fork from to place (length front) (length (part table l)) (length (part table h)) _ _ _ _ _ _
      (heavies k + (sum_by heavies (part table l) + sum_by heavies (part table h)))
      (lights k + (sum_by lights (part table l) + sum_by lights (part table h)))
      (omega (arith, s.fewer, lenl, lenh)) (omega (arith, ap (length {A = ℕ}) rl.1)) hl hh
      (across_at k h (length front) (length front + 1 + length (part table l)) nk nh (omega arith))
      (across_at k l (length front) (length front + 1) nk nl (omega arith))
      (omega (arith, hk)) (omega (arith, lk)) in
      held_same from to place (length front) _ _ _ _ _ _
      (omega (arith, ap (length {A = ℕ}) is, length-append (part table l) (part table h)))
      (omega (arith, ap (sum_by heavies) is, sum_by-cons heavies k (part table l ++ part table h), sum_by-append heavies (part table l) (part table h)))
      (omega (arith, ap (sum_by lights) is, sum_by-cons lights k (part table l ++ part table h), sum_by-append lights (part table l) (part table h))) whole

  held_below : (n k : ℕ) → k < n → k < length table.nodes → (front back : List ℕ) → order ≡ front ++ (part table k ++ back) → IsHeld k (length front)
  held_below zero k h w front back e = absurd (omega arith)
  held_below (suc n) k h w front back e = let x = node_at table t k w in
      held_by k x.0 w x.1 (shape table t k x.0 x.1) front back e (λ j lt. held_below n j (omega arith) (omega arith))

  -- the part of the root, behind the frame
  held_root : IsHeld table.root 1
  held_root = held_below (suc table.root) table.root (omega arith) t.root_in_table (frame table ∷ []) []
      (ap (λ xs. frame table ∷ xs) (sym (append-nil (part table table.root))))

  total : (q : TreeEdge → Bool) → count_by q (tree_edges table) ≡ of_heavy q (frame table) table.root + sum_by (λ v. count_by q (edges_from table v)) (part table table.root)
  total q = omega (
    arith,
    all_edges table q,
    all_nodes table t (λ v. count_by q (edges_from table v)),
    sum_by-cons (λ v. count_by q (edges_from table v)) (frame table) (part table table.root),
    edges_frame table q,
  )

  frame_across : Across from to place 0 1 (cond (crosses order from to place (frame table) table.root) 1 0)
  frame_across = across_at (frame table) table.root 0 1 (number_in (frame table) (omega arith) [] (part table table.root) refl)
      (number_of_part table.root t.root_in_table (frame table ∷ []) [] (ap (λ xs. frame table ∷ xs) (sym (append-nil (part table table.root))))) (omega arith)

  pub light_bound : light_crossings table (light_first table) from to place ≤ 1
  light_bound = omega (arith, total light_test, held_root.light)

  heavy_by : (j : ℕ) → 1 ≤ j → to ≤ from + 4 ^ j → (s x : ℕ) → s ≡ sum_by heavies (part table table.root) → x ≡ cond (crosses order from to place (frame table) table.root) 1 0
      → (s < 1) ⊎ (1 ≤ s) → (place < 2) ⊎ (2 ≤ place) → x + s + 1 ≤ 2 * j
  heavy_by j some few s x a b (inl none) q = omega (arith, frame_across.one)
  heavy_by j some few s x a b (inr one) (inl p) = absurd (omega (arith, (held_root.outside (inl (omega arith))).0))
  heavy_by j some few s x a b (inr one) (inr p) =
      let none : cond (crosses order from to place (frame table) table.root) 1 0 ≡ 0 = all_before from to place 0 1 _ frame_across (omega arith) in
      let room : from + 2 ^ s + 1 ≤ to = rw a (held_root.room (omega arith)) in
      let lt : s < 2 * j = below s j (omega arith) in
      omega (arith, none)

  pub bound : (j : ℕ) → 1 ≤ j → to ≤ from + 4 ^ j → crossings table (light_first table) from to place ≤ 2 * j
  bound j some few = omega (
    arith,
    count_split (λ e. e.heavy) (λ e. crosses (light_first table) from to place e.parent e.child) (tree_edges table),
    total heavy_test,
    light_bound,
    heavy_by j some few _ _ refl refl (cases_lt _ 1) (cases_lt place 2),
  )

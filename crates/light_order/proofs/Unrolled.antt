-- The order so far, and the parts of the nodes that wait.
use Rattle.std.proofs.Common.{◌≡◌, ◌∙◌, ℕ, suc, ◌<◌, cond, Option, Some, None, List, [], ◌∷◌, ◌++◌, length, reverse, flat_map, slice_get, sum_by, All, sym, ap, arith, subst, zero, get_or, append_assoc, length-append}
use Rattle.std.specs.Option.{option_and_then}
use Rattle.std.proofs.lemmas.Bool.{ne_eqb}
use Rattle.std.proofs.lemmas.List.{reverse-append, append-nil, get_or_append_left}
use Rattle.std.proofs.Math.Seq.{get_or-append_seam}
use Rattle.std.proofs.lemmas.List.Concat.{flat_map-append}
use Rattle.std.proofs.lemmas.List.Elements.{All-append}
use Rattle.std.proofs.lemmas.List.Sums.{sum_by-append, sum_by_push}
use Rattle.star_normal.specs.declared.node.Node.{Node}
use Rattle.star_normal.specs.Tables.{TreeTable, IsTree}
use Rattle.star_normal.specs.Sizes.{size_at, light_child, heavy_child}
use Rattle.light_order.specs.Order.{frame, listed, light_of, heavy_of, light_first}
use Rattle.light_order.proofs.Parts.{part, PartOf, tip, fork, shape, node_at}

-- the light-first order is what stands there and then the parts of the nodes that wait, from the last one on
pub record Unrolled (table : TreeTable) (order waiting : List ℕ) : Type 0 where
  pub all : light_first table ≡ order ++ flat_map (part table) (reverse waiting)
  pub within : All (λ k. k < length table.nodes) waiting

-- how many nodes stand in the parts of those that wait
abbrev pub left : TreeTable → List ℕ → ℕ
left table waiting = sum_by (λ k. length (part table k)) waiting

-- Of a node in the table: its children, and its part by theirs.
record Turn (table : TreeTable) (v : ℕ) : Type 0 where
  split : part table v ≡ v ∷ (flat_map (part table) (reverse (listed (heavy_of table v) ++ listed (light_of table v))))
  within : All (λ k. k < length table.nodes) (listed (heavy_of table v) ++ listed (light_of table v))
  long : length (part table v) ≡ suc (sum_by (λ k. length (part table k)) (listed (heavy_of table v) ++ listed (light_of table v)))

pub light_is : (table : TreeTable) (v : ℕ) (node : Node) → slice_get table.nodes v ≡ Some node → light_of table v ≡ light_child (size_at table.nodes) node.kind
light_is table v node e = ap (option_and_then (λ n. light_child (size_at table.nodes) n.kind)) e

pub heavy_is : (table : TreeTable) (v : ℕ) (node : Node) → v < length table.nodes → slice_get table.nodes v ≡ Some node
    → heavy_of table v ≡ heavy_child (size_at table.nodes) node.kind
heavy_is table v node h e =
    ap (λ b. cond b (Some table.root) (option_and_then (λ n. heavy_child (size_at table.nodes) n.kind) (slice_get table.nodes v))) (ne_eqb v (frame table) (λ q. omega arith))
    ∙ ap (option_and_then (λ n. heavy_child (size_at table.nodes) n.kind)) e

nothing : (table : TreeTable) (v : ℕ) (o p : Option ℕ) → heavy_of table v ≡ o → light_of table v ≡ p → o ≡ None → p ≡ None → part table v ≡ v ∷ [] → Turn table v
nothing table v o p a b q r e = record {
  split = subst (λ xs. part table v ≡ v ∷ flat_map (part table) (reverse xs)) (sym lists) e;
  within = subst (All (λ k. k < length table.nodes)) (sym lists) (λ k d lt. absurd (omega arith));
  long = subst (λ xs. length (part table v) ≡ suc (sum_by (λ k. length (part table k)) xs)) (sym lists) (ap (length {A = ℕ}) e);
}
  where
    lists : listed (heavy_of table v) ++ listed (light_of table v) ≡ []
    lists = ap (λ x. listed x ++ listed (light_of table v)) (a ∙ q) ∙ ap (λ x. listed x) (b ∙ r)

both_within : (n h l : ℕ) → h < n → l < n → All (λ k. k < n) (h ∷ l ∷ [])
both_within n h l p q zero d lt = p
both_within n h l p q (suc zero) d lt = q
both_within n h l p q (suc (suc k)) d lt = absurd (omega arith)

pair : (table : TreeTable) (v l h : ℕ) (o p : Option ℕ) → heavy_of table v ≡ o → light_of table v ≡ p → o ≡ Some h → p ≡ Some l
    → h < length table.nodes → l < length table.nodes → part table v ≡ v ∷ (part table l ++ part table h) → Turn table v
pair table v l h o p a b q r x y e = record {
  split = subst (λ xs. part table v ≡ v ∷ flat_map (part table) (reverse xs)) (sym (lists o p q r a b)) (e ∙ ap (λ xs. v ∷ (part table l ++ xs)) (sym (append-nil (part table h))));
  within = subst (All (λ k. k < length table.nodes)) (sym (lists o p q r a b)) (both_within (length table.nodes) h l x y);
  long = subst (λ xs. length (part table v) ≡ suc (sum_by (λ k. length (part table k)) xs)) (sym (lists o p q r a b))
      (omega (arith, ap (length {A = ℕ}) e, length-append (part table l) (part table h)));
}
  where
    lists : (o p : Option ℕ) → o ≡ Some h → p ≡ Some l → heavy_of table v ≡ o → light_of table v ≡ p → listed (heavy_of table v) ++ listed (light_of table v) ≡ h ∷ l ∷ []
    lists o p q r a b = ap (λ x. listed x ++ listed (light_of table v)) (a ∙ q) ∙ ap (λ x. h ∷ listed x) (b ∙ r)

turn_by : (table : TreeTable) (v : ℕ) (node : Node) → v < length table.nodes → slice_get table.nodes v ≡ Some node → PartOf table v node → Turn table v
turn_by table v node w e (tip a b c d is) = nothing table v _ _ (heavy_is table v node w e) (light_is table v node e) b a is
turn_by table v node w e (fork l h a b p q f is) =
    pair table v l h _ _ (heavy_is table v node w e) (light_is table v node e) b a (omega arith) (omega arith) is

turn : (table : TreeTable) → IsTree table → (v : ℕ) → v < length table.nodes → Turn table v
turn table t v w = let n = node_at table t v w in turn_by table v n.0 w n.1 (shape table t v n.0 n.1)

pub start : (table : TreeTable) → IsTree table → Unrolled table (length table.nodes ∷ []) (table.root ∷ [])
start table t = record {
  all = ap (λ xs. length table.nodes ∷ xs) (sym (append-nil (part table table.root)));
  within = λ k d lt. one k d lt;
}
  where
    one : All (λ k. k < length table.nodes) (table.root ∷ [])
    one zero d lt = t.root_in_table
    one (suc k) d lt = absurd (omega arith)

pub started : (table : TreeTable) → IsTree table → (n r : ℕ) (order waiting order' waiting' : List ℕ) → n ≡ length table.nodes → r ≡ table.root → order ≡ []
    → waiting ≡ [] → order' ≡ order ++ n ∷ [] → waiting' ≡ waiting ++ r ∷ [] → Unrolled table order' waiting'
started table t n r order waiting order' waiting' a b c d e f = rw (e, f, c, d, a, b) (start table t)

pub node_within : (table : TreeTable) (order waiting : List ℕ) (v : ℕ) → Unrolled table order (waiting ++ v ∷ []) → v < length table.nodes
node_within table order waiting v u =
    let lt : length waiting < length (waiting ++ v ∷ []) = omega (arith, length-append waiting (v ∷ [])) in
    let h : get_or (waiting ++ v ∷ []) (length waiting) 0 < length table.nodes = u.within (length waiting) 0 lt in
    rw (get_or-append_seam waiting v [] 0) at h

front_within : (n v : ℕ) (waiting : List ℕ) → All (λ k. k < n) (waiting ++ v ∷ []) → All (λ k. k < n) waiting
front_within n v waiting h k d lt =
    let at : get_or (waiting ++ v ∷ []) k d < n = h k d (omega (arith, length-append waiting (v ∷ []))) in
    rw (get_or_append_left waiting (v ∷ []) d k lt) at at

pub next : (table : TreeTable) → IsTree table → (order waiting : List ℕ) (v : ℕ) → Unrolled table order (waiting ++ v ∷ [])
    → Unrolled table (order ++ v ∷ []) (waiting ++ (listed (heavy_of table v) ++ listed (light_of table v)))
next table t order waiting v u =
    let w = node_within table order waiting v u in
    let n = turn table t v w in
    let kids : List ℕ = listed (heavy_of table v) ++ listed (light_of table v) in
    record {
      all = u.all
          ∙ ap (λ xs. order ++ flat_map (part table) xs) (reverse-append waiting (v ∷ []))
          ∙ ap (λ xs. order ++ (xs ++ flat_map (part table) (reverse waiting))) n.split
          ∙ sym (append_assoc order (v ∷ []) (flat_map (part table) (reverse kids) ++ flat_map (part table) (reverse waiting)))
          ∙ ap (λ xs. (order ++ v ∷ []) ++ xs) (sym (flat_map-append (part table) (reverse kids) (reverse waiting)))
          ∙ ap (λ xs. (order ++ v ∷ []) ++ flat_map (part table) xs) (sym (reverse-append waiting kids));
      within = All-append (λ k. k < length table.nodes) waiting kids (front_within (length table.nodes) v waiting u.within) n.within;
    }

pub fewer : (table : TreeTable) → IsTree table → (waiting : List ℕ) (v : ℕ) → v < length table.nodes
    → left table (waiting ++ (listed (heavy_of table v) ++ listed (light_of table v))) < left table (waiting ++ v ∷ [])
fewer table t waiting v w = omega (
  arith,
  (turn table t v w).long,
  sum_by-append (λ k. length (part table k)) waiting (listed (heavy_of table v) ++ listed (light_of table v)),
  sum_by_push (λ k. length (part table k)) waiting v,
)

-- a turn of the loop: the last node that waits is taken, and its children are put behind the others
module _ (table : TreeTable) (t : IsTree table) (order before waiting : List ℕ) (v : ℕ) (u : Unrolled table order before) (e : before ≡ waiting ++ v ∷ []) where
  pub taken : v < length table.nodes
  taken = node_within table order waiting v (subst (Unrolled table order) e u)

  pub turned : (order' w1 w2 : List ℕ) (h l : Option ℕ) → order' ≡ order ++ v ∷ [] → h ≡ heavy_of table v → l ≡ light_of table v → w1 ≡ waiting ++ listed h
      → w2 ≡ w1 ++ listed l → Unrolled table order' w2
  turned order' w1 w2 h l a b c d f = rw (a, f, d, b, c, append_assoc) (next table t order waiting v (subst (Unrolled table order) e u))

  pub smaller : (w1 w2 : List ℕ) (h l : Option ℕ) → h ≡ heavy_of table v → l ≡ light_of table v → w1 ≡ waiting ++ listed h
      → w2 ≡ w1 ++ listed l → left table w2 < left table before
  smaller w1 w2 h l b c d f = rw (e, f, d, b, c, append_assoc) (fewer table t waiting v taken)

pub finished : (table : TreeTable) (order waiting : List ℕ) → Unrolled table order waiting → waiting ≡ [] → order ≡ light_first table
finished table order waiting u e = sym (u.all ∙ ap (λ xs. order ++ flat_map (part table) (reverse xs)) e ∙ append-nil order)

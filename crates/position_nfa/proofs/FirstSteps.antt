-- What the first positions of subtrees are made of.
use Rattle.std.proofs.Common.{◌≡◌, ◌∙◌, ℕ, ◌+◌, ◌<◌, ◌≤◌, Bool, true, false, if◌then◌else◌, List, [], ◌∷◌, ◌++◌, length, refl, sym, ap, subst, arith, append_assoc, append-nil, length-append}
use Rattle.std.specs.Prelude.{⊤}
use Rattle.star_normal.specs.declared.node.Node.{Node}
use Rattle.star_normal.specs.declared.node.NodeKind.{NodeKind}
use Rattle.star_normal.specs.declared.node.NodeKind.TheVariants.{Leaf, Seq, Alt}
use Rattle.star_normal.specs.Trees.{Flags, FlaggedTree, leaf, seq, alt, flags, leaves}
use Rattle.star_normal.specs.Shapes.{tree_numbered, size}
use Rattle.star_normal.specs.Sizes.{size_at}
use Rattle.star_normal.specs.Tables.{flags_of, form_at, form_by, forms}
use Rattle.position_nfa.specs.declared.summaries.Summary.{Summary}
use Rattle.position_nfa.specs.declared.firsts.Subtree.{Subtree}
use Rattle.position_nfa.specs.LeafRows.{firsts}
use Rattle.position_nfa.specs.Summaries.{PartsAreBelow, AreSummaries, node_at, summary_at}
use Rattle.position_nfa.specs.Waiting.{AreOrdered, IsSubtree, numbered_tree, left_subtree, right_subtree, kind_positions, kind_subtrees, first_positions, first_subtrees, waiting_firsts}
use Rattle.position_nfa.proofs.NodeForms.{node_form, form_flags, flags_numbered}

-- all these are subtrees
abbrev pub AreSubtrees : List Node → List Subtree → Type 0
AreSubtrees nodes [] = ⊤
AreSubtrees nodes (s ∷ ss) = IsSubtree nodes s × AreSubtrees nodes ss

-- how many nodes they have
abbrev pub subtree_weight : List Node → Subtree → ℕ
subtree_weight nodes s = size (form_at (forms nodes) s.node)

abbrev pub subtrees_weight : List Node → List Subtree → ℕ
subtrees_weight nodes [] = 0
subtrees_weight nodes (s ∷ ss) = subtrees_weight nodes ss + subtree_weight nodes s

module _ (nodes : List Node) where
  pub firsts_append : (a b : List Subtree) → waiting_firsts nodes (a ++ b) ≡ waiting_firsts nodes b ++ waiting_firsts nodes a
  firsts_append [] b = sym (append-nil (waiting_firsts nodes b))
  firsts_append (s ∷ a) b = ap (λ l. l ++ firsts (numbered_tree nodes s)) (firsts_append a b) ∙ append_assoc (waiting_firsts nodes b) (waiting_firsts nodes a) (firsts (numbered_tree nodes s))

  pub weight_append : (a b : List Subtree) → subtrees_weight nodes (a ++ b) ≡ subtrees_weight nodes a + subtrees_weight nodes b
  weight_append [] b = omega arith
  weight_append (s ∷ a) b = omega (arith, weight_append a b)

  pub subtrees_append : (a b : List Subtree) → AreSubtrees nodes a → AreSubtrees nodes b → AreSubtrees nodes (a ++ b)
  subtrees_append [] b h k = k
  subtrees_append (s ∷ a) b h k = (h.0, subtrees_append a b h.1 k)

  pub subtrees_pop : (a : List Subtree) (s : Subtree) → AreSubtrees nodes (a ++ s ∷ []) → AreSubtrees nodes a × IsSubtree nodes s
  subtrees_pop [] s h = (tt, h.0)
  subtrees_pop (z ∷ a) s h = let rest = subtrees_pop a s h.1 in ((h.0, rest.0), rest.1)

-- the parts of a subtree are subtrees, and are made of its node's parts
pub record Parts (nodes : List Node) (summaries : List Summary) (s : Subtree) (l r : ℕ) : Type 0 where
  pub left_below : l < length nodes
  pub right_below : r < length nodes
  pub left : IsSubtree nodes (left_subtree s l)
  pub right : IsSubtree nodes (right_subtree summaries s l r)
  pub behind : (summary_at summaries l).leaves ≡ size_at nodes l
  pub eps : (flags (numbered_tree nodes (left_subtree s l))).eps ≡ (node_at nodes l).eps
  pub right_eps : (flags (numbered_tree nodes (right_subtree summaries s l r))).eps ≡ (node_at nodes r).eps

module _ (nodes : List Node) (summaries : List Summary) (order : AreOrdered nodes) (sums : AreSummaries nodes summaries) (s : Subtree) (is : IsSubtree nodes s) where
  abbrev pub node : Node
  node = node_at nodes s.node

  pub whole_form : numbered_tree nodes s ≡ tree_numbered s.base (form_by (forms nodes) (flags_of node) node.kind)
  whole_form = ap (tree_numbered s.base) (node_form nodes order s.node is.node)

  whole_size : size_at nodes s.node ≡ length (leaves (form_by (forms nodes) (flags_of node) node.kind))
  whole_size = ap (λ t. length (leaves t)) (node_form nodes order s.node is.node)

  numbered_eps : (k base : ℕ) → k < length nodes → (flags (tree_numbered base (form_at (forms nodes) k))).eps ≡ (node_at nodes k).eps
  numbered_eps k base h = ap (λ f. f.eps) (flags_numbered base (form_at (forms nodes) k) ∙ form_flags nodes order k h)

  parts_by : (l r : ℕ) → l < s.node → r < s.node → size_at nodes s.node ≡ size_at nodes l + size_at nodes r → Parts nodes summaries s l r
  parts_by l r hl hr total =
      let a : l < length nodes = omega (arith, is.node) in
      let b : r < length nodes = omega (arith, is.node) in
      let e : (summary_at summaries l).leaves ≡ size_at nodes l = sums.leaves l a in
      record {
        left_below = a;
        right_below = b;
        left = record { node = a; few = omega (arith, is.few) };
        right = record { node = b; few = omega (arith, is.few, e) };
        behind = e;
        eps = numbered_eps l s.base a;
        right_eps = numbered_eps r (s.base + (summary_at summaries l).leaves) b;
      }

  pub seq_parts : (l r : ℕ) → node.kind ≡ Seq l r → Parts nodes summaries s l r
  seq_parts l r e =
      let below : PartsAreBelow s.node (Seq l r) = subst (PartsAreBelow s.node) e (order s.node is.node) in
      let total : size_at nodes s.node ≡ length (leaves (form_at (forms nodes) l) ++ leaves (form_at (forms nodes) r)) =
      whole_size ∙ ap (λ kind. length (leaves (form_by (forms nodes) (flags_of node) kind))) e in
      parts_by l r below.0 below.1 (omega (arith, total, length-append (leaves (form_at (forms nodes) l)) (leaves (form_at (forms nodes) r))))

  pub alt_parts : (l r : ℕ) → node.kind ≡ Alt l r → Parts nodes summaries s l r
  alt_parts l r e =
      let below : PartsAreBelow s.node (Alt l r) = subst (PartsAreBelow s.node) e (order s.node is.node) in
      let total : size_at nodes s.node ≡ length (leaves (form_at (forms nodes) l) ++ leaves (form_at (forms nodes) r)) =
      whole_size ∙ ap (λ kind. length (leaves (form_by (forms nodes) (flags_of node) kind))) e in
      parts_by l r below.0 below.1 (omega (arith, total, length-append (leaves (form_at (forms nodes) l)) (leaves (form_at (forms nodes) r))))

  -- the right part as the numbered tree has it
  pub right_tree : (l r : ℕ) → (summary_at summaries l).leaves ≡ size_at nodes l
      → numbered_tree nodes (right_subtree summaries s l r) ≡ tree_numbered (s.base + length (leaves (form_at (forms nodes) l))) (form_at (forms nodes) r)
  right_tree l r e = ap (λ n. tree_numbered (s.base + n) (form_at (forms nodes) r)) e

-- what a step adds, what it leaves, and that this is less
pub record FirstStep (nodes : List Node) (tree : FlaggedTree) (weight : ℕ) (put : List ℕ) (next : List Subtree) : Type 0 where
  pub same : put ++ waiting_firsts nodes next ≡ firsts tree
  pub less : subtrees_weight nodes next < weight
  pub subtrees : AreSubtrees nodes next

module _ (nodes : List Node) (summaries : List Summary) (order : AreOrdered nodes) (sums : AreSummaries nodes summaries) (s : Subtree) (is : IsSubtree nodes s) where
  seq_same : (b : Bool) (L R : Subtree) → waiting_firsts nodes ((if b then R ∷ [] else []) ++ L ∷ [])
      ≡ firsts (numbered_tree nodes L) ++ (if b then firsts (numbered_tree nodes R) else [])
  seq_same true L R = refl
  seq_same false L R = sym (append-nil (firsts (numbered_tree nodes L)))

  seq_less : (b : Bool) (L R : Subtree) → subtrees_weight nodes ((if b then R ∷ [] else []) ++ L ∷ []) ≤ subtree_weight nodes L + subtree_weight nodes R
  seq_less true L R = omega arith
  seq_less false L R = omega arith

  seq_subtrees : (b : Bool) (L R : Subtree) → IsSubtree nodes L → IsSubtree nodes R → AreSubtrees nodes ((if b then R ∷ [] else []) ++ L ∷ [])
  seq_subtrees true L R l r = (r, (l, tt))
  seq_subtrees false L R l r = (l, tt)

  step_by : (kind : NodeKind) → (node_at nodes s.node).kind ≡ kind
      → FirstStep nodes (tree_numbered s.base (form_by (forms nodes) (flags_of (node_at nodes s.node)) kind)) (size (form_by (forms nodes) (flags_of (node_at nodes s.node)) kind))
      (kind_positions kind s.base) (kind_subtrees nodes summaries s kind)
  step_by (Leaf x) e = record { same = refl; less = omega arith; subtrees = tt }
  step_by (Seq l r) e =
      let p : Parts nodes summaries s l r = seq_parts nodes summaries order sums s is l r e in
      let L : Subtree = left_subtree s l in
      let R : Subtree = right_subtree summaries s l r in
      let right : firsts (numbered_tree nodes R) ≡ firsts (tree_numbered (s.base + length (leaves (form_at (forms nodes) l))) (form_at (forms nodes) r)) =
      ap firsts (right_tree nodes summaries order sums s is l r p.behind) in
      record {
        same =
            seq_same (node_at nodes l).eps L R
            ∙ ap (λ b. firsts (numbered_tree nodes L) ++ (if b then firsts (numbered_tree nodes R) else [])) (sym p.eps)
            ∙ ap (λ xs. firsts (numbered_tree nodes L) ++ (if (flags (numbered_tree nodes L)).eps then xs else [])) right;
        less = let w = seq_less (node_at nodes l).eps L R in omega (arith, w);
        subtrees = seq_subtrees (node_at nodes l).eps L R p.left p.right;
      }
  step_by (Alt l r) e =
      let p : Parts nodes summaries s l r = alt_parts nodes summaries order sums s is l r e in
      record {
        same = ap (λ t. firsts (numbered_tree nodes (left_subtree s l)) ++ firsts t) (right_tree nodes summaries order sums s is l r p.behind);
        less = omega arith;
        subtrees = (p.right, (p.left, tt));
      }

  pub first_step : FirstStep nodes (numbered_tree nodes s) (subtree_weight nodes s) (first_positions nodes s) (first_subtrees nodes summaries s)
  first_step =
      let step = step_by (node_at nodes s.node).kind refl in
      let form = node_form nodes order s.node is.node in
      record {
        same = step.same ∙ ap (λ t. firsts (tree_numbered s.base t)) (sym form);
        less = subst (λ w. subtrees_weight nodes (first_subtrees nodes summaries s) < w) (ap size (sym form)) step.less;
        subtrees = step.subtrees;
      }

  pub first_put : (done : List ℕ) (rest : List Subtree) → (done ++ first_positions nodes s) ++ waiting_firsts nodes (rest ++ first_subtrees nodes summaries s)
      ≡ done ++ waiting_firsts nodes (rest ++ s ∷ [])
  first_put done rest =
      rw (firsts_append nodes rest (first_subtrees nodes summaries s), firsts_append nodes rest (s ∷ []))
      (append_assoc done (first_positions nodes s) (waiting_firsts nodes (first_subtrees nodes summaries s) ++ waiting_firsts nodes rest)
      ∙ ap (λ l. done ++ l) (sym (append_assoc (first_positions nodes s) (waiting_firsts nodes (first_subtrees nodes summaries s)) (waiting_firsts nodes rest))
      ∙ ap (λ l. l ++ waiting_firsts nodes rest) first_step.same))

  pub first_less : (rest : List Subtree) → subtrees_weight nodes (rest ++ first_subtrees nodes summaries s) < subtrees_weight nodes (rest ++ s ∷ [])
  first_less rest = let l = first_step.less in omega (arith, weight_append nodes rest (first_subtrees nodes summaries s), weight_append nodes rest (s ∷ []), l)

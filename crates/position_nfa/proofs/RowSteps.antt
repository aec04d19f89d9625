-- What the rows of duties are made of.
use Rattle.std.proofs.Common.{◌≡◌, ◌∙◌, ℕ, ◌+◌, ◌<◌, ◌≤◌, Bool, true, false, ◌&&◌, ◌||◌, if◌then◌else◌, List, [], ◌∷◌, ◌++◌, length, map, bit_or, refl, sym, ap, subst, arith, append_assoc, append-nil, length-append}
use Rattle.std.proofs.lemmas.List.{map-append}
use Rattle.std.specs.Prelude.{⊤}
use Rattle.star_normal.specs.declared.node.Node.{Node}
use Rattle.star_normal.specs.declared.node.NodeKind.{NodeKind}
use Rattle.star_normal.specs.declared.node.NodeKind.TheVariants.{Leaf, Seq, Alt}
use Rattle.star_normal.specs.Trees.{Flags, FlaggedTree, leaf, seq, alt, flags, leaves}
use Rattle.star_normal.specs.Shapes.{tree_numbered, size}
use Rattle.star_normal.specs.Sizes.{size_at}
use Rattle.star_normal.specs.Tables.{flags_of, form_at, form_by, forms}
use Rattle.position_nfa.specs.declared.summaries.Summary.{Summary}
use Rattle.position_nfa.specs.declared.firsts.Subtree.{Subtree}
use Rattle.position_nfa.specs.Automaton.{has_output}
use Rattle.position_nfa.specs.LeafRows.{LeafRow, firsts, empties, behind_turn, marked_turn, leaf_rows}
use Rattle.position_nfa.specs.Summaries.{PartsAreBelow, AreSummaries, node_at, summary_at}
use Rattle.position_nfa.specs.Waiting.{AreOrdered, IsSubtree, numbered_tree, left_subtree, right_subtree, Duty, LeafLists, end_mask, left_mask, left_next, kind_rows, kind_duties, right_firsts, duty_behind, duty_ends, duty_rows, duty_duties, waiting_rows, waiting_symbols}
use Rattle.position_nfa.proofs.NodeForms.{node_form, form_flags, flags_numbered, empties_numbered}
use Rattle.position_nfa.proofs.FirstSteps.{subtree_weight, Parts, whole_form, seq_parts, alt_parts, right_tree}
use Rattle.position_nfa.proofs.Masks.{or_has, if_has}

-- all these are duties at subtrees
abbrev pub AreDuties : List Node → List Duty → Type 0
AreDuties nodes [] = ⊤
AreDuties nodes (d ∷ ds) = IsSubtree nodes d.subtree × AreDuties nodes ds

abbrev pub duties_weight : List Node → List Duty → ℕ
duties_weight nodes [] = 0
duties_weight nodes (d ∷ ds) = duties_weight nodes ds + subtree_weight nodes d.subtree

abbrev pub follow_sets : List LeafRow → List (List ℕ)
follow_sets added = map (λ row. row.follow) added

abbrev pub shown : List LeafRow → List (ℕ → Bool)
shown added = map (λ row. row.marks) added

module _ (nodes : List Node) where
  pub rows_append : (a b : List Duty) → waiting_rows nodes (a ++ b) ≡ waiting_rows nodes b ++ waiting_rows nodes a
  rows_append [] b = sym (append-nil (waiting_rows nodes b))
  rows_append (d ∷ a) b =
      ap (λ l. l ++ leaf_rows (numbered_tree nodes d.subtree) d.next (has_output d.ends)) (rows_append a b)
      ∙ append_assoc (waiting_rows nodes b) (waiting_rows nodes a) (leaf_rows (numbered_tree nodes d.subtree) d.next (has_output d.ends))

  pub symbols_append : (a b : List Duty) → waiting_symbols nodes (a ++ b) ≡ waiting_symbols nodes b ++ waiting_symbols nodes a
  symbols_append [] b = sym (append-nil (waiting_symbols nodes b))
  symbols_append (d ∷ a) b =
      ap (λ l. l ++ leaves (form_at (forms nodes) d.subtree.node)) (symbols_append a b)
      ∙ append_assoc (waiting_symbols nodes b) (waiting_symbols nodes a) (leaves (form_at (forms nodes) d.subtree.node))

  pub duties_weight_append : (a b : List Duty) → duties_weight nodes (a ++ b) ≡ duties_weight nodes a + duties_weight nodes b
  duties_weight_append [] b = omega arith
  duties_weight_append (d ∷ a) b = omega (arith, duties_weight_append a b)

  pub duties_append : (a b : List Duty) → AreDuties nodes a → AreDuties nodes b → AreDuties nodes (a ++ b)
  duties_append [] b h k = k
  duties_append (d ∷ a) b h k = (h.0, duties_append a b h.1 k)

  pub duties_pop : (a : List Duty) (d : Duty) → AreDuties nodes (a ++ d ∷ []) → AreDuties nodes a × IsSubtree nodes d.subtree
  duties_pop [] d h = (tt, h.0)
  duties_pop (z ∷ a) d h = let rest = duties_pop a d h.1 in ((h.0, rest.0), rest.1)

-- what a duty adds, what it leaves, and that this is less
pub record RowStep (nodes : List Node) (letters : List ℕ) (tree : List LeafRow) (weight : ℕ) (put : LeafLists) (next : List Duty) : Type 0 where
  pub symbols : put.symbols ++ waiting_symbols nodes next ≡ letters
  pub follow : put.follow ++ follow_sets (waiting_rows nodes next) ≡ follow_sets tree
  pub marked : map has_output put.marked ++ shown (waiting_rows nodes next) ≡ shown tree
  pub less : duties_weight nodes next < weight
  pub duties : AreDuties nodes next

-- the rows of a sequence, from its right part and what comes behind it
abbrev seq_rows : FlaggedTree → FlaggedTree → List ℕ → (ℕ → Bool) → List LeafRow
seq_rows l r behind marked =
    leaf_rows l (firsts r ++ (if (flags r).eps then behind else [])) (λ y. empties r y || ((flags r).eps && marked y)) ++ leaf_rows r behind marked

module _ (nodes : List Node) (summaries : List Summary) (order : AreOrdered nodes) (sums : AreSummaries nodes summaries) (s : Subtree) (is : IsSubtree nodes s) where
  -- the mask where a turn ends
  turn_bit : (ends y : ℕ) → has_output (end_mask (node_at nodes s.node) (summary_at summaries s.node) ends) y
      ≡ marked_turn (flags_of (node_at nodes s.node)) (empties (numbered_tree nodes s)) (has_output ends) y
  turn_bit ends y =
      let n : Node = node_at nodes s.node in
      let m : ℕ = (summary_at summaries s.node).empties in
      or_has (bit_or ends n.marks) (if n.loops then m else 0) y
      ∙ ap (λ b. b || has_output (if n.loops then m else 0) y) (or_has ends n.marks y)
      ∙ ap (λ b. (has_output ends y || has_output n.marks y) || b) (if_has n.loops m y)
      ∙ ap (λ b. (has_output ends y || has_output n.marks y) || (n.loops && b))
      (sums.empties s.node y is.node ∙ sym (empties_numbered (form_at (forms nodes) s.node) s.base y))

  pub turn_bits : (ends : ℕ) → has_output (end_mask (node_at nodes s.node) (summary_at summaries s.node) ends)
      ≡ marked_turn (flags_of (node_at nodes s.node)) (empties (numbered_tree nodes s)) (has_output ends)
  turn_bits ends = λ i. λ y. turn_bit ends y i

  left_bit : (l r ends y : ℕ) → r < length nodes → (flags (numbered_tree nodes (right_subtree summaries s l r))).eps ≡ (node_at nodes r).eps
      → has_output (left_mask (node_at nodes r) (summary_at summaries r) ends) y
      ≡ (empties (numbered_tree nodes (right_subtree summaries s l r)) y || ((flags (numbered_tree nodes (right_subtree summaries s l r))).eps && has_output ends y))
  left_bit l r ends y h e =
      let m : ℕ = (summary_at summaries r).empties in
      let n : Node = node_at nodes r in
      or_has m (if n.eps then ends else 0) y
      ∙ ap (λ b. b || has_output (if n.eps then ends else 0) y)
      (sums.empties r y h ∙ sym (empties_numbered (form_at (forms nodes) r) (s.base + (summary_at summaries l).leaves) y))
      ∙ ap (λ b. empties (numbered_tree nodes (right_subtree summaries s l r)) y || b) (if_has n.eps ends y ∙ ap (λ b. b && has_output ends y) (sym e))

  seq_waiting : (l r : ℕ) (p : Parts nodes summaries s l r) (behind : List ℕ) (ends : ℕ)
      → waiting_rows nodes (kind_duties nodes summaries s (Seq l r) behind ends)
      ≡ seq_rows (numbered_tree nodes (left_subtree s l)) (tree_numbered (s.base + length (leaves (form_at (forms nodes) l))) (form_at (forms nodes) r)) behind (has_output ends)
  seq_waiting l r p behind ends =
      let L : FlaggedTree = numbered_tree nodes (left_subtree s l) in
      let R : FlaggedTree = numbered_tree nodes (right_subtree summaries s l r) in
      let mask : has_output (left_mask (node_at nodes r) (summary_at summaries r) ends) ≡ (λ (y : ℕ). empties R y || ((flags R).eps && has_output ends y)) =
      λ i. λ y. left_bit l r ends y p.right_below p.right_eps i in
      ap (λ b. leaf_rows L (firsts R ++ (if b then behind else [])) (has_output (left_mask (node_at nodes r) (summary_at summaries r) ends)) ++ leaf_rows R behind (has_output ends)) (sym p.right_eps)
      ∙ ap (λ (m : ℕ → Bool). leaf_rows L (firsts R ++ (if (flags R).eps then behind else [])) m ++ leaf_rows R behind (has_output ends)) mask
      ∙ ap (λ t. seq_rows L t behind (has_output ends)) (right_tree nodes summaries order sums s is l r p.behind)

  alt_waiting : (l r : ℕ) (p : Parts nodes summaries s l r) (behind : List ℕ) (ends : ℕ)
      → waiting_rows nodes (kind_duties nodes summaries s (Alt l r) behind ends)
      ≡ leaf_rows (numbered_tree nodes (left_subtree s l)) behind (has_output ends)
      ++ leaf_rows (tree_numbered (s.base + length (leaves (form_at (forms nodes) l))) (form_at (forms nodes) r)) behind (has_output ends)
  alt_waiting l r p behind ends =
      ap (λ t. leaf_rows (numbered_tree nodes (left_subtree s l)) behind (has_output ends) ++ leaf_rows t behind (has_output ends))
      (right_tree nodes summaries order sums s is l r p.behind)

  abbrev kind_tree : NodeKind → FlaggedTree
  kind_tree kind = tree_numbered s.base (form_by (forms nodes) (flags_of (node_at nodes s.node)) kind)

  row_by : (kind : NodeKind) → (node_at nodes s.node).kind ≡ kind → (next behind : List ℕ) (ends last : ℕ)
      → behind ≡ behind_turn (flags_of (node_at nodes s.node)) (firsts (kind_tree kind)) next
      → has_output last ≡ marked_turn (flags_of (node_at nodes s.node)) (empties (kind_tree kind)) (has_output ends)
      → RowStep nodes (leaves (form_by (forms nodes) (flags_of (node_at nodes s.node)) kind)) (leaf_rows (kind_tree kind) next (has_output ends))
      (size (form_by (forms nodes) (flags_of (node_at nodes s.node)) kind)) (kind_rows kind behind last) (kind_duties nodes summaries s kind behind last)
  row_by (Leaf x) e next behind ends last hb hl = record {
    symbols = refl;
    follow = ap (λ b. b ∷ []) hb;
    marked = ap (λ (m : ℕ → Bool). m ∷ []) hl;
    less = omega arith;
    duties = tt;
  }
  row_by (Seq l r) e next behind ends last hb hl =
      let p : Parts nodes summaries s l r = seq_parts nodes summaries order sums s is l r e in
      let L : FlaggedTree = numbered_tree nodes (left_subtree s l) in
      let R : FlaggedTree = tree_numbered (s.base + length (leaves (form_at (forms nodes) l))) (form_at (forms nodes) r) in
      let whole : waiting_rows nodes (kind_duties nodes summaries s (Seq l r) behind last) ≡ leaf_rows (kind_tree (Seq l r)) next (has_output ends) =
      seq_waiting l r p behind last ∙ ap (λ b. seq_rows L R b (has_output last)) hb
      ∙ ap (λ (m : ℕ → Bool). seq_rows L R (behind_turn (flags_of (node_at nodes s.node)) (firsts (kind_tree (Seq l r))) next) m) hl in
      record {
        symbols = refl;
        follow = ap follow_sets whole;
        marked = ap shown whole;
        less = omega arith;
        duties = (p.right, (p.left, tt));
      }
  row_by (Alt l r) e next behind ends last hb hl =
      let p : Parts nodes summaries s l r = alt_parts nodes summaries order sums s is l r e in
      let L : FlaggedTree = numbered_tree nodes (left_subtree s l) in
      let R : FlaggedTree = tree_numbered (s.base + length (leaves (form_at (forms nodes) l))) (form_at (forms nodes) r) in
      let whole : waiting_rows nodes (kind_duties nodes summaries s (Alt l r) behind last) ≡ leaf_rows (kind_tree (Alt l r)) next (has_output ends) =
      alt_waiting l r p behind last ∙ ap (λ b. leaf_rows L b (has_output last) ++ leaf_rows R b (has_output last)) hb
      ∙ ap (λ (m : ℕ → Bool). leaf_rows L (behind_turn (flags_of (node_at nodes s.node)) (firsts (kind_tree (Alt l r))) next) m
      ++ leaf_rows R (behind_turn (flags_of (node_at nodes s.node)) (firsts (kind_tree (Alt l r))) next) m) hl in
      record {
        symbols = refl;
        follow = ap follow_sets whole;
        marked = ap shown whole;
        less = omega arith;
        duties = (p.right, (p.left, tt));
      }

module _ (nodes : List Node) (summaries : List Summary) (order : AreOrdered nodes) (sums : AreSummaries nodes summaries) (d : Duty) (is : IsSubtree nodes d.subtree) where
  abbrev pub duty_tree : FlaggedTree
  duty_tree = numbered_tree nodes d.subtree

  pub row_step : RowStep nodes (leaves (form_at (forms nodes) d.subtree.node)) (leaf_rows duty_tree d.next (has_output d.ends)) (subtree_weight nodes d.subtree)
      (duty_rows nodes summaries d) (duty_duties nodes summaries d)
  row_step =
      let n : Node = node_at nodes d.subtree.node in
      let form = node_form nodes order d.subtree.node is.node in
      let same : duty_tree ≡ tree_numbered d.subtree.base (form_by (forms nodes) (flags_of n) n.kind) = ap (tree_numbered d.subtree.base) form in
      let step = row_by nodes summaries order sums d.subtree is n.kind refl d.next (duty_behind nodes d) d.ends (duty_ends nodes summaries d)
      (ap (λ t. behind_turn (flags_of n) (firsts t) d.next) same)
      (turn_bits nodes summaries order sums d.subtree is d.ends ∙ ap (λ t. marked_turn (flags_of n) (empties t) (has_output d.ends)) same) in
      record {
        symbols = step.symbols ∙ ap leaves (sym form);
        follow = step.follow ∙ ap (λ t. follow_sets (leaf_rows t d.next (has_output d.ends))) (sym same);
        marked = step.marked ∙ ap (λ t. shown (leaf_rows t d.next (has_output d.ends))) (sym same);
        less = subst (λ w. duties_weight nodes (duty_duties nodes summaries d) < w) (ap size (sym form)) step.less;
        duties = step.duties;
      }

  pub row_less : (rest : List Duty) → duties_weight nodes (rest ++ duty_duties nodes summaries d) < duties_weight nodes (rest ++ d ∷ [])
  row_less rest = let l = row_step.less in omega (arith, duties_weight_append nodes rest (duty_duties nodes summaries d), duties_weight_append nodes rest (d ∷ []), l)

  pub put_symbols : (done : List ℕ) (rest : List Duty) → (done ++ (duty_rows nodes summaries d).symbols) ++ waiting_symbols nodes (rest ++ duty_duties nodes summaries d)
      ≡ done ++ waiting_symbols nodes (rest ++ d ∷ [])
  put_symbols done rest =
      let put : List ℕ = (duty_rows nodes summaries d).symbols in
      let next : List Duty = duty_duties nodes summaries d in
      rw (symbols_append nodes rest next, symbols_append nodes rest (d ∷ []))
      (append_assoc done put (waiting_symbols nodes next ++ waiting_symbols nodes rest)
      ∙ ap (λ l. done ++ l) (sym (append_assoc put (waiting_symbols nodes next) (waiting_symbols nodes rest)) ∙ ap (λ l. l ++ waiting_symbols nodes rest) row_step.symbols))

  abbrev waits : (A : Type 0) → (LeafRow → A) → List Duty → List A
  waits A g ds = map g (waiting_rows nodes ds)

  waits_append : (A : Type 0) (g : LeafRow → A) (a b : List Duty) → waits A g (a ++ b) ≡ waits A g b ++ waits A g a
  waits_append A g a b = ap (map g) (rows_append nodes a b) ∙ map-append g (waiting_rows nodes b) (waiting_rows nodes a)

  put_rows : (A : Type 0) (g : LeafRow → A) (put : List A) (done : List A) (rest : List Duty)
      → put ++ waits A g (duty_duties nodes summaries d) ≡ map g (leaf_rows duty_tree d.next (has_output d.ends))
      → (done ++ put) ++ waits A g (rest ++ duty_duties nodes summaries d) ≡ done ++ waits A g (rest ++ d ∷ [])
  put_rows A g put done rest e =
      let next : List Duty = duty_duties nodes summaries d in
      ap (λ l. (done ++ put) ++ l) (waits_append A g rest next)
      ∙ append_assoc done put (waits A g next ++ waits A g rest)
      ∙ ap (λ l. done ++ l) (sym (append_assoc put (waits A g next) (waits A g rest)) ∙ ap (λ l. l ++ waits A g rest) e ∙ sym (waits_append A g rest (d ∷ [])))

  pub put_follow : (done : List (List ℕ)) (rest : List Duty)
      → (done ++ (duty_rows nodes summaries d).follow) ++ follow_sets (waiting_rows nodes (rest ++ duty_duties nodes summaries d))
      ≡ done ++ follow_sets (waiting_rows nodes (rest ++ d ∷ []))
  put_follow done rest = put_rows (List ℕ) (λ row. row.follow) (duty_rows nodes summaries d).follow done rest row_step.follow

  pub put_marked : (done : List ℕ) (rest : List Duty)
      → map has_output (done ++ (duty_rows nodes summaries d).marked) ++ shown (waiting_rows nodes (rest ++ duty_duties nodes summaries d))
      ≡ map has_output done ++ shown (waiting_rows nodes (rest ++ d ∷ []))
  put_marked done rest =
      ap (λ l. l ++ shown (waiting_rows nodes (rest ++ duty_duties nodes summaries d))) (map-append has_output done (duty_rows nodes summaries d).marked)
      ∙ put_rows (ℕ → Bool) (λ row. row.marks) (map has_output (duty_rows nodes summaries d).marked) (map has_output done) rest row_step.marked

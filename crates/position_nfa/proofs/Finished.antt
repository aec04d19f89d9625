-- The tables of a finished automaton: they are an automaton, and where the tree is that of a specification, its automaton.
use Rattle.std.proofs.Common.{◌≡◌, ◌∙◌, ◌⊎◌, ◌↔◌, ℕ, zero, suc, ◌+◌, ◌<◌, ◌≤◌, Bool, true, false, ◌||◌, if◌then◌else◌, List, [], ◌∷◌, ◌++◌, length, map, get_or, Option, Some, None, refl, sym, ap, subst, inl, inr, arith}
use Rattle.std.proofs.lemmas.List.{length-map}
use Rattle.std.specs.Prelude.{All, Contains, slice_index_or, ⊤}
use Rattle.rx_lang.specs.Copies.{IsItself}
use Rattle.rx_lang.specs.Specification.{Specification}
use Rattle.rx_lang.specs.Positions.{State, start, scan_start, after, BeginsWith, EndsWith, HasPair, IsSpelled, IsMarked, expr_letters, scan_letters, occurrence_symbols, IsStateOf, LeadsTo, ShowsMark}
use Rattle.star_normal.specs.declared.node.Node.{Node}
use Rattle.star_normal.specs.declared.node.NodeKind.{NodeKind}
use Rattle.star_normal.specs.declared.node.NodeKind.TheVariants.{Leaf, Seq, Alt}
use Rattle.star_normal.specs.Trees.{Flags, FlaggedTree, leaf, seq, alt, flags, leaves}
use Rattle.star_normal.specs.Shapes.{IsExact, HasOneScan, tree_numbered, rest_part, scan_part}
use Rattle.star_normal.specs.Sizes.{size_at}
use Rattle.star_normal.specs.Tables.{flags_of, form_at, form_by, forms}
use Rattle.position_nfa.specs.declared.summaries.Summary.{Summary}
use Rattle.position_nfa.specs.declared.firsts.Subtree.{Subtree}
use Rattle.position_nfa.specs.Automaton.{Automaton, IsAutomaton, AreBelow, next_of, mask_of, has_output}
use Rattle.position_nfa.specs.Agreement.{IsAutomatonOf, IsTreeOf}
use Rattle.position_nfa.specs.LeafRows.{LeafRow, firsts, empties, leaf_rows, tree_rows}
use Rattle.position_nfa.specs.Summaries.{AreSummaries, node_at, summary_at}
use Rattle.position_nfa.specs.Waiting.{AreOrdered, IsSubtree, numbered_tree, left_subtree, right_subtree}
use Rattle.position_nfa.specs.TreeParts.{kind_rest, kind_scan, rest_of, scan_of, IsPart, part_tree, part_firsts, part_mask}
use Rattle.position_nfa.proofs.Lists.{In, in_at, in_of, of_in, in_right, Distinct, pairs_differ}
use Rattle.position_nfa.proofs.FirstLetters.{Spelled, word_letters, begins_leaf, pair_leaf}
use Rattle.position_nfa.proofs.Followed.{Tells, rows_tell}
use Rattle.position_nfa.proofs.MarkedRows.{Marked, Says, Shows, rows_show, empties_say}
use Rattle.position_nfa.proofs.OwnParts.{LoopsAreOwn}
use Rattle.position_nfa.proofs.Unrepeated.{rows_distinct}
use Rattle.position_nfa.proofs.NodeForms.{node_form, form_flags, flags_numbered, empties_numbered}
use Rattle.position_nfa.proofs.FirstSteps.{Parts, whole_form, alt_parts, right_tree}
use Rattle.position_nfa.proofs.RowSteps.{follow_sets, shown}
use Rattle.position_nfa.proofs.Masks.{none_has}
use Rattle.position_nfa.proofs.Numbers.{length_numbered, in_numbers, numbers_distinct, number_at, exact_numbered, loops_numbered, row_positions, get_map}
use Rattle.position_nfa.proofs.WholeTrees.{PartSpelled, PartMarked, OfPart, IsSplit, numbered_split, part_spelled, spelled_part, part_marked, marked_part, firsts_part, part_begins, part_distinct}

-- ---- parts of a table's tree

module _ (nodes : List Node) (root : Subtree) where
  one_rest : (b : Bool) (t : FlaggedTree) → numbered_tree nodes root ≡ t → part_tree nodes (if b then None else Some root) ≡ (if b then None else Some t)
  one_rest true t e = refl
  one_rest false t e = ap (λ x. Some x) e

  one_scan : (b : Bool) (t : FlaggedTree) → numbered_tree nodes root ≡ t → part_tree nodes (if b then Some root else None) ≡ (if b then Some t else None)
  one_scan true t e = ap (λ x. Some x) e
  one_scan false t e = refl

  two_rest : (b c d : Bool) (t l : FlaggedTree) (L : Subtree) → c ≡ d → numbered_tree nodes root ≡ t → numbered_tree nodes L ≡ l
      → part_tree nodes (if b then None else Some (if c then L else root)) ≡ (if b then None else if d then Some l else Some t)
  two_rest true c d t l L e et el = refl
  two_rest false true true t l L e et el = ap (λ x. Some x) el
  two_rest false true false t l L e et el = cc
  two_rest false false true t l L e et el = cc
  two_rest false false false t l L e et el = ap (λ x. Some x) et

  two_scan : (b c d : Bool) (t r : FlaggedTree) (R : Subtree) → c ≡ d → numbered_tree nodes root ≡ t → numbered_tree nodes R ≡ r
      → part_tree nodes (if b then Some root else if c then Some R else None) ≡ (if b then Some t else if d then Some r else None)
  two_scan true c d t r R e et er = ap (λ x. Some x) et
  two_scan false true true t r R e et er = ap (λ x. Some x) er
  two_scan false true false t r R e et er = cc
  two_scan false false true t r R e et er = cc
  two_scan false false false t r R e et er = refl

  is_rest : (b c : Bool) (L : Subtree) → IsSubtree nodes root → IsSubtree nodes L → IsPart nodes (if b then None else Some (if c then L else root))
  is_rest true c L a l = tt
  is_rest false true L a l = l
  is_rest false false L a l = a

  is_scan : (b c : Bool) (R : Subtree) → IsSubtree nodes root → IsSubtree nodes R → IsPart nodes (if b then Some root else if c then Some R else None)
  is_scan true c R a r = a
  is_scan false true R a r = r
  is_scan false false R a r = tt

module _ (nodes : List Node) (summaries : List Summary) (order : AreOrdered nodes) (sums : AreSummaries nodes summaries) (root : Subtree) (is : IsSubtree nodes root) where
  abbrev n : Node
  n = node_at nodes root.node

  abbrev kind_tree : NodeKind → FlaggedTree
  kind_tree kind = tree_numbered root.base (form_by (forms nodes) (flags_of n) kind)

  form_kind : (kind : NodeKind) → n.kind ≡ kind → numbered_tree nodes root ≡ kind_tree kind
  form_kind kind e = whole_form nodes summaries order sums root is ∙ ap kind_tree e

  scan_flag : (l r : ℕ) → Parts nodes summaries root l r
      → (node_at nodes r).scan ≡ (flags (tree_numbered (root.base + length (leaves (form_at (forms nodes) l))) (form_at (forms nodes) r))).scan
  scan_flag l r p = sym (ap (λ f. f.scan) (flags_numbered (root.base + length (leaves (form_at (forms nodes) l))) (form_at (forms nodes) r) ∙ form_flags nodes order r p.right_below))

  rest_by : (kind : NodeKind) → n.kind ≡ kind → part_tree nodes (if n.scan then None else kind_rest nodes root kind) ≡ rest_part (kind_tree kind)
  rest_by (Leaf s) e = one_rest nodes root n.scan (kind_tree (Leaf s)) (form_kind (Leaf s) e)
  rest_by (Seq l r) e = one_rest nodes root n.scan (kind_tree (Seq l r)) (form_kind (Seq l r) e)
  rest_by (Alt l r) e =
      let p = alt_parts nodes summaries order sums root is l r e in
      two_rest nodes root n.scan (node_at nodes r).scan (flags (tree_numbered (root.base + length (leaves (form_at (forms nodes) l))) (form_at (forms nodes) r))).scan
      (kind_tree (Alt l r)) (numbered_tree nodes (left_subtree root l)) (left_subtree root l) (scan_flag l r p) (form_kind (Alt l r) e) refl

  scan_by : (kind : NodeKind) → n.kind ≡ kind → part_tree nodes (if n.scan then Some root else kind_scan nodes summaries root kind) ≡ scan_part (kind_tree kind)
  scan_by (Leaf s) e = one_scan nodes root n.scan (kind_tree (Leaf s)) (form_kind (Leaf s) e)
  scan_by (Seq l r) e = one_scan nodes root n.scan (kind_tree (Seq l r)) (form_kind (Seq l r) e)
  scan_by (Alt l r) e =
      let p = alt_parts nodes summaries order sums root is l r e in
      two_scan nodes root n.scan (node_at nodes r).scan (flags (tree_numbered (root.base + length (leaves (form_at (forms nodes) l))) (form_at (forms nodes) r))).scan
      (kind_tree (Alt l r)) (tree_numbered (root.base + length (leaves (form_at (forms nodes) l))) (form_at (forms nodes) r)) (right_subtree summaries root l r)
      (scan_flag l r p) (form_kind (Alt l r) e) (right_tree nodes summaries order sums root is l r p.behind)

  pub rest_tree : part_tree nodes (rest_of nodes root) ≡ rest_part (numbered_tree nodes root)
  rest_tree = rest_by n.kind refl ∙ ap rest_part (sym (form_kind n.kind refl))

  pub scan_tree : part_tree nodes (scan_of nodes summaries root) ≡ scan_part (numbered_tree nodes root)
  scan_tree = scan_by n.kind refl ∙ ap scan_part (sym (form_kind n.kind refl))

  rest_is_by : (kind : NodeKind) → n.kind ≡ kind → IsPart nodes (if n.scan then None else kind_rest nodes root kind)
  rest_is_by (Leaf s) e = is_rest nodes root n.scan false root is is
  rest_is_by (Seq l r) e = is_rest nodes root n.scan false root is is
  rest_is_by (Alt l r) e =
      is_rest nodes root n.scan (node_at nodes r).scan (left_subtree root l) is (alt_parts nodes summaries order sums root is l r e).left

  scan_is_by : (kind : NodeKind) → n.kind ≡ kind → IsPart nodes (if n.scan then Some root else kind_scan nodes summaries root kind)
  scan_is_by (Leaf s) e = is_scan nodes root n.scan false root is is
  scan_is_by (Seq l r) e = is_scan nodes root n.scan false root is is
  scan_is_by (Alt l r) e =
      is_scan nodes root n.scan (node_at nodes r).scan (right_subtree summaries root l r) is (alt_parts nodes summaries order sums root is l r e).right

  pub rest_is : IsPart nodes (rest_of nodes root)
  rest_is = rest_is_by n.kind refl

  pub scan_is : IsPart nodes (scan_of nodes summaries root)
  scan_is = scan_is_by n.kind refl

  mask_says : (part : Option Subtree) → IsPart nodes part → OfPart (IsExact IsItself) (part_tree nodes part) → (y : ℕ)
      → Says (has_output (part_mask summaries part) y) (PartMarked (part_tree nodes part) y [])
  mask_says None h e y = ((λ k. let z = none_has y in cc), λ m. absurd m)
  mask_says (Some s) h e y =
      let same : has_output (summary_at summaries s.node).empties y ≡ empties (numbered_tree nodes s) y =
      sums.empties s.node y h.node ∙ sym (empties_numbered (form_at (forms nodes) s.node) s.base y) in
      let says = empties_say (numbered_tree nodes s) e y in
      ((λ k. says.0 (sym same ∙ k)), λ m. same ∙ says.1 m)

  pub rest_mask : OfPart (IsExact IsItself) (rest_part (numbered_tree nodes root)) → (y : ℕ)
      → Says (has_output (part_mask summaries (rest_of nodes root)) y) (PartMarked (rest_part (numbered_tree nodes root)) y [])
  rest_mask e y =
      subst (λ part. Says (has_output (part_mask summaries (rest_of nodes root)) y) (PartMarked part y [])) rest_tree
      (mask_says (rest_of nodes root) rest_is (subst (OfPart (IsExact IsItself)) (sym rest_tree) e) y)

  pub scan_mask : OfPart (IsExact IsItself) (scan_part (numbered_tree nodes root)) → (y : ℕ)
      → Says (has_output (part_mask summaries (scan_of nodes summaries root)) y) (PartMarked (scan_part (numbered_tree nodes root)) y [])
  scan_mask e y =
      subst (λ part. Says (has_output (part_mask summaries (scan_of nodes summaries root)) y) (PartMarked part y [])) scan_tree
      (mask_says (scan_of nodes summaries root) scan_is (subst (OfPart (IsExact IsItself)) (sym scan_tree) e) y)

-- ---- the finished tables

-- what is known of the tables, from the tree that its nodes stand for
pub record IsFinished (whole : FlaggedTree) (rest_mask scan_mask : ℕ) (nfa : Automaton) : Type 0 where
  pub some : 1 ≤ length (leaves whole)
  pub few : length (leaves whole) ≤ 4096
  pub exact : IsExact IsItself whole
  pub loops : LoopsAreOwn whole
  pub one_scan : HasOneScan whole
  pub rest : (y : ℕ) → OfPart (IsExact IsItself) (rest_part (tree_numbered 0 whole)) → Says (has_output rest_mask y) (PartMarked (rest_part (tree_numbered 0 whole)) y [])
  pub scan : (y : ℕ) → OfPart (IsExact IsItself) (scan_part (tree_numbered 0 whole)) → Says (has_output scan_mask y) (PartMarked (scan_part (tree_numbered 0 whole)) y [])
  pub symbols : nfa.symbols ≡ leaves whole
  pub first : nfa.first ≡ part_firsts (rest_part (tree_numbered 0 whole))
  pub scan_first : nfa.scan_first ≡ part_firsts (scan_part (tree_numbered 0 whole))
  pub follow : nfa.follow ≡ follow_sets (tree_rows (tree_numbered 0 whole))
  pub marked : map has_output nfa.marked ≡ has_output rest_mask ∷ shown (tree_rows (tree_numbered 0 whole))
  pub scan_marked : nfa.scan_marked ≡ scan_mask

get_or_any : {A : Type 0} (xs : List A) (i : ℕ) (d e : A) → i < length xs → get_or xs i d ≡ get_or xs i e
get_or_any [] i d e h = absurd (omega arith)
get_or_any (x ∷ xs) zero d e h = refl
get_or_any (x ∷ xs) (suc i) d e h = get_or_any xs i d e (omega arith)

all_in : (P : ℕ → Type 0) (xs : List ℕ) → ((x : ℕ) → In xs x → P x) → All P xs
all_in P xs h k d lt = h (get_or xs k d) (in_at xs k d (get_or xs k d) lt refl)

module _ (whole : FlaggedTree) (rest_mask scan_mask : ℕ) (nfa : Automaton) (done : IsFinished whole rest_mask scan_mask nfa) where
  abbrev t : FlaggedTree
  t = tree_numbered 0 whole

  exact : IsExact IsItself t
  exact = exact_numbered whole 0 done.exact

  split : IsSplit t (rest_part t) (scan_part t)
  split = numbered_split whole 0 done.one_scan

  once : Distinct (leaves t)
  once = numbers_distinct whole 0

  size : length nfa.symbols ≡ length (leaves whole)
  size = ap length done.symbols

  leaf_below : (x : ℕ) → In (leaves t) x → x < length nfa.symbols
  leaf_below x h = let b = in_numbers whole 0 x h in let s = size in omega (arith, b.1, s)

  -- ---- the row of a position

  rows_size : length (tree_rows t) ≡ length (leaves whole)
  rows_size = sym (length-map (tree_rows t) (λ row. row.position)) ∙ ap length (row_positions t [] (λ y. false)) ∙ length_numbered whole 0

  abbrev none_row : LeafRow
  none_row = record { position = 0; follow = []; marks = λ y. false }

  abbrev row_at : ℕ → LeafRow
  row_at p = get_or (tree_rows t) p none_row

  row_within : (p : ℕ) → p < length nfa.symbols → p < length (tree_rows t)
  row_within p h = let s = size in let r = rows_size in omega arith

  in_rows : (p : ℕ) → p < length nfa.symbols → In (tree_rows t) (row_at p)
  in_rows p h = in_at (tree_rows t) p none_row (row_at p) (row_within p h) refl

  row_position : (p : ℕ) → p < length nfa.symbols → (row_at p).position ≡ p
  row_position p h =
      sym (get_map (λ row. row.position) (tree_rows t) p none_row 0 (row_within p h))
      ∙ ap (λ xs. get_or xs p 0) (row_positions t [] (λ y. false))
      ∙ number_at whole 0 p 0 (let s = size in omega arith)
      ∙ (let e : 0 + p ≡ p = omega arith in e)

  row_follow : (p : ℕ) → p < length nfa.symbols → next_of nfa (after p) ≡ (row_at p).follow
  row_follow p h = ap (λ xs. get_or xs p []) done.follow ∙ get_map (λ row. row.follow) (tree_rows t) p none_row [] (row_within p h)

  marked_size : length nfa.marked ≡ length nfa.symbols + 1
  marked_size =
      let a : length nfa.marked ≡ length (map has_output nfa.marked) = sym (length-map nfa.marked has_output) in
      let b : length (map has_output nfa.marked) ≡ suc (length (shown (tree_rows t))) = ap length done.marked in
      let c : length (shown (tree_rows t)) ≡ length (tree_rows t) = length-map (tree_rows t) (λ row. row.marks) in
      let s = size in let r = rows_size in omega arith

  mask_is : (k : ℕ) → k < length nfa.marked → has_output (get_or nfa.marked k 0) ≡ get_or (map has_output nfa.marked) k (λ y. false)
  mask_is k h = sym (get_map has_output nfa.marked k 0 (λ y. false) h)

  row_mask : (p : ℕ) → p < length nfa.symbols → has_output (mask_of nfa (after p)) ≡ (row_at p).marks
  row_mask p h =
      mask_is (p + 1) (let m = marked_size in omega arith)
      ∙ ap (λ xs. get_or xs (p + 1) (λ y. false)) done.marked
      ∙ ap (λ i. get_or (has_output rest_mask ∷ shown (tree_rows t)) i (λ y. false)) (let e : p + 1 ≡ suc p = omega arith in e)
      ∙ get_map (λ row. row.marks) (tree_rows t) p none_row (λ y. false) (row_within p h)

  tells : (p : ℕ) → p < length nfa.symbols → Tells (Spelled t) [] (row_at p)
  tells p h = rows_tell t exact once [] (λ y. false) (row_at p) (in_rows p h)

  shows : (p y : ℕ) → p < length nfa.symbols → Shows (Spelled t) (Marked t y) false (row_at p).position ((row_at p).marks y)
  shows p y h = rows_show t exact once [] (λ y. false) (row_at p) y (in_rows p h)

  no_next : (p q : ℕ) → HasPair (Spelled t) p q ⊎ (EndsWith (Spelled t) p × In [] q) → HasPair (Spelled t) p q
  no_next p q (inl h) = h
  no_next p q (inr h) = absurd h.1

  follow_to : (p q : ℕ) → p < length nfa.symbols → In (next_of nfa (after p)) q → HasPair (Spelled t) p q
  follow_to p q h i =
      subst (λ x. HasPair (Spelled t) x q) (row_position p h) (no_next (row_at p).position q ((tells p h).to q (subst (λ xs. In xs q) (row_follow p h) i)))

  follow_from : (p q : ℕ) → p < length nfa.symbols → HasPair (Spelled t) p q → In (next_of nfa (after p)) q
  follow_from p q h k =
      subst (λ xs. In xs q) (sym (row_follow p h)) ((tells p h).from q (inl (subst (λ x. HasPair (Spelled t) x q) (sym (row_position p h)) k)))

  no_end : (p y : ℕ) → EndsWith (Marked t y) p ⊎ (EndsWith (Spelled t) p × (false ≡ true)) → EndsWith (Marked t y) p
  no_end p y (inl h) = h
  no_end p y (inr h) = let e = h.1 in cc

  mark_to : (p y : ℕ) → p < length nfa.symbols → has_output (mask_of nfa (after p)) y ≡ true → EndsWith (Marked t y) p
  mark_to p y h e = subst (EndsWith (Marked t y)) (row_position p h) (no_end (row_at p).position y ((shows p y h).to (sym (ap (λ (m : ℕ → Bool). m y) (row_mask p h)) ∙ e)))

  mark_from : (p y : ℕ) → p < length nfa.symbols → EndsWith (Marked t y) p → has_output (mask_of nfa (after p)) y ≡ true
  mark_from p y h k = ap (λ (m : ℕ → Bool). m y) (row_mask p h) ∙ (shows p y h).from (inl (subst (EndsWith (Marked t y)) (sym (row_position p h)) k))

  -- ---- an automaton

  pair_leaves : (p q : ℕ) → HasPair (Spelled t) p q → In (leaves t) q
  pair_leaves p q h = word_letters t (h.0 ++ p ∷ q ∷ h.1) q h.2 (in_right h.0 (p ∷ q ∷ h.1) q (inr (inl refl)))

  pub start_begins : (q : ℕ) → In nfa.first q → BeginsWith (PartSpelled (rest_part t)) q
  start_begins q i = firsts_part (rest_part t) (split.rest_exact exact) q (subst (λ xs. In xs q) done.first i)

  pub begins_start : (q : ℕ) → BeginsWith (PartSpelled (rest_part t)) q → In nfa.first q
  begins_start q b = subst (λ xs. In xs q) (sym done.first) (part_begins (rest_part t) (split.rest_exact exact) q b)

  pub scan_begins : (q : ℕ) → In nfa.scan_first q → BeginsWith (PartSpelled (scan_part t)) q
  scan_begins q i = firsts_part (scan_part t) (split.scan_exact exact) q (subst (λ xs. In xs q) done.scan_first i)

  pub begins_scan : (q : ℕ) → BeginsWith (PartSpelled (scan_part t)) q → In nfa.scan_first q
  begins_scan q b = subst (λ xs. In xs q) (sym done.scan_first) (part_begins (scan_part t) (split.scan_exact exact) q b)

  first_below : (q : ℕ) → In nfa.first q → q < length nfa.symbols
  first_below q i = let b = start_begins q i in leaf_below q (split.rest_letters (q ∷ b.0) q b.1 (inl refl))

  scan_below : (q : ℕ) → In nfa.scan_first q → q < length nfa.symbols
  scan_below q i = let b = scan_begins q i in leaf_below q (split.scan_letters (q ∷ b.0) q b.1 (inl refl))

  follow_size : length nfa.follow ≡ length nfa.symbols
  follow_size = let a : length nfa.follow ≡ length (follow_sets (tree_rows t)) = ap length done.follow in
      let b : length (follow_sets (tree_rows t)) ≡ length (tree_rows t) = length-map (tree_rows t) (λ row. row.follow) in
      let s = size in let r = rows_size in omega arith

  all_follow : All (AreBelow (length nfa.symbols)) nfa.follow
  all_follow p d h =
      let lt : p < length nfa.symbols = let s = follow_size in omega arith in
      subst (AreBelow (length nfa.symbols)) (get_or_any nfa.follow p [] d h)
      (all_in (λ q. q < length nfa.symbols) (next_of nfa (after p)) (λ q i. leaf_below q (pair_leaves p q (follow_to p q lt i))))

  pub finished : IsAutomaton nfa
  finished = record {
    some = let s = size in let a = done.some in omega arith;
    few = let s = size in let a = done.few in omega arith;
    follow_sized = follow_size;
    marked_sized = marked_size;
    first = all_in (λ q. q < length nfa.symbols) nfa.first first_below;
    scan_first = all_in (λ q. q < length nfa.symbols) nfa.scan_first scan_below;
    follow = all_follow;
  }

  -- ---- the automaton of a specification

  module _ (spec : Specification) (of : IsTreeOf spec whole) where
    within : (p : ℕ) → p < length (occurrence_symbols spec) → p < length nfa.symbols
    within p h = let e = ap length (done.symbols ∙ of.leaves) in omega arith

    start_to : (q : ℕ) → In nfa.first q → LeadsTo spec start q
    start_to q i = let b = start_begins q i in (b.0, part_spelled (expr_letters spec) (rest_part t) of.letters (q ∷ b.0) b.1)

    start_from : (q : ℕ) → LeadsTo spec start q → In nfa.first q
    start_from q b = begins_start q (b.0, spelled_part (expr_letters spec) (rest_part t) of.letters (q ∷ b.0) b.1)

    scan_to : (q : ℕ) → In nfa.scan_first q → LeadsTo spec scan_start q
    scan_to q i = let b = scan_begins q i in (b.0, part_spelled (scan_letters spec) (scan_part t) of.scan_letters (q ∷ b.0) b.1)

    scan_from : (q : ℕ) → LeadsTo spec scan_start q → In nfa.scan_first q
    scan_from q b = begins_scan q (b.0, spelled_part (scan_letters spec) (scan_part t) of.scan_letters (q ∷ b.0) b.1)

    pair_spec : (p q : ℕ) → HasPair (PartSpelled (rest_part t)) p q ⊎ HasPair (PartSpelled (scan_part t)) p q → LeadsTo spec (after p) q
    pair_spec p q (inl h) = inl (h.0, h.1, part_spelled (expr_letters spec) (rest_part t) of.letters (h.0 ++ p ∷ q ∷ h.1) h.2)
    pair_spec p q (inr h) = inr (h.0, h.1, part_spelled (scan_letters spec) (scan_part t) of.scan_letters (h.0 ++ p ∷ q ∷ h.1) h.2)

    spec_pair : (p q : ℕ) → LeadsTo spec (after p) q → HasPair (PartSpelled (rest_part t)) p q ⊎ HasPair (PartSpelled (scan_part t)) p q
    spec_pair p q (inl h) = inl (h.0, h.1, spelled_part (expr_letters spec) (rest_part t) of.letters (h.0 ++ p ∷ q ∷ h.1) h.2)
    spec_pair p q (inr h) = inr (h.0, h.1, spelled_part (scan_letters spec) (scan_part t) of.scan_letters (h.0 ++ p ∷ q ∷ h.1) h.2)

    end_spec : (p y : ℕ) → EndsWith (PartMarked (rest_part t) y) p ⊎ EndsWith (PartMarked (scan_part t) y) p → ShowsMark spec (after p) y
    end_spec p y (inl h) = inl (h.0, part_marked (expr_letters spec) (rest_part t) of.letters y (h.0 ++ p ∷ []) h.1)
    end_spec p y (inr h) = inr (h.0, part_marked (scan_letters spec) (scan_part t) of.scan_letters y (h.0 ++ p ∷ []) h.1)

    spec_end : (p y : ℕ) → ShowsMark spec (after p) y → EndsWith (PartMarked (rest_part t) y) p ⊎ EndsWith (PartMarked (scan_part t) y) p
    spec_end p y (inl h) = inl (h.0, marked_part (expr_letters spec) (rest_part t) of.letters y (h.0 ++ p ∷ []) h.1)
    spec_end p y (inr h) = inr (h.0, marked_part (scan_letters spec) (scan_part t) of.scan_letters y (h.0 ++ p ∷ []) h.1)

    leads_to : (state : State) (q : ℕ) → IsStateOf spec state → In (next_of nfa state) q → LeadsTo spec state q
    leads_to start q is i = start_to q i
    leads_to scan_start q is i = scan_to q i
    leads_to (after p) q is i = pair_spec p q (split.pair_to p q (follow_to p q (within p is) i))

    leads_from : (state : State) (q : ℕ) → IsStateOf spec state → LeadsTo spec state q → In (next_of nfa state) q
    leads_from start q is h = start_from q h
    leads_from scan_start q is h = scan_from q h
    leads_from (after p) q is h = follow_from p q (within p is) (split.pair_from p q (spec_pair p q h))

    never_twice : (state : State) → IsStateOf spec state → Distinct (next_of nfa state)
    never_twice start is = subst Distinct (sym done.first) (part_distinct (rest_part t) (split.rest_exact exact) (split.rest_once once))
    never_twice scan_start is = subst Distinct (sym done.scan_first) (part_distinct (scan_part t) (split.scan_exact exact) (split.scan_once once))
    never_twice (after p) is = subst Distinct (sym (row_follow p (within p is)))
        (rows_distinct t exact (loops_numbered whole 0 done.loops) once [] (λ y. false) tt (inl (λ q i j. i)) (row_at p) (in_rows p (within p is)))

    start_mask : (y : ℕ) → has_output (mask_of nfa start) y ≡ has_output rest_mask y
    start_mask y =
        ap (λ (m : ℕ → Bool). m y) (mask_is 0 (let m = marked_size in omega arith))
        ∙ ap (λ (xs : List (ℕ → Bool)). get_or {A = ℕ → Bool} xs 0 (λ z. false) y) done.marked

    shows_to : (state : State) (y : ℕ) → IsStateOf spec state → has_output (mask_of nfa state) y ≡ true → ShowsMark spec state y
    shows_to start y is e = part_marked (expr_letters spec) (rest_part t) of.letters y [] ((done.rest y (split.rest_exact exact)).0 (sym (start_mask y) ∙ e))
    shows_to scan_start y is e = part_marked (scan_letters spec) (scan_part t) of.scan_letters y []
        ((done.scan y (split.scan_exact exact)).0 (ap (λ m. has_output m y) (sym done.scan_marked) ∙ e))
    shows_to (after p) y is e = end_spec p y (split.end_to y p (mark_to p y (within p is) e))

    shows_from : (state : State) (y : ℕ) → IsStateOf spec state → ShowsMark spec state y → has_output (mask_of nfa state) y ≡ true
    shows_from start y is h = start_mask y ∙ (done.rest y (split.rest_exact exact)).1 (marked_part (expr_letters spec) (rest_part t) of.letters y [] h)
    shows_from scan_start y is h = ap (λ m. has_output m y) done.scan_marked
        ∙ (done.scan y (split.scan_exact exact)).1 (marked_part (scan_letters spec) (scan_part t) of.scan_letters y [] h)
    shows_from (after p) y is h = mark_from p y (within p is) (split.end_from y p (spec_end p y h))

    pub automaton_of : IsAutomatonOf spec nfa
    automaton_of = record {
      symbols = done.symbols ∙ of.leaves;
      leads = λ state q is. (λ c. leads_to state q is (in_of (next_of nfa state) q c), λ h. of_in (next_of nfa state) q (leads_from state q is h));
      once = λ state is. pairs_differ (next_of nfa state) (never_twice state is);
      shows = λ state y is. (shows_to state y is, shows_from state y is);
    }

-- From the table of a tree to the finished tables of its automaton.
use Rattle.std.proofs.Common.{◌≡◌, ◌∙◌, ℕ, ◌+◌, ◌<◌, ◌≤◌, Bool, List, [], ◌∷◌, ◌++◌, length, map, count_by, refl, sym, ap, subst, arith}
use Rattle.rx_lang.specs.Copies.{IsItself}
use Rattle.star_normal.specs.declared.node.Node.{Node}
use Rattle.star_normal.specs.Trees.{FlaggedTree, leaves}
use Rattle.star_normal.specs.Shapes.{IsExact, tree_numbered, rest_part, scan_part}
use Rattle.star_normal.specs.Sizes.{size_at}
use Rattle.star_normal.specs.Tables.{TreeTable, IsTree, is_leaf, form_at, forms, whole}
use Rattle.position_nfa.specs.declared.summaries.Summary.{Summary}
use Rattle.position_nfa.specs.declared.firsts.Subtree.{Subtree}
use Rattle.position_nfa.specs.Automaton.{Automaton, has_output}
use Rattle.position_nfa.specs.LeafRows.{LeafRow, tree_rows}
use Rattle.position_nfa.specs.Summaries.{AreSummaries}
use Rattle.position_nfa.specs.Waiting.{AreOrdered, IsSubtree, numbered_tree, LeafLists, GainRows}
use Rattle.position_nfa.specs.TreeParts.{rest_of, scan_of, IsPart, part_tree, part_firsts, part_mask}
use Rattle.position_nfa.proofs.MarkedRows.{Says}
use Rattle.position_nfa.proofs.OwnParts.{stripped_own}
use Rattle.position_nfa.proofs.RowSteps.{follow_sets, shown}
use Rattle.position_nfa.proofs.TreeTables.{ordered}
use Rattle.position_nfa.proofs.WholeTrees.{PartMarked, OfPart}
use Rattle.position_nfa.proofs.Finished.{rest_tree, scan_tree, rest_is, scan_is, rest_mask, scan_mask, IsFinished}

-- a table has as many leaves as its tree
abbrev pub CountsLeaves : Type 0
CountsLeaves = (table : TreeTable) → IsTree table → count_by (λ node. is_leaf node.kind) table.nodes ≡ length (leaves (whole table))

module _ (table : TreeTable) (is : IsTree table) (counts : CountsLeaves) (nodes : List Node) (same : nodes ≡ table.nodes) (root : ℕ) (at_root : root ≡ table.root) where
  pub order_of : AreOrdered nodes
  order_of = subst AreOrdered (sym same) (ordered table is)

  abbrev pub top : Subtree
  top = record { node = root; base = 0 }

  pub top_form : form_at (forms nodes) root ≡ whole table
  top_form = ap (λ ns. form_at (forms ns) root) same ∙ ap (λ k. form_at (forms table.nodes) k) at_root

  pub top_is : IsSubtree nodes top
  top_is =
      let size : size_at nodes root ≡ length (leaves (whole table)) = ap (λ t. length (leaves t)) top_form in
      let few = is.few_leaves in
      let count = counts table is in
      record {
        node = subst (λ ns. root < length ns) (sym same) (rw at_root is.root_in_table);
        few = omega (arith, size, few, count);
      }

  module _ (summaries : List Summary) (sums : AreSummaries table.nodes summaries) where
    pub sums_of : AreSummaries nodes summaries
    sums_of = subst (λ ns. AreSummaries ns summaries) (sym same) sums

    pub rest_is_part : IsPart nodes (rest_of nodes top)
    rest_is_part = rest_is nodes summaries order_of sums_of top top_is

    pub scan_is_part : IsPart nodes (scan_of nodes summaries top)
    scan_is_part = scan_is nodes summaries order_of sums_of top top_is

    tree : numbered_tree nodes top ≡ tree_numbered 0 (whole table)
    tree = ap (tree_numbered 0) top_form

    abbrev RestExact : FlaggedTree → Type 0
    RestExact t = OfPart (IsExact IsItself) (rest_part t)

    abbrev ScanExact : FlaggedTree → Type 0
    ScanExact t = OfPart (IsExact IsItself) (scan_part t)

    abbrev OfRest : FlaggedTree → ℕ → Type 0
    OfRest t y = Says (has_output (part_mask summaries (rest_of nodes top)) y) (PartMarked (rest_part t) y [])

    abbrev OfScan : FlaggedTree → ℕ → Type 0
    OfScan t y = Says (has_output (part_mask summaries (scan_of nodes summaries top)) y) (PartMarked (scan_part t) y [])

    pub finish : (old new : LeafLists) (mask scan_marked : ℕ) (first scan_first : List ℕ)
        → GainRows (leaves (form_at (forms nodes) root)) (tree_rows (numbered_tree nodes top)) old new
        → old.symbols ≡ [] → old.follow ≡ [] → old.marked ≡ mask ∷ []
        → mask ≡ part_mask summaries (rest_of nodes top) → scan_marked ≡ part_mask summaries (scan_of nodes summaries top)
        → first ≡ part_firsts (part_tree nodes (rest_of nodes top)) → scan_first ≡ part_firsts (part_tree nodes (scan_of nodes summaries top))
        → IsFinished (whole table) (part_mask summaries (rest_of nodes top)) (part_mask summaries (scan_of nodes summaries top))
        (record { symbols = new.symbols; first = first; scan_first = scan_first; follow = new.follow; marked = new.marked; scan_marked = scan_marked })
    finish old new mask scan_marked first scan_first gain es ef em mask_is scan_is first_is scan_first_is =
        let count = counts table is in
        let some_leaves = is.some_leaves in
        let few_leaves = is.few_leaves in
        record {
          some = omega (arith, count, some_leaves);
          few = omega (arith, count, few_leaves);
          exact = is.exact;
          loops = stripped_own (whole table) is.exact is.stripped;
          one_scan = is.scan;
          rest = λ y e. subst (λ t. OfRest t y) tree (rest_mask nodes summaries order_of sums_of top top_is (subst (λ t. RestExact t) (sym tree) e) y);
          scan = λ y e. subst (λ t. OfScan t y) tree (scan_mask nodes summaries order_of sums_of top top_is (subst (λ t. ScanExact t) (sym tree) e) y);
          symbols = gain.symbols ∙ ap (λ xs. xs ++ leaves (form_at (forms nodes) root)) es ∙ ap leaves top_form;
          first = first_is ∙ ap part_firsts (rest_tree nodes summaries order_of sums_of top top_is) ∙ ap (λ t. part_firsts (rest_part t)) tree;
          scan_first = scan_first_is ∙ ap part_firsts (scan_tree nodes summaries order_of sums_of top top_is) ∙ ap (λ t. part_firsts (scan_part t)) tree;
          follow = gain.follow ∙ ap (λ xs. xs ++ follow_sets (tree_rows (numbered_tree nodes top))) ef ∙ ap (λ t. follow_sets (tree_rows t)) tree;
          marked =
              gain.marked ∙ ap (λ xs. map has_output xs ++ shown (tree_rows (numbered_tree nodes top))) (em ∙ ap (λ m. m ∷ []) mask_is)
              ∙ ap (λ t. has_output (part_mask summaries (rest_of nodes top)) ∷ shown (tree_rows t)) tree;
          scan_marked = scan_is;
        }

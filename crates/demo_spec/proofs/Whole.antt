-- The tables of a specification that is made.
use Rattle.std.proofs.Common.{◌≡◌, ℕ, ◌<◌, ◌≤◌, ◌^◌, ◌==◌, List, [], ◌∷◌, ◌++◌, length, map, get_or, All, count_by, flat_map, cond, refl, ap, sym, ◌∙◌, subst, arith, rules}
use Rattle.std.specs.Prelude.{◌≢◌, AllPairs, reverse}
use Rattle.std.proofs.lemmas.List.{append-nil, length-map, length-reverse}
use Rattle.std.proofs.lemmas.List.Sums.{sum_by-append}
use Rattle.rx_lang.specs.declared.expr_node.ExprNode.{ExprNode}
use Rattle.rx_lang.specs.declared.expr_node.ExprNode.TheVariants.{Leaf, Seq, Alt, Star, Plus, Opt, Mark, Repeat}
use Rattle.rx_lang.specs.Expression.{Expr, marked}
use Rattle.rx_lang.specs.Copies.{occurrences}
use Rattle.rx_lang.specs.Tables.{HasBounds, IsSpecification, NamesEntries, children, names, table_occurrences, tree_at, trees}
use Rattle.demo_spec.specs.Generator.{combined_all, marked_entry, on_top, with_leaves}
use Rattle.demo_spec.specs.Piles.{IsPile, IsPlainNode, leaf_count, piled}
use Rattle.demo_spec.specs.Tables.{demo_tables}
use Rattle.demo_spec.proofs.Makings.{marked_one, one_whole, whole_leaves}

plain_names : (nodes : List ExprNode) (exprs : List ℕ) (node : ExprNode) → IsPlainNode node → NamesEntries (demo_tables nodes exprs) node
plain_names nodes exprs (Leaf s) h = h
plain_names nodes exprs (Seq f g) h = tt
plain_names nodes exprs (Alt f g) h = tt
plain_names nodes exprs (Star f) h = tt
plain_names nodes exprs (Plus f) h = tt
plain_names nodes exprs (Opt f) h = tt
plain_names nodes exprs (Mark f y) h = h
plain_names nodes exprs (Repeat f m n) h = absurd h

plain_bounds : (node : ExprNode) → IsPlainNode node → HasBounds node
plain_bounds (Leaf s) h = tt
plain_bounds (Seq f g) h = tt
plain_bounds (Alt f g) h = tt
plain_bounds (Star f) h = tt
plain_bounds (Plus f) h = tt
plain_bounds (Opt f) h = tt
plain_bounds (Mark f y) h = tt
plain_bounds (Repeat f m n) h = absurd h

-- the symbols of the statements
occurring : (made : List Expr) (roots : List ℕ)
    → flat_map (λ root. occurrences (tree_at made root)) roots ≡ flat_map occurrences (map (tree_at made) roots)
occurring made [] = refl
occurring made (root ∷ roots) = ap (λ s. occurrences (tree_at made root) ++ s) (occurring made roots)

names_differ : (nodes : List ExprNode) (exprs : List ℕ) → AllPairs (λ a b. a ≢ b) (names (demo_tables nodes exprs))
names_differ nodes exprs = search rules

module _ (start leaves : ℕ) (nodes : List ExprNode) (exprs : List ℕ) (some : 1 ≤ leaves) (few : leaves ≤ 4096) (h : IsPile nodes exprs)
    (stack : piled nodes exprs
    ≡ marked_entry (combined_all (with_leaves leaves (record { seed = start; stack = [] }))).stack)
    (size : length nodes < 2 ^ 32) where
  abbrev made : List Expr
  made = (combined_all (with_leaves leaves (record { seed = start; stack = [] }))).stack

  one : length exprs ≡ 1
  one = sym (length-map exprs (tree_at (trees nodes))) ∙ ap length stack ∙ marked_one made (one_whole start leaves some)

  total : length (table_occurrences (demo_tables nodes exprs)) ≡ leaves
  total =
      ap (λ ns. length (flat_map (λ root. occurrences (tree_at (trees nodes) root)) ns)) (append-nil exprs)
      ∙ ap length (occurring (trees nodes) exprs) ∙ ap leaf_count stack ∙ whole_leaves start leaves some

  pub is_specification : IsSpecification (demo_tables nodes exprs)
  is_specification = record {
    some_lines = omega arith;
    few_lines = omega arith;
    some_symbols = omega arith;
    few_symbols = omega arith;
    some_outputs = omega arith;
    few_outputs = omega arith;
    some_statements = omega (arith, one);
    few_leaves = omega (arith, total, few);
    few_nodes = size;
    names_differ = names_differ nodes exprs;
    place_per_line = search rules;
    named_entries = λ k d lt. plain_names nodes exprs (get_or nodes k d) (h.plain k d lt);
    bounds = λ k d lt. plain_bounds (get_or nodes k d) (h.plain k d lt);
    children_before = h.before;
    roots_in_table = subst (λ ns. All (λ root. root < length nodes) ns) (sym (append-nil exprs)) h.below;
    used_once = λ k lt. ap (λ ns. count_by (λ x. x == k) (flat_map children nodes ++ ns)) (append-nil exprs)
        ∙ sum_by-append (λ x. cond (x == k) 1 0) (flat_map children nodes) exprs ∙ h.once k lt;
  }

-- one number is in the same order from both ends
one_reversed : (ns : List ℕ) → length ns ≡ 1 → reverse ns ≡ ns
one_reversed [] h = refl
one_reversed (n ∷ []) h = refl
one_reversed (n ∷ (m ∷ ns)) h = absurd (omega (arith, h))

-- the one entry, marked
pub marked_top : (es : List Expr) → length es ≡ 1 → on_top (λ e. marked e 0) es ≡ marked_entry es
marked_top [] h = refl
marked_top (e ∷ []) h = refl
marked_top (e ∷ (f ∷ es)) h = absurd (omega (arith, h))

pub as_stacked : (nodes : List ExprNode) (numbers : List ℕ) (es : List Expr) → length es ≡ 1 → piled nodes (reverse numbers) ≡ es
    → IsPile nodes (reverse numbers) → IsPile nodes numbers × (piled nodes numbers ≡ es)
as_stacked nodes numbers es one e h =
    let size : length numbers ≡ 1 = sym (length-reverse numbers) ∙ sym (length-map (reverse numbers) (tree_at (trees nodes))) ∙ ap length e ∙ one in
    let same = one_reversed numbers size in
    (subst (λ ns. IsPile nodes ns) same h, subst (λ ns. piled nodes ns ≡ es) same e)

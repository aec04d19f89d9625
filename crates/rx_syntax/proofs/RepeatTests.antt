-- Whether expressions have counted repeats, from the tests of their parts.
use Rattle.std.proofs.Common.{◌≡◌, All, ◌∙◌, ℕ, zero, suc, ◌+◌, ◌<◌, ◌≤◌, take, add-one, Bool, false, true, ◌||◌, List, [], ◌∷◌, ◌++◌, length, get_or, map, refl, ap, sym, subst, arith}
use Rattle.std.proofs.lemmas.List.{get_or-map, length-map, length-take-le, map-append}
use Rattle.std.proofs.Math.Seq.{take-suc}
use Rattle.rx_lang.specs.declared.expr_node.ExprNode.{ExprNode}
use Rattle.rx_lang.specs.Expression.{Expr, symbol}
use Rattle.rx_lang.specs.Tables.{tree_at, tree_of, trees}
use Rattle.rx_syntax.proofs.Growth.{length-trees, trees_more}
use Rattle.rx_syntax.specs.Printed.{has_repeat, have_repeat}

-- the test at a number is that of the tree there
pub test_read : (tests : List Bool) (made : List Expr) (k : ℕ) (d : Bool) → tests ≡ map has_repeat made → k < length tests → get_or tests k d ≡ has_repeat (tree_at made k)
test_read tests made k d e lt =
    let size : length tests ≡ length made = ap length e ∙ length-map made has_repeat in
    ap (λ ts. get_or ts k d) e ∙ get_or-map has_repeat made k (symbol 0) d (omega (arith, lt, size))

-- one more node
pub tests_more : (nodes : List ExprNode) (i : ℕ) (d node : ExprNode) (tests : List Bool) (b : Bool) → i < length nodes → node ≡ get_or nodes i d
    → tests ≡ map has_repeat (trees (take i nodes)) → b ≡ has_repeat (tree_of (trees (take i nodes)) node)
    → tests ++ (b ∷ []) ≡ map has_repeat (trees (take (i + 1) nodes))
tests_more nodes i d node tests b lt is before here =
    let cut : take (i + 1) nodes ≡ take i nodes ++ (node ∷ []) = rw (add-one, is) (take-suc nodes i d lt) in
    ap (λ ts. ts ++ (b ∷ [])) before
    ∙ ap (λ t. map has_repeat (trees (take i nodes)) ++ (t ∷ [])) here
    ∙ sym (map-append has_repeat (trees (take i nodes)) (tree_of (trees (take i nodes)) node ∷ []))
    ∙ ap (map has_repeat) (sym (trees_more (take i nodes) node))
    ∙ ap (λ ns. map has_repeat (trees ns)) (sym cut)

-- how many tests there are
pub tests_size : (nodes : List ExprNode) (i : ℕ) (tests : List Bool) → i ≤ length nodes → tests ≡ map has_repeat (trees (take i nodes)) → length tests ≡ i
tests_size nodes i tests le e =
    ap length e ∙ length-map (trees (take i nodes)) has_repeat ∙ length-trees (take i nodes) ∙ length-take-le i nodes le

-- whether one of the expressions with these roots has one

pub root_repeats : (made : List Expr) (roots : List ℕ) (i d : ℕ) → i < length roots → has_repeat (tree_at made (get_or roots i d)) ≡ true
    → have_repeat (map (tree_at made) roots) ≡ true
root_repeats made [] i d lt e = absurd (omega arith)
root_repeats made (root ∷ roots) zero d lt e = ap (λ b. b || have_repeat (map (tree_at made) roots)) e
root_repeats made (root ∷ roots) (suc i) d lt e = or_true (has_repeat (tree_at made root)) (root_repeats made roots i d (omega arith) e)
  where
    or_true : (b : Bool) → have_repeat (map (tree_at made) roots) ≡ true → (b || have_repeat (map (tree_at made) roots)) ≡ true
    or_true true h = refl
    or_true false h = h

pub none_repeats : (made : List Expr) (roots : List ℕ) (i d : ℕ) → i < length roots → has_repeat (tree_at made (get_or roots i d)) ≡ false
    → have_repeat (map (tree_at made) (take i roots)) ≡ false → have_repeat (map (tree_at made) (take (suc i) roots)) ≡ false
none_repeats made [] i d lt e none = absurd (omega arith)
none_repeats made (root ∷ roots) zero d lt e none = ap (λ b. b || false) e
none_repeats made (root ∷ roots) (suc i) d lt e none =
    or_both (has_repeat (tree_at made root)) none (λ h. none_repeats made roots i d (omega arith) e h)
  where
    or_both : (b : Bool) → (b || have_repeat (map (tree_at made) (take i roots))) ≡ false
        → (have_repeat (map (tree_at made) (take i roots)) ≡ false → have_repeat (map (tree_at made) (take (suc i) roots)) ≡ false)
        → (b || have_repeat (map (tree_at made) (take (suc i) roots))) ≡ false
    or_both true h later = absurd cc
    or_both false h later = later h

-- the roots of a table have tests
pub roots_tested : (nodes : List ExprNode) (tests : List Bool) (roots : List ℕ) → tests ≡ map has_repeat (trees nodes)
    → All (λ root. root < length nodes) roots → All (λ root. root < length tests) roots
roots_tested nodes tests roots e all =
    let size : length nodes ≡ length tests = sym (ap length e ∙ length-map (trees nodes) has_repeat ∙ length-trees nodes) in
    subst (λ n. All (λ root. root < n) roots) size all

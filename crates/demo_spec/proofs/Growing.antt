-- Tables of nodes that grow by a node whose children were on the pile.
use Rattle.std.proofs.Common.{◌≡◌, ℕ, ◌+◌, ◌<◌, ◌==◌, Bool, true, false, Some, List, [], ◌∷◌, ◌++◌, length, slice_get, get_or, All, count_by, flat_map, cond, fold, refl, ap, sym, ◌∙◌, subst, inl, inr, arith, length-append, if◌then◌else◌}
use Rattle.std.specs.Prelude.{reverse, Result, Ok, Err, IfOk}
use Rattle.std.proofs.lemmas.Bool.{cases_lt, cases_order}
use Rattle.std.proofs.lemmas.List.{append-nil, get_or_append_left, reverse-append}
use Rattle.std.proofs.lemmas.List.Sums.{fold-append, sum_by-append, sum_by-cons}
use Rattle.std.proofs.lemmas.List.Elements.{All-append, All-cons, All-nil, All-tail}
use Rattle.std.proofs.lemmas.Grind.{flat_map-append}
use Rattle.std.proofs.lemmas.Option.{slice_get_within, slice_get_read, get_or_from_slice_get}
use Rattle.std.proofs.Math.Seq.{get_or-append_seam}
use Rattle.rx_lang.specs.declared.expr_node.ExprNode.{ExprNode}
use Rattle.rx_lang.specs.declared.expr_node.ExprNode.TheVariants.{Leaf, Seq, Alt}
use Rattle.rx_lang.specs.Expression.{Expr, symbol, sequence, union}
use Rattle.rx_lang.specs.Tables.{children, tree_at, tree_of, trees}
use Rattle.demo_spec.specs.declared.sign.Sign.{Sign}
use Rattle.demo_spec.specs.declared.sign.Sign.TheVariants as sign
use Rattle.demo_spec.specs.Generator.{joined, on_top}
use Rattle.demo_spec.specs.Piles.{IsDeclared, IsPile, IsPlainNode, Piled, join_node, piled, sign_node, signed, stack_of, uses_of}

-- ---- trees

trees_more : (nodes : List ExprNode) (node : ExprNode) → trees (nodes ++ (node ∷ [])) ≡ trees nodes ++ (tree_of (trees nodes) node ∷ [])
trees_more nodes node = fold-append (λ made n. made ++ (tree_of made n ∷ [])) [] nodes (node ∷ [])

length-grown : (before : List Expr) (nodes : List ExprNode)
    → length (fold (λ made n. made ++ (tree_of made n ∷ [])) before nodes) ≡ length before + length nodes
length-grown before [] = omega arith
length-grown before (node ∷ nodes) = omega (
  arith,
  length-grown (before ++ (tree_of before node ∷ [])) nodes,
  length-append before (tree_of before node ∷ []),
)

length-trees : (nodes : List ExprNode) → length (trees nodes) ≡ length nodes
length-trees nodes = omega (arith, length-grown [] nodes)

-- a tree that is made stays
kept : (nodes : List ExprNode) (node : ExprNode) (k : ℕ) → k < length nodes
    → tree_at (trees (nodes ++ (node ∷ []))) k ≡ tree_at (trees nodes) k
kept nodes node k h =
    let lt : k < length (trees nodes) = omega (arith, length-trees nodes, h) in
    ap (λ made. tree_at made k) (trees_more nodes node) ∙ get_or_append_left (trees nodes) (tree_of (trees nodes) node ∷ []) (symbol 0) k lt

-- the tree of the last node
last_made : (nodes : List ExprNode) (node : ExprNode) → tree_at (trees (nodes ++ (node ∷ []))) (length nodes) ≡ tree_of (trees nodes) node
last_made nodes node =
    ap (λ made. tree_at made (length nodes)) (trees_more nodes node)
    ∙ ap (λ n. tree_at (trees nodes ++ (tree_of (trees nodes) node ∷ [])) n) (sym (length-trees nodes))
    ∙ get_or-append_seam (trees nodes) (tree_of (trees nodes) node) [] (symbol 0)

all_kept : (nodes : List ExprNode) (node : ExprNode) (numbers : List ℕ) → All (λ n. n < length nodes) numbers
    → piled (nodes ++ (node ∷ [])) numbers ≡ piled nodes numbers
all_kept nodes node [] h = refl
all_kept nodes node (n ∷ numbers) h =
    ap (λ t. t ∷ piled (nodes ++ (node ∷ [])) numbers) (kept nodes node n (h 0 0 (omega arith)))
    ∙ ap (λ ts. tree_at (trees nodes) n ∷ ts) (all_kept nodes node numbers (All-tail (λ n. n < length nodes) n numbers h))

-- the expressions with one more node on the pile
pub piled_more : (nodes : List ExprNode) (node : ExprNode) (numbers : List ℕ) → All (λ n. n < length nodes) numbers
    → piled (nodes ++ (node ∷ [])) (length nodes ∷ numbers) ≡ tree_of (trees nodes) node ∷ piled nodes numbers
piled_more nodes node numbers h =
    ap (λ t. t ∷ piled (nodes ++ (node ∷ [])) numbers) (last_made nodes node)
    ∙ ap (λ ts. tree_of (trees nodes) node ∷ ts) (all_kept nodes node numbers h)

-- ---- uses

counted_append : (k : ℕ) (xs ys : List ℕ) → count_by (λ x. x == k) (xs ++ ys) ≡ count_by (λ x. x == k) xs + count_by (λ x. x == k) ys
counted_append k xs ys = sum_by-append (λ x. cond (x == k) 1 0) xs ys

counted_cons : (k n : ℕ) (ns : List ℕ) → count_by (λ x. x == k) (n ∷ ns) ≡ cond (n == k) 1 0 + count_by (λ x. x == k) ns
counted_cons k n ns = sum_by-cons (λ x. cond (x == k) 1 0) n ns

uses_more : (nodes : List ExprNode) (node : ExprNode) (numbers : List ℕ) (k : ℕ)
    → uses_of (nodes ++ (node ∷ [])) (length nodes ∷ numbers) k
    ≡ count_by (λ x. x == k) (flat_map children nodes) + count_by (λ x. x == k) (children node) + cond (length nodes == k) 1 0
    + count_by (λ x. x == k) numbers
uses_more nodes node numbers k =
    let flat : flat_map children (nodes ++ (node ∷ [])) ≡ flat_map children nodes ++ (children node ++ []) =
    flat_map-append children nodes (node ∷ []) in
    let counted : count_by (λ x. x == k) (flat_map children (nodes ++ (node ∷ [])))
    ≡ count_by (λ x. x == k) (flat_map children nodes) + count_by (λ x. x == k) (children node) =
    ap (count_by (λ x. x == k)) flat
    ∙ counted_append k (flat_map children nodes) (children node ++ [])
    ∙ ap (λ cs. count_by (λ x. x == k) (flat_map children nodes) + count_by (λ x. x == k) cs) (append-nil (children node)) in
    omega (arith, counted, counted_cons k (length nodes) numbers)

is_new : (n k : ℕ) → n ≡ k → ◌≡◌ {A = ℕ} (cond (n == k) 1 0) 1
is_new n k e = grind (arith, e)

not_new : (n k : ℕ) → (n ≡ k → ⊥) → ◌≡◌ {A = ℕ} (cond (n == k) 1 0) 0
not_new n k ne = grind (arith, ne)

module _ (nodes : List ExprNode) (node : ExprNode) (taken numbers : List ℕ) where
  -- each child stands before its parent
  before_more : ((k : ℕ) (n : ExprNode) → slice_get nodes k ≡ Some n → All (λ child. child < k) (children n))
      → All (λ child. child < length nodes) (children node)
      → (k : ℕ) (n : ExprNode) → slice_get (nodes ++ (node ∷ [])) k ≡ Some n → All (λ child. child < k) (children n)
  before_more old low k n get =
      let within = slice_get_within (nodes ++ (node ∷ [])) k n get in
      elim (cases_lt k (length nodes)) [
        | inl lt ↦ (
            let here = slice_get_read nodes (length nodes) k n refl lt (sym (get_or_from_slice_get (nodes ++ (node ∷ [])) k n n get)
            ∙ get_or_append_left nodes (node ∷ []) n k lt) in
            old k n here)
        | inr le ↦ (
            let last : k ≡ length nodes = omega (arith, le, within, length-append nodes (node ∷ [])) in
            let same = get_or_from_slice_get (nodes ++ (node ∷ [])) k n node get in
            let is : node ≡ n = sym (get_or-append_seam nodes node [] node) ∙ subst (λ m. get_or (nodes ++ (node ∷ [])) m node ≡ n) last same in
            subst (λ m. All (λ child. child < m) (children n)) (sym last) (subst (λ m. All (λ child. child < length nodes) (children m)) is low))
      ]

  -- the node with its children from the pile
  put : IsPlainNode node → ((k : ℕ) → count_by (λ x. x == k) (children node) ≡ count_by (λ x. x == k) taken)
      → All (λ child. child < length nodes) (children node) → All (λ n. n < length nodes) numbers → IsPile nodes (taken ++ numbers)
      → IsPile (nodes ++ (node ∷ [])) (length nodes ∷ numbers)
  put plain takes low below h =
      let size = length-append nodes (node ∷ []) in
      let both : (k : ℕ) → count_by (λ x. x == k) (taken ++ numbers) ≡ count_by (λ x. x == k) taken + count_by (λ x. x == k) numbers =
      (λ k. counted_append k taken numbers) in
      record {
        plain = All-append IsPlainNode nodes (node ∷ []) h.plain (All-cons IsPlainNode node [] plain (All-nil IsPlainNode));
        before = before_more h.before low;
        below = All-cons (λ n. n < length (nodes ++ (node ∷ []))) (length nodes) numbers (omega (arith, size))
            (λ k d lt. omega (arith, size, below k d lt));
        once = λ k lt. elim (cases_order k (length nodes)) [
          | inl e ↦ omega (arith, uses_more nodes node numbers k, takes k, both k, h.never k (omega (arith, e)), is_new (length nodes) k (sym e))
          | inr (inl less) ↦ omega (
            arith,
            uses_more nodes node numbers k,
            takes k,
            both k,
            h.once k less,
            not_new (length nodes) k (λ e. omega (arith, e, less)),
          )
          | inr (inr more) ↦ absurd (omega (arith, more, lt, size))
        ];
        never = λ k le. omega (
          arith,
          uses_more nodes node numbers k,
          takes k,
          both k,
          h.never k (omega (arith, le, size)),
          not_new (length nodes) k (λ e. omega (arith, e, le, size)),
        );
      }

-- ---- the nodes that are put

-- a symbol
pub symbol_put : (nodes : List ExprNode) (numbers : List ℕ) (s : ℕ) → s < 4 → IsPile nodes numbers
    → IsPile (nodes ++ (Leaf s ∷ [])) (length nodes ∷ numbers)
symbol_put nodes numbers s declared h =
    put nodes (Leaf s) [] numbers declared (λ k. refl) (All-nil (λ n. n < length nodes)) h.below h

sign_children : (s : Sign) (n : ℕ) → children (sign_node s n) ≡ n ∷ []
sign_children sign.Star n = refl
sign_children sign.Plus n = refl
sign_children sign.Optional n = refl
sign_children (sign.Marked y) n = refl

sign_plain : (s : Sign) (n : ℕ) → IsDeclared s → IsPlainNode (sign_node s n)
sign_plain sign.Star n h = tt
sign_plain sign.Plus n h = tt
sign_plain sign.Optional n h = tt
sign_plain (sign.Marked y) n h = h

pub sign_tree : (made : List Expr) (s : Sign) (n : ℕ) → tree_of made (sign_node s n) ≡ signed s (tree_at made n)
sign_tree made sign.Star n = refl
sign_tree made sign.Plus n = refl
sign_tree made sign.Optional n = refl
sign_tree made (sign.Marked y) n = refl

-- a sign over the top
pub sign_put : (nodes : List ExprNode) (numbers : List ℕ) (n : ℕ) (s : Sign) → IsDeclared s → IsPile nodes (n ∷ numbers)
    → IsPile (nodes ++ (sign_node s n ∷ [])) (length nodes ∷ numbers)
sign_put nodes numbers n s declared h =
    let below = All-tail (λ m. m < length nodes) n numbers h.below in
    let one = All-cons (λ m. m < length nodes) n [] (h.below 0 0 (omega arith)) (All-nil (λ m. m < length nodes)) in
    put nodes (sign_node s n) (n ∷ []) numbers (sign_plain s n declared) (λ k. ap (count_by (λ x. x == k)) (sign_children s n))
    (subst (λ cs. All (λ m. m < length nodes) cs) (sym (sign_children s n)) one) below h

join_children : (draw l r : ℕ) → children (join_node draw l r) ≡ l ∷ r ∷ []
join_children draw l r = by (draw == 0)
  where
    by : (b : Bool) → children (if b then Seq l r else Alt l r) ≡ l ∷ r ∷ []
    by true = refl
    by false = refl

join_plain : (draw l r : ℕ) → IsPlainNode (join_node draw l r)
join_plain draw l r = by (draw == 0)
  where
    by : (b : Bool) → IsPlainNode (if b then Seq l r else Alt l r)
    by true = tt
    by false = tt

pub join_tree : (made : List Expr) (draw l r : ℕ)
    → tree_of made (join_node draw l r)
    ≡ (if draw == 0 then sequence (tree_at made l) (tree_at made r) else union (tree_at made l) (tree_at made r))
join_tree made draw l r = by (draw == 0)
  where
    by : (b : Bool) → tree_of made (if b then Seq l r else Alt l r)
        ≡ (if b then sequence (tree_at made l) (tree_at made r) else union (tree_at made l) (tree_at made r))
    by true = refl
    by false = refl

swapped : (k l r : ℕ) → count_by (λ x. x == k) (l ∷ r ∷ []) ≡ count_by (λ x. x == k) (r ∷ l ∷ [])
swapped k l r = omega (
  arith,
  counted_cons k l (r ∷ []),
  counted_cons k r [],
  counted_cons k r (l ∷ []),
  counted_cons k l [],
)

-- the two on the top as one
pub join_put : (nodes : List ExprNode) (numbers : List ℕ) (draw l r : ℕ) → IsPile nodes (r ∷ l ∷ numbers)
    → IsPile (nodes ++ (join_node draw l r ∷ [])) (length nodes ∷ numbers)
join_put nodes numbers draw l r h =
    let rest = All-tail (λ m. m < length nodes) r (l ∷ numbers) h.below in
    let below = All-tail (λ m. m < length nodes) l numbers rest in
    let two = All-cons (λ m. m < length nodes) l (r ∷ []) (rest 0 0 (omega arith))
    (All-cons (λ m. m < length nodes) r [] (h.below 0 0 (omega arith)) (All-nil (λ m. m < length nodes))) in
    put nodes (join_node draw l r) (r ∷ l ∷ []) numbers (join_plain draw l r)
    (λ k. ap (count_by (λ x. x == k)) (join_children draw l r) ∙ swapped k l r)
    (subst (λ cs. All (λ m. m < length nodes) cs) (sym (join_children draw l r)) two) below h

-- ---- the numbers as they lie, the top last

pub top_last : (numbers : List ℕ) (n : ℕ) → reverse (numbers ++ (n ∷ [])) ≡ n ∷ reverse numbers
top_last numbers n = reverse-append numbers (n ∷ [])

-- the pile with one more node is one, and these are its expressions
pub record Grows (nodes : List ExprNode) (node : ExprNode) (numbers : List ℕ) (stack : List Expr) : Type 0 where
  pub pile : IsPile (nodes ++ (node ∷ [])) (length nodes ∷ reverse numbers)
  pub same : piled (nodes ++ (node ∷ [])) (length nodes ∷ reverse numbers) ≡ stack

pub symbol_step : (nodes : List ExprNode) (numbers : List ℕ) (s : ℕ) → s < 4 → IsPile nodes (reverse numbers)
    → Grows nodes (Leaf s) numbers (symbol s ∷ piled nodes (reverse numbers))
symbol_step nodes numbers s declared h =
    record { pile = symbol_put nodes (reverse numbers) s declared h; same = piled_more nodes (Leaf s) (reverse numbers) h.below }

pub sign_step : (nodes : List ExprNode) (old new : List ℕ) (n : ℕ) (s : Sign) → old ≡ new ++ (n ∷ []) → IsDeclared s → IsPile nodes (reverse old)
    → Grows nodes (sign_node s n) new (on_top (signed s) (piled nodes (reverse old)))
sign_step nodes old new n s e declared h =
    let last : reverse old ≡ n ∷ reverse new = ap reverse e ∙ top_last new n in
    let here : IsPile nodes (n ∷ reverse new) = subst (λ ns. IsPile nodes ns) last h in
    let below = All-tail (λ m. m < length nodes) n (reverse new) here.below in
    record {
      pile = sign_put nodes (reverse new) n s declared here;
      same = piled_more nodes (sign_node s n) (reverse new) below
          ∙ ap (λ t. t ∷ piled nodes (reverse new)) (sign_tree (trees nodes) s n)
          ∙ sym (ap (λ ns. on_top (signed s) (piled nodes ns)) last);
    }

pub join_step : (nodes : List ExprNode) (old mid new : List ℕ) (draw l r : ℕ) → old ≡ mid ++ (r ∷ []) → mid ≡ new ++ (l ∷ [])
    → IsPile nodes (reverse old) → Grows nodes (join_node draw l r) new (joined draw (piled nodes (reverse old)))
join_step nodes old mid new draw l r e f h =
    let last : reverse old ≡ r ∷ l ∷ reverse new = ap reverse e ∙ top_last mid r ∙ ap (λ ns. r ∷ ns) (ap reverse f ∙ top_last new l) in
    let here : IsPile nodes (r ∷ l ∷ reverse new) = subst (λ ns. IsPile nodes ns) last h in
    let below = All-tail (λ m. m < length nodes) l (reverse new) (All-tail (λ m. m < length nodes) r (l ∷ reverse new) here.below) in
    record {
      pile = join_put nodes (reverse new) draw l r here;
      same = piled_more nodes (join_node draw l r) (reverse new) below
          ∙ ap (λ t. t ∷ piled nodes (reverse new)) (join_tree (trees nodes) draw l r)
          ∙ sym (ap (λ ns. joined draw (piled nodes ns)) last);
    }

-- a result that is such a pile has these expressions
pub as_stack : {E : Type 0} (result : Result Piled E) (made : Piled) (stack : List Expr) → IfOk result (λ pile. pile ≡ made)
    → stack_of made ≡ stack → IfOk result (λ pile. stack_of pile ≡ stack)
as_stack (Ok pile) made stack h e = ap stack_of h ∙ e
as_stack (Err fault) made stack h e = tt

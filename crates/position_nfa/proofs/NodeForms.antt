-- The trees of nodes, from those of their parts.
use Rattle.std.proofs.Common.{◌≡◌, ◌∙◌, ℕ, suc, ◌+◌, ◌<◌, ◌≤◌, Bool, true, false, ◌&&◌, ◌||◌, List, [], ◌∷◌, ◌++◌, length, take, drop, get_or, fold, refl, sym, ap, subst, arith, length-append, length-take}
use Rattle.std.proofs.lemmas.List.{get_or_append_left, take-append-drop}
use Rattle.std.proofs.lemmas.List.Sums.{fold-append}
use Rattle.std.proofs.Math.Seq.{get_or-append_seam, drop-cons}
use Rattle.star_normal.specs.declared.node.Node.{Node}
use Rattle.star_normal.specs.declared.node.NodeKind.{NodeKind}
use Rattle.star_normal.specs.declared.node.NodeKind.TheVariants.{Leaf, Seq, Alt}
use Rattle.star_normal.specs.Trees.{Flags, FlaggedTree, leaf, seq, alt, flags, leaves}
use Rattle.star_normal.specs.Normal.{bare}
use Rattle.star_normal.specs.Shapes.{tree_numbered, size}
use Rattle.star_normal.specs.Tables.{plain_node, flags_of, form_at, form_by, form_of, forms}
use Rattle.position_nfa.specs.LeafRows.{empties}
use Rattle.position_nfa.specs.Summaries.{PartsAreBelow, node_at}
use Rattle.position_nfa.specs.Waiting.{AreOrdered}

-- ---- lists that are made element by element, each from those before it

made : List FlaggedTree → List Node → List FlaggedTree
made before nodes = fold (λ b x. b ++ form_of b x ∷ []) before nodes

made_length : (xs : List Node) (before : List FlaggedTree) → length (made before xs) ≡ length before + length xs
unfolding made
made_length [] before = omega arith
made_length (x ∷ xs) before = omega (arith, made_length xs (before ++ form_of before x ∷ []), length-append before (form_of before x ∷ []))

made_kept : (xs : List Node) (before : List FlaggedTree) (k : ℕ) → k < length before → form_at (made before xs) k ≡ form_at before k
unfolding made
made_kept [] before k h = refl
made_kept (x ∷ xs) before k h =
    made_kept xs (before ++ form_of before x ∷ []) k (omega (arith, length-append before (form_of before x ∷ [])))
    ∙ get_or_append_left before (form_of before x ∷ []) (leaf bare 0) k h

split_forms : (xs ys : List Node) (x : Node) → forms (xs ++ x ∷ ys) ≡ made (forms xs ++ form_of (forms xs) x ∷ []) ys
unfolding made
split_forms xs ys x = fold-append (λ b x. b ++ form_of b x ∷ []) [] xs (x ∷ ys)

forms_length : (xs : List Node) → length (forms xs) ≡ length xs
unfolding made
forms_length xs = omega (arith, made_length xs [])

form_here : (xs ys : List Node) (x : Node) → form_at (forms (xs ++ x ∷ ys)) (length xs) ≡ form_of (forms xs) x
form_here xs ys x =
    let size : length (forms xs) ≡ length xs = forms_length xs in
    ap (λ l. form_at l (length xs)) (split_forms xs ys x)
    ∙ made_kept ys (forms xs ++ form_of (forms xs) x ∷ []) (length xs) (omega (arith, length-append (forms xs) (form_of (forms xs) x ∷ []), size))
    ∙ ap (λ n. form_at (forms xs ++ form_of (forms xs) x ∷ []) n) (sym size)
    ∙ get_or-append_seam (forms xs) (form_of (forms xs) x) [] (leaf bare 0)

form_before : (xs ys : List Node) (x : Node) (k : ℕ) → k < length xs → form_at (forms (xs ++ x ∷ ys)) k ≡ form_at (forms xs) k
form_before xs ys x k h =
    let size : length (forms xs) ≡ length xs = forms_length xs in
    ap (λ l. form_at l k) (split_forms xs ys x)
    ∙ made_kept ys (forms xs ++ form_of (forms xs) x ∷ []) k (omega (arith, length-append (forms xs) (form_of (forms xs) x ∷ []), size))
    ∙ get_or_append_left (forms xs) (form_of (forms xs) x ∷ []) (leaf bare 0) k (omega (arith, size))

alike : (a b : List FlaggedTree) (n : ℕ) → ((k : ℕ) → k < n → form_at a k ≡ form_at b k) → (f : Flags) (kind : NodeKind) → PartsAreBelow n kind
    → form_by a f kind ≡ form_by b f kind
alike a b n e f (Leaf s) h = refl
alike a b n e f (Seq l r) h = rw (e l h.0, e r h.1) refl
alike a b n e f (Alt l r) h = rw (e l h.0, e r h.1) refl

-- each node stands for the tree of its parts
pub node_form : (nodes : List Node) → AreOrdered nodes → (k : ℕ) → k < length nodes
    → form_at (forms nodes) k ≡ form_by (forms nodes) (flags_of (node_at nodes k)) (node_at nodes k).kind
node_form nodes order k h =
    let node : Node = node_at nodes k in
    let size : length (take k nodes) ≡ k = omega (arith, length-take k nodes) in
    let whole : nodes ≡ take k nodes ++ node ∷ drop (suc k) nodes =
    sym (take-append-drop k nodes) ∙ ap (λ l. take k nodes ++ l) (drop-cons nodes k (plain_node (Leaf 0) false) h) in
    ap (λ xs. form_at (forms xs) k) whole
    ∙ ap (λ n. form_at (forms (take k nodes ++ node ∷ drop (suc k) nodes)) n) (sym size)
    ∙ form_here (take k nodes) (drop (suc k) nodes) node
    ∙ alike (forms (take k nodes)) (forms nodes) k
    (λ j below. sym (ap (λ xs. form_at (forms xs) j) whole ∙ form_before (take k nodes) (drop (suc k) nodes) node j (omega (arith, size))))
    (flags_of node) node.kind (order k h)

flags_by : (before : List FlaggedTree) (f : Flags) (kind : NodeKind) → flags (form_by before f kind) ≡ f
flags_by before f (Leaf s) = refl
flags_by before f (Seq l r) = refl
flags_by before f (Alt l r) = refl

pub form_flags : (nodes : List Node) → AreOrdered nodes → (k : ℕ) → k < length nodes → flags (form_at (forms nodes) k) ≡ flags_of (node_at nodes k)
form_flags nodes order k h = ap flags (node_form nodes order k h) ∙ flags_by (forms nodes) (flags_of (node_at nodes k)) (node_at nodes k).kind

-- ---- numbered trees

pub flags_numbered : (k : ℕ) (t : FlaggedTree) → flags (tree_numbered k t) ≡ flags t
flags_numbered k (leaf f s) = refl
flags_numbered k (seq f l r) = refl
flags_numbered k (alt f l r) = refl

pub empties_numbered : (t : FlaggedTree) (k y : ℕ) → empties (tree_numbered k t) y ≡ empties t y
empties_numbered (leaf f s) k y = refl
empties_numbered (seq f l r) k y =
    rw (empties_numbered l k y, empties_numbered r (k + length (leaves l)) y, flags_numbered k l) refl
empties_numbered (alt f l r) k y = rw (empties_numbered l k y, empties_numbered r (k + length (leaves l)) y) refl

pub some_size : (t : FlaggedTree) → 1 ≤ size t
some_size (leaf f s) = omega arith
some_size (seq f l r) = omega arith
some_size (alt f l r) = omega arith

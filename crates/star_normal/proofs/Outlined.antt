-- The outlines of the expressions of a table.
use Rattle.std.proofs.Common.{◌≡◌, ◌∙◌, ◌⊎◌, inl, inr, ℕ, zero, suc, pred, ◌+◌, ◌-◌, ◌<◌, ◌≤◌, Bool, true, false, ◌||◌, ◌==◌, nat_lt, if◌then◌else◌, List, [], ◌∷◌, ◌++◌, length, map, take, drop, get_or, Some, slice_get, refl, sym, ap, subst, arith, length-append, length-take, drop-cons}
use Rattle.std.proofs.lemmas.Option.{slice_get_within, get_or_from_slice_get}
use Rattle.std.proofs.lemmas.List.{take-append-drop, get_or_append_left}
use Rattle.std.proofs.lemmas.Bool.{cases_lt}
use Rattle.std.proofs.Math.Seq.{get_or-append_seam}
use Rattle.rx_lang.specs.declared.expr_node.ExprNode.{ExprNode}
use Rattle.rx_lang.specs.declared.expr_node.ExprNode.TheVariants.{Leaf, Seq, Alt, Star, Plus, Opt, Mark, Repeat}
use Rattle.rx_lang.specs.Expression.{Expr, symbol, sequence, union, star, plus, optional, marked, repeated}
use Rattle.rx_lang.specs.Copies.{copies, copied}
use Rattle.rx_lang.specs.Tables.{tree_at, tree_of, trees}
use Rattle.star_normal.specs.declared.outlines.Base.{Base}
use Rattle.star_normal.specs.declared.outlines.Base.TheVariants.{Leaf as LeafBase, Seq as SeqBase, Alt as AltBase, Repeat as RepeatBase}
use Rattle.star_normal.specs.declared.outlines.Outline.{Outline}
use Rattle.star_normal.specs.Trees.{flags}
use Rattle.star_normal.specs.Normal.{nullable, normal, turned, opted, with_flags, marking}
use Rattle.star_normal.specs.Signs.{no_signs, kept, looped_signs, adding}
use Rattle.star_normal.specs.Outlines.{ChildrenBelow, NodeFits, AreFit, bare_outline, outline_at, looped_outline, opted_outline, marked_outline, repeated_outline, outline_of, copied_trees, BaseBelow, base_expr, IsOutline, AreOutlines, AreClosed}
use Rattle.star_normal.proofs.Made.{made_more, made_next}
use Rattle.star_normal.proofs.Forms.{bare_normal}
use Rattle.star_normal.proofs.Signed.{adding_none, turned_adding, opted_adding, marked_adding}
use Rattle.star_normal.proofs.Copied.{nullable_copies}

-- The copied tree of a node.

pub copied_at : (ts : List Expr) (k : ℕ) → tree_at (map copied ts) k ≡ copied (tree_at ts k)
copied_at [] k = refl
copied_at (t ∷ ts) zero = refl
copied_at (t ∷ ts) (suc k) = copied_at ts k

-- the tree of a node with copies, from those of its children
abbrev copied_of : List Expr → ExprNode → Expr
copied_of ts (Leaf s) = symbol s
copied_of ts (Seq f g) = sequence (tree_at ts f) (tree_at ts g)
copied_of ts (Alt f g) = union (tree_at ts f) (tree_at ts g)
copied_of ts (Star f) = star (tree_at ts f)
copied_of ts (Plus f) = plus (tree_at ts f)
copied_of ts (Opt f) = optional (tree_at ts f)
copied_of ts (Mark f y) = marked (tree_at ts f) y
copied_of ts (Repeat f m n) = copies m (pred n) (tree_at ts f)

copied_node : (ts : List Expr) (node : ExprNode) → copied (tree_of ts node) ≡ copied_of (map copied ts) node
copied_node ts (Leaf s) = refl
copied_node ts (Seq f g) = rw (copied_at ts f, copied_at ts g) refl
copied_node ts (Alt f g) = rw (copied_at ts f, copied_at ts g) refl
copied_node ts (Star f) = ap star (sym (copied_at ts f))
copied_node ts (Plus f) = ap plus (sym (copied_at ts f))
copied_node ts (Opt f) = ap optional (sym (copied_at ts f))
copied_node ts (Mark f y) = ap (λ t. marked t y) (sym (copied_at ts f))
copied_node ts (Repeat f m n) = ap (copies m (pred n)) (sym (copied_at ts f))

agree : (a b : List Expr) (n : ℕ) → ((k : ℕ) → k < n → tree_at a k ≡ tree_at b k) → (node : ExprNode) → ChildrenBelow n node → tree_of a node ≡ tree_of b node
agree a b n e (Leaf s) h = refl
agree a b n e (Seq f g) h = rw (e f h.0, e g h.1) refl
agree a b n e (Alt f g) h = rw (e f h.0, e g h.1) refl
agree a b n e (Star f) h = ap star (e f h)
agree a b n e (Plus f) h = ap plus (e f h)
agree a b n e (Opt f) h = ap optional (e f h)
agree a b n e (Mark f y) h = ap (λ t. marked t y) (e f h)
agree a b n e (Repeat f m k) h = ap (λ t. repeated t m k) (e f h)

-- the list before an element, the element, and the rest
pub split_at : {A : Type 0} (xs : List A) (k : ℕ) (x : A) → slice_get xs k ≡ Some x → xs ≡ take k xs ++ x ∷ drop (suc k) xs
split_at xs k x e =
    let within : k < length xs = slice_get_within xs k x e in
    let read : get_or xs k x ≡ x = get_or_from_slice_get xs k x x e in
    sym (take-append-drop k xs) ∙ ap (λ l. take k xs ++ l) (drop-cons xs k x within ∙ ap (λ y. y ∷ drop (suc k) xs) read)

node_tree : (nodes : List ExprNode) → AreFit nodes → (k : ℕ) (node : ExprNode) → slice_get nodes k ≡ Some node
    → tree_at (trees nodes) k ≡ tree_of (trees nodes) node
node_tree nodes fit k node e =
    let within : k < length nodes = slice_get_within nodes k node e in
    let size : length (take k nodes) ≡ k = omega (arith, length-take k nodes) in
    let whole : nodes ≡ take k nodes ++ node ∷ drop (suc k) nodes = split_at nodes k node e in
    ap (λ xs. tree_at (trees xs) k) whole
    ∙ ap (λ n. tree_at (trees (take k nodes ++ node ∷ drop (suc k) nodes)) n) (sym size)
    ∙ made_next tree_of (symbol 0) (take k nodes) (drop (suc k) nodes) node
    ∙ agree (trees (take k nodes)) (trees nodes) k
    (λ j h. sym (ap (λ xs. tree_at (trees xs) j) whole ∙ made_more tree_of (symbol 0) (take k nodes) (node ∷ drop (suc k) nodes) j (omega (arith, size))))
    node (fit.ordered k node e)

tree_is : (nodes : List ExprNode) → AreFit nodes → (k : ℕ) (node : ExprNode) → slice_get nodes k ≡ Some node
    → tree_at (copied_trees nodes) k ≡ copied_of (copied_trees nodes) node
tree_is nodes fit k node e = copied_at (trees nodes) k ∙ ap copied (node_tree nodes fit k node e) ∙ copied_node (trees nodes) node

-- The outline of a node.

or_yes : (under : Bool) → (under || true) ≡ true
or_yes true = refl
or_yes false = refl

bare_same : (under : Bool) (e : Expr) → normal under e ≡ adding (kept under no_signs) (normal (under || false) e)
bare_same true e = sym (adding_none (normal true e))
bare_same false e = sym (adding_none (normal false e))

module _ (ts : List Expr) (n : ℕ) where
  bare_is : (base : Base) → BaseBelow n base → IsOutline ts n (base_expr ts base) (bare_outline base (nullable (base_expr ts base)))
  bare_is base b = record { below = b; same = λ under. bare_same under (base_expr ts base); null = refl; light = omega arith }

  below_more : (k : ℕ) (base : Base) → k ≤ n → BaseBelow k base → BaseBelow n base
  below_more k (LeafBase s) le b = tt
  below_more k (SeqBase f g) le b = (omega (arith, b.0), omega (arith, b.1))
  below_more k (AltBase f g) le b = (omega (arith, b.0), omega (arith, b.1))
  below_more k (RepeatBase f m j) le b = (omega (arith, b.0), b.1)

  module _ (k : ℕ) (e : Expr) (o : Outline) (lt : k < n) (is : IsOutline ts k e o) where
    below : BaseBelow n o.base
    below = below_more k o.base (omega arith) is.below

    same_is : IsOutline ts n e o
    same_is = record { below = below; same = is.same; null = is.null; light = is.light }

    turned_same : (under t : Bool) → turned under t (normal true e) ≡ adding (kept under (looped_signs t o.signs)) (normal (under || true) (base_expr ts o.base))
    turned_same under t =
        ap (turned under t) (is.same true)
        ∙ turned_adding under t o.signs (normal true (base_expr ts o.base)) (bare_normal (base_expr ts o.base))
        ∙ ap (λ b. adding (kept under (looped_signs t o.signs)) (normal b (base_expr ts o.base))) (sym (or_yes under))

    star_is : IsOutline ts n (star e) (looped_outline o true)
    star_is = record { below = below; same = λ under. turned_same under true; null = refl; light = let h = is.light in omega (arith, h) }

    plus_is : IsOutline ts n (plus e) (looped_outline o o.nullable)
    plus_is = record {
      below = below;
      same = λ under. ap (λ t. turned under t (normal true e)) (sym is.null) ∙ turned_same under o.nullable;
      null = is.null;
      light = let h = is.light in omega (arith, h);
    }

    optional_is : IsOutline ts n (optional e) (opted_outline o)
    optional_is = record {
      below = below;
      same = λ under. ap (opted under) (is.same under) ∙ opted_adding under o.signs (normal (under || o.signs.loops) (base_expr ts o.base));
      null = refl;
      light = let h = is.light in omega (arith, h);
    }

    marked_is : (y : ℕ) → y < 16 → IsOutline ts n (marked e y) (marked_outline o y)
    marked_is y h = record {
      below = below;
      same = λ under.
          ap (λ t. with_flags (marking y (nullable e) (flags t)) t) (is.same under)
          ∙ ap (λ b. with_flags (marking y b (flags (adding (kept under o.signs) (normal (under || o.signs.loops) (base_expr ts o.base))))) (adding (kept under o.signs) (normal (under || o.signs.loops) (base_expr ts o.base)))) (sym is.null)
          ∙ marked_adding under y o.nullable o.signs (normal (under || o.signs.loops) (base_expr ts o.base)) h;
      null = is.null;
      light = let l = is.light in omega (arith, l);
    }

  option_is : (k m : ℕ) (e : Expr) (o : Outline) → k < n → IsOutline ts k e o → IsOutline ts n (copies m 0 e) (if m == 0 then opted_outline o else o)
  option_is k zero e o lt is = optional_is k e o lt is
  option_is k (suc m) e o lt is = let test : (suc m == 0) ≡ false = grind arith in rw test (same_is k e o lt is)

  repeated_is : (f m j : ℕ) (o : Outline) → f < n → IsOutline ts f (tree_at ts f) o → 1 ≤ j → (1 < j) ⊎ (j ≤ 1)
      → IsOutline ts n (copies m (pred j) (tree_at ts f)) (repeated_outline o f m j)
  repeated_is f m zero o lt is some c = absurd (omega arith)
  repeated_is f m (suc j) o lt is some (inl more) =
      let test : nat_lt 1 (suc j) ≡ true = grind arith in
      let less : suc j - 1 ≡ j = omega arith in
      let bare : IsOutline ts n (copies m j (tree_at ts f)) (bare_outline (RepeatBase f m j) (nullable (copies m j (tree_at ts f)))) = bare_is (RepeatBase f m j) (lt, omega arith) in
      rw (test, less) (subst (λ b. IsOutline ts n (copies m j (tree_at ts f)) (bare_outline (RepeatBase f m j) b))
      (nullable_copies m j (tree_at ts f) ∙ ap (λ b. m == 0 || b) (sym is.null)) bare)
  repeated_is f m (suc j) o lt is some (inr few) =
      let test : nat_lt 1 (suc j) ≡ false = grind arith in
      let none : j ≡ 0 = omega arith in
      rw (test, none) (option_is f m (tree_at ts f) o lt is)

  node_is : (outlines : List Outline) → AreOutlines ts n outlines → (node : ExprNode) → ChildrenBelow n node → NodeFits node
      → IsOutline ts n (copied_of ts node) (outline_of outlines node)
  node_is outlines a (Leaf s) c h = bare_is (LeafBase s) tt
  node_is outlines a (Seq f g) c h =
      subst (λ b. IsOutline ts n (sequence (tree_at ts f) (tree_at ts g)) (bare_outline (SeqBase f g) b))
      (rw ((a.each f c.0).null, (a.each g c.1).null) refl) (bare_is (SeqBase f g) c)
  node_is outlines a (Alt f g) c h =
      subst (λ b. IsOutline ts n (union (tree_at ts f) (tree_at ts g)) (bare_outline (AltBase f g) b))
      (rw ((a.each f c.0).null, (a.each g c.1).null) refl) (bare_is (AltBase f g) c)
  node_is outlines a (Star f) c h = star_is f (tree_at ts f) (outline_at outlines f) c (a.each f c)
  node_is outlines a (Plus f) c h = plus_is f (tree_at ts f) (outline_at outlines f) c (a.each f c)
  node_is outlines a (Opt f) c h = optional_is f (tree_at ts f) (outline_at outlines f) c (a.each f c)
  node_is outlines a (Mark f y) c h = marked_is f (tree_at ts f) (outline_at outlines f) c (a.each f c) y h
  node_is outlines a (Repeat f m j) c h = repeated_is f m j (outline_at outlines f) c (a.each f c) h.0 (cases_lt 1 j)

-- The pass.

within_or_last : (n k : ℕ) → k < n + 1 → (k < n) ⊎ (n ≤ k) → (k < n) ⊎ (n ≡ k)
within_or_last n k h (inl lt) = inl lt
within_or_last n k h (inr le) = inr (omega arith)

module _ (ts : List Expr) (n : ℕ) (outlines : List Outline) (o : Outline) (a : AreOutlines ts n outlines) (is : IsOutline ts n (tree_at ts n) o) where
  more_at : (k : ℕ) → (k < n) ⊎ (n ≡ k) → IsOutline ts k (tree_at ts k) (outline_at (outlines ++ o ∷ []) k)
  more_at k (inl h) =
      subst (IsOutline ts k (tree_at ts k)) (sym (get_or_append_left outlines (o ∷ []) (bare_outline (LeafBase 0) false) k (omega (arith, a.size)))) (a.each k h)
  more_at k (inr h) =
      let here : outline_at (outlines ++ o ∷ []) k ≡ o =
      ap (outline_at (outlines ++ o ∷ [])) (sym h ∙ sym a.size) ∙ get_or-append_seam outlines o [] (bare_outline (LeafBase 0) false) in
      subst (IsOutline ts k (tree_at ts k)) (sym here) (subst (λ j. IsOutline ts j (tree_at ts j) o) h is)

  pub outlines_more : AreOutlines ts (n + 1) (outlines ++ o ∷ [])
  outlines_more = record {
    size = omega (arith, a.size, length-append outlines (o ∷ []));
    each = λ k h. more_at k (within_or_last n k h (cases_lt k n));
  }

pub outlines_next : (nodes : List ExprNode) (n : ℕ) (outlines : List Outline) (node : ExprNode) → AreFit nodes → slice_get nodes n ≡ Some node
    → AreOutlines (copied_trees nodes) n outlines → AreOutlines (copied_trees nodes) (n + 1) (outlines ++ outline_of outlines node ∷ [])
outlines_next nodes n outlines node fit e a =
    outlines_more (copied_trees nodes) n outlines (outline_of outlines node) a
    (subst (λ t. IsOutline (copied_trees nodes) n t (outline_of outlines node)) (sym (tree_is nodes fit n node e))
    (node_is (copied_trees nodes) n outlines a node (fit.ordered n node e) (fit.fits n node e)))

pub are_closed : (ts : List Expr) (outlines : List Outline) → AreOutlines ts (length outlines) outlines → AreClosed outlines
are_closed ts outlines a k h = (a.each k h).below

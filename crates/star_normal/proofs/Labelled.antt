-- The labels that tasks add.
use Rattle.std.proofs.Common.{◌≡◌, ◌∙◌, ℕ, zero, suc, ◌+◌, ◌-◌, ◌<◌, ◌≤◌, Bool, true, false, ◌&&◌, ◌||◌, ◌==◌, List, [], ◌∷◌, ◌++◌, map, refl, sym, ap, arith, append_assoc, append-nil}
use Rattle.std.proofs.lemmas.List.{map-append}
use Rattle.rx_lang.specs.Expression.{Expr, sequence, union}
use Rattle.rx_lang.specs.Copies.{copies}
use Rattle.rx_lang.specs.Tables.{tree_at}
use Rattle.star_normal.specs.declared.labelling.Task.{Task}
use Rattle.star_normal.specs.declared.node.Node.{Node}
use Rattle.star_normal.specs.declared.outlines.Base.{Base}
use Rattle.star_normal.specs.declared.outlines.Base.TheVariants.{Leaf as LeafBase, Seq as SeqBase, Alt as AltBase, Repeat as RepeatBase}
use Rattle.star_normal.specs.declared.outlines.Outline.{Outline}
use Rattle.star_normal.specs.declared.signs.Signs.{Signs}
use Rattle.star_normal.specs.Trees.{FlaggedTree}
use Rattle.star_normal.specs.Normal.{nullable, normal, sequenced}
use Rattle.star_normal.specs.Labels.{tree_labels, label_of}
use Rattle.star_normal.specs.Outlines.{outline_at, null_at, weight, BaseBelow, base_expr, IsOutline, AreOutlines}
use Rattle.star_normal.specs.Signs.{no_signs, kept, opted_signs, adding}
use Rattle.star_normal.specs.Tasks.{sequence_label, single, base_labels, base_tasks, inner_under, inner_signs, one_labels, one_tasks, task_labels, task_tasks, task_tree, waiting_labels, task_weight, waiting_weight, AreTasks}
use Rattle.star_normal.proofs.Signed.{adding_none, adding_merged, adding_opted}
use Rattle.star_normal.proofs.Copied.{nullable_copies}

-- Labels of trees with signs.

labels_sequenced : (s : Signs) (under f g : Bool) (l r : FlaggedTree) → tree_labels (adding s (sequenced under f g l r)) ≡ label_of (sequence_label s under f g) ∷ (tree_labels l ++ tree_labels r)
labels_sequenced s true true true l r = refl
labels_sequenced s true true false l r = refl
labels_sequenced s true false g l r = refl
labels_sequenced s false f g l r = refl

module _ (ts : List Expr) where
  pub single_labels : (k : ℕ) (under : Bool) → tree_labels (task_tree ts (single k under)) ≡ tree_labels (normal under (tree_at ts k))
  single_labels k under = ap tree_labels (adding_none (normal under (tree_at ts k)))

  pair_waits : (a b : Task) → waiting_labels ts (a ∷ b ∷ []) ≡ tree_labels (task_tree ts b) ++ tree_labels (task_tree ts a)
  pair_waits a b = refl

  -- The stack of tasks.

  pub waiting_append : (a b : List Task) → waiting_labels ts (a ++ b) ≡ waiting_labels ts b ++ waiting_labels ts a
  waiting_append [] b = sym (append-nil (waiting_labels ts b))
  waiting_append (t ∷ a) b = ap (λ l. l ++ tree_labels (task_tree ts t)) (waiting_append a b) ∙ append_assoc (waiting_labels ts b) (waiting_labels ts a) (tree_labels (task_tree ts t))

  pub weights_append : (a b : List Task) → waiting_weight ts (a ++ b) ≡ waiting_weight ts a + waiting_weight ts b
  weights_append [] b = omega arith
  weights_append (t ∷ a) b = omega (arith, weights_append a b)

pub tasks_append : (n : ℕ) (a b : List Task) → AreTasks n a → AreTasks n b → AreTasks n (a ++ b)
tasks_append n [] b h k = k
tasks_append n (t ∷ a) b h k = (h.0, tasks_append n a b h.1 k)

pub tasks_pop : (n : ℕ) (a : List Task) (t : Task) → AreTasks n (a ++ t ∷ []) → AreTasks n a × (t.node < n)
tasks_pop n [] t h = (tt, h.0)
tasks_pop n (s ∷ a) t h = let rest = tasks_pop n a t h.1 in ((h.0, rest.0), rest.1)

-- what a task adds, what it leaves to be added, and that this is less
pub record Steps (ts : List Expr) (n : ℕ) (tree : FlaggedTree) (w : ℕ) (put : List Node) (next : List Task) : Type 0 where
  pub same : map label_of put ++ waiting_labels ts next ≡ tree_labels tree
  pub less : waiting_weight ts next < w
  pub tasks : AreTasks n next

module _ (ts : List Expr) (n : ℕ) (outlines : List Outline) (a : AreOutlines ts n outlines) where
  null_is : (k : ℕ) → k < n → null_at outlines k ≡ nullable (tree_at ts k)
  null_is k h = (a.each k h).null

  -- What stands below signs.

  sequence_steps : (f g : ℕ) (under : Bool) (s : Signs) → f < n → g < n
      → Steps ts n (adding s (normal under (sequence (tree_at ts f) (tree_at ts g)))) (weight (sequence (tree_at ts f) (tree_at ts g)))
      (base_labels outlines (SeqBase f g) under s) (base_tasks outlines (SeqBase f g) under s)
  sequence_steps f g under s fl gl = record {
    same =
        rw (null_is f fl, null_is g gl, single_labels ts f (under && nullable (tree_at ts g)), single_labels ts g (under && nullable (tree_at ts f)))
        (sym (labels_sequenced s under (nullable (tree_at ts f)) (nullable (tree_at ts g)) (normal (under && nullable (tree_at ts g)) (tree_at ts f)) (normal (under && nullable (tree_at ts f)) (tree_at ts g))));
    less = omega arith;
    tasks = (gl, (fl, tt));
  }

  union_steps : (f g : ℕ) (under : Bool) (s : Signs) → f < n → g < n
      → Steps ts n (adding s (normal under (union (tree_at ts f) (tree_at ts g)))) (weight (union (tree_at ts f) (tree_at ts g)))
      (base_labels outlines (AltBase f g) under s) (base_tasks outlines (AltBase f g) under s)
  union_steps f g under s fl gl = record {
    same = rw (null_is f fl, null_is g gl, single_labels ts f under, single_labels ts g under) refl;
    less = omega arith;
    tasks = (gl, (fl, tt));
  }

  base_steps : (base : Base) (under : Bool) (s : Signs) → BaseBelow n base
      → Steps ts n (adding s (normal under (base_expr ts base))) (weight (base_expr ts base) + 1) (base_labels outlines base under s) (base_tasks outlines base under s)
  base_steps (LeafBase x) under s h = record { same = refl; less = omega arith; tasks = tt }
  base_steps (SeqBase f g) under s h = let r = sequence_steps f g under s h.0 h.1 in record { same = r.same; less = omega (arith, r.less); tasks = r.tasks }
  base_steps (AltBase f g) under s h = let r = union_steps f g under s h.0 h.1 in record { same = r.same; less = omega (arith, r.less); tasks = r.tasks }
  base_steps (RepeatBase f m j) under s h = record { same = refl; less = repeat_less m j h.1; tasks = (h.0, tt) }
    where
      repeat_less : (m j : ℕ) → 1 ≤ j → waiting_weight ts (base_tasks outlines (RepeatBase f m j) under s) < weight (copies m j (tree_at ts f)) + 1
      repeat_less zero j some = omega arith
      repeat_less (suc m) zero some = absurd (omega arith)
      repeat_less (suc m) (suc j) some = omega arith

  -- One copy.

  one_steps : (t : Task) → t.node < n → Steps ts n (adding t.signs (normal t.under (tree_at ts t.node))) (weight (tree_at ts t.node) + 1) (one_labels outlines t) (one_tasks outlines t)
  one_steps t h =
      let o : Outline = outline_at outlines t.node in
      let is : IsOutline ts t.node (tree_at ts t.node) o = a.each t.node h in
      let r = base_steps o.base (inner_under outlines t) (inner_signs outlines t) (base_more o.base is.below) in
      let tree : adding (inner_signs outlines t) (normal (inner_under outlines t) (base_expr ts o.base)) ≡ adding t.signs (normal t.under (tree_at ts t.node)) =
      sym (ap (adding t.signs) (is.same t.under) ∙ adding_merged t.signs (kept t.under o.signs) (normal (inner_under outlines t) (base_expr ts o.base))) in
      record { same = r.same ∙ ap tree_labels tree; less = let l = r.less in let m = is.light in omega (arith, l, m); tasks = r.tasks }
    where
      base_more : (base : Base) → BaseBelow t.node base → BaseBelow n base
      base_more (LeafBase s) b = tt
      base_more (SeqBase f g) b = (omega (arith, b.0, h), omega (arith, b.1, h))
      base_more (AltBase f g) b = (omega (arith, b.0, h), omega (arith, b.1, h))
      base_more (RepeatBase f m j) b = (omega (arith, b.0, h), b.1)

  -- The first copy before the others.

  rest_null : (m j k : ℕ) → k < n → nullable (copies m j (tree_at ts k)) ≡ (m == 0 || null_at outlines k)
  rest_null m j k h = nullable_copies m j (tree_at ts k) ∙ ap (λ b. m == 0 || b) (sym (null_is k h))

  copy_steps : (k m j : ℕ) (under : Bool) (s : Signs) → k < n
      → Steps ts n (adding s (normal under (sequence (tree_at ts k) (copies m j (tree_at ts k))))) (weight (sequence (tree_at ts k) (copies m j (tree_at ts k))))
      (sequence_label s under (null_at outlines k) (m == 0 || null_at outlines k) ∷ [])
      (record { node = k; least = m; more = j; under = under && null_at outlines k; signs = no_signs } ∷ single k (under && (m == 0 || null_at outlines k)) ∷ [])
  copy_steps k m j under s h = record {
    same =
        rw (
          single_labels ts k (under && (m == 0 || null_at outlines k)),
          ap tree_labels (adding_none (normal (under && null_at outlines k) (copies m j (tree_at ts k)))),
          sym (null_is k h),
          rest_null m j k h,
        )
        (sym (labels_sequenced s under (null_at outlines k) (m == 0 || null_at outlines k) (normal (under && (m == 0 || null_at outlines k)) (tree_at ts k)) (normal (under && null_at outlines k) (copies m j (tree_at ts k)))));
    less = copy_less m j;
    tasks = (h, (h, tt));
  }
    where
      copy_less : (m j : ℕ) → waiting_weight ts (record { node = k; least = m; more = j; under = under && null_at outlines k; signs = no_signs } ∷ single k (under && (m == 0 || null_at outlines k)) ∷ [])
          < weight (sequence (tree_at ts k) (copies m j (tree_at ts k)))
      copy_less zero j = omega arith
      copy_less (suc m) zero = omega arith
      copy_less (suc m) (suc j) = omega arith

  -- Any task, by how many copies there are.

  task_by : (k m j : ℕ) (under : Bool) (s : Signs) → k < n → (t : Task) → t ≡ record { node = k; least = m; more = j; under = under; signs = s }
      → Steps ts n (task_tree ts t) (task_weight ts t) (task_labels outlines t) (task_tasks outlines t)
  task_by k zero zero under s h t e =
      let r = one_steps (record { node = k; least = 0; more = 0; under = under; signs = opted_signs under s }) h in
      rw e (record { same = r.same ∙ ap tree_labels (sym (adding_opted under s (normal under (tree_at ts k)))); less = let l = r.less in omega (arith, l); tasks = r.tasks })
  task_by k (suc m) zero under s h t e =
      let test : (suc m == 0) ≡ false = grind arith in
      let r = one_steps (record { node = k; least = suc m; more = 0; under = under; signs = s }) h in
      rw (e, test) (record { same = r.same; less = let l = r.less in omega (arith, l); tasks = r.tasks })
  task_by k zero (suc j) under s h t e =
      let test : (suc j == 0) ≡ false = grind arith in
      let less : suc j - 1 ≡ j = omega arith in
      let none : 0 - 1 ≡ 0 = omega arith in
      let r = copy_steps k 0 j under (opted_signs under s) h in
      rw (e, test, less, none) (record {
        same = r.same ∙ ap tree_labels (sym (adding_opted under s (normal under (sequence (tree_at ts k) (copies 0 j (tree_at ts k))))));
        less = let l = r.less in omega (arith, l);
        tasks = r.tasks;
      })
  task_by k (suc m) (suc j) under s h t e =
      let test : (suc j == 0) ≡ false = grind arith in
      let some : (suc m == 0) ≡ false = grind arith in
      let less : suc j - 1 ≡ j = omega arith in
      let fewer : suc m - 1 ≡ m = omega arith in
      let r = copy_steps k m j under s h in
      rw (e, test, some, less, fewer) (record { same = r.same; less = let l = r.less in omega (arith, l); tasks = r.tasks })

  pub task_steps : (t : Task) → t.node < n → Steps ts n (task_tree ts t) (task_weight ts t) (task_labels outlines t) (task_tasks outlines t)
  task_steps t h = task_by t.node t.least t.more t.under t.signs h t refl

  -- the labels and what waits, when a task is done
  pub put_same : (done : List Node) (rest : List Task) (t : Task) → t.node < n
      → map label_of (done ++ task_labels outlines t) ++ waiting_labels ts (rest ++ task_tasks outlines t) ≡ map label_of done ++ waiting_labels ts (rest ++ t ∷ [])
  put_same done rest t h =
      rw (map-append label_of done (task_labels outlines t), waiting_append ts rest (task_tasks outlines t), waiting_append ts rest (t ∷ []))
      (append_assoc (map label_of done) (map label_of (task_labels outlines t)) (waiting_labels ts (task_tasks outlines t) ++ waiting_labels ts rest)
      ∙ ap (λ l. map label_of done ++ l) (sym (append_assoc (map label_of (task_labels outlines t)) (waiting_labels ts (task_tasks outlines t)) (waiting_labels ts rest))
      ∙ ap (λ l. l ++ waiting_labels ts rest) (task_steps t h).same))

  pub put_less : (rest : List Task) (t : Task) → t.node < n → waiting_weight ts (rest ++ task_tasks outlines t) < waiting_weight ts (rest ++ t ∷ [])
  put_less rest t h = let l = (task_steps t h).less in omega (arith, weights_append ts rest (task_tasks outlines t), weights_append ts rest (t ∷ []), l)

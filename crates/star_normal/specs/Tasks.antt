-- The steps in which the labels of normal forms are made.
use Rattle.std.specs.Prelude.{ℕ, zero, suc, ◌+◌, ◌-◌, ◌<◌, Bool, true, false, not, ◌&&◌, ◌||◌, ◌==◌, if◌then◌else◌, List, [], ◌∷◌, ◌++◌, ⊤}
use Rattle.rx_lang.specs.Expression.{Expr}
use Rattle.rx_lang.specs.Copies.{copies}
use Rattle.rx_lang.specs.Tables.{tree_at}
use Rattle.star_normal.specs.declared.labelling.Task.{Task}
use Rattle.star_normal.specs.declared.node.Node.{Node}
use Rattle.star_normal.specs.declared.node.NodeKind.{NodeKind}
use Rattle.star_normal.specs.declared.node.NodeKind.TheVariants.{Leaf, Seq, Alt}
use Rattle.star_normal.specs.declared.outlines.Base.{Base}
use Rattle.star_normal.specs.declared.outlines.Base.TheVariants.{Leaf as LeafBase, Seq as SeqBase, Alt as AltBase, Repeat as RepeatBase}
use Rattle.star_normal.specs.declared.outlines.Outline.{Outline}
use Rattle.star_normal.specs.declared.signs.Signs.{Signs}
use Rattle.star_normal.specs.Trees.{FlaggedTree}
use Rattle.star_normal.specs.Normal.{normal}
use Rattle.star_normal.specs.Labels.{Label, tree_labels}
use Rattle.star_normal.specs.Outlines.{outline_at, null_at, weight}
use Rattle.star_normal.specs.Signs.{no_signs, kept, merged, opted_signs, adding}

-- a node with these signs that spells the empty word or not
abbrev pub label : NodeKind → Signs → Bool → Node
label kind s e = record { kind = kind; loops = s.loops; eps = e || s.eps; scan = false; marks = s.marks; eps_marks = s.eps_marks }

abbrev pub sequence_shape : Bool → NodeKind
sequence_shape true = Alt 0 0
sequence_shape false = Seq 0 0

-- a sequence, below a loop or not, from whether its parts spell the empty word
abbrev pub sequence_label : Signs → Bool → Bool → Bool → Node
sequence_label s under f g = label (sequence_shape (under && (f && g))) s (not under && (f && g))

-- one copy of an expression without signs
abbrev pub single : ℕ → Bool → Task
single node under = record { node = node; least = 1; more = 0; under = under; signs = no_signs }

-- the task with the sign of an option, where it may be passed over
abbrev pub signed : Task → Task
signed t =
    if t.least == 0
    then record { node = t.node; least = t.least; more = t.more; under = t.under; signs = opted_signs t.under t.signs } else t

module _ (outlines : List Outline) where
  -- the first copy and those behind it

  abbrev pub rest_nullable : Task → Bool
  rest_nullable t = t.least - 1 == 0 || null_at outlines t.node

  abbrev pub copy_label : Task → Node
  copy_label t = sequence_label t.signs t.under (null_at outlines t.node) (rest_nullable t)

  abbrev pub copy_tasks : Task → List Task
  copy_tasks t =
      record { node = t.node; least = t.least - 1; more = t.more - 1; under = t.under && null_at outlines t.node; signs = no_signs }
      ∷ single t.node (t.under && rest_nullable t) ∷ []

  -- one copy

  abbrev pub base_labels : Base → Bool → Signs → List Node
  base_labels (LeafBase s) under signs = label (Leaf s) signs false ∷ []
  base_labels (SeqBase f g) under signs = sequence_label signs under (null_at outlines f) (null_at outlines g) ∷ []
  base_labels (AltBase f g) under signs = label (Alt 0 0) signs (not under && (null_at outlines f || null_at outlines g)) ∷ []
  base_labels (RepeatBase f m n) under signs = []

  abbrev pub base_tasks : Base → Bool → Signs → List Task
  base_tasks (LeafBase s) under signs = []
  base_tasks (SeqBase f g) under signs = single g (under && null_at outlines f) ∷ single f (under && null_at outlines g) ∷ []
  base_tasks (AltBase f g) under signs = single g under ∷ single f under ∷ []
  base_tasks (RepeatBase f m n) under signs = record { node = f; least = m; more = n; under = under; signs = signs } ∷ []

  abbrev pub inner_under : Task → Bool
  inner_under t = t.under || (outline_at outlines t.node).signs.loops

  abbrev pub inner_signs : Task → Signs
  inner_signs t = merged (kept t.under (outline_at outlines t.node).signs) t.signs

  abbrev pub one_labels : Task → List Node
  one_labels t = base_labels (outline_at outlines t.node).base (inner_under t) (inner_signs t)

  abbrev pub one_tasks : Task → List Task
  one_tasks t = base_tasks (outline_at outlines t.node).base (inner_under t) (inner_signs t)

  -- any task

  abbrev pub task_labels : Task → List Node
  task_labels t = if t.more == 0 then one_labels (signed t) else copy_label (signed t) ∷ []

  abbrev pub task_tasks : Task → List Task
  task_tasks t = if t.more == 0 then one_tasks (signed t) else copy_tasks (signed t)

-- what the tasks are

module _ (ts : List Expr) where
  abbrev pub task_expr : Task → Expr
  task_expr t = copies t.least t.more (tree_at ts t.node)

  -- the tree whose labels the task adds
  abbrev pub task_tree : Task → FlaggedTree
  task_tree t = adding t.signs (normal t.under (task_expr t))

  -- the labels that wait, those of the last task first
  abbrev pub waiting_labels : List Task → List Label
  waiting_labels [] = []
  waiting_labels (t ∷ tasks) = waiting_labels tasks ++ tree_labels (task_tree t)

  -- one copy is heavier than its expression, so that a repeat falls where it becomes copies
  abbrev pub one_more : ℕ → ℕ → ℕ
  one_more zero n = 0
  one_more (suc m) zero = 1
  one_more (suc m) (suc n) = 0

  abbrev pub task_weight : Task → ℕ
  task_weight t = weight (task_expr t) + one_more t.least t.more

  abbrev pub waiting_weight : List Task → ℕ
  waiting_weight [] = 0
  waiting_weight (t ∷ tasks) = waiting_weight tasks + task_weight t

-- the expressions of the tasks have numbers below this one
abbrev pub AreTasks : ℕ → List Task → Type 0
AreTasks n [] = ⊤
AreTasks n (t ∷ tasks) = (t.node < n) × AreTasks n tasks

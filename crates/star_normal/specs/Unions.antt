-- The labels of statements.
use Rattle.std.specs.Prelude.{◌≡◌, ℕ, suc, zero, ◌<◌, Bool, true, false, ◌||◌, List, [], ◌∷◌, length, slice_index_or, take, All}
use Rattle.std.specs.List.{list_any}
use Rattle.rx_lang.specs.Expression.{Expr}
use Rattle.star_normal.specs.declared.node.Node.{Node}
use Rattle.star_normal.specs.declared.node.NodeKind.TheVariants.{Alt}
use Rattle.star_normal.specs.declared.outlines.Outline.{Outline}
use Rattle.star_normal.specs.Normal.{nullable, held, united, union_of, normal, scanned}
use Rattle.star_normal.specs.Labels.{Label, alt_label, tree_labels}
use Rattle.star_normal.specs.Outlines.{null_at}
use Rattle.star_normal.specs.Signs.{no_signs}
use Rattle.star_normal.specs.Tasks.{label}

-- the expressions with these numbers
abbrev pub AreRoots : List Outline → List ℕ → Type 0
AreRoots outlines roots = All (λ root. root < length outlines) roots

-- some of the expressions with these numbers spells the empty word
abbrev pub some_null : List Outline → List ℕ → Bool
some_null outlines roots = list_any (λ root. null_at outlines root) roots

-- the labels of the unions of the first j + 1 expressions, of the first j, and so on to that of the first two
abbrev pub union_labels : List Expr → ℕ → List Label
union_labels es zero = []
union_labels es (suc j) = alt_label (held (nullable (union_of (take (suc (suc j)) es)))) ∷ union_labels es j

-- the labels of a union, where there is one
abbrev pub part_labels : List Expr → List Label
part_labels [] = []
part_labels (e ∷ es) = tree_labels (normal false (united e es))

abbrev pub scan_labels : List Expr → List Label
scan_labels [] = []
scan_labels (e ∷ es) = tree_labels (scanned (normal false (united e es)))

-- the node, whose words may begin at any time
abbrev pub scan_node : Node → Node
scan_node x = record { kind = x.kind; loops = x.loops; eps = x.eps; scan = true; marks = x.marks; eps_marks = x.eps_marks }

-- the label of a root above both kinds of statements
abbrev pub top_labels : List Outline → List ℕ → List ℕ → List Node
top_labels outlines [] scans = []
top_labels outlines (e ∷ es) [] = []
top_labels outlines (e ∷ es) (s ∷ ss) = label (Alt 0 0) no_signs (some_null outlines (e ∷ es) || some_null outlines (s ∷ ss)) ∷ []

-- for each of the first n roots, whether it or one before it spells the empty word
pub record AreFronts (outlines : List Outline) (roots : List ℕ) (n : ℕ) (fronts : List Bool) : Type 0 where
  pub size : length fronts ≡ n
  pub each : (k : ℕ) → k < n → slice_index_or fronts k false ≡ some_null outlines (take (suc k) roots)

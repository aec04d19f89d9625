-- Expressions in a table of nodes, piled up: what stays true of them.
use Rattle.std.specs.Prelude.{◌≡◌, ℕ, ◌+◌, ◌*◌, ◌<◌, ◌≤◌, ◌==◌, List, length, map, flat_map, count_by, slice_get, Some, All, ⊤, if◌then◌else◌}
use Rattle.rx_lang.specs.declared.expr_node.ExprNode.{ExprNode}
use Rattle.rx_lang.specs.declared.expr_node.ExprNode.TheVariants.{Leaf, Seq, Alt, Star, Plus, Opt, Mark, Repeat}
use Rattle.rx_lang.specs.Expression.{Expr, star, plus, optional, marked}
use Rattle.rx_lang.specs.Tables.{children, tree_at, trees}
use Rattle.rx_lang.specs.Copies.{occurrences}
use Rattle.demo_spec.specs.Generator.{Making}
use Rattle.demo_spec.specs.declared.sign.Sign.{Sign}
use Rattle.demo_spec.specs.declared.sign.Sign.TheVariants as sign

-- the node of a sign over an expression
abbrev pub sign_node : Sign → ℕ → ExprNode
sign_node sign.Star n = Star n
sign_node sign.Plus n = Plus n
sign_node sign.Optional n = Opt n
sign_node (sign.Marked y) n = Mark n y

-- the node of two expressions as one, in sequence at 0
abbrev pub join_node : ℕ → ℕ → ℕ → ExprNode
join_node draw left right = if draw == 0 then Seq left right else Alt left right

-- the expression with a sign
abbrev pub signed : Sign → Expr → Expr
signed sign.Star e = star e
signed sign.Plus e = plus e
signed sign.Optional e = optional e
signed (sign.Marked y) e = marked e y

-- The sign is no mark of another than the two outputs.
abbrev pub IsDeclared : Sign → Type 0
IsDeclared sign.Star = ⊤
IsDeclared sign.Plus = ⊤
IsDeclared sign.Optional = ⊤
IsDeclared (sign.Marked y) = y < 2

-- how many symbols the expressions have
abbrev pub leaf_count : List Expr → ℕ
leaf_count es = length (flat_map occurrences es)

-- The node names one of four symbols or of two outputs, and is no counted repeat.
abbrev pub IsPlainNode : ExprNode → Type 0
IsPlainNode (Leaf s) = s < 4
IsPlainNode (Seq f g) = ⊤
IsPlainNode (Alt f g) = ⊤
IsPlainNode (Star f) = ⊤
IsPlainNode (Plus f) = ⊤
IsPlainNode (Opt f) = ⊤
IsPlainNode (Mark f y) = y < 2
IsPlainNode (Repeat f m n) = ⊥

-- the expressions of the nodes with these numbers
abbrev pub piled : List ExprNode → List ℕ → List Expr
piled nodes numbers = map (tree_at (trees nodes)) numbers

-- how often a node is the child of another, or on the pile
abbrev pub uses_of : List ExprNode → List ℕ → ℕ → ℕ
uses_of nodes numbers k = count_by (λ x. x == k) (flat_map children nodes) + count_by (λ x. x == k) numbers

-- Each node of the table is used once, as a child of a later node or as a number on the pile, and no other number is used.
pub record IsPile (nodes : List ExprNode) (numbers : List ℕ) : Type 0 where
  pub plain : All IsPlainNode nodes
  pub before : (k : ℕ) (node : ExprNode) → slice_get nodes k ≡ Some node → All (λ child. child < k) (children node)
  pub below : All (λ number. number < length nodes) numbers
  pub once : (k : ℕ) → k < length nodes → uses_of nodes numbers k ≡ 1
  pub never : (k : ℕ) → length nodes ≤ k → uses_of nodes numbers k ≡ 0

-- the nodes of a table, and the numbers of those on the pile, the top first
pub record Piled : Type 0 where
  pub nodes : List ExprNode
  pub numbers : List ℕ

-- the expressions on the pile, the top first
abbrev pub stack_of : Piled → List Expr
stack_of pile = piled pile.nodes pile.numbers

-- There are at most 4096 symbols, and at most four nodes for each, two of which are still to come for each further expression.
pub record IsSmall (pile : Piled) : Type 0 where
  pub few_leaves : leaf_count (stack_of pile) ≤ 4096
  pub few_nodes : length pile.nodes + 2 * length pile.numbers ≤ 4 * leaf_count (stack_of pile)

-- a seed, and the pile that draws have made
pub record Made : Type 0 where
  pub seed : ℕ
  pub pile : Piled

-- the seed and the expressions
abbrev pub making : Made → Making
making made = record { seed = made.seed; stack = stack_of made.pile }

-- Nodes of expressions as the tokens are read: a table that grows, and what is open in it.
use Rattle.std.specs.Prelude.{◌≡◌, ℕ, min, Bool, true, false, not, ⊤, List, [], ◌∷◌, ◌++◌, Option, Some, None, length}
use Rattle.std.specs.List.{list_all}
use Rattle.std.specs.Str.Parse.{digits_value}
use Rattle.rx_text.specs.NumberInText.{is_digit}
use Rattle.rx_lang.specs.declared.expr_node.ExprNode.{ExprNode}
use Rattle.rx_lang.specs.declared.expr_node.ExprNode.TheVariants.{Leaf, Seq, Alt, Star, Plus, Opt, Mark, Repeat}
use Rattle.rx_syntax.specs.declared.kind.Kind.{Kind}
use Rattle.rx_syntax.specs.declared.kind.Kind.TheVariants as kind
use Rattle.rx_syntax.specs.declared.machine.Due.{Due}
use Rattle.rx_syntax.specs.declared.machine.Due.TheVariants.{NextOutput, Part, Rest, MarkName, ClassName, ClassNames, Least, Most, BoundsEnd, NextExpr}
use Rattle.rx_syntax.specs.declared.node_table.Join.{Join}
use Rattle.rx_syntax.specs.declared.node_table.Join.TheVariants.{Sequence, Union}
use Rattle.rx_syntax.specs.declared.node_table.Sign.{Sign}
use Rattle.rx_syntax.specs.declared.node_table.Sign.TheVariants as sign
use Rattle.rx_syntax.specs.declared.group.Group.{Group}
use Rattle.rx_syntax.specs.NameTables.{NameTables, names_of}
use Rattle.rx_syntax.specs.Uses.{is_among}
use Rattle.rx_syntax.specs.Accepted.{number_in}

abbrev pub join_node : Join → ℕ → ℕ → ExprNode
join_node Sequence a b = Seq a b
join_node Union a b = Alt a b

abbrev pub sign_node : Sign → ℕ → ExprNode
sign_node sign.Star a = Star a
sign_node sign.Plus a = Plus a
sign_node sign.Optional a = Opt a
sign_node (sign.Marked y) a = Mark a y
sign_node (sign.Counted m n) a = Repeat a m n

-- a table, and the node of an expression in it, where there is one
pub record Grown : Type 0 where
  pub nodes : List ExprNode
  pub part : Option ℕ

-- one expression and another as one, where both are there
abbrev pub joined : Join → List ExprNode → Option ℕ → Option ℕ → Grown
joined join nodes None second = record { nodes = nodes; part = second }
joined join nodes (Some a) None = record { nodes = nodes; part = Some a }
joined join nodes (Some a) (Some b) = record { nodes = nodes ++ (join_node join a b ∷ []); part = Some (length nodes) }

-- an expression with a sign
abbrev pub signed : Sign → List ExprNode → Option ℕ → Grown
signed sign nodes None = record { nodes = nodes; part = None }
signed sign nodes (Some a) = record { nodes = nodes ++ (sign_node sign a ∷ []); part = Some (length nodes) }

abbrev pub empty_group : Group
empty_group = record { union_before = None; sequence_before = None; last = None }

-- the sequence behind the last bar of a group
abbrev pub chain : List ExprNode → Group → Grown
chain nodes group = joined Sequence nodes group.sequence_before group.last

-- the expression of a group
abbrev pub whole : List ExprNode → Group → Grown
whole nodes group = joined Union (chain nodes group).nodes group.union_before (chain nodes group).part

-- The table, the roots of the `expr` and `scan` statements that have ended, whether the last statement scans, the last least
-- and most number of a counted repeat, the group that is open, and those round it, the innermost first.
pub record NodesRead : Type 0 where
  pub nodes : List ExprNode
  pub exprs : List ℕ
  pub scans : List ℕ
  pub is_scan : Bool
  pub least : ℕ
  pub most : ℕ
  pub group : Group
  pub outer : List Group

abbrev pub no_nodes : NodesRead
no_nodes = record { nodes = []; exprs = []; scans = []; is_scan = false; least = 0; most = 0; group = empty_group; outer = [] }

-- a statement begins
abbrev pub with_keyword : Bool → NodesRead → NodesRead
with_keyword is_scan r = record r { is_scan = is_scan }

-- the symbol with this number as a further part
abbrev pub with_leaf : ℕ → NodesRead → NodesRead
with_leaf s r = record r {
  nodes = (chain r.nodes r.group).nodes ++ (Leaf s ∷ []);
  group = record {
    union_before = r.group.union_before;
    sequence_before = (chain r.nodes r.group).part;
    last = Some (length (chain r.nodes r.group).nodes);
  };
}

-- a parenthesis or bracket opens
abbrev pub with_group : NodesRead → NodesRead
with_group r = record r { group = empty_group; outer = r.group ∷ r.outer }

-- The group is a further part of the one round it.
abbrev pub within : Group → List Group → NodesRead → NodesRead
within group groups r = record r {
  nodes = (chain (whole r.nodes r.group).nodes group).nodes;
  group = record {
    union_before = group.union_before;
    sequence_before = (chain (whole r.nodes r.group).nodes group).part;
    last = (whole r.nodes r.group).part;
  };
  outer = groups;
}

-- a parenthesis or bracket closes
abbrev pub closed_in : List Group → NodesRead → NodesRead
closed_in [] r = r
closed_in (group ∷ groups) r = within group groups r

abbrev pub with_sign : Sign → NodesRead → NodesRead
with_sign sign r = record r {
  nodes = (signed sign r.nodes r.group.last).nodes;
  group = record {
    union_before = r.group.union_before;
    sequence_before = r.group.sequence_before;
    last = (signed sign r.nodes r.group.last).part;
  };
}

abbrev pub with_bar : NodesRead → NodesRead
with_bar r = record r {
  nodes = (whole r.nodes r.group).nodes;
  group = record { union_before = (whole r.nodes r.group).part; sequence_before = None; last = None };
}

-- the symbol with this number as a further name of a class
abbrev pub with_name : ℕ → NodesRead → NodesRead
with_name s r = with_leaf s (with_bar r)

-- the root as a further one, where it is of these
abbrev pub with_root : Bool → Option ℕ → List ℕ → List ℕ
with_root false root roots = roots
with_root true None roots = roots
with_root true (Some root) roots = roots ++ (root ∷ [])

-- a statement ends
abbrev pub with_statement : NodesRead → NodesRead
with_statement r = record r {
  nodes = (whole r.nodes r.group).nodes;
  exprs = with_root (not r.is_scan) (whole r.nodes r.group).part r.exprs;
  scans = with_root r.is_scan (whole r.nodes r.group).part r.scans;
  group = empty_group;
}

-- the number that the digits write, or 255 where that is less
abbrev pub capped : List ℕ → ℕ
capped digits = min (digits_value 10 digits) 255

abbrev pub with_least : ℕ → NodesRead → NodesRead
with_least least r = record r { least = least }

abbrev pub with_most : ℕ → NodesRead → NodesRead
with_most most r = record r { most = most }

-- what a token with these bytes adds, by what was due and the numbers of the symbols and outputs
abbrev pub read_on : (List ℕ → ℕ) → (List ℕ → ℕ) → Due → Kind → List ℕ → NodesRead → NodesRead
read_on symbol output NextOutput kind.Expr word r = with_keyword false r
read_on symbol output NextOutput kind.Scan word r = with_keyword true r
read_on symbol output NextExpr kind.Expr word r = with_keyword false r
read_on symbol output NextExpr kind.Scan word r = with_keyword true r
read_on symbol output Part kind.Name word r = with_leaf (symbol word) r
read_on symbol output Part kind.Open word r = with_group r
read_on symbol output Part kind.OpenBracket word r = with_group r
read_on symbol output Rest kind.Name word r = with_leaf (symbol word) r
read_on symbol output Rest kind.Open word r = with_group r
read_on symbol output Rest kind.OpenBracket word r = with_group r
read_on symbol output Rest kind.Close word r = closed_in r.outer r
read_on symbol output Rest kind.Bar word r = with_bar r
read_on symbol output Rest kind.Star word r = with_sign sign.Star r
read_on symbol output Rest kind.Plus word r = with_sign sign.Plus r
read_on symbol output Rest kind.Question word r = with_sign sign.Optional r
read_on symbol output Rest kind.Semicolon word r = with_statement r
read_on symbol output MarkName kind.Name word r = with_sign (sign.Marked (output word)) r
read_on symbol output ClassName kind.Name word r = with_leaf (symbol word) r
read_on symbol output ClassNames kind.Name word r = with_name (symbol word) r
read_on symbol output ClassNames kind.CloseBracket word r = closed_in r.outer r
read_on symbol output Least kind.Bits word r = with_least (capped word) r
read_on symbol output Least kind.Number word r = with_least (capped word) r
read_on symbol output Most kind.Bits word r = with_most (capped word) r
read_on symbol output Most kind.Number word r = with_most (capped word) r
read_on symbol output BoundsEnd kind.CloseBrace word r = with_sign (sign.Counted r.least r.most) r
read_on symbol output due kind word r = r

abbrev pub AreDigits : List ℕ → Type 0
AreDigits word = list_all is_digit word ≡ true

-- The name of a symbol or output that the token is, if it is one, is declared, and a number has only digits.
abbrev pub IsKnown : NameTables → Due → Kind → List ℕ → Type 0
IsKnown tables Part kind.Name word = is_among word (names_of tables.symbols) ≡ true
IsKnown tables Rest kind.Name word = is_among word (names_of tables.symbols) ≡ true
IsKnown tables MarkName kind.Name word = is_among word tables.outputs ≡ true
IsKnown tables ClassName kind.Name word = is_among word (names_of tables.symbols) ≡ true
IsKnown tables ClassNames kind.Name word = is_among word (names_of tables.symbols) ≡ true
IsKnown tables Least kind.Bits word = AreDigits word
IsKnown tables Least kind.Number word = AreDigits word
IsKnown tables Most kind.Bits word = AreDigits word
IsKnown tables Most kind.Number word = AreDigits word
IsKnown tables due kind word = ⊤

-- what a token adds, by what was due and the names that are declared
abbrev pub token_on : NameTables → Due → Kind → List ℕ → NodesRead → NodesRead
token_on tables due kind word r = read_on (number_in (names_of tables.symbols)) (number_in tables.outputs) due kind word r

-- what a piece of the text adds: blanks and comments add nothing
abbrev pub piece_on : NameTables → Due → Option Kind → List ℕ → NodesRead → NodesRead
piece_on tables due None word r = r
piece_on tables due (Some kind) word r = token_on tables due kind word r

abbrev pub IsKnownPiece : NameTables → Due → Option Kind → List ℕ → Type 0
IsKnownPiece tables due None word = ⊤
IsKnownPiece tables due (Some kind) word = IsKnown tables due kind word

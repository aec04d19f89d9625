-- The uses of names in a specification, in the order of the text, and the first of them that is at fault.
use Rattle.std.specs.Prelude.{ℕ, suc, ◌+◌, ◌-◌, ◌*◌, ◌==◌, ◌||◌, ◌&&◌, nat_le, if◌then◌else◌, Bool, List, [], ◌∷◌, ◌++◌, Option, Some, None, length, bytes_eq}
use Rattle.std.specs.List.{list_any}
use Rattle.std.specs.Str.Parse.{digits_value}
use Rattle.rx_syntax.specs.Lexemes.{Lexeme, word_of}
use Rattle.rx_syntax.specs.Grammar.{Tree, leaf, union, sequence, star, plus, optional, marked, counted, SymbolTokens, StatementTree, Syntax}
use Rattle.rx_syntax.specs.declared.spec_code.SpecCode.{SpecCode}
use Rattle.rx_syntax.specs.declared.spec_code.SpecCode.TheVariants.{S3, S4, S5, S10, S11, S12, S13, S15}

-- the name of a line, symbol or output where it is declared, a pattern, a symbol in an expression, an output at a mark; of a
-- counted repeat its least number, its most behind the least, and its `}` with the symbols that it adds
pub data Use : Type 0 where
  line_use : Lexeme → Use
  symbol_use : Lexeme → Use
  pattern_use : Lexeme → Use
  output_use : Lexeme → Use
  leaf_use : Lexeme → Use
  mark_use : Lexeme → Use
  least_use : Lexeme → Use
  most_use : Lexeme → Lexeme → Use
  copies_use : Lexeme → ℕ → Use

-- the number that a run of digits writes
abbrev pub number_of : List ℕ → Lexeme → ℕ
number_of text t = digits_value 10 (word_of text t)

-- how many symbols an expression has, one under a counted repeat once for each copy
abbrev pub tree_leaves : List ℕ → Tree → ℕ
tree_leaves text (leaf t) = 1
tree_leaves text (union e f) = tree_leaves text e + tree_leaves text f
tree_leaves text (sequence e f) = tree_leaves text e + tree_leaves text f
tree_leaves text (star e) = tree_leaves text e
tree_leaves text (plus e) = tree_leaves text e
tree_leaves text (optional e) = tree_leaves text e
tree_leaves text (marked e t) = tree_leaves text e
tree_leaves text (counted e least most c) = number_of text most * tree_leaves text e

-- the uses in an expression, from left to right
abbrev pub tree_uses : List ℕ → Tree → List Use
tree_uses text (leaf t) = leaf_use t ∷ []
tree_uses text (union e f) = tree_uses text e ++ tree_uses text f
tree_uses text (sequence e f) = tree_uses text e ++ tree_uses text f
tree_uses text (star e) = tree_uses text e
tree_uses text (plus e) = tree_uses text e
tree_uses text (optional e) = tree_uses text e
tree_uses text (marked e t) = tree_uses text e ++ (mark_use t ∷ [])
tree_uses text (counted e least most c) =
    tree_uses text e ++ (least_use least ∷ most_use least most ∷ copies_use c ((number_of text most - 1) * tree_leaves text e) ∷ [])

abbrev pub line_uses : List Lexeme → List Use
line_uses [] = []
line_uses (t ∷ ts) = line_use t ∷ line_uses ts

abbrev pub symbol_uses : List SymbolTokens → List Use
symbol_uses [] = []
symbol_uses (s ∷ ss) = symbol_use s.name ∷ pattern_use s.pattern ∷ symbol_uses ss

abbrev pub output_uses : List Lexeme → List Use
output_uses [] = []
output_uses (t ∷ ts) = output_use t ∷ output_uses ts

abbrev pub expr_uses : List ℕ → List StatementTree → List Use
expr_uses text [] = []
expr_uses text (s ∷ ss) = tree_uses text s.tree ++ expr_uses text ss

-- the uses in a specification, in the order of the text
abbrev pub syntax_uses : List ℕ → Syntax → List Use
syntax_uses text syntax = ((line_uses syntax.lines ++ symbol_uses syntax.symbols) ++ output_uses syntax.outputs) ++ expr_uses text syntax.exprs

-- the names that were declared up to a place, and how many symbols expressions have up to there
pub record Declared : Type 0 where
  pub lines : List (List ℕ)
  pub symbols : List (List ℕ)
  pub outputs : List (List ℕ)
  pub leaves : ℕ

-- nothing is declared
abbrev pub undeclared : Declared
undeclared = record { lines = []; symbols = []; outputs = []; leaves = 0 }

-- the name is one of these
abbrev pub is_among : List ℕ → List (List ℕ) → Bool
is_among name names = list_any (bytes_eq name) names

-- the name was declared before
abbrev pub is_declared : List ℕ → Declared → Bool
is_declared name before = is_among name before.lines || is_among name before.symbols || is_among name before.outputs

-- a name where it is declared: declared before, or one too many
abbrev pub declaration_code : Bool → ℕ → ℕ → SpecCode → Option SpecCode
declaration_code twice count most too_many = if twice then Some S4 else (if nat_le most count then Some too_many else None)

-- a number above 255
abbrev pub bound_code : ℕ → Option SpecCode
bound_code n = if nat_le n 255 then None else Some S15

-- the second of two bounds: above 255, 0, or less than the first
abbrev pub bounds_code : ℕ → ℕ → Option SpecCode
bounds_code m n = if nat_le n 255 && nat_le 1 n && nat_le m n then None else Some S15

-- the code that stands at a use, where the command allows so many symbols in expressions
abbrev pub use_code : List ℕ → ℕ → Declared → Use → Option SpecCode
use_code text limit before (line_use t) = declaration_code (is_declared (word_of text t) before) (length before.lines) 16 S10
use_code text limit before (symbol_use t) = declaration_code (is_declared (word_of text t) before) (length before.symbols) 32 S11
use_code text limit before (pattern_use t) = if length (word_of text t) == length before.lines then None else Some S5
use_code text limit before (output_use t) = declaration_code (is_declared (word_of text t) before) (length before.outputs) 16 S12
use_code text limit before (leaf_use t) =
    if is_among (word_of text t) before.symbols then (if nat_le limit before.leaves then Some S13 else None) else Some S3
use_code text limit before (mark_use t) = if is_among (word_of text t) before.outputs then None else Some S3
use_code text limit before (least_use t) = bound_code (number_of text t)
use_code text limit before (most_use least t) = bounds_code (number_of text least) (number_of text t)
use_code text limit before (copies_use t more) = if nat_le (before.leaves + more) limit then None else Some S13

-- what is declared behind a use
abbrev pub behind_use : List ℕ → Declared → Use → Declared
behind_use text before (line_use t) = record before { lines = before.lines ++ (word_of text t ∷ []) }
behind_use text before (symbol_use t) = record before { symbols = before.symbols ++ (word_of text t ∷ []) }
behind_use text before (pattern_use t) = before
behind_use text before (output_use t) = record before { outputs = before.outputs ++ (word_of text t ∷ []) }
behind_use text before (leaf_use t) = record before { leaves = suc before.leaves }
behind_use text before (mark_use t) = before
behind_use text before (least_use t) = before
behind_use text before (most_use least t) = before
behind_use text before (copies_use t more) = record before { leaves = before.leaves + more }

-- the token of a use
abbrev pub use_token : Use → Lexeme
use_token (line_use t) = t
use_token (symbol_use t) = t
use_token (pattern_use t) = t
use_token (output_use t) = t
use_token (leaf_use t) = t
use_token (mark_use t) = t
use_token (least_use t) = t
use_token (most_use least t) = t
use_token (copies_use t more) = t

-- this code at this place, where there is one, else what comes later
abbrev pub fault_or : Option SpecCode → ℕ → Option (SpecCode × ℕ) → Option (SpecCode × ℕ)
fault_or None place later = later
fault_or (Some code) place later = Some (code, place)

-- the first use at which a code stands: the code, and the place
abbrev pub first_use_fault : List ℕ → ℕ → Declared → List Use → Option (SpecCode × ℕ)
first_use_fault text limit before [] = None
first_use_fault text limit before (u ∷ us) =
    fault_or (use_code text limit before u) (use_token u).start (first_use_fault text limit (behind_use text before u) us)

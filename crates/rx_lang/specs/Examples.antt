-- Specifications and words with known answers.
use Rattle.std.specs.Prelude.{◌≡◌, ℕ, ◌+◌, ◌≤◌, Bool, false, ◌==◌, List, [], ◌∷◌, length, map, take, slice_index_or, codes, Decides}
use Rattle.rx_lang.specs.declared.pattern.PatternBit.{PatternBit}
use Rattle.rx_lang.specs.declared.pattern.PatternBit.TheVariants.{Zero, One, Any}
use Rattle.rx_lang.specs.declared.expr_node.ExprNode.TheVariants.{Leaf, Seq, Alt, Star, Mark}
use Rattle.rx_lang.specs.Vector.{Bits}
use Rattle.rx_lang.specs.Expression.{Expr, symbol, sequence, union, star, plus, optional, marked, repeated}
use Rattle.rx_lang.specs.Specification.{NamedPattern, Specification}
use Rattle.rx_lang.specs.Tables.{Tables}

-- the bits that a text of the digits 0 and 1 writes
abbrev pub digits : List ℕ → List Bool
digits text = map (λ byte. byte == 49) text

-- An answer for the empty word and for each longer front of the word: whether it is in the language.
pub record Answers (language : List Bits → Type 0) (word : List Bits) (answers : List Bool) : Type 0 where
  pub size : length answers ≡ length word + 1
  pub each : (t : ℕ) → t ≤ length word → Decides (slice_index_or answers t false) (language (take t word))

abbrev pub named : List ℕ → List PatternBit → NamedPattern
named name pattern = record { name = name; pattern = pattern }

-- line x; symbol a = 1; output z; and these statements
abbrev pub one_symbol : List Expr → Specification
one_symbol statements = record {
  lines = codes "x" ∷ [];
  symbols = named (codes "a") (One ∷ []) ∷ [];
  outputs = codes "z" ∷ [];
  statements = statements;
  scans = [];
}

-- line x; symbol a = 1; symbol b = 0; and these outputs and statements
abbrev pub one_and_zero : List (List ℕ) → List Expr → Specification
one_and_zero outputs statements = record {
  lines = codes "x" ∷ [];
  symbols = named (codes "a") (One ∷ []) ∷ named (codes "b") (Zero ∷ []) ∷ [];
  outputs = outputs;
  statements = statements;
  scans = [];
}

-- expr a !z;
abbrev pub marked_symbol : Specification
marked_symbol = one_symbol (marked (symbol 0) 0 ∷ [])

-- line x y; symbol a = 1-; symbol b = 01; output z; expr (a|b)* a !z;
abbrev pub last_symbol_marked : Specification
last_symbol_marked = record {
  lines = codes "x" ∷ codes "y" ∷ [];
  symbols = named (codes "a") (One ∷ Any ∷ []) ∷ named (codes "b") (Zero ∷ One ∷ []) ∷ [];
  outputs = codes "z" ∷ [];
  statements = sequence (star (union (symbol 0) (symbol 1))) (marked (symbol 0) 0) ∷ [];
  scans = [];
}

-- expr (a? !z)*;
abbrev pub marked_option_in_loop : Specification
marked_option_in_loop = one_symbol (star (marked (optional (symbol 0)) 0) ∷ [])

-- output z; expr ((a*)* | b?)+ !z;
abbrev pub loop_in_loop : Specification
loop_in_loop = one_and_zero (codes "z" ∷ []) (marked (plus (union (star (star (symbol 0))) (optional (symbol 1)))) 0 ∷ [])

-- output y z; expr (a !y) b !z;
abbrev pub mark_in_each_part : Specification
mark_in_each_part = one_and_zero (codes "y" ∷ codes "z" ∷ []) (sequence (marked (symbol 0) 0) (marked (symbol 1) 1) ∷ [])

-- line x y; symbol a = 1-; symbol b = -1; output z v; expr a b !z; expr b a !v;
abbrev pub overlapping_symbols : Specification
overlapping_symbols = record {
  lines = codes "x" ∷ codes "y" ∷ [];
  symbols = named (codes "a") (One ∷ Any ∷ []) ∷ named (codes "b") (Any ∷ One ∷ []) ∷ [];
  outputs = codes "z" ∷ codes "v" ∷ [];
  statements = sequence (symbol 0) (marked (symbol 1) 0) ∷ sequence (symbol 1) (marked (symbol 0) 1) ∷ [];
  scans = [];
}

-- expr a;
abbrev pub unmarked_symbol : Specification
unmarked_symbol = one_symbol (symbol 0 ∷ [])

-- expr a{2,3} !z;
abbrev pub counted_symbol : Specification
counted_symbol = one_symbol (marked (repeated (symbol 0) 2 3) 0 ∷ [])

-- expr (a !z){0,2} a{2,2};
abbrev pub mark_in_repeat : Specification
mark_in_repeat = one_symbol (sequence (repeated (marked (symbol 0) 0) 0 2) (repeated (symbol 0) 2 2) ∷ [])

-- scan a b !z;
abbrev pub scanned_pair : Specification
scanned_pair = record (one_and_zero (codes "z" ∷ []) []) { scans = sequence (symbol 0) (marked (symbol 1) 0) ∷ [] }

-- expr b !y; scan a? !z;
abbrev pub scanned_option : Specification
scanned_option =
    record (one_and_zero (codes "y" ∷ codes "z" ∷ []) (marked (symbol 1) 0 ∷ [])) { scans = marked (optional (symbol 0)) 1 ∷ [] }

-- the tables of the specification whose last symbol is marked
abbrev pub last_symbol_tables : Tables
last_symbol_tables = record {
  lines = codes "x" ∷ codes "y" ∷ [];
  symbols = named (codes "a") (One ∷ Any ∷ []) ∷ named (codes "b") (Zero ∷ One ∷ []) ∷ [];
  outputs = codes "z" ∷ [];
  nodes = Leaf 0 ∷ Leaf 1 ∷ Alt 0 1 ∷ Star 2 ∷ Leaf 0 ∷ Mark 4 0 ∷ Seq 3 5 ∷ [];
  exprs = 6 ∷ [];
  scans = [];
}

-- tables in which a node is the child of two
abbrev pub shared_node_tables : Tables
shared_node_tables = record last_symbol_tables { nodes = Leaf 0 ∷ Star 0 ∷ Mark 0 0 ∷ Seq 1 2 ∷ []; exprs = 3 ∷ [] }

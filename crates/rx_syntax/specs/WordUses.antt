-- Uses by their words and numbers alone, apart from the tokens that they are.
use Rattle.std.specs.Prelude.{ℕ, suc, ◌+◌, ◌==◌, nat_le, if◌then◌else◌, List, [], ◌∷◌, ◌++◌, Option, Some, None, length}
use Rattle.rx_syntax.specs.Lexemes.{word_of}
use Rattle.rx_syntax.specs.Uses.{Use, line_use, symbol_use, pattern_use, output_use, leaf_use, mark_use, least_use, most_use, copies_use, number_of, Declared, is_among, is_declared, declaration_code, bound_code, bounds_code}
use Rattle.rx_syntax.specs.declared.spec_code.SpecCode.{SpecCode}
use Rattle.rx_syntax.specs.declared.spec_code.SpecCode.TheVariants.{S3, S5, S10, S11, S12, S13}

-- a use with its word, with the length of its pattern, or with its numbers
pub data WordUse : Type 0 where
  line_word : List ℕ → WordUse
  symbol_word : List ℕ → WordUse
  pattern_size : ℕ → WordUse
  output_word : List ℕ → WordUse
  leaf_word : List ℕ → WordUse
  mark_word : List ℕ → WordUse
  least_number : ℕ → WordUse
  most_number : ℕ → ℕ → WordUse
  more_copies : ℕ → WordUse

abbrev pub by_word : List ℕ → Use → WordUse
by_word text (line_use t) = line_word (word_of text t)
by_word text (symbol_use t) = symbol_word (word_of text t)
by_word text (pattern_use t) = pattern_size (length (word_of text t))
by_word text (output_use t) = output_word (word_of text t)
by_word text (leaf_use t) = leaf_word (word_of text t)
by_word text (mark_use t) = mark_word (word_of text t)
by_word text (least_use t) = least_number (number_of text t)
by_word text (most_use least t) = most_number (number_of text least) (number_of text t)
by_word text (copies_use t more) = more_copies more

-- the code that stands at a use, where the command allows so many symbols in expressions
abbrev pub word_code : ℕ → Declared → WordUse → Option SpecCode
word_code limit before (line_word w) = declaration_code (is_declared w before) (length before.lines) 16 S10
word_code limit before (symbol_word w) = declaration_code (is_declared w before) (length before.symbols) 32 S11
word_code limit before (pattern_size n) = if n == length before.lines then None else Some S5
word_code limit before (output_word w) = declaration_code (is_declared w before) (length before.outputs) 16 S12
word_code limit before (leaf_word w) = if is_among w before.symbols then (if nat_le limit before.leaves then Some S13 else None) else Some S3
word_code limit before (mark_word w) = if is_among w before.outputs then None else Some S3
word_code limit before (least_number n) = bound_code n
word_code limit before (most_number m n) = bounds_code m n
word_code limit before (more_copies more) = if nat_le (before.leaves + more) limit then None else Some S13

-- what is declared behind a use
abbrev pub behind_word : Declared → WordUse → Declared
behind_word before (line_word w) = record before { lines = before.lines ++ (w ∷ []) }
behind_word before (symbol_word w) = record before { symbols = before.symbols ++ (w ∷ []) }
behind_word before (pattern_size n) = before
behind_word before (output_word w) = record before { outputs = before.outputs ++ (w ∷ []) }
behind_word before (leaf_word w) = record before { leaves = suc before.leaves }
behind_word before (mark_word w) = before
behind_word before (least_number n) = before
behind_word before (most_number m n) = before
behind_word before (more_copies more) = record before { leaves = before.leaves + more }

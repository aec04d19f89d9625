-- The specification that a text stands for, and where a text is refused.
use Rattle.std.specs.Prelude.{◌≡◌, ◌⊎◌, ◌==◌, not, ℕ, suc, Bool, true, false, if◌then◌else◌, List, [], ◌∷◌, Some, None, map, bytes_eq}
use Rattle.rx_lang.specs.declared.pattern.PatternBit.{PatternBit}
use Rattle.rx_lang.specs.declared.pattern.PatternBit.TheVariants.{Zero, One, Any}
use Rattle.rx_lang.specs.Expression.{Expr}
use Rattle.rx_lang.specs.Expression as lang
use Rattle.rx_lang.specs.Specification.{NamedPattern, Specification}
use Rattle.rx_syntax.specs.Lexemes.{Lexeme, TokensOf, word_of}
use Rattle.rx_syntax.specs.Grammar.{Tree, leaf, union, sequence, star, plus, optional, marked, counted, SymbolTokens, StatementTree, Syntax, Specifies}
use Rattle.rx_syntax.specs.Refusals.{Clean, StandsFirst}
use Rattle.rx_syntax.specs.Uses.{number_of, syntax_uses, undeclared, first_use_fault}
use Rattle.rx_syntax.specs.declared.spec_code.SpecCode.{SpecCode}

-- the place of a pattern that the byte `0`, `1` or `-` stands for
abbrev pub place_bit : ℕ → PatternBit
place_bit byte = if byte == 48 then Zero else (if byte == 49 then One else Any)

-- the number of a name among those declared
abbrev pub number_in : List (List ℕ) → List ℕ → ℕ
number_in [] name = 0
number_in (first ∷ names) name = if bytes_eq first name then 0 else suc (number_in names name)

-- the expression with numbers in place of names
abbrev pub resolve : (List ℕ → ℕ) → (List ℕ → ℕ) → List ℕ → Tree → Expr
resolve symbol output text (leaf t) = lang.symbol (symbol (word_of text t))
resolve symbol output text (union e f) = lang.union (resolve symbol output text e) (resolve symbol output text f)
resolve symbol output text (sequence e f) = lang.sequence (resolve symbol output text e) (resolve symbol output text f)
resolve symbol output text (star e) = lang.star (resolve symbol output text e)
resolve symbol output text (plus e) = lang.plus (resolve symbol output text e)
resolve symbol output text (optional e) = lang.optional (resolve symbol output text e)
resolve symbol output text (marked e t) = lang.marked (resolve symbol output text e) (output (word_of text t))
resolve symbol output text (counted e least most c) = lang.repeated (resolve symbol output text e) (number_of text least) (number_of text most)

abbrev pub both_scan : Bool → Bool → Bool
both_scan true scans = scans
both_scan false scans = not scans

-- the expressions of the statements of one kind, in order
abbrev pub trees_of : Bool → List StatementTree → List Tree
trees_of scans [] = []
trees_of scans (s ∷ ss) = if both_scan scans s.scans then s.tree ∷ trees_of scans ss else trees_of scans ss

-- the name and the pattern of a symbol
abbrev pub named_pattern : List ℕ → SymbolTokens → NamedPattern
named_pattern text s = record { name = word_of text s.name; pattern = map place_bit (word_of text s.pattern) }

-- an expression with the numbers of the symbols and outputs that the text declares
abbrev pub meaning_of : List ℕ → Syntax → Tree → Expr
meaning_of text syntax e =
    resolve (number_in (map (λ s. word_of text s.name) syntax.symbols)) (number_in (map (word_of text) syntax.outputs)) text e

-- the specification that the tokens of a text say
abbrev pub said : List ℕ → Syntax → Specification
said text syntax = record {
  lines = map (word_of text) syntax.lines;
  symbols = map (named_pattern text) syntax.symbols;
  outputs = map (word_of text) syntax.outputs;
  statements = map (meaning_of text syntax) (trees_of false syntax.exprs);
  scans = map (meaning_of text syntax) (trees_of true syntax.exprs);
}

-- The tokens of the text are a specification that says this, and no structural code stands.
pub record Says (text : List ℕ) (syntax : Syntax) : Type 0 where
  pub tokens : List Lexeme
  pub are_tokens : TokensOf text tokens
  pub clean : Clean tokens
  pub specifies : Specifies tokens syntax

-- The text is accepted as the specification, where expressions may have so many symbols.
pub record Accepted (text : List ℕ) (limit : ℕ) (spec : Specification) : Type 0 where
  pub syntax : Syntax
  pub says : Says text syntax
  pub no_fault : first_use_fault text limit undeclared (syntax_uses text syntax) ≡ None
  pub is : spec ≡ said text syntax

-- The first fault of names and limits.
pub record NameFault (text : List ℕ) (limit : ℕ) (code : SpecCode) (place : ℕ) : Type 0 where
  pub syntax : Syntax
  pub says : Says text syntax
  pub fault : first_use_fault text limit undeclared (syntax_uses text syntax) ≡ Some (code, place)

-- The text is refused with this code at this byte: codes of the shape first, over the whole text.
abbrev pub Refused : List ℕ → ℕ → SpecCode → ℕ → Type 0
Refused text limit code place = StandsFirst text code place ⊎ NameFault text limit code place

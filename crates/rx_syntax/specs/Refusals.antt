-- Where a text is refused for its tokens and their order, stated by the grammar.
use Rattle.std.specs.Prelude.{◌≡◌, ℕ, suc, pred, ◌≤◌, ◌⊎◌, List, [], ◌∷◌, ◌++◌, Option, Some, None, length}
use Rattle.rx_syntax.specs.Lexemes.{Lexeme, TokensOf}
use Rattle.rx_syntax.specs.Grammar.{Lines, LinesSymbols, LinesSymbolsOutputs, Syntax, Specifies}
use Rattle.rx_syntax.specs.declared.kind.Kind.{Kind}
use Rattle.rx_syntax.specs.declared.kind.Kind.TheVariants.{Bad, Long, Symbol, Output, Expr, Scan, Open, Close, OpenBracket, CloseBracket}
use Rattle.rx_syntax.specs.declared.spec_code.SpecCode.{SpecCode}
use Rattle.rx_syntax.specs.declared.spec_code.SpecCode.TheVariants.{S1, S2, S3, S4, S5, S6, S7, S8, S9, S10, S11, S12, S13, S14, S15}

-- the number of the code
abbrev pub number : SpecCode → ℕ
number S1 = 1
number S2 = 2
number S3 = 3
number S4 = 4
number S5 = 5
number S6 = 6
number S7 = 7
number S8 = 8
number S9 = 9
number S10 = 10
number S11 = 11
number S12 = 12
number S13 = 13
number S14 = 14
number S15 = 15

-- There is a token here, of this kind.
abbrev pub IsKind : Kind → Option Lexeme → Type 0
IsKind kind None = ⊥
IsKind kind (Some t) = t.kind ≡ kind

-- `expr`, or in version 2 `scan`
abbrev pub IsStatement : Option Lexeme → Type 0
IsStatement now = IsKind Expr now ⊎ IsKind Scan now

-- Some specification begins with these tokens and goes on with this one, or is these tokens where none is left.
abbrev pub Continues : List Lexeme → Option Lexeme → Type 0
Continues before None = (found : Syntax) × Specifies before found
Continues before (Some t) = (rest : List Lexeme) × (found : Syntax) × Specifies (before ++ (t ∷ rest)) found

-- A section's first statement is due, and a later section's keyword or the end comes.
abbrev pub Missing : SpecCode → List Lexeme → Option Lexeme → Type 0
Missing S6 before now = (before ≡ []) × ((now ≡ None) ⊎ (IsKind Symbol now ⊎ (IsKind Output now ⊎ IsStatement now)))
Missing S7 before now = Lines before × ((now ≡ None) ⊎ (IsKind Output now ⊎ IsStatement now))
Missing S8 before now = LinesSymbols before × ((now ≡ None) ⊎ IsStatement now)
Missing S9 before now = LinesSymbolsOutputs before × (now ≡ None)
Missing code before now = ⊥

-- how many parentheses are open behind a token of this kind, brackets among them
abbrev pub opened : Kind → ℕ → ℕ
opened Open depth = suc depth
opened Close depth = pred depth
opened OpenBracket depth = suc depth
opened CloseBracket depth = pred depth
opened kind depth = depth

-- how many parentheses are open behind these tokens
abbrev pub open_after : ℕ → List Lexeme → ℕ
open_after depth [] = depth
open_after depth (t ∷ ts) = open_after (opened t.kind depth) ts

-- The code stands at this token or at the end, behind these tokens.
abbrev pub Stands : SpecCode → List Lexeme → Option Lexeme → Type 0
Stands S1 before now = IsKind Bad now
Stands S2 before now = (IsKind Long now ⊎ (Continues before now → ⊥)) × ((code : SpecCode) → Missing code before now → ⊥)
Stands S14 before now = (IsKind Open now ⊎ IsKind OpenBracket now) × (open_after 0 before ≡ 200)
Stands code before now = Missing code before now

-- No code stands at any of the tokens.
pub data Clean : List Lexeme → Type 0 where
  none : Clean []
  next : {xs ys : List Lexeme} (t : Lexeme) → ys ≡ xs ++ (t ∷ []) → Clean xs → ((code : SpecCode) → Stands code xs (Some t) → ⊥) → Clean ys

-- the first token, where there is one
abbrev pub front : List Lexeme → Option Lexeme
front [] = None
front (t ∷ ts) = Some t

-- the place of the token, or of the end
abbrev pub place_of : List ℕ → Option Lexeme → ℕ
place_of text None = length text
place_of text (Some t) = t.start

-- The code is the first in the text, and the lowest on its token, and this is its place.
pub record StandsFirst (text : List ℕ) (code : SpecCode) (place : ℕ) : Type 0 where
  pub before : List Lexeme
  pub rest : List Lexeme
  pub tokens : TokensOf text (before ++ rest)
  pub clean : Clean before
  pub stands : Stands code before (front rest)
  pub least : (other : SpecCode) → Stands other before (front rest) → number code ≤ number other
  pub at_place : place ≡ place_of text (front rest)

-- The tokens of the text are a specification, and no code stands at any of them.
pub record IsShaped (text : List ℕ) : Type 0 where
  pub tokens : List Lexeme
  pub are_tokens : TokensOf text tokens
  pub clean : Clean tokens
  pub syntax : Syntax
  pub specifies : Specifies tokens syntax

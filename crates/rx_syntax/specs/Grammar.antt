-- The grammar of specifications, on lists of tokens, and what a list of tokens says. It is that of both versions: counted
-- repeats, classes and scans have tokens that no text of version 1 has.
use Rattle.std.specs.Prelude.{◌≡◌, ◌≢◌, ◌⊎◌, Bool, true, false, fold, List, [], ◌∷◌, ◌++◌, ⊤}
use Rattle.rx_syntax.specs.Lexemes.{Lexeme}
use Rattle.rx_syntax.specs.declared.kind.Kind.{Kind}
use Rattle.rx_syntax.specs.declared.kind.Kind.TheVariants.{Name, Bits, Pattern, Number, Line, Symbol, Output, Expr, Scan, Bar, Star, Plus, Question, Mark, Open, Close, Equals, Semicolon, OpenBrace, CloseBrace, Comma, OpenBracket, CloseBracket}

-- an expression, with the tokens of its names, and of a counted repeat its two numbers and its `}`
pub data Tree : Type 0 where
  leaf : Lexeme → Tree
  union : Tree → Tree → Tree
  sequence : Tree → Tree → Tree
  star : Tree → Tree
  plus : Tree → Tree
  optional : Tree → Tree
  marked : Tree → Lexeme → Tree
  counted : Tree → Lexeme → Lexeme → Lexeme → Tree

-- how tightly an expression is bound: unions least, then sequences, then parts with their postfix signs
pub data Level : Type 0 where
  unions : Level
  sequences : Level
  parts : Level

-- all of the tokens are names
abbrev pub AreNames : List Lexeme → Type 0
AreNames [] = ⊤
AreNames (t ∷ ts) = (t.kind ≡ Name) × AreNames ts

-- The token serves as a pattern, or as a number.
abbrev pub IsPattern : Lexeme → Type 0
IsPattern t = (t.kind ≡ Bits) ⊎ (t.kind ≡ Pattern)

abbrev pub IsNumber : Lexeme → Type 0
IsNumber t = (t.kind ≡ Bits) ⊎ (t.kind ≡ Number)

-- the union of the names of a class, grouped to the left
abbrev pub class_tree : Lexeme → List Lexeme → Tree
class_tree t ts = fold (λ e u. union e (leaf u)) (leaf t) ts

-- The tokens are an expression of this level, and this is its tree. Unions and sequences are grouped to the left.
pub data Derives : Level → List Lexeme → Tree → Type 0 where
  named : {xs : List Lexeme} {t : Lexeme} → t.kind ≡ Name → xs ≡ t ∷ [] → Derives parts xs (leaf t)
  closed : {xs ys : List Lexeme} {e : Tree} (o c : Lexeme) → o.kind ≡ Open → c.kind ≡ Close → xs ≡ o ∷ (ys ++ (c ∷ []))
      → Derives unions ys e → Derives parts xs e
  classed : {xs : List Lexeme} (o t c : Lexeme) (names : List Lexeme) → o.kind ≡ OpenBracket → c.kind ≡ CloseBracket → AreNames (t ∷ names)
      → xs ≡ o ∷ ((t ∷ names) ++ (c ∷ [])) → Derives parts xs (class_tree t names)
  starred : {xs ys : List Lexeme} {e : Tree} (s : Lexeme) → s.kind ≡ Star → xs ≡ ys ++ (s ∷ []) → Derives parts ys e → Derives parts xs (star e)
  looped : {xs ys : List Lexeme} {e : Tree} (s : Lexeme) → s.kind ≡ Plus → xs ≡ ys ++ (s ∷ []) → Derives parts ys e → Derives parts xs (plus e)
  optioned : {xs ys : List Lexeme} {e : Tree} (s : Lexeme) → s.kind ≡ Question → xs ≡ ys ++ (s ∷ []) → Derives parts ys e
      → Derives parts xs (optional e)
  noted : {xs ys : List Lexeme} {e : Tree} (s : Lexeme) {t : Lexeme} → s.kind ≡ Mark → t.kind ≡ Name → xs ≡ ys ++ (s ∷ t ∷ [])
      → Derives parts ys e → Derives parts xs (marked e t)
  repeated : {xs ys : List Lexeme} {e : Tree} (o least comma most c : Lexeme) → o.kind ≡ OpenBrace → IsNumber least → comma.kind ≡ Comma
      → IsNumber most → c.kind ≡ CloseBrace → xs ≡ ys ++ (o ∷ least ∷ comma ∷ most ∷ c ∷ []) → Derives parts ys e
      → Derives parts xs (counted e least most c)
  alone : {xs : List Lexeme} {e : Tree} → Derives parts xs e → Derives sequences xs e
  followed : {xs ys zs : List Lexeme} {e f : Tree} → xs ≡ ys ++ zs → Derives sequences ys e → Derives parts zs f
      → Derives sequences xs (sequence e f)
  single : {xs : List Lexeme} {e : Tree} → Derives sequences xs e → Derives unions xs e
  either : {xs ys zs : List Lexeme} {e f : Tree} (b : Lexeme) → b.kind ≡ Bar → xs ≡ ys ++ (b ∷ zs) → Derives unions ys e
      → Derives sequences zs f → Derives unions xs (union e f)

-- KEYWORD NAME NAME .. ;
pub record NamesOf (key : Kind) (xs names : List Lexeme) : Type 0 where
  pub keyword : Lexeme
  pub last : Lexeme
  pub begins : keyword.kind ≡ key
  pub some : names ≢ []
  pub are_names : AreNames names
  pub ends : last.kind ≡ Semicolon
  pub tokens : xs ≡ keyword ∷ (names ++ (last ∷ []))

-- the name and the pattern of a symbol
pub record SymbolTokens : Type 0 where
  pub name : Lexeme
  pub pattern : Lexeme

-- symbol NAME = PATTERN ;
pub record SymbolOf (xs : List Lexeme) (found : List SymbolTokens) : Type 0 where
  pub keyword : Lexeme
  pub name : Lexeme
  pub equals : Lexeme
  pub pattern : Lexeme
  pub last : Lexeme
  pub begins : keyword.kind ≡ Symbol
  pub is_name : name.kind ≡ Name
  pub is_equals : equals.kind ≡ Equals
  pub is_pattern : IsPattern pattern
  pub ends : last.kind ≡ Semicolon
  pub tokens : xs ≡ keyword ∷ name ∷ equals ∷ pattern ∷ last ∷ []
  pub entry : found ≡ record { name = name; pattern = pattern } ∷ []

-- an expression, and whether its words may begin at any clock
pub record StatementTree : Type 0 where
  pub scans : Bool
  pub tree : Tree

-- the keyword of a statement
abbrev pub keyword_of : Bool → Kind
keyword_of false = Expr
keyword_of true = Scan

-- expr E ; or scan E ;
pub record ExprOf (xs : List Lexeme) (found : List StatementTree) : Type 0 where
  pub keyword : Lexeme
  pub scans : Bool
  pub body : List Lexeme
  pub tree : Tree
  pub last : Lexeme
  pub begins : keyword.kind ≡ keyword_of scans
  pub derives : Derives unions body tree
  pub ends : last.kind ≡ Semicolon
  pub tokens : xs ≡ keyword ∷ (body ++ (last ∷ []))
  pub entry : found ≡ record { scans = scans; tree = tree } ∷ []

-- One or more statements of a kind, and what they hold.
pub data Statements {A : Type 0} (Is : List Lexeme → List A → Type 0) : List Lexeme → List A → Type 0 where
  one : {xs : List Lexeme} {found : List A} → Is xs found → Statements Is xs found
  more : {xs ys zs : List Lexeme} {found some others : List A} → xs ≡ ys ++ zs → found ≡ some ++ others → Statements Is ys some → Is zs others
      → Statements Is xs found

-- The tokens are a front of one sort and a rest of another.
pub record Joined (P Q : List Lexeme → Type 0) (xs : List Lexeme) : Type 0 where
  pub front : List Lexeme
  pub rest : List Lexeme
  pub whole : xs ≡ front ++ rest
  pub first : P front
  pub second : Q rest

-- The tokens are the section of the lines.
abbrev pub Lines : List Lexeme → Type 0
Lines xs = (found : List Lexeme) × Statements (NamesOf Line) xs found

-- The tokens are the sections of the lines and symbols.
abbrev pub LinesSymbols : List Lexeme → Type 0
LinesSymbols xs = Joined Lines (λ ys. (found : List SymbolTokens) × Statements SymbolOf ys found) xs

-- The tokens are the sections of the lines, symbols and outputs.
abbrev pub LinesSymbolsOutputs : List Lexeme → Type 0
LinesSymbolsOutputs xs = Joined LinesSymbols (λ ys. (found : List Lexeme) × Statements (NamesOf Output) ys found) xs

-- what the tokens of a specification say
pub record Syntax : Type 0 where
  pub lines : List Lexeme
  pub symbols : List SymbolTokens
  pub outputs : List Lexeme
  pub exprs : List StatementTree

-- The tokens are a specification: its four sections in their order.
pub record Specifies (xs : List Lexeme) (syntax : Syntax) : Type 0 where
  pub line_tokens : List Lexeme
  pub symbol_tokens : List Lexeme
  pub output_tokens : List Lexeme
  pub expr_tokens : List Lexeme
  pub whole : xs ≡ ((line_tokens ++ symbol_tokens) ++ output_tokens) ++ expr_tokens
  pub lines : Statements (NamesOf Line) line_tokens syntax.lines
  pub symbols : Statements SymbolOf symbol_tokens syntax.symbols
  pub outputs : Statements (NamesOf Output) output_tokens syntax.outputs
  pub exprs : Statements ExprOf expr_tokens syntax.exprs

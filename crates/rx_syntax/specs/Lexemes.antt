-- The tokens of a text with their kinds and places. By either version every text has exactly one list of them.
use Rattle.std.specs.Prelude.{◌≡◌, ℕ, ◌+◌, ◌-◌, ◌<◌, ◌≤◌, ◌==◌, nat_le, if◌then◌else◌, List, [], ◌∷◌, Option, Some, None, length, take, drop, codes, bytes_eq}
use Rattle.std.specs.List.{list_all, prefix_len}
use Rattle.rx_text.specs.Name.{is_letter, is_name_byte}
use Rattle.rx_text.specs.NumberInText.{is_digit}
use Rattle.rx_syntax.specs.Tokens.{is_place_byte, is_in_comment, is_gap_byte, is_run_byte}
use Rattle.rx_syntax.specs.declared.version.Version.{Version}
use Rattle.rx_syntax.specs.declared.version.Version.TheVariants.{One, Two}
use Rattle.rx_syntax.specs.declared.kind.Kind.{Kind}
use Rattle.rx_syntax.specs.declared.kind.Kind.TheVariants.{Bad, Long, Name, Bits, Pattern, Number, Run, Line, Symbol, Output, Expr, Scan, Bar, Star, Plus, Question, Mark, Open, Close, Equals, Semicolon, OpenBrace, CloseBrace, Comma, OpenBracket, CloseBracket}

-- a token: what it is, the place of its first byte, and the place behind its last one
pub record Lexeme : Type 0 where
  pub kind : Kind
  pub start : ℕ
  pub behind : ℕ

-- how many bytes go on with what this byte begins
abbrev pub size_behind : Version → ℕ → List ℕ → ℕ
size_behind version byte rest =
    if byte == 35 then prefix_len is_in_comment rest
    else (if is_letter byte then prefix_len is_name_byte rest else (if is_run_byte version byte then prefix_len (is_run_byte version) rest else 0))

-- the size of the blank, comment or token with which a text begins
abbrev pub first_size : Version → List ℕ → ℕ
first_size version [] = 0
first_size version (byte ∷ rest) = 1 + size_behind version byte rest

-- a name, or a word that is too long for one
abbrev pub name_kind : List ℕ → Kind
name_kind word = if nat_le (length word) 31 then Name else Long

-- `scan` is a keyword of version 2 alone
abbrev pub scan_kind : Version → List ℕ → Kind
scan_kind One word = name_kind word
scan_kind Two word = if bytes_eq word (codes "scan") then Scan else name_kind word

-- a keyword, a name, or a word that is too long
abbrev pub word_kind : Version → List ℕ → Kind
word_kind version word =
    if bytes_eq word (codes "line") then Line
    else (if bytes_eq word (codes "symbol") then Symbol
    else (if bytes_eq word (codes "output") then Output
    else (if bytes_eq word (codes "expr") then Expr
    else scan_kind version word)))

-- A run serves as a pattern where it has only `0`, `1` and `-`, and as a number where it has only digits.
abbrev pub run_kind : List ℕ → Kind
run_kind run =
    if list_all is_place_byte run then (if list_all is_digit run then Bits else Pattern)
    else (if list_all is_digit run then Number else Run)

-- braces, the comma and brackets are signs of version 2 alone
abbrev pub brace_kind : Version → ℕ → Kind
brace_kind One byte = Bad
brace_kind Two byte =
    if byte == 123 then OpenBrace
    else (if byte == 125 then CloseBrace
    else (if byte == 44 then Comma
    else (if byte == 91 then OpenBracket
    else (if byte == 93 then CloseBracket else Bad))))

-- the kind of the sign, where the byte is one
abbrev pub sign_kind : Version → ℕ → Kind
sign_kind version byte =
    if byte == 124 then Bar
    else (if byte == 42 then Star
    else (if byte == 43 then Plus
    else (if byte == 63 then Question
    else (if byte == 33 then Mark
    else (if byte == 40 then Open
    else (if byte == 41 then Close
    else (if byte == 61 then Equals
    else (if byte == 59 then Semicolon else brace_kind version byte))))))))

-- the kind of the token, which begins with this byte
abbrev pub token_kind : Version → ℕ → List ℕ → Kind
token_kind version byte bytes =
    if is_letter byte then word_kind version bytes
    else (if is_run_byte version byte then run_kind bytes else sign_kind version byte)

-- the kind of the token with which a text begins, where that is no blank and no comment
abbrev pub first_kind : Version → List ℕ → Option Kind
first_kind version [] = None
first_kind version (byte ∷ rest) =
    if is_gap_byte byte then None else Some (token_kind version byte (take (first_size version (byte ∷ rest)) (byte ∷ rest)))

-- From this place on the text has these tokens of the version, with blanks and comments between them.
pub data LexemesFrom (version : Version) (text : List ℕ) : ℕ → List Lexeme → Type 0 where
  ended : {place : ℕ} {ts : List Lexeme} → length text ≤ place → ts ≡ [] → LexemesFrom version text place ts
  gap : {place : ℕ} {ts : List Lexeme} → place < length text → first_kind version (drop place text) ≡ None
      → LexemesFrom version text (place + first_size version (drop place text)) ts → LexemesFrom version text place ts
  token : {place : ℕ} {ts us : List Lexeme} (kind : Kind) → place < length text → first_kind version (drop place text) ≡ Some kind
      → ts ≡ record { kind = kind; start = place; behind = place + first_size version (drop place text) } ∷ us
      → LexemesFrom version text (place + first_size version (drop place text)) us → LexemesFrom version text place ts

-- the bytes of a token
abbrev pub word_of : List ℕ → Lexeme → List ℕ
word_of text t = take (t.behind - t.start) (drop t.start text)

-- By the tokens of version 2 the text begins with the name `version`, the run `2` and the sign `;`, which ends at this place.
pub record BeginsVersion2 (text : List ℕ) (behind : ℕ) : Type 0 where
  pub name : Lexeme
  pub two : Lexeme
  pub sign : Lexeme
  pub rest : List Lexeme
  pub tokens : LexemesFrom Two text 0 (name ∷ two ∷ sign ∷ rest)
  pub is_version : word_of text name ≡ codes "version"
  pub is_two : word_of text two ≡ codes "2"
  pub is_sign : sign.kind ≡ Semicolon
  pub at_end : behind ≡ sign.behind

-- The text is of this version, and what the version's grammar derives begins at this place. Each text is of one version.
abbrev pub IsOfVersion : List ℕ → Version → ℕ → Type 0
IsOfVersion text One start = (start ≡ 0) × ((behind : ℕ) → BeginsVersion2 text behind → ⊥)
IsOfVersion text Two start = BeginsVersion2 text start

-- The tokens of the text by its version, behind the statement of the version where there is one.
pub record TokensOf (text : List ℕ) (tokens : List Lexeme) : Type 0 where
  pub version : Version
  pub start : ℕ
  pub is_of : IsOfVersion text version start
  pub are : LexemesFrom version text start tokens

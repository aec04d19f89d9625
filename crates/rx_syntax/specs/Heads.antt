-- The first tokens of a text, by version 2.
use Rattle.std.specs.Prelude.{ℕ, ◌≤◌, ◌&&◌, Bool, true, false, List, ◌∷◌, length, codes, bytes_eq}
use Rattle.rx_syntax.specs.Lexemes.{Lexeme, LexemesFrom, word_of}
use Rattle.rx_syntax.specs.declared.kind.Kind.{Kind}
use Rattle.rx_syntax.specs.declared.kind.Kind.TheVariants.{Semicolon}
use Rattle.rx_syntax.specs.declared.version.Token.{Token}
use Rattle.rx_syntax.specs.declared.version.Version.TheVariants.{Two}

abbrev pub lexeme_of : Token → Lexeme
lexeme_of t = record { kind = t.kind; start = t.start; behind = t.behind }

-- The token stands behind this place, with blanks and comments alone between.
pub record IsNext (text : List ℕ) (place : ℕ) (t : Token) : Type 0 where
  pub ordered : t.start ≤ t.behind
  pub within : t.behind ≤ length text
  pub on : (ts : List Lexeme) → LexemesFrom Two text t.behind ts → LexemesFrom Two text place (lexeme_of t ∷ ts)

abbrev pub is_semicolon : Kind → Bool
is_semicolon Semicolon = true
is_semicolon kind = false

-- the test that three tokens are the statement of version 2
abbrev pub head_test : List ℕ → Lexeme → Lexeme → Lexeme → Bool
head_test text a b c = bytes_eq (word_of text a) (codes "version") && (bytes_eq (word_of text b) (codes "2") && is_semicolon c.kind)

-- What holds of the kinds that words, runs and signs may have holds of the kind of a token.
use Rattle.std.proofs.Common.{ℕ, Bool, true, false, List, length, codes}
use Rattle.std.specs.Prelude.{◌==◌, nat_le, bytes_eq, if◌then◌else◌}
use Rattle.std.specs.List.{list_all}
use Rattle.rx_text.specs.NumberInText.{is_digit}
use Rattle.rx_syntax.specs.Tokens.{is_place_byte}
use Rattle.rx_syntax.specs.Lexemes.{name_kind, scan_kind, word_kind, run_kind, brace_kind, sign_kind}
use Rattle.rx_syntax.specs.declared.version.Version.{Version}
use Rattle.rx_syntax.specs.declared.version.Version.TheVariants.{One, Two}
use Rattle.rx_syntax.specs.declared.kind.Kind.{Kind}
use Rattle.rx_syntax.specs.declared.kind.Kind.TheVariants.{Bad, Long, Name, Bits, Pattern, Number, Run, Line, Symbol, Output, Expr, Bar, Star, Plus, Question, Mark, Open, Close, Equals, Semicolon, OpenBrace, CloseBrace, Comma, OpenBracket, CloseBracket}

module _ (P : Kind → Type 0) where
  pub either_kind : (test : Bool) (some other : Kind) → P some → P other → P (if test then some else other)
  either_kind true some other h i = h
  either_kind false some other h i = i

  pub run_is : (run : List ℕ) → P Bits → P Pattern → P Number → P Run → P (run_kind run)
  run_is run bits pattern number neither =
      let digits = list_all is_digit run in
      either_kind (list_all is_place_byte run) (if digits then Bits else Pattern) (if digits then Number else Run)
      (either_kind digits Bits Pattern bits pattern) (either_kind digits Number Run number neither)

  pub brace_is : (version : Version) (byte : ℕ) → P OpenBrace → P CloseBrace → P Comma → P OpenBracket → P CloseBracket → P Bad
      → P (brace_kind version byte)
  brace_is One byte open_brace close_brace comma open_bracket close_bracket bad = bad
  brace_is Two byte open_brace close_brace comma open_bracket close_bracket bad =
      either_kind (byte == 123) _ _ open_brace (either_kind (byte == 125) _ _ close_brace (either_kind (byte == 44) _ _ comma
      (either_kind (byte == 91) _ _ open_bracket (either_kind (byte == 93) _ _ close_bracket bad))))

  pub sign_is : (version : Version) (byte : ℕ) → P Bar → P Star → P Plus → P Question → P Mark → P Open → P Close → P Equals → P Semicolon
      → P (brace_kind version byte) → P (sign_kind version byte)
  sign_is version byte bar star plus question mark opening closing equals semicolon other =
      either_kind (byte == 124) _ _ bar (either_kind (byte == 42) _ _ star (either_kind (byte == 43) _ _ plus (either_kind (byte == 63) _ _ question
      (either_kind (byte == 33) _ _ mark (either_kind (byte == 40) _ _ opening (either_kind (byte == 41) _ _ closing (either_kind (byte == 61) _ _ equals
      (either_kind (byte == 59) _ _ semicolon other))))))))

  pub name_is : (word : List ℕ) → P Name → P Long → P (name_kind word)
  name_is word name long = either_kind (nat_le (length word) 31) Name Long name long

  pub word_is : (version : Version) (word : List ℕ) → P Line → P Symbol → P Output → P Expr → P (scan_kind version word) → P (word_kind version word)
  word_is version word line symbol output expr other =
      either_kind (bytes_eq word (codes "line")) _ _ line (either_kind (bytes_eq word (codes "symbol")) _ _ symbol
      (either_kind (bytes_eq word (codes "output")) _ _ output (either_kind (bytes_eq word (codes "expr")) _ _ expr other)))

  pub old_word_is : (word : List ℕ) → P Line → P Symbol → P Output → P Expr → P Name → P Long → P (word_kind One word)
  old_word_is word line symbol output expr name long = word_is One word line symbol output expr (name_is word name long)

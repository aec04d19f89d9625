-- The names that a text declares are printed as names of its version, and of version 1 where that is enough.
use Rattle.std.proofs.Common.{◌≡◌, ℕ, suc, ◌+◌, ◌-◌, ◌==◌, Bool, true, false, Some, None, List, [], ◌∷◌, ◌++◌, map, take, drop, codes, refl, ap, sym, ◌∙◌, subst, arith}
use Rattle.std.specs.Prelude.{◌≢◌, bytes_eq, if◌then◌else◌}
use Rattle.std.specs.List.{prefix_len}
use Rattle.std.proofs.Math.Numerals.{one-add}
use Rattle.std.proofs.lemmas.Bool.Decides.{nat_tests}
use Rattle.rx_text.specs.Name.{is_letter, is_name_byte}
use Rattle.rx_syntax.specs.Tokens.{is_gap_byte, is_run_byte}
use Rattle.rx_syntax.specs.Lexemes.{Lexeme, first_size, first_kind, token_kind, name_kind, scan_kind, word_kind, run_kind, sign_kind, LexemesFrom, ended, gap, token, word_of}
use Rattle.rx_syntax.specs.Grammar.{AreNames, NamesOf, SymbolTokens, SymbolOf, Syntax}
use Rattle.rx_syntax.specs.Accepted.{named_pattern, Says}
use Rattle.rx_syntax.specs.declared.version.Version.{Version}
use Rattle.rx_syntax.specs.declared.version.Version.TheVariants.{One, Two}
use Rattle.rx_syntax.specs.declared.kind.Kind.{Kind}
use Rattle.rx_syntax.specs.declared.kind.Kind.TheVariants as kinds
use Rattle.rx_syntax.proofs.Runs.{run_passes}
use Rattle.rx_syntax.proofs.Bits.{IsPlainName}
use Rattle.rx_syntax.proofs.KindsOf.{run_is, brace_is, sign_is, either_kind}
use Rattle.rx_syntax.proofs.NameTokens.{no_scan}
use Rattle.rx_syntax.proofs.TokensKept.{Each, each_front, each_rest, statements_keep}
use Rattle.rx_syntax.proofs.PrintedText.{AllPlain}

-- a token that is a name

abbrev IsNoName : Kind → Type 0
IsNoName kind = kind ≢ kinds.Name

run_no_name : (run : List ℕ) → IsNoName (run_kind run)
run_no_name run = run_is IsNoName run (λ e. cc) (λ e. cc) (λ e. cc) (λ e. cc)

sign_no_name : (version : Version) (byte : ℕ) → IsNoName (sign_kind version byte)
sign_no_name version byte =
    sign_is IsNoName version byte (λ e. cc) (λ e. cc) (λ e. cc) (λ e. cc) (λ e. cc) (λ e. cc) (λ e. cc) (λ e. cc) (λ e. cc)
    (brace_is IsNoName version byte (λ e. cc) (λ e. cc) (λ e. cc) (λ e. cc) (λ e. cc) (λ e. cc))

module _ (version : Version) where
  plain_word : (byte : ℕ) (rest : List ℕ) → is_letter byte ≡ true → word_kind version (take (first_size version (byte ∷ rest)) (byte ∷ rest)) ≡ kinds.Name
      → IsPlainName version (take (first_size version (byte ∷ rest)) (byte ∷ rest))
  plain_word byte rest letter e =
      let no_comment : (byte == 35) ≡ false = grind (arith, nat_tests) in
      let run = prefix_len is_name_byte rest in
      let size : first_size version (byte ∷ rest) ≡ suc run = rw (no_comment, letter) (one-add run) in
      record {
        byte = byte;
        rest = take run rest;
        is = ap (λ n. take n (byte ∷ rest)) size;
        letter = letter;
        goes = run_passes is_name_byte rest;
        kind = e;
      }

  -- the token at the front
  abbrev front_word : ℕ → List ℕ → List ℕ
  front_word byte rest = take (first_size version (byte ∷ rest)) (byte ∷ rest)

  by_letter : (letter : Bool) (byte : ℕ) (rest : List ℕ) → is_letter byte ≡ letter
      → (if letter then word_kind version (front_word byte rest)
      else (if is_run_byte version byte then run_kind (front_word byte rest) else sign_kind version byte)) ≡ kinds.Name
      → IsPlainName version (front_word byte rest)
  by_letter true byte rest letter e = plain_word byte rest letter e
  by_letter false byte rest letter e =
      absurd (either_kind IsNoName (is_run_byte version byte) (run_kind (front_word byte rest)) (sign_kind version byte) (run_no_name (front_word byte rest))
      (sign_no_name version byte) e)

  by_gap : (blanks : Bool) (byte : ℕ) (rest : List ℕ)
      → (if blanks then None else Some (token_kind version byte (front_word byte rest))) ≡ Some kinds.Name → IsPlainName version (front_word byte rest)
  by_gap true byte rest e = absurd cc
  by_gap false byte rest e =
      let kind : token_kind version byte (front_word byte rest) ≡ kinds.Name = cc in
      by_letter (is_letter byte) byte rest refl kind

  pub plain_front : (text : List ℕ) → first_kind version text ≡ Some kinds.Name → IsPlainName version (take (first_size version text) text)
  plain_front [] e = absurd cc
  plain_front (byte ∷ rest) e = by_gap (is_gap_byte byte) byte rest e

  module _ (text : List ℕ) where
    abbrev IsPlainIfName : Lexeme → Type 0
    IsPlainIfName t = t.kind ≡ kinds.Name → IsPlainName version (word_of text t)

    abbrev IsPlain : Lexeme → Type 0
    IsPlain t = IsPlainName version (word_of text t)

    abbrev HasPlainName : SymbolTokens → Type 0
    HasPlainName s = IsPlainName version (word_of text s.name)

    tokens_plain : {place : ℕ} {ts : List Lexeme} → LexemesFrom version text place ts → Each IsPlainIfName ts
    tokens_plain (ended h e) = subst (Each IsPlainIfName) (sym e) tt
    tokens_plain (gap h k later) = tokens_plain later
    tokens_plain {place = place} (token kind h k e later) =
        let size : (place + first_size version (drop place text)) - place ≡ first_size version (drop place text) = omega arith in
        subst (Each IsPlainIfName) (sym e) (
          (λ is. subst (λ n. IsPlainName version (take n (drop place text))) (sym size) (plain_front (drop place text) (k ∙ ap Some is))),
          tokens_plain later,
        )

    names_plain : (names : List Lexeme) → AreNames names → Each IsPlainIfName names → Each IsPlain names
    names_plain [] are h = tt
    names_plain (t ∷ ts) (is, are) (first, h) = (first is, names_plain ts are h)

    statement_plain : (kind : Kind) (xs names : List Lexeme) → NamesOf kind xs names → Each IsPlainIfName xs → Each IsPlain names
    statement_plain kind xs names is h =
        names_plain names is.are_names (each_front IsPlainIfName names (is.last ∷ []) (subst (Each IsPlainIfName) is.tokens h).1)

    symbol_plain : (xs : List Lexeme) (found : List SymbolTokens) → SymbolOf xs found → Each IsPlainIfName xs → Each HasPlainName found
    symbol_plain xs found is h = subst (Each HasPlainName) (sym is.entry) ((subst (Each IsPlainIfName) is.tokens h).1.0 is.is_name, tt)

    words_plain : (ts : List Lexeme) → Each IsPlain ts → AllPlain version (map (word_of text) ts)
    words_plain [] h = tt
    words_plain (t ∷ ts) (first, h) = (first, words_plain ts h)

    symbols_plain : (ss : List SymbolTokens) → Each HasPlainName ss → AllPlain version (map (λ s. s.name) (map (named_pattern text) ss))
    symbols_plain [] h = tt
    symbols_plain (s ∷ ss) (first, h) = (first, symbols_plain ss h)

-- The names that a text declares are names of the version.
pub record PlainNames (version : Version) (text : List ℕ) (s : Syntax) : Type 0 where
  pub lines : AllPlain version (map (word_of text) s.lines)
  pub symbols : AllPlain version (map (λ s. s.name) (map (named_pattern text) s.symbols))
  pub outputs : AllPlain version (map (word_of text) s.outputs)

pub plain_names : (text : List ℕ) (s : Syntax) (says : Says text s) → PlainNames says.are_tokens.version text s
plain_names text s says =
    let v = says.are_tokens.version in
    let P = IsPlainIfName v text in
    let is = says.specifies in
    let two = is.line_tokens ++ is.symbol_tokens in
    let three = two ++ is.output_tokens in
    let all = each_front P three is.expr_tokens (subst (Each P) is.whole (tokens_plain v text says.are_tokens.are)) in
    let front = each_front P two is.output_tokens all in
    record {
      lines = words_plain v text s.lines
          (statements_keep P (IsPlain v text) (NamesOf kinds.Line) (statement_plain v text kinds.Line) is.lines (each_front P is.line_tokens is.symbol_tokens front));
      symbols = symbols_plain v text s.symbols
          (statements_keep P (HasPlainName v text) SymbolOf (symbol_plain v text) is.symbols (each_rest P is.line_tokens is.symbol_tokens front));
      outputs = words_plain v text s.outputs
          (statements_keep P (IsPlain v text) (NamesOf kinds.Output) (statement_plain v text kinds.Output) is.outputs (each_rest P two is.output_tokens all));
    }

-- a name of version 2 is one of version 1

old_keyword : (line symbol output expr : Bool) (k l : Kind) → (k ≡ kinds.Name → l ≡ kinds.Name)
    → (if line then kinds.Line else (if symbol then kinds.Symbol else (if output then kinds.Output else (if expr then kinds.Expr else k)))) ≡ kinds.Name
    → (if line then kinds.Line else (if symbol then kinds.Symbol else (if output then kinds.Output else (if expr then kinds.Expr else l)))) ≡ kinds.Name
old_keyword true symbol output expr k l h e = absurd cc
old_keyword false true output expr k l h e = absurd cc
old_keyword false false true expr k l h e = absurd cc
old_keyword false false false true k l h e = absurd cc
old_keyword false false false false k l h e = h e

old_name : (word : List ℕ) → IsPlainName Two word → IsPlainName One word
old_name word h = record {
  byte = h.byte;
  rest = h.rest;
  is = h.is;
  letter = h.letter;
  goes = h.goes;
  kind = old_keyword (bytes_eq word (codes "line")) (bytes_eq word (codes "symbol")) (bytes_eq word (codes "output")) (bytes_eq word (codes "expr"))
      (scan_kind Two word) (scan_kind One word) (no_scan (bytes_eq word (codes "scan")) (name_kind word)) h.kind;
}

pub old_names : (words : List (List ℕ)) → AllPlain Two words → AllPlain One words
old_names [] h = tt
old_names (w ∷ ws) (first, h) = (old_name w first, old_names ws h)

-- a name is short

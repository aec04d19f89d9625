-- A text of version 1 says no counted repeats and no scans.
use Rattle.std.proofs.Common.{◌≡◌, ℕ, Bool, true, false, Some, None, List, [], ◌∷◌, map, take, drop, refl, ap, sym, ◌∙◌, subst}
use Rattle.std.specs.Prelude.{◌≢◌, ◌||◌, if◌then◌else◌}
use Rattle.rx_text.specs.Name.{is_letter}
use Rattle.rx_lang.specs.Expression.{Expr}
use Rattle.rx_syntax.specs.Tokens.{is_gap_byte, is_run_byte}
use Rattle.rx_syntax.specs.Lexemes.{Lexeme, first_size, first_kind, token_kind, word_kind, run_kind, sign_kind, LexemesFrom, ended, gap, token}
use Rattle.rx_syntax.specs.Grammar.{Tree, StatementTree, Level, Derives, named, closed, classed, starred, looped, optioned, noted, repeated, alone, followed, single, either, keyword_of, ExprOf, Statements}
use Rattle.rx_syntax.specs.Accepted.{resolve, both_scan, trees_of}
use Rattle.rx_syntax.specs.Printed.{has_repeat, have_repeat, is_some}
use Rattle.rx_syntax.specs.declared.version.Version.TheVariants.{One}
use Rattle.rx_syntax.specs.declared.kind.Kind.{Kind}
use Rattle.rx_syntax.specs.declared.kind.Kind.TheVariants as kinds
use Rattle.rx_syntax.proofs.KindsOf.{either_kind, run_is, sign_is, old_word_is}
use Rattle.rx_syntax.proofs.TokensKept.{Each, each_front, each_rest, statements_keep}

-- a kind that tokens of version 1 have, and that begins nothing of version 2 alone
abbrev IsOldKind : Kind → Type 0
IsOldKind kind = (kind ≢ kinds.Scan) × (kind ≢ kinds.OpenBrace) × (kind ≢ kinds.OpenBracket)

old_token : (byte : ℕ) (bytes : List ℕ) → IsOldKind (token_kind One byte bytes)
old_token byte bytes =
    either_kind IsOldKind (is_letter byte) (word_kind One bytes) (if is_run_byte One byte then run_kind bytes else sign_kind One byte)
    (old_word_is IsOldKind bytes ((λ e. cc), (λ e. cc), λ e. cc) ((λ e. cc), (λ e. cc), λ e. cc) ((λ e. cc), (λ e. cc), λ e. cc)
    ((λ e. cc), (λ e. cc), λ e. cc) ((λ e. cc), (λ e. cc), λ e. cc) ((λ e. cc), (λ e. cc), λ e. cc))
    (either_kind IsOldKind (is_run_byte One byte) (run_kind bytes) (sign_kind One byte)
    (run_is IsOldKind bytes ((λ e. cc), (λ e. cc), λ e. cc) ((λ e. cc), (λ e. cc), λ e. cc) ((λ e. cc), (λ e. cc), λ e. cc) ((λ e. cc), (λ e. cc), λ e. cc))
    (sign_is IsOldKind One byte ((λ e. cc), (λ e. cc), λ e. cc) ((λ e. cc), (λ e. cc), λ e. cc) ((λ e. cc), (λ e. cc), λ e. cc)
    ((λ e. cc), (λ e. cc), λ e. cc) ((λ e. cc), (λ e. cc), λ e. cc) ((λ e. cc), (λ e. cc), λ e. cc) ((λ e. cc), (λ e. cc), λ e. cc)
    ((λ e. cc), (λ e. cc), λ e. cc) ((λ e. cc), (λ e. cc), λ e. cc) ((λ e. cc), (λ e. cc), λ e. cc)))

old_front : (text : List ℕ) (kind : Kind) → first_kind One text ≡ Some kind → IsOldKind kind
old_front [] kind e = absurd cc
old_front (byte ∷ rest) kind e = by_gap (is_gap_byte byte) e
  where
    by_gap : (blanks : Bool) → (if blanks then None else Some (token_kind One byte (take (first_size One (byte ∷ rest)) (byte ∷ rest)))) ≡ Some kind
        → IsOldKind kind
    by_gap true f = absurd cc
    by_gap false f =
        let same : token_kind One byte (take (first_size One (byte ∷ rest)) (byte ∷ rest)) ≡ kind = cc in
        subst IsOldKind same (old_token byte (take (first_size One (byte ∷ rest)) (byte ∷ rest)))

abbrev pub IsOld : Lexeme → Type 0
IsOld t = IsOldKind t.kind

pub old_tokens : {text : List ℕ} {place : ℕ} {ts : List Lexeme} → LexemesFrom One text place ts → Each IsOld ts
old_tokens (ended h e) = subst (Each IsOld) (sym e) tt
old_tokens (gap h none later) = old_tokens later
old_tokens {text = text} {place = place} (token kind h some e later) =
    subst (Each IsOld) (sym e) (old_front (drop place text) kind some, old_tokens later)

module _ (symbol output : List ℕ → ℕ) (text : List ℕ) where
  abbrev means : Tree → Expr
  means t = resolve symbol output text t

  both_plain : (a b : Bool) → a ≡ false → b ≡ false → (a || b) ≡ false
  both_plain a b e f = rw (e, f) refl

  no_repeat : {l : Level} {xs : List Lexeme} {e : Tree} → Derives l xs e → Each IsOld xs → has_repeat (means e) ≡ false
  no_repeat (named k whole) h = refl
  no_repeat (closed {ys = ys} o c ko kc whole inner) h = no_repeat inner (each_front IsOld ys (c ∷ []) (subst (Each IsOld) whole h).1)
  no_repeat (classed o t c names ko kc are whole) h = absurd ((subst (Each IsOld) whole h).0.2 ko)
  no_repeat (starred {ys = ys} s k whole inner) h = no_repeat inner (each_front IsOld ys (s ∷ []) (subst (Each IsOld) whole h))
  no_repeat (looped {ys = ys} s k whole inner) h = no_repeat inner (each_front IsOld ys (s ∷ []) (subst (Each IsOld) whole h))
  no_repeat (optioned {ys = ys} s k whole inner) h = no_repeat inner (each_front IsOld ys (s ∷ []) (subst (Each IsOld) whole h))
  no_repeat (noted {ys = ys} s {t = t} k n whole inner) h = no_repeat inner (each_front IsOld ys (s ∷ t ∷ []) (subst (Each IsOld) whole h))
  no_repeat (repeated {ys = ys} o least comma most c ko kl kc km ke whole inner) h =
      absurd ((each_rest IsOld ys (o ∷ least ∷ comma ∷ most ∷ c ∷ []) (subst (Each IsOld) whole h)).0.1 ko)
  no_repeat (alone inner) h = no_repeat inner h
  no_repeat (followed {ys = ys} {zs = zs} {e = e} {f = f} whole first second) h =
      let all = subst (Each IsOld) whole h in
      both_plain (has_repeat (means e)) (has_repeat (means f)) (no_repeat first (each_front IsOld ys zs all)) (no_repeat second (each_rest IsOld ys zs all))
  no_repeat (single inner) h = no_repeat inner h
  no_repeat (either {ys = ys} {zs = zs} {e = e} {f = f} b k whole first second) h =
      let all = subst (Each IsOld) whole h in
      both_plain (has_repeat (means e)) (has_repeat (means f)) (no_repeat first (each_front IsOld ys (b ∷ zs) all))
      (no_repeat second (each_rest IsOld ys (b ∷ zs) all).1)

  -- an `expr` statement without counted repeats
  abbrev IsOldStatement : StatementTree → Type 0
  IsOldStatement s = (s.scans ≡ false) × (has_repeat (means s.tree) ≡ false)

  no_scan : (scans : Bool) (k : Kind) → k ≡ keyword_of scans → k ≢ kinds.Scan → scans ≡ false
  no_scan true k e old = absurd (old e)
  no_scan false k e old = refl

  expr_old : (xs : List Lexeme) (found : List StatementTree) → ExprOf xs found → Each IsOld xs → Each IsOldStatement found
  expr_old xs found is h =
      let all = subst (Each IsOld) is.tokens h in
      subst (Each IsOldStatement) (sym is.entry) (
        (no_scan is.scans is.keyword.kind is.begins all.0.0, no_repeat is.derives (each_front IsOld is.body (is.last ∷ []) all.1)),
        tt,
      )

  exprs_old : {xs : List Lexeme} {found : List StatementTree} → Statements ExprOf xs found → Each IsOld xs → Each IsOldStatement found
  exprs_old is h = statements_keep IsOld IsOldStatement ExprOf expr_old is h

  none_repeat : (scans : Bool) (ss : List StatementTree) → Each IsOldStatement ss → have_repeat (map means (trees_of scans ss)) ≡ false
  none_repeat scans [] h = refl
  none_repeat scans (s ∷ ss) (first, h) = by_test (both_scan scans s.scans) (none_repeat scans ss h)
    where
      by_test : (b : Bool) → have_repeat (map means (trees_of scans ss)) ≡ false
          → have_repeat (map means (if b then s.tree ∷ trees_of scans ss else trees_of scans ss)) ≡ false
      by_test true later = both_plain (has_repeat (means s.tree)) (have_repeat (map means (trees_of scans ss))) first.1 later
      by_test false later = later

  none_scans : (ss : List StatementTree) → Each IsOldStatement ss → is_some (map means (trees_of true ss)) ≡ false
  none_scans [] h = refl
  none_scans (s ∷ ss) (first, h) =
      ap (λ b. is_some (map means (if b then s.tree ∷ trees_of true ss else trees_of true ss))) first.0 ∙ none_scans ss h

  -- the statements of version 1
  pub nothing_new : {xs : List Lexeme} {found : List StatementTree} → Statements ExprOf xs found → Each IsOld xs
      → ((have_repeat (map means (trees_of false found)) || have_repeat (map means (trees_of true found))) || is_some (map means (trees_of true found))) ≡ false
  nothing_new {found = found} is h =
      let old = exprs_old is h in
      let first = have_repeat (map means (trees_of false found)) in
      let second = have_repeat (map means (trees_of true found)) in
      both_plain (first || second) (is_some (map means (trees_of true found))) (both_plain first second (none_repeat false found old) (none_repeat true found old))
      (none_scans found old)

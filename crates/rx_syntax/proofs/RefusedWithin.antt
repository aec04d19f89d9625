-- A text is refused at one of its bytes or at its end.
use Rattle.std.proofs.Common.{◌≡◌, ℕ, ◌≤◌, Some, None, List, [], ◌∷◌, ◌++◌, length, refl, ap, sym, subst, inl, inr, arith}
use Rattle.std.specs.Prelude.{Option, ⊤}
use Rattle.rx_syntax.specs.Lexemes.{Lexeme, LexemesFrom, ended, gap, token, TokensOf}
use Rattle.rx_syntax.specs.Uses.{Use, use_token, Declared, use_code, behind_use, undeclared, fault_or, first_use_fault, syntax_uses}
use Rattle.rx_syntax.specs.UsesRead.{Counts, no_counts, kind_on, use_on, counts_on, listed, uses_along}
use Rattle.rx_syntax.specs.Accepted.{Refused}
use Rattle.rx_syntax.specs.Refusals.{front, place_of}
use Rattle.rx_syntax.specs.Machine.{at, next_state}
use Rattle.rx_syntax.specs.declared.machine.Due.TheVariants.{FirstLine}
use Rattle.rx_syntax.specs.declared.machine.State.{State}
use Rattle.rx_syntax.specs.declared.spec_code.SpecCode.{SpecCode}
use Rattle.rx_syntax.specs.declared.version.Version.{Version}
use Rattle.rx_syntax.proofs.NamesRead.{no_token}
use Rattle.rx_syntax.proofs.Used.{all_used}
use Rattle.rx_syntax.proofs.UsedWords.{token_of_use}

-- tokens and uses that begin within so many bytes

abbrev AreWithin : ℕ → List Lexeme → Type 0
AreWithin n [] = ⊤
AreWithin n (t ∷ ts) = (t.start ≤ n) × AreWithin n ts

abbrev UsesWithin : ℕ → List Use → Type 0
UsesWithin n [] = ⊤
UsesWithin n (u ∷ us) = ((use_token u).start ≤ n) × UsesWithin n us

tokens_within : {version : Version} {text : List ℕ} {place : ℕ} {ts : List Lexeme} → LexemesFrom version text place ts → AreWithin (length text) ts
tokens_within {text = text} (ended h e) = subst (λ ts. AreWithin (length text) ts) (sym e) tt
tokens_within (gap h k more) = tokens_within more
tokens_within {text = text} (token kind h k e more) = subst (λ ts. AreWithin (length text) ts) (sym e) (omega (arith, h), tokens_within more)

uses_append : (n : ℕ) (us vs : List Use) → UsesWithin n us → UsesWithin n vs → UsesWithin n (us ++ vs)
uses_append n [] vs h i = i
uses_append n (u ∷ us) vs (first, h) i = (first, uses_append n us vs h i)

-- a use has the place of its token
listed_within : (n : ℕ) (t : Lexeme) (o : Option Use) → t.start ≤ n → ((u : Use) → o ≡ Some u → use_token u ≡ t) → UsesWithin n (listed o)
listed_within n t None h is = tt
listed_within n t (Some u) h is = (subst (λ (now : Lexeme). now.start ≤ n) (sym (is u refl)) h, tt)

along_within : (text : List ℕ) (n : ℕ) (ts : List Lexeme) (state : Option State) (c : Counts Lexeme) → AreWithin n ts
    → UsesWithin n (uses_along text ts state c)
along_within text n [] state c h = tt
along_within text n (t ∷ ts) state c (first, h) =
    uses_append n (listed (use_on text state c t)) (uses_along text ts (next_state state t.kind) (counts_on text state c t))
    (listed_within n t (use_on text state c t) first (λ u e. token_of_use text c (kind_on state t.kind) t u e))
    (along_within text n ts (next_state state t.kind) (counts_on text state c t) h)

-- the first fault is that of a use

by_code : (code : Option SpecCode) (here : ℕ) (later : Option (SpecCode × ℕ)) (c : SpecCode) (p n : ℕ) → fault_or code here later ≡ Some (c, p)
    → here ≤ n → (later ≡ Some (c, p) → p ≤ n) → p ≤ n
by_code None here later c p n e h next = next e
by_code (Some code) here later c p n e h next =
    let same : ◌≡◌ {A = SpecCode × ℕ} (code, here) (c, p) = cc in
    let at : here ≡ p = ap (λ (pair : SpecCode × ℕ). pair.1) same in
    omega (arith, h, at)

fault_within : (text : List ℕ) (limit n : ℕ) (before : Declared) (us : List Use) (c : SpecCode) (p : ℕ) → UsesWithin n us
    → first_use_fault text limit before us ≡ Some (c, p) → p ≤ n
fault_within text limit n before [] c p h e = absurd cc
fault_within text limit n before (u ∷ us) c p (first, h) e =
    by_code (use_code text limit before u) (use_token u).start (first_use_fault text limit (behind_use text before u) us) c p n e first
    (λ later. fault_within text limit n (behind_use text before u) us c p h later)

front_within : (text : List ℕ) (before rest : List Lexeme) → AreWithin (length text) (before ++ rest) → place_of text (front rest) ≤ length text
front_within text [] [] h = omega arith
front_within text [] (t ∷ rest) h = h.0
front_within text (x ∷ before) rest h = front_within text before rest h.1

all_within : (text : List ℕ) (ts : List Lexeme) → TokensOf text ts → AreWithin (length text) ts
all_within text ts h = tokens_within h.are

pub refused_within : (text : List ℕ) (limit : ℕ) (code : SpecCode) (place : ℕ) → Refused text limit code place → place ≤ length text
refused_within text limit code place (inl stands) =
    subst (λ p. p ≤ length text) (sym stands.at_place)
    (front_within text stands.before stands.rest (all_within text (stands.before ++ stands.rest) stands.tokens))
refused_within text limit code place (inr fault) =
    let tokens = fault.says.tokens in
    let counts : Counts Lexeme = no_counts no_token in
    let uses = subst (λ us. UsesWithin (length text) us) (all_used text tokens fault.syntax fault.says.specifies counts)
    (along_within text (length text) tokens (at FirstLine 0) counts (all_within text tokens fault.says.are_tokens)) in
    fault_within text limit (length text) undeclared (syntax_uses text fault.syntax) code place uses fault.fault

-- A text has one list of tokens, and is either shaped as a specification or has one first fault.
use Rattle.std.proofs.Common.{◌≡◌, ℕ, zero, suc, ◌+◌, ◌≤◌, ◌<◌, Some, None, Ok, Err, List, [], ◌∷◌, ◌++◌, length, drop, refl, ap, sym, ◌∙◌, subst, inl, inr, arith}
use Rattle.std.specs.Prelude.{Option, Result, Bool, true, false, ◌&&◌, ⊤, codes, bytes_eq, ◌⊎◌, ◌==◌, if◌then◌else◌}
use Rattle.std.proofs.lemmas.Slice.Eq.{bytes_eq-Decides}
use Rattle.std.proofs.lemmas.List.{append_assoc, append-nil}
use Rattle.std.proofs.lemmas.Bool.{cases_lt}
use Rattle.rx_syntax.specs.Lexemes.{Lexeme, first_size, first_kind, LexemesFrom, ended, gap, token, word_of, BeginsVersion2, IsOfVersion, TokensOf}
use Rattle.rx_syntax.specs.declared.version.Version.{Version}
use Rattle.rx_syntax.specs.declared.version.Version.TheVariants.{One, Two}
use Rattle.rx_syntax.specs.Heads.{head_test, is_semicolon}
use Rattle.rx_syntax.specs.Grammar.{Syntax, Specifies}
use Rattle.rx_syntax.specs.Refusals.{number, Stands, Clean, none, next, front, place_of, StandsFirst, IsShaped}
use Rattle.rx_syntax.specs.Accepted.{Says}
use Rattle.rx_syntax.specs.declared.kind.Kind.{Kind}
use Rattle.rx_syntax.specs.declared.kind.Kind.TheVariants.{Semicolon}
use Rattle.rx_syntax.specs.declared.spec_code.SpecCode.{SpecCode}
use Rattle.rx_syntax.specs.declared.spec_code.SpecCode.TheVariants.{S1, S2, S3, S4, S5, S6, S7, S8, S9, S10, S11, S12, S13, S14, S15}
use Rattle.rx_syntax.specs.declared.machine.Due.TheVariants.{FirstLine, NextExpr}
use Rattle.rx_syntax.specs.declared.machine.State.{State}
use Rattle.rx_syntax.specs.Machine.{piece_step, end_code}
use Rattle.rx_syntax.proofs.Sizes.{piece_further, piece_within}
use Rattle.rx_syntax.proofs.Derived.{specified_run}
use Rattle.rx_syntax.proofs.Standing.{Kinds, by_byte, by_token, by_depth, by_section, kinds, missing_at_end}
use Rattle.rx_syntax.proofs.Following.{Followed, begins, tokens_exist, over_piece, fault_piece, good_text, fault_at_end}

-- one list of tokens

pub tokens_unique : {version : Version} {text : List ℕ} {place : ℕ} {ts us : List Lexeme} → LexemesFrom version text place ts → LexemesFrom version text place us → ts ≡ us
tokens_unique (ended h e) (ended i f) = e ∙ sym f
tokens_unique (ended h e) (gap i k more) = absurd (omega (arith, h, i))
tokens_unique (ended h e) (token kind i k f more) = absurd (omega (arith, h, i))
tokens_unique (gap h k more) (ended i f) = absurd (omega (arith, h, i))
tokens_unique (gap h k more) (gap i l also) = tokens_unique more also
tokens_unique (gap h k more) (token kind i l f also) =
    let clash : ◌≡◌ {A = Option Kind} None (Some kind) = sym k ∙ l in
    absurd cc
tokens_unique (token kind h k e more) (ended i f) = absurd (omega (arith, h, i))
tokens_unique (token kind h k e more) (gap i l also) =
    let clash : ◌≡◌ {A = Option Kind} (Some kind) None = sym k ∙ l in
    absurd cc
tokens_unique {version = version} {text = text} {place = place} (token {us = vs} kind h k e more) (token other i l f also) =
    let some : ◌≡◌ {A = Option Kind} (Some kind) (Some other) = sym k ∙ l in
    let same : kind ≡ other = cc in
    let tails = tokens_unique more also in
    let behind = place + first_size version (drop place text) in
    e ∙ ap (λ k. record { kind = k; start = place; behind = behind } ∷ vs) same
    ∙ ap (λ ts. record { kind = other; start = place; behind = behind } ∷ ts) tails ∙ sym f

-- the version of a text

next_same : (a b : Lexeme) (xs ys : List Lexeme) → a ∷ xs ≡ b ∷ ys → (a ≡ b) × (xs ≡ ys)
next_same a b xs ys e = (cc, cc)

begin_once : (text : List ℕ) (a b : ℕ) → BeginsVersion2 text a → BeginsVersion2 text b → a ≡ b
begin_once text a b x y =
    let first = next_same x.name y.name (x.two ∷ x.sign ∷ x.rest) (y.two ∷ y.sign ∷ y.rest) (tokens_unique x.tokens y.tokens) in
    let second = next_same x.two y.two (x.sign ∷ x.rest) (y.sign ∷ y.rest) first.1 in
    let third = next_same x.sign y.sign x.rest y.rest second.1 in
    x.at_end ∙ ap (λ (t : Lexeme). t.behind) third.0 ∙ sym y.at_end

one_list_of : (text : List ℕ) {ts us : List Lexeme} (v w : Version) (a b : ℕ) → IsOfVersion text v a → IsOfVersion text w b
    → LexemesFrom v text a ts → LexemesFrom w text b us → ts ≡ us
one_list_of text {us = us} One One a b x y s t =
    tokens_unique s (subst (λ n. LexemesFrom One text n us) (y.0 ∙ sym x.0) t)
one_list_of text One Two a b x y s t = absurd (x.1 b y)
one_list_of text Two One a b x y s t = absurd (y.1 a x)
one_list_of text {us = us} Two Two a b x y s t = tokens_unique s (subst (λ n. LexemesFrom Two text n us) (begin_once text b a y x) t)

pub one_list : (text : List ℕ) {ts us : List Lexeme} → TokensOf text ts → TokensOf text us → ts ≡ us
one_list text x y = one_list_of text x.version y.version x.start y.start x.is_of y.is_of x.are y.are

-- the tokens end within the text
abbrev EndWithin : ℕ → List Lexeme → Type 0
EndWithin n [] = ⊤
EndWithin n (t ∷ ts) = (t.behind ≤ n) × EndWithin n ts

ends_within : {version : Version} {text : List ℕ} {place : ℕ} {ts : List Lexeme} → LexemesFrom version text place ts → EndWithin (length text) ts
ends_within {text = text} (ended h e) = subst (EndWithin (length text)) (sym e) tt
ends_within (gap h k more) = ends_within more
ends_within {version = version} {text = text} {place = place} (token kind h k e more) =
    subst (EndWithin (length text)) (sym e) (piece_within version text place h, ends_within more)

semicolon_is : (kind : Kind) → is_semicolon kind ≡ true → kind ≡ Semicolon
semicolon_is Semicolon e = refl
semicolon_is kind e = absurd cc

-- a version, and where its tokens begin
pub record Begun (text : List ℕ) : Type 0 where
  pub version : Version
  pub start : ℕ
  pub is_of : IsOfVersion text version start
  pub within : start ≤ length text

old : (text : List ℕ) → ((behind : ℕ) → BeginsVersion2 text behind → ⊥) → Begun text
old text never = record { version = One; start = 0; is_of = (refl, never); within = omega arith }

both_true : (a b : Bool) → (a && b) ≡ true → (a ≡ true) × (b ≡ true)
both_true true b e = (refl, e)
both_true false b e = absurd cc

pub head_yes : (text : List ℕ) (a b c : Lexeme) (rest : List Lexeme) → LexemesFrom Two text 0 (a ∷ b ∷ c ∷ rest) → head_test text a b c ≡ true
    → BeginsVersion2 text c.behind
head_yes text a b c rest h e =
    let first = both_true (bytes_eq (word_of text a) (codes "version")) (bytes_eq (word_of text b) (codes "2") && is_semicolon c.kind) e in
    let second = both_true (bytes_eq (word_of text b) (codes "2")) (is_semicolon c.kind) first.1 in
    record {
      name = a;
      two = b;
      sign = c;
      rest = rest;
      tokens = h;
      is_version = (bytes_eq-Decides (word_of text a) (codes "version")).0 first.0;
      is_two = (bytes_eq-Decides (word_of text b) (codes "2")).0 second.0;
      is_sign = semicolon_is c.kind second.1;
      at_end = refl;
    }

pub head_no : (text : List ℕ) (a b c : Lexeme) (rest : List Lexeme) → LexemesFrom Two text 0 (a ∷ b ∷ c ∷ rest) → head_test text a b c ≡ false
    → (behind : ℕ) → BeginsVersion2 text behind → ⊥
head_no text a b c rest h e behind x =
    let first = next_same x.name a (x.two ∷ x.sign ∷ x.rest) (b ∷ c ∷ rest) (tokens_unique x.tokens h) in
    let second = next_same x.two b (x.sign ∷ x.rest) (c ∷ rest) first.1 in
    let third = next_same x.sign c x.rest rest second.1 in
    let one : bytes_eq (word_of text a) (codes "version") ≡ true =
    (bytes_eq-Decides (word_of text a) (codes "version")).1 (ap (word_of text) (sym first.0) ∙ x.is_version) in
    let two : bytes_eq (word_of text b) (codes "2") ≡ true = (bytes_eq-Decides (word_of text b) (codes "2")).1 (ap (word_of text) (sym second.0) ∙ x.is_two) in
    let three : is_semicolon c.kind ≡ true = ap (λ (t : Lexeme). is_semicolon t.kind) (sym third.0) ∙ ap is_semicolon x.is_sign in
    let clash : false ≡ true = sym e ∙ rw (one, two, three) refl in
    cc

pub no_tokens : (text : List ℕ) → LexemesFrom Two text 0 [] → (behind : ℕ) → BeginsVersion2 text behind → ⊥
no_tokens text h behind x = let e = tokens_unique x.tokens h in cc

pub one_token : (text : List ℕ) (a : Lexeme) → LexemesFrom Two text 0 (a ∷ []) → (behind : ℕ) → BeginsVersion2 text behind → ⊥
one_token text a h behind x = let e = (next_same x.name a (x.two ∷ x.sign ∷ x.rest) [] (tokens_unique x.tokens h)).1 in cc

pub two_tokens : (text : List ℕ) (a b : Lexeme) → LexemesFrom Two text 0 (a ∷ b ∷ []) → (behind : ℕ) → BeginsVersion2 text behind → ⊥
two_tokens text a b h behind x =
    let first = next_same x.name a (x.two ∷ x.sign ∷ x.rest) (b ∷ []) (tokens_unique x.tokens h) in
    let e = (next_same x.two b (x.sign ∷ x.rest) [] first.1).1 in
    cc

by_head : (text : List ℕ) (a b c : Lexeme) (rest : List Lexeme) → LexemesFrom Two text 0 (a ∷ b ∷ c ∷ rest) → (test : Bool) → head_test text a b c ≡ test
    → Begun text
by_head text a b c rest h true e =
    record { version = Two; start = c.behind; is_of = head_yes text a b c rest h e; within = (ends_within h).1.1.0 }
by_head text a b c rest h false e = old text (head_no text a b c rest h e)

by_tokens : (text : List ℕ) (ts : List Lexeme) → LexemesFrom Two text 0 ts → Begun text
by_tokens text [] h = old text (no_tokens text h)
by_tokens text (a ∷ []) h = old text (one_token text a h)
by_tokens text (a ∷ b ∷ []) h = old text (two_tokens text a b h)
by_tokens text (a ∷ b ∷ c ∷ rest) h = by_head text a b c rest h _ refl

-- each text is of one version
pub version_begun : (text : List ℕ) → Begun text
version_begun text = let m = tokens_exist Two text 0 in by_tokens text m.0 m.1

-- no code stands within tokens that are clean

snoc_same : (xs ys : List Lexeme) (x y : Lexeme) → xs ++ (x ∷ []) ≡ ys ++ (y ∷ []) → (xs ≡ ys) × (x ≡ y)
snoc_same [] [] x y e = (refl, cc)
snoc_same [] (b ∷ []) x y e = absurd cc
snoc_same [] (b ∷ c ∷ ys) x y e = absurd cc
snoc_same (a ∷ []) [] x y e = absurd cc
snoc_same (a ∷ c ∷ xs) [] x y e = absurd cc
snoc_same (a ∷ xs) (b ∷ ys) x y e =
    let heads : a ≡ b = cc in
    let tails : xs ++ (x ∷ []) ≡ ys ++ (y ∷ []) = cc in
    let same = snoc_same xs ys x y tails in
    let whole : ◌≡◌ {A = List Lexeme} (a ∷ xs) (b ∷ ys) = cc (heads, same.0) in
    (whole, same.1)

-- the last of some tokens
last_of : (t : Lexeme) (ts : List Lexeme) → (us : List Lexeme) × (u : Lexeme) × ((t ∷ ts) ≡ us ++ (u ∷ []))
last_of t [] = ([], t, refl)
last_of t (s ∷ ts) = let m = last_of s ts in (t ∷ m.0, m.1, ap (λ us. t ∷ us) m.2)

no_empty : (xs ts : List Lexeme) (t : Lexeme) → ◌≡◌ {A = List Lexeme} [] (xs ++ (t ∷ ts)) → ⊥
no_empty [] ts t e = cc
no_empty (x ∷ xs) ts t e = cc

clean_at : {ys : List Lexeme} → Clean ys → (xs more : List Lexeme) (t : Lexeme) → ys ≡ xs ++ (t ∷ more) → (c : SpecCode) → Stands c xs (Some t) → ⊥
clean_at none xs more t e c h = no_empty xs more t e
clean_at (next {xs = zs} {ys = ys} s whole clean stands) xs [] t e c h =
    let same = snoc_same zs xs s t (sym whole ∙ e) in
    let moved : Stands c zs (Some s) =
    subst (λ u. Stands c zs (Some u)) (sym same.1) (subst (λ us. Stands c us (Some t)) (sym same.0) h) in
    stands c moved
clean_at (next {xs = zs} {ys = ys} s whole clean stands) xs (m ∷ more) t e c h =
    let l = last_of m more in
    let cut : xs ++ (t ∷ m ∷ more) ≡ (xs ++ (t ∷ l.0)) ++ (l.1 ∷ []) =
    ap (λ us. xs ++ (t ∷ us)) l.2 ∙ sym (append_assoc xs (t ∷ l.0) (l.1 ∷ [])) in
    let same = snoc_same zs (xs ++ (t ∷ l.0)) s l.1 (sym whole ∙ e ∙ cut) in
    clean_at clean xs l.0 t same.0 c h

-- two cuts of one list
data Cuts (a r b s : List Lexeme) : Type 0 where
  equal : a ≡ b → r ≡ s → Cuts a r b s
  first_shorter : (t : Lexeme) (more : List Lexeme) → b ≡ a ++ (t ∷ more) → front r ≡ Some t → Cuts a r b s
  first_longer : (t : Lexeme) (more : List Lexeme) → a ≡ b ++ (t ∷ more) → front s ≡ Some t → Cuts a r b s

cuts : (a r b s : List Lexeme) → a ++ r ≡ b ++ s → Cuts a r b s
cuts [] r [] s e = equal refl e
cuts [] r (y ∷ b) s e = first_shorter y b refl (ap front e)
cuts (x ∷ a) r [] s e = first_longer x a refl (ap front (sym e))
cuts (x ∷ a) r (y ∷ b) s e =
    let heads : x ≡ y = cc in
    let tails : a ++ r ≡ b ++ s = cc in
    one_more (cuts a r b s tails) heads
  where
    one_more : Cuts a r b s → x ≡ y → Cuts (x ∷ a) r (y ∷ b) s
    one_more (equal f g) h = equal (cc (f, h)) g
    one_more (first_shorter t more f g) h = first_shorter t more (cc (f, h)) g
    one_more (first_longer t more f g) h = first_longer t more (cc (f, h)) g

-- codes with one number are one code

code_of : ℕ → SpecCode
code_of n =
    if n == 1 then S1
    else (if n == 2 then S2
    else (if n == 3 then S3
    else (if n == 4 then S4
    else (if n == 5 then S5
    else (if n == 6 then S6
    else (if n == 7 then S7
    else (if n == 8 then S8
    else (if n == 9 then S9
    else (if n == 10 then S10
    else (if n == 11 then S11
    else (if n == 12 then S12
    else (if n == 13 then S13
    else (if n == 14 then S14 else S15)))))))))))))

numbered : (c : SpecCode) → code_of (number c) ≡ c
unfolding code_of
numbered S1 = refl
numbered S2 = refl
numbered S3 = refl
numbered S4 = refl
numbered S5 = refl
numbered S6 = refl
numbered S7 = refl
numbered S8 = refl
numbered S9 = refl
numbered S10 = refl
numbered S11 = refl
numbered S12 = refl
numbered S13 = refl
numbered S14 = refl
numbered S15 = refl

same_code : (c d : SpecCode) → number c ≡ number d → c ≡ d
same_code c d e = sym (numbered c) ∙ ap code_of e ∙ numbered d

-- one first fault
pub one_fault : (text : List ℕ) (c d : SpecCode) (p q : ℕ) → StandsFirst text c p → StandsFirst text d q
    → (c ≡ d) × (p ≡ q)
one_fault text c d p q x y = same (cuts x.before x.rest y.before y.rest (one_list text x.tokens y.tokens))
  where
    same : Cuts x.before x.rest y.before y.rest → (c ≡ d) × (p ≡ q)
    same (equal e f) =
        let now : front x.rest ≡ front y.rest = ap front f in
        let there : Stands d x.before (front x.rest) =
        subst (λ now. Stands d x.before now) (sym now) (subst (λ before. Stands d before (front y.rest)) (sym e) y.stands) in
        let here : Stands c y.before (front y.rest) =
        subst (λ now. Stands c y.before now) now (subst (λ before. Stands c before (front x.rest)) e x.stands) in
        let low = x.least d there in
        let high = y.least c here in
        (same_code c d (omega (arith, low, high)), x.at_place ∙ ap (place_of text) now ∙ sym y.at_place)
    same (first_shorter t more e f) = absurd (clean_at y.clean x.before more t e c (subst (λ now. Stands c x.before now) f x.stands))
    same (first_longer t more e f) = absurd (clean_at x.clean y.before more t e d (subst (λ now. Stands d y.before now) f y.stands))

-- where a specification ends no code stands
end_clean : (xs : List Lexeme) (found : Syntax) → Specifies xs found → (c : SpecCode) → Kinds c xs None → ⊥
end_clean xs found h c (by_byte e k) = k
end_clean xs found h c (by_depth e (inl k) o) = k
end_clean xs found h c (by_depth e (inr k) o) = k
end_clean xs found h c (by_token e (inl k) without) = k
end_clean xs found h c (by_token e (inr stops) without) = stops (found, h)
end_clean xs found h c (by_section m) =
    let code : end_code NextExpr ≡ Some c = missing_at_end xs NextExpr 0 c (specified_run xs found h) m in
    let clash : ◌≡◌ {A = Option SpecCode} None (Some c) = code in
    cc

-- a text is not both
pub not_both : (text : List ℕ) (c : SpecCode) (p : ℕ) → IsShaped text → StandsFirst text c p → ⊥
not_both text c p x y = clash y.rest refl
  where
    clash : (rest : List Lexeme) → y.rest ≡ rest → ⊥
    clash [] e =
        let all : x.tokens ≡ y.before =
        one_list text x.are_tokens y.tokens ∙ ap (λ rest. y.before ++ rest) e ∙ append-nil y.before in
        let h : Specifies y.before x.syntax = subst (λ ts. Specifies ts x.syntax) all x.specifies in
        let stands : Stands c y.before None = subst (λ rest. Stands c y.before (front rest)) e y.stands in
        end_clean y.before x.syntax h c (kinds c y.before None stands)
    clash (t ∷ rest) e =
        let all : x.tokens ≡ y.before ++ (t ∷ rest) = one_list text x.are_tokens y.tokens ∙ ap (λ rest. y.before ++ rest) e in
        let stands : Stands c y.before (Some t) = subst (λ rest. Stands c y.before (front rest)) e y.stands in
        clean_at x.clean y.before rest t all c stands

-- what the text says where it is shaped
pub says : (text : List ℕ) (x : IsShaped text) → Says text x.syntax
says text x = record { tokens = x.tokens; are_tokens = x.are_tokens; clean = x.clean; specifies = x.specifies }

-- each text is one of both

at_the_end : (version : Version) (text : List ℕ) (place : ℕ) (state : State) → length text ≤ place → Followed version text place state
    → (o : Option SpecCode) → end_code state.due ≡ o → IsShaped text ⊎ ((code : SpecCode) × (at_byte : ℕ) × StandsFirst text code at_byte)
at_the_end version text place state past h None e = inl (good_text version text place state past e h)
at_the_end version text place state past h (Some c) e = inr (c, place, fault_at_end version text place state c past e h)

over_one : (version : Version) (text : List ℕ) (place : ℕ) (state : State) → place < length text → Followed version text place state
    → ((s : State) → Followed version text (place + first_size version (drop place text)) s → IsShaped text ⊎ ((code : SpecCode) × (at_byte : ℕ) × StandsFirst text code at_byte))
    → (r : Result State SpecCode) → piece_step (first_kind version (drop place text)) state ≡ r
    → IsShaped text ⊎ ((code : SpecCode) × (at_byte : ℕ) × StandsFirst text code at_byte)
over_one version text place state inside h go (Ok s) e =
    go s (over_piece version text place state s (first_kind version (drop place text)) (place + first_size version (drop place text)) inside refl refl e h)
over_one version text place state inside h go (Err c) e = inr (c, place, fault_piece version text place state c (first_kind version (drop place text)) inside refl e h)

decided : (version : Version) (text : List ℕ) (fuel place : ℕ) (state : State) → length text ≤ place + fuel → Followed version text place state
    → IsShaped text ⊎ ((code : SpecCode) × (at_byte : ℕ) × StandsFirst text code at_byte)
decided version text zero place state enough h = at_the_end version text place state (omega (arith, enough)) h (end_code state.due) refl
decided version text (suc fuel) place state enough h = elim (cases_lt place (length text)) [
  | inl inside ↦ (
      let further = piece_further version text place inside in
      over_one version text place state inside h
      (λ s after. decided version text fuel (place + first_size version (drop place text)) s (omega (arith, enough, further)) after)
      (piece_step (first_kind version (drop place text)) state) refl)
  | inr past ↦ at_the_end version text place state past h (end_code state.due) refl
]

pub one_of_both : (text : List ℕ) → IsShaped text ⊎ ((code : SpecCode) × (at_byte : ℕ) × StandsFirst text code at_byte)
one_of_both text =
    let b = version_begun text in
    decided b.version text (length text) b.start (record { due = FirstLine; depth = 0 }) (omega arith) (begins b.version text b.start b.is_of b.within)

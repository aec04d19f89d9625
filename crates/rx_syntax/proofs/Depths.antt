-- How deep parentheses nest: an expression is printed with no more of them than the text that it was read from.
use Rattle.std.proofs.Common.{◌≡◌, ℕ, zero, suc, ◌+◌, ◌<◌, ◌≤◌, ◌⊎◌, inl, inr, Bool, true, false, List, [], ◌∷◌, ◌++◌, refl, ap, sym, ◌∙◌, subst, arith}
use Rattle.std.specs.Prelude.{max, pred, length, fold, slice_index_or, if◌then◌else◌}
use Rattle.std.specs.Fmt.{decimal}
use Rattle.std.specs.List.{list_all}
use Rattle.std.proofs.lemmas.Bool.{cases_eq}
use Rattle.rx_lang.specs.Expression as lang
use Rattle.rx_lang.specs.Expression.{Expr}
use Rattle.rx_text.specs.NumberInText.{is_digit}
use Rattle.rx_syntax.specs.Tokens.{is_place_byte}
use Rattle.rx_syntax.specs.Lexemes.{Lexeme, run_kind}
use Rattle.rx_syntax.specs.Grammar.{Tree, leaf, union, Level, unions, sequences, parts, AreNames, IsNumber, class_tree, Derives, named, closed, classed, starred, looped, optioned, noted, repeated, alone, followed, single, either}
use Rattle.rx_syntax.specs.Accepted.{resolve}
use Rattle.rx_syntax.specs.Refusals.{opened, open_after, Clean, none, next}
use Rattle.rx_syntax.specs.declared.kind.Kind.{Kind}
use Rattle.rx_syntax.specs.declared.kind.Kind.TheVariants.{Name, Bits, Pattern, Number, Run, Bar, Star, Plus, Question, Mark, Open, Close, OpenBrace, CloseBrace, Comma, OpenBracket, CloseBracket}
use Rattle.rx_syntax.specs.declared.spec_code.SpecCode.TheVariants.{S14}
use Rattle.rx_syntax.proofs.Bits.{Bit, blank, piece, bits_text, tokens_of, tokens_append}
use Rattle.rx_syntax.proofs.PrintedExprs.{natural, needs, enclosed_bits, bounds_bits, expr_bits}

-- the most parentheses that are open before, between and behind the tokens
abbrev pub deepest : ℕ → List Lexeme → ℕ
deepest d [] = d
deepest d (t ∷ ts) = max d (deepest (opened t.kind d) ts)

pub deepest_from : (d : ℕ) (xs : List Lexeme) → d ≤ deepest d xs
deepest_from d [] = omega arith
deepest_from d (t ∷ ts) = omega arith

pub open_append : (d : ℕ) (xs ys : List Lexeme) → open_after d (xs ++ ys) ≡ open_after (open_after d xs) ys
open_append d [] ys = refl
open_append d (t ∷ ts) ys = open_append (opened t.kind d) ts ys

pub deepest_append : (d : ℕ) (xs ys : List Lexeme) → deepest d (xs ++ ys) ≡ max (deepest d xs) (deepest (open_after d xs) ys)
deepest_append d [] ys = omega (arith, deepest_from d ys)
deepest_append d (t ∷ ts) ys = omega (arith, deepest_append (opened t.kind d) ts ys)

-- one more parenthesis, if it is needed
abbrev pub held : Bool → ℕ → ℕ
held false n = n
held true n = suc n

-- how deep the parentheses nest with which an expression is printed
abbrev pub depth : Expr → ℕ
depth (lang.symbol s) = 0
depth (lang.sequence f g) = max (held (needs sequences (natural f)) (depth f)) (held (needs parts (natural g)) (depth g))
depth (lang.union f g) = max (depth f) (held (needs sequences (natural g)) (depth g))
depth (lang.star f) = held (needs parts (natural f)) (depth f)
depth (lang.plus f) = held (needs parts (natural f)) (depth f)
depth (lang.optional f) = held (needs parts (natural f)) (depth f)
depth (lang.marked f y) = held (needs parts (natural f)) (depth f)
depth (lang.repeated f m n) = held (needs parts (natural f)) (depth f)

held_most : (b : Bool) (n : ℕ) → held b n ≤ suc n
held_most false n = omega arith
held_most true n = omega arith

parts_need : (l : Level) (n : ℕ) → held (needs sequences l) n ≤ held (needs parts l) n
parts_need unions n = omega arith
parts_need sequences n = omega arith
parts_need parts n = omega arith

sequences_need : (l : Level) (n : ℕ) → n ≤ held (needs sequences l) n
sequences_need unions n = omega arith
sequences_need sequences n = omega arith
sequences_need parts n = omega arith

-- an expression closes what it opens

names_balanced : (ts : List Lexeme) → AreNames ts → (d : ℕ) → open_after d ts ≡ d
names_balanced [] h d = refl
names_balanced (t ∷ ts) (k, h) d = ap (λ k. open_after (opened k d) ts) k ∙ names_balanced ts h d

number_opens : (t : Lexeme) → IsNumber t → (d : ℕ) → opened t.kind d ≡ d
number_opens t (inl e) d = ap (λ k. opened k d) e
number_opens t (inr e) d = ap (λ k. opened k d) e

bounds_balanced : (o least comma most c : Lexeme) → o.kind ≡ OpenBrace → IsNumber least → comma.kind ≡ Comma → IsNumber most → c.kind ≡ CloseBrace
    → (d : ℕ) → open_after d (o ∷ least ∷ comma ∷ most ∷ c ∷ []) ≡ d
bounds_balanced o least comma most c ko kl kc km ke d =
    rw (ko, number_opens least kl d, kc, number_opens most km d, ke) refl

pub balanced : {l : Level} {xs : List Lexeme} {e : Tree} → Derives l xs e → (d : ℕ) → open_after d xs ≡ d
balanced (named {t = t} k whole) d = ap (open_after d) whole ∙ ap (λ k. opened k d) k
balanced (closed {ys = ys} o c ko kc whole inner) d =
    ap (open_after d) whole ∙ ap (λ k. open_after (opened k d) (ys ++ (c ∷ []))) ko ∙ open_append (suc d) ys (c ∷ [])
    ∙ ap (λ n. opened c.kind n) (balanced inner (suc d)) ∙ ap (λ k. opened k (suc d)) kc
balanced (starred {ys = ys} s k whole inner) d =
    ap (open_after d) whole ∙ open_append d ys (s ∷ []) ∙ ap (opened s.kind) (balanced inner d) ∙ ap (λ k. opened k d) k
balanced (looped {ys = ys} s k whole inner) d =
    ap (open_after d) whole ∙ open_append d ys (s ∷ []) ∙ ap (opened s.kind) (balanced inner d) ∙ ap (λ k. opened k d) k
balanced (optioned {ys = ys} s k whole inner) d =
    ap (open_after d) whole ∙ open_append d ys (s ∷ []) ∙ ap (opened s.kind) (balanced inner d) ∙ ap (λ k. opened k d) k
balanced (noted {ys = ys} s {t = t} k n whole inner) d =
    ap (open_after d) whole ∙ open_append d ys (s ∷ t ∷ []) ∙ ap (λ m. opened t.kind (opened s.kind m)) (balanced inner d)
    ∙ ap (λ k. opened t.kind (opened k d)) k ∙ ap (λ k. opened k d) n
balanced (classed o t c names ko kc are whole) d =
    ap (open_after d) whole ∙ ap (λ k. open_after (opened k d) ((t ∷ names) ++ (c ∷ []))) ko ∙ open_append (suc d) (t ∷ names) (c ∷ [])
    ∙ ap (λ n. opened c.kind n) (names_balanced (t ∷ names) are (suc d)) ∙ ap (λ k. opened k (suc d)) kc
balanced (repeated {ys = ys} o least comma most c ko kl kc km ke whole inner) d =
    let bounds = o ∷ least ∷ comma ∷ most ∷ c ∷ [] in
    ap (open_after d) whole ∙ open_append d ys bounds ∙ ap (λ n. open_after n bounds) (balanced inner d) ∙ bounds_balanced o least comma most c ko kl kc km ke d
balanced (alone inner) d = balanced inner d
balanced (followed {ys = ys} {zs = zs} whole first second) d =
    ap (open_after d) whole ∙ open_append d ys zs ∙ ap (λ n. open_after n zs) (balanced first d) ∙ balanced second d
balanced (single inner) d = balanced inner d
balanced (either {ys = ys} {zs = zs} b k whole first second) d =
    ap (open_after d) whole ∙ open_append d ys (b ∷ zs) ∙ ap (λ n. open_after (opened b.kind n) zs) (balanced first d)
    ∙ ap (λ k. open_after (opened k d) zs) k ∙ balanced second d

module _ (symbol output : List ℕ → ℕ) (text : List ℕ) where
  abbrev meant : Tree → Expr
  meant t = resolve symbol output text t

  -- a class is printed with one parenthesis at most
  class_flat : (e : Tree) (ts : List Lexeme) → depth (meant e) ≡ 0 → depth (meant (fold (λ e u. union e (leaf u)) e ts)) ≡ 0
  class_flat e [] flat = flat
  class_flat e (t ∷ ts) flat = class_flat (union e (leaf t)) ts (omega (arith, flat))

  -- tokens behind others change nothing
  front_deep : (d n : ℕ) (xs ys zs : List Lexeme) → zs ≡ xs ++ ys → d + n ≤ deepest d xs → d + n ≤ deepest d zs
  front_deep d n xs ys zs whole h = subst (λ ts. d + n ≤ deepest d ts) (sym whole) (omega (arith, h, deepest_append d xs ys))

  -- an expression was read with at least as many parentheses as it is printed with
  pub deep_enough : {l : Level} {xs : List Lexeme} {t : Tree} → Derives l xs t → (d : ℕ) → d + held (needs l (natural (meant t))) (depth (meant t)) ≤ deepest d xs
  deep_enough {xs = xs} (named k whole) d = omega (arith, deepest_from d xs)
  deep_enough (closed {xs = xs} {ys = ys} {e = e} o c ko kc whole inner) d =
      let i = deep_enough inner (suc d) in
      let cut : deepest d xs ≡ max d (deepest (suc d) (ys ++ (c ∷ []))) =
      ap (deepest d) whole ∙ ap (λ k. max d (deepest (opened k d) (ys ++ (c ∷ [])))) ko in
      omega (arith, cut, deepest_append (suc d) ys (c ∷ []), i, held_most (needs parts (natural (meant e))) (depth (meant e)))
  deep_enough (starred {xs = xs} {ys = ys} {e = e} s k whole inner) d =
      front_deep d (held (needs parts (natural (meant e))) (depth (meant e))) ys (s ∷ []) xs whole (deep_enough inner d)
  deep_enough (looped {xs = xs} {ys = ys} {e = e} s k whole inner) d =
      front_deep d (held (needs parts (natural (meant e))) (depth (meant e))) ys (s ∷ []) xs whole (deep_enough inner d)
  deep_enough (optioned {xs = xs} {ys = ys} {e = e} s k whole inner) d =
      front_deep d (held (needs parts (natural (meant e))) (depth (meant e))) ys (s ∷ []) xs whole (deep_enough inner d)
  deep_enough (noted {xs = xs} {ys = ys} {e = e} s {t = t} k n whole inner) d =
      front_deep d (held (needs parts (natural (meant e))) (depth (meant e))) ys (s ∷ t ∷ []) xs whole (deep_enough inner d)
  deep_enough (classed {xs = xs} o t c names ko kc are whole) d =
      let e = class_tree t names in
      let cut : deepest d xs ≡ max d (deepest (suc d) ((t ∷ names) ++ (c ∷ []))) =
      ap (deepest d) whole ∙ ap (λ k. max d (deepest (opened k d) ((t ∷ names) ++ (c ∷ [])))) ko in
      omega (
        arith,
        cut,
        deepest_from (suc d) ((t ∷ names) ++ (c ∷ [])),
        held_most (needs parts (natural (meant e))) (depth (meant e)),
        class_flat (leaf t) names refl,
      )
  deep_enough (repeated {xs = xs} {ys = ys} {e = e} o least comma most c ko kl kc km ke whole inner) d =
      front_deep d (held (needs parts (natural (meant e))) (depth (meant e))) ys (o ∷ least ∷ comma ∷ most ∷ c ∷ []) xs whole (deep_enough inner d)
  deep_enough (alone {e = e} inner) d = omega (arith, deep_enough inner d, parts_need (natural (meant e)) (depth (meant e)))
  deep_enough (followed {xs = xs} {ys = ys} {zs = zs} {e = e} {f = f} whole first second) d =
      let cut : deepest d xs ≡ max (deepest d ys) (deepest d zs) =
      ap (deepest d) whole ∙ deepest_append d ys zs ∙ ap (λ n. max (deepest d ys) (deepest n zs)) (balanced first d) in
      omega (arith, cut, deep_enough first d, deep_enough second d)
  deep_enough (single {e = e} inner) d = omega (arith, deep_enough inner d, sequences_need (natural (meant e)) (depth (meant e)))
  deep_enough (either {xs = xs} {ys = ys} {zs = zs} {e = e} {f = f} b k whole first second) d =
      let cut : deepest d xs ≡ max (deepest d ys) (max d (deepest d zs)) =
      ap (deepest d) whole ∙ deepest_append d ys (b ∷ zs) ∙ ap (λ n. max (deepest d ys) (max n (deepest (opened b.kind n) zs))) (balanced first d)
      ∙ ap (λ k. max (deepest d ys) (max d (deepest (opened k d) zs))) k in
      omega (arith, cut, deep_enough first d, deep_enough second d)

open_within : (d : ℕ) (xs : List Lexeme) → open_after d xs ≤ deepest d xs
open_within d [] = omega arith
open_within d (t ∷ ts) = omega (arith, open_within (opened t.kind d) ts)

pred_low : (n : ℕ) → pred n ≤ n
pred_low zero = omega arith
pred_low (suc n) = omega arith

opens_or_not : (k : Kind) (d : ℕ) → ((k ≡ Open) ⊎ (k ≡ OpenBracket)) ⊎ (opened k d ≤ d)
opens_or_not Open d = inl (inl refl)
opens_or_not OpenBracket d = inl (inr refl)
opens_or_not Close d = inr (pred_low d)
opens_or_not CloseBracket d = inr (pred_low d)
opens_or_not k d = inr (omega arith)

opens_one : (k : Kind) (d : ℕ) → (k ≡ Open) ⊎ (k ≡ OpenBracket) → opened k d ≡ suc d
opens_one k d (inl e) = ap (λ k. opened k d) e
opens_one k d (inr e) = ap (λ k. opened k d) e

-- where no code stands, at most 200 parentheses are open
pub clean_deepest : {xs : List Lexeme} → Clean xs → deepest 0 xs ≤ 200
clean_deepest none = omega arith
clean_deepest (next {xs = xs} {ys = ys} t whole clean stands) =
    let before = clean_deepest clean in
    let now = open_after 0 xs in
    let low = open_within 0 xs in
    let cut : deepest 0 ys ≡ max (deepest 0 xs) (max now (opened t.kind now)) = ap (deepest 0) whole ∙ deepest_append 0 xs (t ∷ []) in
    elim (opens_or_not t.kind now) [
      | inl open_now ↦ elim (cases_eq now 200) [
        | inl full ↦ absurd (stands S14 (open_now, full))
        | inr less ↦ (
            let rises = opens_one t.kind now open_now in
            let under : now < 200 = omega (arith, low, before, less) in
            omega (arith, cut, before, low, rises, under))
      ]
      | inr flat ↦ omega (arith, cut, before, low, flat)
    ]

-- Printed bits close what they open, and nest so deep.
abbrev pub IsFlat : List Bit → ℕ → Type 0
IsFlat xs n = (place d : ℕ) → (open_after d (tokens_of place xs) ≡ d) × (deepest d (tokens_of place xs) ≤ d + n)

pub flat_none : (n : ℕ) → IsFlat [] n
flat_none n place d = (refl, omega arith)

pub flat_append : (xs ys : List Bit) (n m : ℕ) → IsFlat xs n → IsFlat ys m → IsFlat (xs ++ ys) (max n m)
flat_append xs ys n m h i place d =
    let ts = tokens_of place xs in
    let us = tokens_of (place + length (bits_text xs)) ys in
    let cut = tokens_append place xs ys in
    let first = h place d in
    let second = i (place + length (bits_text xs)) d in
    let deep : deepest d (tokens_of place (xs ++ ys)) ≡ max (deepest d ts) (deepest d us) =
    ap (deepest d) cut ∙ deepest_append d ts us ∙ ap (λ k. max (deepest d ts) (deepest k us)) first.0 in
    (ap (open_after d) cut ∙ open_append d ts us ∙ ap (λ k. open_after k us) first.0 ∙ second.0, omega (arith, deep, first.1, second.1))

pub flat_blank : (byte : ℕ) (xs : List Bit) (n : ℕ) → IsFlat xs n → IsFlat (blank byte ∷ xs) n
flat_blank byte xs n h place d = h (place + 1) d

pub flat_piece : (k : Kind) (bytes : List ℕ) (xs : List Bit) (n : ℕ) → ((d : ℕ) → opened k d ≡ d) → IsFlat xs n → IsFlat (piece k bytes ∷ xs) n
flat_piece k bytes xs n plain h place d =
    let ts = tokens_of (place + length bytes) xs in
    let rest = h (place + length bytes) d in
    let deep : deepest d (tokens_of place (piece k bytes ∷ xs)) ≡ max d (deepest d ts) = ap (λ e. max d (deepest e ts)) (plain d) in
    (ap (λ e. open_after e ts) (plain d) ∙ rest.0, omega (arith, deep, rest.1))

flat_enclosed : (b : Bool) (xs : List Bit) (n : ℕ) → IsFlat xs n → IsFlat (enclosed_bits b xs) (held b n)
flat_enclosed false xs n h place d = h place d
flat_enclosed true xs n h place d =
    let close : List Bit = piece Close (41 ∷ []) ∷ [] in
    let ts = tokens_of (place + 1) xs in
    let us = tokens_of ((place + 1) + length (bits_text xs)) close in
    let cut = tokens_append (place + 1) xs close in
    let inner = h (place + 1) (suc d) in
    let deep : deepest (suc d) (tokens_of (place + 1) (xs ++ close)) ≡ max (deepest (suc d) ts) (max (suc d) d) =
    ap (deepest (suc d)) cut ∙ deepest_append (suc d) ts us ∙ ap (λ k. max (deepest (suc d) ts) (deepest k us)) inner.0 in
    (ap (open_after (suc d)) cut ∙ open_append (suc d) ts us ∙ ap (λ k. open_after k us) inner.0, omega (arith, deep, inner.1))

-- a run opens nothing
pub run_opens : (run : List ℕ) (d : ℕ) → opened (run_kind run) d ≡ d
run_opens run d = by_tests (list_all is_place_byte run) (list_all is_digit run)
  where
    by_tests : (places digits : Bool) → opened (if places then (if digits then Bits else Pattern) else (if digits then Number else Run)) d ≡ d
    by_tests true true = refl
    by_tests true false = refl
    by_tests false true = refl
    by_tests false false = refl

bounds_flat : (m n : ℕ) → IsFlat (bounds_bits m n) 0
bounds_flat m n =
    let close : List Bit = piece CloseBrace (125 ∷ []) ∷ [] in
    let four : List Bit = piece (run_kind (decimal n)) (decimal n) ∷ close in
    let three : List Bit = piece Comma (44 ∷ []) ∷ four in
    let two : List Bit = piece (run_kind (decimal m)) (decimal m) ∷ three in
    flat_piece OpenBrace (123 ∷ []) two 0 (λ d. refl)
    (flat_piece (run_kind (decimal m)) (decimal m) three 0 (run_opens (decimal m))
    (flat_piece Comma (44 ∷ []) four 0 (λ d. refl)
    (flat_piece (run_kind (decimal n)) (decimal n) close 0 (run_opens (decimal n)) (flat_piece CloseBrace (125 ∷ []) [] 0 (λ d. refl) (flat_none 0)))))

module _ (symbols outputs : List (List ℕ)) where
  flat_sign : (f : Expr) (ys : List Bit) → IsFlat (expr_bits symbols outputs f) (depth f) → IsFlat ys 0
      → IsFlat (enclosed_bits (needs parts (natural f)) (expr_bits symbols outputs f) ++ ys) (held (needs parts (natural f)) (depth f))
  flat_sign f ys h i place d =
      let both = flat_append (enclosed_bits (needs parts (natural f)) (expr_bits symbols outputs f)) ys (held (needs parts (natural f)) (depth f)) 0
      (flat_enclosed (needs parts (natural f)) (expr_bits symbols outputs f) (depth f) h) i place d in
      (both.0, omega (arith, both.1))

  pub expr_flat : (e : Expr) → IsFlat (expr_bits symbols outputs e) (depth e)
  expr_flat (lang.symbol s) = flat_piece Name (slice_index_or symbols s []) [] 0 (λ d. refl) (flat_none 0)
  expr_flat (lang.sequence f g) =
      flat_append (enclosed_bits (needs sequences (natural f)) (expr_bits symbols outputs f))
      (blank 32 ∷ enclosed_bits (needs parts (natural g)) (expr_bits symbols outputs g))
      (held (needs sequences (natural f)) (depth f)) (held (needs parts (natural g)) (depth g))
      (flat_enclosed (needs sequences (natural f)) (expr_bits symbols outputs f) (depth f) (expr_flat f))
      (flat_blank 32 (enclosed_bits (needs parts (natural g)) (expr_bits symbols outputs g)) (held (needs parts (natural g)) (depth g)) (flat_enclosed (needs parts (natural g)) (expr_bits symbols outputs g) (depth g) (expr_flat g)))
  expr_flat (lang.union f g) =
      let ys = enclosed_bits (needs sequences (natural g)) (expr_bits symbols outputs g) in
      let n = held (needs sequences (natural g)) (depth g) in
      flat_append (expr_bits symbols outputs f) (blank 32 ∷ piece Bar (124 ∷ []) ∷ blank 32 ∷ ys) (depth f) n (expr_flat f)
      (flat_blank 32 (piece Bar (124 ∷ []) ∷ blank 32 ∷ ys) n (flat_piece Bar (124 ∷ []) (blank 32 ∷ ys) n (λ d. refl)
      (flat_blank 32 ys n (flat_enclosed (needs sequences (natural g)) (expr_bits symbols outputs g) (depth g) (expr_flat g)))))
  expr_flat (lang.star f) = flat_sign f (piece Star (42 ∷ []) ∷ []) (expr_flat f) (flat_piece Star (42 ∷ []) [] 0 (λ d. refl) (flat_none 0))
  expr_flat (lang.plus f) = flat_sign f (piece Plus (43 ∷ []) ∷ []) (expr_flat f) (flat_piece Plus (43 ∷ []) [] 0 (λ d. refl) (flat_none 0))
  expr_flat (lang.optional f) = flat_sign f (piece Question (63 ∷ []) ∷ []) (expr_flat f) (flat_piece Question (63 ∷ []) [] 0 (λ d. refl) (flat_none 0))
  expr_flat (lang.marked f y) =
      let name : List Bit = piece Name (slice_index_or outputs y []) ∷ [] in
      flat_sign f (blank 32 ∷ piece Mark (33 ∷ []) ∷ name) (expr_flat f)
      (flat_blank 32 (piece Mark (33 ∷ []) ∷ name) 0 (flat_piece Mark (33 ∷ []) name 0 (λ d. refl)
      (flat_piece Name (slice_index_or outputs y []) [] 0 (λ d. refl) (flat_none 0))))
  expr_flat (lang.repeated f m n) = flat_sign f (bounds_bits m n) (expr_flat f) (bounds_flat m n)

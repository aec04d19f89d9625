-- The tokens of printed expressions, and what they say.
use Rattle.std.proofs.Common.{◌≡◌, ℕ, ◌<◌, ◌≤◌, Bool, true, false, List, [], ◌∷◌, ◌++◌, length, refl, ap, sym, ◌∙◌, subst, arith}
use Rattle.std.specs.Prelude.{slice_index_or, ◌||◌}
use Rattle.std.specs.Fmt.{decimal}
use Rattle.std.proofs.lemmas.List.{append-nil}
use Rattle.rx_text.specs.Name.{is_name_byte}
use Rattle.rx_lang.specs.Expression as lang
use Rattle.rx_lang.specs.Expression.{Expr}
use Rattle.rx_syntax.specs.Grammar.{Level, unions, sequences, parts}
use Rattle.rx_syntax.specs.Lexemes.{run_kind}
use Rattle.rx_syntax.specs.Printed.{is_union, is_compound, has_repeat, enclosed, expr_text}
use Rattle.rx_syntax.specs.declared.version.Version.{Version}
use Rattle.rx_syntax.specs.declared.version.Version.TheVariants.{Two}
use Rattle.rx_syntax.specs.declared.kind.Kind.TheVariants.{Name, Bar, Star, Plus, Question, Mark, Open, Close, OpenBrace, CloseBrace, Comma}
use Rattle.rx_syntax.proofs.Bits.{Bit, blank, piece, bits_text, Fits, AllFit, bits_append, fit_append, blank_fits, sign_fits, IsPlainName, name_fits}
use Rattle.rx_syntax.proofs.PrintedNumbers.{number_fits}
use Rattle.rx_syntax.proofs.Runs.{StopsAt}

-- the level of an expression that is printed without parentheses
abbrev pub natural : Expr → Level
natural (lang.symbol s) = parts
natural (lang.sequence f g) = sequences
natural (lang.union f g) = unions
natural (lang.star f) = parts
natural (lang.plus f) = parts
natural (lang.optional f) = parts
natural (lang.marked f y) = parts
natural (lang.repeated f m n) = parts

-- where this level is due, an expression of that one stands in parentheses
abbrev pub needs : Level → Level → Bool
needs unions n = false
needs sequences unions = true
needs sequences sequences = false
needs sequences parts = false
needs parts unions = true
needs parts sequences = true
needs parts parts = false

abbrev pub enclosed_bits : Bool → List Bit → List Bit
enclosed_bits false xs = xs
enclosed_bits true xs = piece Open (40 ∷ []) ∷ (xs ++ (piece Close (41 ∷ []) ∷ []))

-- `{`, a number, `,`, a number and `}`
abbrev pub bounds_bits : ℕ → ℕ → List Bit
bounds_bits m n =
    piece OpenBrace (123 ∷ []) ∷ piece (run_kind (decimal m)) (decimal m) ∷ piece Comma (44 ∷ []) ∷ piece (run_kind (decimal n)) (decimal n)
    ∷ piece CloseBrace (125 ∷ []) ∷ []

-- All of these are names of the version.
abbrev pub ArePlain : Version → List (List ℕ) → Type 0
ArePlain version names = (k : ℕ) → k < length names → IsPlainName version (slice_index_or names k [])

pub space_fits : (version : Version) (rest : List ℕ) → Fits version (blank 32) rest
space_fits version rest = blank_fits version 32 rest refl refl refl refl refl

pub blank_line_fits : (version : Version) (rest : List ℕ) → Fits version (blank 10) rest
blank_line_fits version rest = blank_fits version 10 rest refl refl refl refl refl

bounds_fit : (m n : ℕ) → m ≤ 255 → n ≤ 255 → (rest : List ℕ) → AllFit Two (bounds_bits m n) rest
bounds_fit m n low high rest =
    let last = 125 ∷ rest in
    let most = bits_text (piece (run_kind (decimal n)) (decimal n) ∷ piece CloseBrace (125 ∷ []) ∷ []) ++ rest in
    let least = bits_text (piece (run_kind (decimal m)) (decimal m) ∷ piece Comma (44 ∷ []) ∷ piece (run_kind (decimal n)) (decimal n) ∷ piece CloseBrace (125 ∷ []) ∷ []) ++ rest in (
      sign_fits Two 123 least refl refl refl refl refl,
      (
        number_fits m low (44 ∷ most) refl,
        (sign_fits Two 44 most refl refl refl refl refl, (number_fits n high last refl, (sign_fits Two 125 rest refl refl refl refl refl, tt))),
      ),
    )

left_true : (a b : Bool) → a ≡ true → (a || b) ≡ true
left_true true b e = refl
left_true false b e = absurd cc

right_true : (a b : Bool) → b ≡ true → (a || b) ≡ true
right_true true b e = refl
right_true false b e = e

module _ (symbols outputs : List (List ℕ)) where
  abbrev pub expr_bits : Expr → List Bit
  expr_bits (lang.symbol s) = piece Name (slice_index_or symbols s []) ∷ []
  expr_bits (lang.sequence f g) =
      enclosed_bits (needs sequences (natural f)) (expr_bits f) ++ (blank 32 ∷ enclosed_bits (needs parts (natural g)) (expr_bits g))
  expr_bits (lang.union f g) =
      expr_bits f ++ (blank 32 ∷ piece Bar (124 ∷ []) ∷ blank 32 ∷ enclosed_bits (needs sequences (natural g)) (expr_bits g))
  expr_bits (lang.star f) = enclosed_bits (needs parts (natural f)) (expr_bits f) ++ (piece Star (42 ∷ []) ∷ [])
  expr_bits (lang.plus f) = enclosed_bits (needs parts (natural f)) (expr_bits f) ++ (piece Plus (43 ∷ []) ∷ [])
  expr_bits (lang.optional f) = enclosed_bits (needs parts (natural f)) (expr_bits f) ++ (piece Question (63 ∷ []) ∷ [])
  expr_bits (lang.marked f y) =
      enclosed_bits (needs parts (natural f)) (expr_bits f)
      ++ (blank 32 ∷ piece Mark (33 ∷ []) ∷ piece Name (slice_index_or outputs y []) ∷ [])
  expr_bits (lang.repeated f m n) = enclosed_bits (needs parts (natural f)) (expr_bits f) ++ bounds_bits m n

  -- the text

  union_needs : (e : Expr) → needs sequences (natural e) ≡ is_union e
  union_needs (lang.symbol s) = refl
  union_needs (lang.sequence f g) = refl
  union_needs (lang.union f g) = refl
  union_needs (lang.star f) = refl
  union_needs (lang.plus f) = refl
  union_needs (lang.optional f) = refl
  union_needs (lang.marked f y) = refl
  union_needs (lang.repeated f m n) = refl

  compound_needs : (e : Expr) → needs parts (natural e) ≡ is_compound e
  compound_needs (lang.symbol s) = refl
  compound_needs (lang.sequence f g) = refl
  compound_needs (lang.union f g) = refl
  compound_needs (lang.star f) = refl
  compound_needs (lang.plus f) = refl
  compound_needs (lang.optional f) = refl
  compound_needs (lang.marked f y) = refl
  compound_needs (lang.repeated f m n) = refl

  enclosed_text : (b c : Bool) (xs : List Bit) (t : List ℕ) → b ≡ c → bits_text xs ≡ t → bits_text (enclosed_bits b xs) ≡ enclosed c t
  enclosed_text b c xs t same e = ap (λ b. bits_text (enclosed_bits b xs)) same ∙ by_test c
    where
      by_test : (c : Bool) → bits_text (enclosed_bits c xs) ≡ enclosed c t
      by_test false = e
      by_test true = ap (λ t. 40 ∷ t) (bits_append xs (piece Close (41 ∷ []) ∷ []) ∙ ap (λ t. t ++ (41 ∷ [])) e)

  sign_text : (f : Expr) (ys : List Bit) → bits_text (expr_bits f) ≡ expr_text symbols outputs f
      → bits_text (enclosed_bits (needs parts (natural f)) (expr_bits f) ++ ys) ≡ enclosed (is_compound f) (expr_text symbols outputs f) ++ bits_text ys
  sign_text f ys e =
      bits_append (enclosed_bits (needs parts (natural f)) (expr_bits f)) ys
      ∙ ap (λ t. t ++ bits_text ys) (enclosed_text (needs parts (natural f)) (is_compound f) (expr_bits f) (expr_text symbols outputs f) (compound_needs f) e)

  pub expr_bits_text : (e : Expr) → bits_text (expr_bits e) ≡ expr_text symbols outputs e
  expr_bits_text (lang.symbol s) = append-nil (slice_index_or symbols s [])
  expr_bits_text (lang.sequence f g) =
      let xs = enclosed_bits (needs sequences (natural f)) (expr_bits f) in
      let ys = enclosed_bits (needs parts (natural g)) (expr_bits g) in
      bits_append xs (blank 32 ∷ ys)
      ∙ ap (λ t. t ++ (32 ∷ bits_text ys)) (enclosed_text (needs sequences (natural f)) (is_union f) (expr_bits f) (expr_text symbols outputs f) (union_needs f) (expr_bits_text f))
      ∙ ap (λ t. enclosed (is_union f) (expr_text symbols outputs f) ++ (32 ∷ t))
      (enclosed_text (needs parts (natural g)) (is_compound g) (expr_bits g) (expr_text symbols outputs g) (compound_needs g) (expr_bits_text g))
  expr_bits_text (lang.union f g) =
      let ys = enclosed_bits (needs sequences (natural g)) (expr_bits g) in
      bits_append (expr_bits f) (blank 32 ∷ piece Bar (124 ∷ []) ∷ blank 32 ∷ ys)
      ∙ ap (λ t. t ++ (32 ∷ 124 ∷ 32 ∷ bits_text ys)) (expr_bits_text f)
      ∙ ap (λ t. expr_text symbols outputs f ++ (32 ∷ 124 ∷ 32 ∷ t))
      (enclosed_text (needs sequences (natural g)) (is_union g) (expr_bits g) (expr_text symbols outputs g) (union_needs g) (expr_bits_text g))
  expr_bits_text (lang.star f) = sign_text f (piece Star (42 ∷ []) ∷ []) (expr_bits_text f)
  expr_bits_text (lang.plus f) = sign_text f (piece Plus (43 ∷ []) ∷ []) (expr_bits_text f)
  expr_bits_text (lang.optional f) = sign_text f (piece Question (63 ∷ []) ∷ []) (expr_bits_text f)
  expr_bits_text (lang.marked f y) =
      let name = slice_index_or outputs y [] in
      sign_text f (blank 32 ∷ piece Mark (33 ∷ []) ∷ piece Name name ∷ []) (expr_bits_text f)
      ∙ ap (λ t. enclosed (is_compound f) (expr_text symbols outputs f) ++ (32 ∷ 33 ∷ t)) (append-nil name)
  expr_bits_text (lang.repeated f m n) = sign_text f (bounds_bits m n) (expr_bits_text f)

  -- The numbers are those of symbols and outputs, and counted repeats have their bounds.
  abbrev pub Proper : Expr → Type 0
  Proper (lang.symbol s) = s < length symbols
  Proper (lang.sequence f g) = Proper f × Proper g
  Proper (lang.union f g) = Proper f × Proper g
  Proper (lang.star f) = Proper f
  Proper (lang.plus f) = Proper f
  Proper (lang.optional f) = Proper f
  Proper (lang.marked f y) = Proper f × (y < length outputs)
  Proper (lang.repeated f m n) = Proper f × (m ≤ n) × (1 ≤ n) × (n ≤ 255)

  -- the tokens are read as themselves

  module _ (version : Version) where
    enclosed_fit : (b : Bool) (xs : List Bit) (rest : List ℕ) → ((r : List ℕ) → StopsAt is_name_byte r → AllFit version xs r) → StopsAt is_name_byte rest
        → AllFit version (enclosed_bits b xs) rest
    enclosed_fit false xs rest h stops = h rest stops
    enclosed_fit true xs rest h stops = (
      sign_fits version 40 _ refl refl refl refl refl,
      fit_append version xs (piece Close (41 ∷ []) ∷ []) rest (h (41 ∷ rest) refl) (sign_fits version 41 rest refl refl refl refl refl, tt),
    )

    module _ (plain_symbols : ArePlain version symbols) (plain_outputs : ArePlain version outputs) where
      pub expr_fits : (e : Expr) → Proper e → (has_repeat e ≡ true → version ≡ Two) → (rest : List ℕ) → StopsAt is_name_byte rest
          → AllFit version (expr_bits e) rest
      expr_fits (lang.symbol s) h two rest stops = (name_fits version (slice_index_or symbols s []) rest (plain_symbols s h) stops, tt)
      expr_fits (lang.sequence f g) (h, i) two rest stops =
          let ys = enclosed_bits (needs parts (natural g)) (expr_bits g) in
          let left = expr_fits f h (λ e. two (left_true (has_repeat f) (has_repeat g) e)) in
          let right = expr_fits g i (λ e. two (right_true (has_repeat f) (has_repeat g) e)) in
          fit_append version (enclosed_bits (needs sequences (natural f)) (expr_bits f)) (blank 32 ∷ ys) rest
          (enclosed_fit (needs sequences (natural f)) (expr_bits f) (32 ∷ (bits_text ys ++ rest)) left refl)
          (space_fits version (bits_text ys ++ rest), enclosed_fit (needs parts (natural g)) (expr_bits g) rest right stops)
      expr_fits (lang.union f g) (h, i) two rest stops =
          let ys = enclosed_bits (needs sequences (natural g)) (expr_bits g) in
          let left = expr_fits f h (λ e. two (left_true (has_repeat f) (has_repeat g) e)) in
          let right = expr_fits g i (λ e. two (right_true (has_repeat f) (has_repeat g) e)) in
          fit_append version (expr_bits f) (blank 32 ∷ piece Bar (124 ∷ []) ∷ blank 32 ∷ ys) rest (left (32 ∷ 124 ∷ 32 ∷ (bits_text ys ++ rest)) refl) (
            space_fits version (124 ∷ 32 ∷ (bits_text ys ++ rest)),
            (
              sign_fits version 124 (32 ∷ (bits_text ys ++ rest)) refl refl refl refl refl,
              (space_fits version (bits_text ys ++ rest), enclosed_fit (needs sequences (natural g)) (expr_bits g) rest right stops),
            ),
          )
      expr_fits (lang.star f) h two rest stops =
          fit_append version (enclosed_bits (needs parts (natural f)) (expr_bits f)) (piece Star (42 ∷ []) ∷ []) rest
          (enclosed_fit (needs parts (natural f)) (expr_bits f) (42 ∷ rest) (expr_fits f h two) refl) (sign_fits version 42 rest refl refl refl refl refl, tt)
      expr_fits (lang.plus f) h two rest stops =
          fit_append version (enclosed_bits (needs parts (natural f)) (expr_bits f)) (piece Plus (43 ∷ []) ∷ []) rest
          (enclosed_fit (needs parts (natural f)) (expr_bits f) (43 ∷ rest) (expr_fits f h two) refl) (sign_fits version 43 rest refl refl refl refl refl, tt)
      expr_fits (lang.optional f) h two rest stops =
          fit_append version (enclosed_bits (needs parts (natural f)) (expr_bits f)) (piece Question (63 ∷ []) ∷ []) rest
          (enclosed_fit (needs parts (natural f)) (expr_bits f) (63 ∷ rest) (expr_fits f h two) refl) (sign_fits version 63 rest refl refl refl refl refl, tt)
      expr_fits (lang.marked f y) (h, i) two rest stops =
          let name = slice_index_or outputs y [] in
          fit_append version (enclosed_bits (needs parts (natural f)) (expr_bits f)) (blank 32 ∷ piece Mark (33 ∷ []) ∷ piece Name name ∷ []) rest
          (enclosed_fit (needs parts (natural f)) (expr_bits f) (32 ∷ 33 ∷ ((name ++ []) ++ rest)) (expr_fits f h two) refl)
          (space_fits version (33 ∷ ((name ++ []) ++ rest)), (sign_fits version 33 ((name ++ []) ++ rest) refl refl refl refl refl, (name_fits version name rest (plain_outputs y i) stops, tt)))
      expr_fits (lang.repeated f m n) h two rest stops =
          fit_append version (enclosed_bits (needs parts (natural f)) (expr_bits f)) (bounds_bits m n) rest
          (enclosed_fit (needs parts (natural f)) (expr_bits f) (bits_text (bounds_bits m n) ++ rest) (expr_fits f h.0 (λ e. two refl)) refl)
          (subst (λ v. AllFit v (bounds_bits m n) rest) (sym (two refl)) (bounds_fit m n (omega (arith, h.1, h.3)) h.3 rest))

-- A printed text is of the version that its specification needs, and these are its tokens.
use Rattle.std.proofs.Common.{◌≡◌, ℕ, ◌+◌, Bool, Some, None, true, false, List, [], ◌∷◌, ◌++◌, length, flat_map, take, drop, codes, refl, ap, sym, ◌∙◌, subst, arith}
use Rattle.std.specs.Prelude.{Option, ◌≢◌}
use Rattle.std.proofs.lemmas.List.{append-nil}
use Rattle.rx_lang.specs.Specification.{Specification}
use Rattle.rx_syntax.specs.Lexemes.{Lexeme, first_size, first_kind, LexemesFrom, ended, gap, token, word_of, BeginsVersion2, TokensOf}
use Rattle.rx_syntax.specs.Printable.{version_for}
use Rattle.rx_syntax.specs.Printed.{needs_version_2, version_text, names_text, printed}
use Rattle.rx_syntax.specs.declared.version.Version.TheVariants.{One, Two}
use Rattle.rx_syntax.specs.declared.kind.Kind.{Kind}
use Rattle.rx_syntax.specs.declared.kind.Kind.TheVariants as kinds
use Rattle.rx_syntax.proofs.Bits.{Bit, blank, piece, bits_text, tokens_of, AllFit, word_read, lexed, sign_fits}
use Rattle.rx_syntax.proofs.PrintedExprs.{space_fits, blank_line_fits}
use Rattle.rx_syntax.proofs.PrintedTrees.{StandAt}
use Rattle.rx_syntax.proofs.PrintedText.{spec_bits, sections_text, spec_text, IsReadBack, spec_fits}

-- where the sections begin
abbrev pub sections_at : Bool → ℕ
sections_at false = 0
sections_at true = 11

printed_as : (spec : Specification) (b : Bool) → needs_version_2 spec ≡ b → printed spec ≡ version_text b ++ bits_text (spec_bits spec)
printed_as spec b e = ap (λ b. version_text b ++ sections_text spec) e ∙ ap (λ t. version_text b ++ t) (sym (spec_text spec))

stand_by : (spec : Specification) (b : Bool) → needs_version_2 spec ≡ b → StandAt (printed spec) (sections_at b) (spec_bits spec) []
stand_by spec false e = printed_as spec false e ∙ sym (append-nil (bits_text (spec_bits spec)))
stand_by spec true e = ap (drop 11) (printed_as spec true e) ∙ sym (append-nil (bits_text (spec_bits spec)))

-- the sections stand behind the statement of the version
pub sections_stand : (spec : Specification) → StandAt (printed spec) (sections_at (needs_version_2 spec)) (spec_bits spec) []
sections_stand spec = stand_by spec (needs_version_2 spec) refl

-- of version 2

abbrev head_bits : List Bit
head_bits = piece kinds.Name (codes "version") ∷ blank 32 ∷ piece kinds.Number (codes "2") ∷ piece kinds.Semicolon (59 ∷ []) ∷ blank 10 ∷ []

head_fits : (xs : List Bit) → AllFit Two xs [] → AllFit Two (head_bits ++ xs) []
head_fits xs h = (
  (refl, refl, omega arith),
  (
    space_fits Two (50 ∷ 59 ∷ 10 ∷ (bits_text xs ++ [])),
    (
      (refl, refl, omega arith),
      (sign_fits Two 59 (10 ∷ (bits_text xs ++ [])) refl refl refl refl refl, (blank_line_fits Two (bits_text xs ++ []), h)),
    ),
  ),
)

new_tokens : (text : List ℕ) (xs : List Bit) → text ≡ codes "version 2;\n" ++ bits_text xs → AllFit Two xs [] → TokensOf text (tokens_of 11 xs)
new_tokens text xs e h =
    let behind = bits_text xs ++ [] in
    let whole : text ≡ codes "version 2;\n" ++ behind = e ∙ ap (λ t. codes "version 2;\n" ++ t) (sym (append-nil (bits_text xs))) in
    let begins : BeginsVersion2 text 10 = record {
      name = record { kind = kinds.Name; start = 0; behind = 7 };
      two = record { kind = kinds.Number; start = 8; behind = 9 };
      sign = record { kind = kinds.Semicolon; start = 9; behind = 10 };
      rest = tokens_of 11 xs;
      tokens = lexed Two text 0 (head_bits ++ xs) whole (head_fits xs h);
      is_version = word_read text kinds.Name 0 (codes "version") (codes " 2;\n" ++ behind) whole;
      is_two = word_read text kinds.Number 8 (codes "2") (codes ";\n" ++ behind) (ap (drop 8) whole);
      is_sign = refl;
      at_end = refl;
    } in
    record {
      version = Two;
      start = 10;
      is_of = begins;
      are = lexed Two text 10 (blank 10 ∷ xs) (ap (drop 10) whole) (blank_line_fits Two behind, h);
    }

-- of version 1

first_token : {text : List ℕ} {place : ℕ} {t : Lexeme} {ts : List Lexeme} {k : Kind} → LexemesFrom Two text place (t ∷ ts)
    → first_kind Two (drop place text) ≡ Some k → t ≡ record { kind = k; start = place; behind = place + first_size Two (drop place text) }
first_token (ended h e) is = absurd cc
first_token (gap h none later) is = let clash : ◌≡◌ {A = Option Kind} None (Some _) = sym none ∙ is in absurd cc
first_token (token kind h some e later) is = let same : ◌≡◌ {A = Option Kind} (Some kind) (Some _) = sym some ∙ is in cc

begins_otherwise : (text rest : List ℕ) → text ≡ codes "line " ++ rest → (behind : ℕ) → BeginsVersion2 text behind → ⊥
begins_otherwise text rest e behind begins =
    let first : begins.name ≡ record { kind = kinds.Line; start = 0; behind = 0 + first_size Two (drop 0 text) } =
    first_token begins.tokens (ap (first_kind Two) e) in
    let size : first_size Two (drop 0 text) ≡ 4 = ap (first_size Two) e in
    let word : word_of text begins.name ≡ codes "line" =
    ap (word_of text) (first ∙ ap (λ n. record { kind = kinds.Line; start = 0; behind = 0 + n }) size) ∙ ap (take 4) e in
    let clash : ◌≡◌ {A = ℕ} 4 7 = ap (λ w. length w) (sym word ∙ begins.is_version) in
    omega (arith, clash)

line_first : (lines : List (List ℕ)) (more : List ℕ) → lines ≢ [] → (rest : List ℕ) × (names_text (codes "line") lines ++ more ≡ codes "line " ++ rest)
line_first [] more some = absurd (some refl)
line_first (name ∷ names) more some = (((name ++ flat_map (λ name. codes " " ++ name) names) ++ codes ";\n") ++ more, refl)

module _ (limit : ℕ) (spec : Specification) (h : IsReadBack limit spec) where
  by_version : (b : Bool) → needs_version_2 spec ≡ b → TokensOf (printed spec) (tokens_of (sections_at b) (spec_bits spec))
  by_version true e =
      new_tokens (printed spec) (spec_bits spec) (printed_as spec true e)
      (subst (λ b. AllFit (version_for b) (spec_bits spec) []) e (spec_fits limit spec h))
  by_version false e =
      let line = line_first spec.lines _ h.some_lines in
      record {
        version = One;
        start = 0;
        is_of = (refl, begins_otherwise (printed spec) line.0 (ap (λ b. version_text b ++ sections_text spec) e ∙ line.1));
        are = lexed One (printed spec) 0 (spec_bits spec) (stand_by spec false e)
            (subst (λ b. AllFit (version_for b) (spec_bits spec) []) e (spec_fits limit spec h));
      }

  pub printed_tokens : TokensOf (printed spec) (tokens_of (sections_at (needs_version_2 spec)) (spec_bits spec))
  printed_tokens = by_version (needs_version_2 spec) refl

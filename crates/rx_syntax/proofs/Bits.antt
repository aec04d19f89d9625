-- Texts made of blanks and tokens, and the tokens that are read of them.
use Rattle.std.proofs.Common.{◌≡◌, ℕ, suc, ◌+◌, ◌-◌, Bool, ◌<◌, ◌≤◌, true, false, Some, None, List, [], ◌∷◌, ◌++◌, length, take, drop, refl, ap, sym, ◌∙◌, subst, arith, length-append, length-drop}
use Rattle.std.specs.Prelude.{⊤, ◌==◌, ◌≢◌}
use Rattle.std.specs.List.{list_all, prefix_len}
use Rattle.std.proofs.lemmas.List.{append_assoc, drop-drop}
use Rattle.std.proofs.lemmas.Bool.{and_parts}
use Rattle.std.proofs.lemmas.Bool.Decides.{nat_tests}
use Rattle.std.proofs.Math.Numerals.{one-add}
use Rattle.std.proofs.Math.Seq.{drop-append_seam, take-append_seam}
use Rattle.rx_text.specs.Name.{is_letter, is_name_byte}
use Rattle.rx_syntax.specs.Tokens.{is_gap_byte, is_run_byte}
use Rattle.rx_syntax.specs.Lexemes.{Lexeme, first_size, first_kind, word_kind, run_kind, sign_kind, LexemesFrom, ended, gap, token, word_of}
use Rattle.rx_syntax.specs.declared.version.Version.{Version}
use Rattle.rx_syntax.specs.declared.version.Version.TheVariants.{One, Two}
use Rattle.rx_syntax.specs.declared.kind.Kind.{Kind}
use Rattle.rx_syntax.specs.declared.kind.Kind.TheVariants.{Name}
use Rattle.rx_syntax.proofs.Runs.{StopsAt, run_more, run_none}

-- a blank byte, or a token with its kind and bytes
pub data Bit : Type 0 where
  blank : ℕ → Bit
  piece : Kind → List ℕ → Bit

abbrev pub bit_text : Bit → List ℕ
bit_text (blank byte) = byte ∷ []
bit_text (piece kind bytes) = bytes

abbrev pub bits_text : List Bit → List ℕ
bits_text [] = []
bits_text (x ∷ xs) = bit_text x ++ bits_text xs

-- the tokens, where the bits begin at this place
abbrev pub tokens_of : ℕ → List Bit → List Lexeme
tokens_of place [] = []
tokens_of place (blank byte ∷ xs) = tokens_of (place + 1) xs
tokens_of place (piece kind bytes ∷ xs) =
    record { kind = kind; start = place; behind = place + length bytes } ∷ tokens_of (place + length bytes) xs

-- The bit is read as itself by the version, where this text follows.
abbrev pub Fits : Version → Bit → List ℕ → Type 0
Fits version (blank byte) rest = (first_kind version (byte ∷ rest) ≡ None) × (first_size version (byte ∷ rest) ≡ 1)
Fits version (piece kind bytes) rest =
    (first_kind version (bytes ++ rest) ≡ Some kind) × (first_size version (bytes ++ rest) ≡ length bytes) × (1 ≤ length bytes)

abbrev pub AllFit : Version → List Bit → List ℕ → Type 0
AllFit version [] rest = ⊤
AllFit version (x ∷ xs) rest = Fits version x (bits_text xs ++ rest) × AllFit version xs rest

pub bits_append : (xs ys : List Bit) → bits_text (xs ++ ys) ≡ bits_text xs ++ bits_text ys
bits_append [] ys = refl
bits_append (x ∷ xs) ys = ap (λ t. bit_text x ++ t) (bits_append xs ys) ∙ sym (append_assoc (bit_text x) (bits_text xs) (bits_text ys))

pub tokens_append : (place : ℕ) (xs ys : List Bit)
    → tokens_of place (xs ++ ys) ≡ tokens_of place xs ++ tokens_of (place + length (bits_text xs)) ys
tokens_append place [] ys = ap (λ n. tokens_of n ys) (omega arith)
tokens_append place (blank byte ∷ xs) ys =
    tokens_append (place + 1) xs ys
    ∙ ap (λ n. tokens_of (place + 1) xs ++ tokens_of n ys) (omega (arith, length-append (byte ∷ []) (bits_text xs)))
tokens_append place (piece kind bytes ∷ xs) ys =
    ap (λ ts. record { kind = kind; start = place; behind = place + length bytes } ∷ ts)
    (tokens_append (place + length bytes) xs ys
    ∙ ap (λ n. tokens_of (place + length bytes) xs ++ tokens_of n ys) (omega (arith, length-append bytes (bits_text xs))))

pub fit_append : (version : Version) (xs ys : List Bit) (rest : List ℕ) → AllFit version xs (bits_text ys ++ rest) → AllFit version ys rest
    → AllFit version (xs ++ ys) rest
fit_append version [] ys rest h i = i
fit_append version (x ∷ xs) ys rest (first, h) i = (
  subst (Fits version x) (sym (append_assoc (bits_text xs) (bits_text ys) rest) ∙ ap (λ t. t ++ rest) (sym (bits_append xs ys))) first,
  fit_append version xs ys rest h i,
)

-- The text goes on with these bytes behind others.
pub goes_on : (text : List ℕ) (place : ℕ) (bytes rest : List ℕ) → drop place text ≡ bytes ++ rest → drop (place + length bytes) text ≡ rest
goes_on text place bytes rest e = sym (drop-drop (length bytes) place text) ∙ ap (drop (length bytes)) e ∙ drop-append_seam bytes rest

pub word_read : (text : List ℕ) (kind : Kind) (place : ℕ) (bytes rest : List ℕ) → drop place text ≡ bytes ++ rest
    → word_of text (record { kind = kind; start = place; behind = place + length bytes }) ≡ bytes
word_read text kind place bytes rest e =
    let size : (place + length bytes) - place ≡ length bytes = omega arith in
    ap (λ n. take n (drop place text)) size ∙ ap (take (length bytes)) e ∙ take-append_seam bytes rest

inside : (text : List ℕ) (place : ℕ) (bytes : List ℕ) → drop place text ≡ bytes → 1 ≤ length bytes → place < length text
inside text place bytes e some = omega (arith, some, length-drop place text, ap length e)

pub lexed : (version : Version) (text : List ℕ) (place : ℕ) (xs : List Bit) → drop place text ≡ bits_text xs ++ [] → AllFit version xs []
    → LexemesFrom version text place (tokens_of place xs)
lexed version text place [] e h = ended (omega (arith, length-drop place text, ap length e)) refl
lexed version text place (blank byte ∷ xs) e (first, h) =
    let more = bits_text xs ++ [] in
    let size : first_size version (drop place text) ≡ 1 = ap (first_size version) e ∙ first.1 in
    gap (inside text place (byte ∷ more) e (omega arith)) (ap (first_kind version) e ∙ first.0)
    (subst (λ n. LexemesFrom version text (place + n) (tokens_of (place + 1) xs)) (sym size)
    (lexed version text (place + 1) xs (goes_on text place (byte ∷ []) more e) h))
lexed version text place (piece kind bytes ∷ xs) e (first, h) =
    let more = bits_text xs ++ [] in
    let cut : drop place text ≡ bytes ++ more = e ∙ append_assoc bytes (bits_text xs) [] in
    let size : first_size version (drop place text) ≡ length bytes = ap (first_size version) cut ∙ first.1 in
    token kind (inside text place (bytes ++ more) cut (omega (arith, first.2, length-append bytes more))) (ap (first_kind version) cut ∙ first.0)
    (ap (λ n. record { kind = kind; start = place; behind = place + n } ∷ tokens_of (place + length bytes) xs) (sym size))
    (subst (λ n. LexemesFrom version text (place + n) (tokens_of (place + length bytes) xs)) (sym size)
    (lexed version text (place + length bytes) xs (goes_on text place bytes more cut) h))

-- a run that stops is as long as its bytes
pub run_length : (p : ℕ → Bool) (xs rest : List ℕ) → list_all p xs ≡ true → StopsAt p rest → prefix_len p (xs ++ rest) ≡ length xs
run_length p [] [] h stops = refl
run_length p [] (y ∷ rest) h stops = run_none p y rest stops
run_length p (x ∷ xs) rest h stops =
    let parts = and_parts (p x) (list_all p xs) h in
    run_more p x (xs ++ rest) parts.0 ∙ ap suc (run_length p xs rest parts.1 stops)

-- signs and blanks

pub no_run : (version : Version) (byte : ℕ) → is_run_byte One byte ≡ false → is_run_byte Two byte ≡ false → is_run_byte version byte ≡ false
no_run One byte one two = one
no_run Two byte one two = two

alone : (version : Version) (byte : ℕ) (rest : List ℕ) → (byte == 35) ≡ false → is_letter byte ≡ false → is_run_byte version byte ≡ false
    → first_size version (byte ∷ rest) ≡ 1
alone version byte rest comment letter run = rw (comment, letter, run) refl

-- a blank, which is no `#`
pub blank_fits : (version : Version) (byte : ℕ) (rest : List ℕ) → is_gap_byte byte ≡ true → (byte == 35) ≡ false → is_letter byte ≡ false
    → is_run_byte One byte ≡ false → is_run_byte Two byte ≡ false → Fits version (blank byte) rest
blank_fits version byte rest blanks comment letter one two =
    (rw blanks refl, alone version byte rest comment letter (no_run version byte one two))

pub sign_fits : (version : Version) (byte : ℕ) (rest : List ℕ) → is_gap_byte byte ≡ false → (byte == 35) ≡ false → is_letter byte ≡ false
    → is_run_byte One byte ≡ false → is_run_byte Two byte ≡ false → Fits version (piece (sign_kind version byte) (byte ∷ [])) rest
sign_fits version byte rest no_gap comment letter one two =
    let run = no_run version byte one two in
    (rw (no_gap, letter, run) refl, alone version byte rest comment letter run, omega arith)

-- runs

run_byte_no_letter : (version : Version) (byte : ℕ) → is_run_byte version byte ≡ true → (byte == 35) ≡ false × (is_letter byte ≡ false)
    × (is_gap_byte byte ≡ false)
run_byte_no_letter One byte run = (grind (arith, nat_tests), grind (arith, nat_tests), grind (arith, nat_tests))
run_byte_no_letter Two byte run = (grind (arith, nat_tests), grind (arith, nat_tests), grind (arith, nat_tests))

pub run_fits : (version : Version) (bytes rest : List ℕ) → bytes ≢ [] → list_all (is_run_byte version) bytes ≡ true → StopsAt (is_run_byte version) rest
    → Fits version (piece (run_kind bytes) bytes) rest
run_fits version [] rest some all stops = absurd (some refl)
run_fits version (byte ∷ bytes) rest some all stops =
    let parts = and_parts (is_run_byte version byte) (list_all (is_run_byte version) bytes) all in
    let none = run_byte_no_letter version byte parts.0 in
    let size : first_size version (byte ∷ (bytes ++ rest)) ≡ length (byte ∷ bytes) =
    rw (none.0, none.1, parts.0)
    (one-add (prefix_len (is_run_byte version) (bytes ++ rest)) ∙ ap suc (run_length (is_run_byte version) bytes rest parts.1 stops)) in
    (rw (none.2, size, none.1, parts.0) (ap Some (ap run_kind (take-append_seam (byte ∷ bytes) rest))), size, omega arith)

-- names

-- The bytes are a name of the version, and no keyword.
pub record IsPlainName (version : Version) (word : List ℕ) : Type 0 where
  pub byte : ℕ
  pub rest : List ℕ
  pub is : word ≡ byte ∷ rest
  pub letter : is_letter byte ≡ true
  pub goes : list_all is_name_byte rest ≡ true
  pub kind : word_kind version word ≡ Name

letter_no_comment : (byte : ℕ) → is_letter byte ≡ true → (byte == 35) ≡ false
letter_no_comment byte letter = grind (arith, nat_tests)

letter_no_gap : (byte : ℕ) → is_letter byte ≡ true → is_gap_byte byte ≡ false
letter_no_gap byte letter = grind (arith, nat_tests)

pub name_fits : (version : Version) (word rest : List ℕ) → IsPlainName version word → StopsAt is_name_byte rest → Fits version (piece Name word) rest
name_fits version word rest h stops =
    subst (λ w. Fits version (piece Name w) rest) (sym h.is) (
      rw (letter_no_gap h.byte h.letter, size, h.letter) (ap Some (ap (word_kind version) (take-append_seam (h.byte ∷ h.rest) rest ∙ sym h.is) ∙ h.kind)),
      size,
      omega arith,
    )
  where
    size : first_size version (h.byte ∷ (h.rest ++ rest)) ≡ length (h.byte ∷ h.rest)
    size =
        rw (letter_no_comment h.byte h.letter, h.letter)
        (one-add (prefix_len is_name_byte (h.rest ++ rest)) ∙ ap suc (run_length is_name_byte h.rest rest h.goes stops))

-- A token that is used as a name is one, and one that is used as a number has only digits.
use Rattle.std.proofs.Common.{◌≡◌, ℕ, suc, true, false, Bool, Some, None, List, [], ◌∷◌, length, take, refl, ap, sym, ◌∙◌, inl, inr, arith}
use Rattle.std.specs.Prelude.{Option, ◌==◌, ◌⊎◌, nat_le, if◌then◌else◌, bytes_eq, codes}
use Rattle.std.specs.List.{list_all, prefix_len}
use Rattle.std.proofs.lemmas.Bool.Decides.{nat_tests}
use Rattle.std.proofs.Math.Numerals.{one-add}
use Rattle.rx_text.specs.Name.{is_letter, is_name_byte, begins_as_name, is_name}
use Rattle.rx_text.specs.NumberInText.{is_digit}
use Rattle.rx_syntax.specs.Tokens.{is_gap_byte, is_place_byte, is_run_byte}
use Rattle.rx_syntax.specs.Lexemes.{first_size, first_kind, token_kind, name_kind, word_kind, scan_kind, run_kind, sign_kind}
use Rattle.rx_syntax.specs.NameReading.{IsOfKind}
use Rattle.rx_syntax.specs.NameSteps.{IsWordOf}
use Rattle.rx_syntax.specs.declared.kind.Kind.{Kind}
use Rattle.rx_syntax.specs.declared.kind.Kind.TheVariants as kinds
use Rattle.rx_syntax.specs.declared.kind.Kind.TheVariants.{Bad, Long, Name, Bits, Number, Scan, OpenBrace, CloseBrace, Comma, OpenBracket, CloseBracket, Bar, Star, Plus, Question, Equals, Semicolon, Run}
use Rattle.rx_syntax.specs.declared.use_kind.UseKind.{UseKind}
use Rattle.rx_syntax.specs.declared.use_kind.UseKind.TheVariants.{Line, Symbol, Pattern, Output, Leaf, FurtherLeaf, Mark, Open, Close, Least, Most, Copies}
use Rattle.rx_syntax.specs.declared.version.Version.{Version}
use Rattle.rx_syntax.specs.declared.version.Version.TheVariants.{One, Two}
use Rattle.rx_syntax.proofs.KindsOf.{either_kind, name_is, word_is, run_is, sign_is, brace_is}
use Rattle.rx_syntax.proofs.Runs.{run_passes}

-- the piece at the front of a text
abbrev piece : Version → List ℕ → List ℕ
piece version text = take (first_size version text) text

-- words are of sort 0, runs of sort 1, signs and bytes that begin nothing of sort 2
abbrev sort : Kind → ℕ
sort Bits = 1
sort kinds.Pattern = 1
sort Number = 1
sort Run = 1
sort Bad = 2
sort Bar = 2
sort Star = 2
sort Plus = 2
sort Question = 2
sort kinds.Mark = 2
sort kinds.Open = 2
sort kinds.Close = 2
sort Equals = 2
sort Semicolon = 2
sort OpenBrace = 2
sort CloseBrace = 2
sort Comma = 2
sort OpenBracket = 2
sort CloseBracket = 2
sort kind = 0

scan_sort : (version : Version) (word : List ℕ) → sort (scan_kind version word) ≡ 0
scan_sort One word = name_is (λ k. sort k ≡ 0) word refl refl
scan_sort Two word = either_kind (λ k. sort k ≡ 0) (bytes_eq word (codes "scan")) Scan (name_kind word) refl (name_is (λ k. sort k ≡ 0) word refl refl)

word_sort : (version : Version) (word : List ℕ) → sort (word_kind version word) ≡ 0
word_sort version word = word_is (λ k. sort k ≡ 0) version word refl refl refl refl (scan_sort version word)

run_sort : (run : List ℕ) → sort (run_kind run) ≡ 1
run_sort run = run_is (λ k. sort k ≡ 1) run refl refl refl refl

sign_sort : (version : Version) (byte : ℕ) → sort (sign_kind version byte) ≡ 2
sign_sort version byte =
    sign_is (λ k. sort k ≡ 2) version byte refl refl refl refl refl refl refl refl refl
    (brace_is (λ k. sort k ≡ 2) version byte refl refl refl refl refl refl)

-- a word that is a name is not long

by_length : (short : Bool) → (if short then Name else Long) ≡ Name → short ≡ true
by_length true e = refl
by_length false e = absurd cc

-- where a word is no keyword `scan`, it is a name or too long
pub no_scan : (scan : Bool) (kind : Kind) → (if scan then Scan else kind) ≡ Name → kind ≡ Name
no_scan true kind e = absurd cc
no_scan false kind e = e

scan_short : (version : Version) (word : List ℕ) → scan_kind version word ≡ Name → nat_le (length word) 31 ≡ true
scan_short One word e = by_length (nat_le (length word) 31) e
scan_short Two word e = by_length (nat_le (length word) 31) (no_scan (bytes_eq word (codes "scan")) (name_kind word) e)

pub short_word : (version : Version) (word : List ℕ) → word_kind version word ≡ Name → nat_le (length word) 31 ≡ true
short_word version word =
    word_is (λ k. k ≡ Name → nat_le (length word) 31 ≡ true) version word (λ e. absurd cc) (λ e. absurd cc) (λ e. absurd cc) (λ e. absurd cc)
    (scan_short version word)

word_is_name : (version : Version) (byte : ℕ) (rest : List ℕ) → is_letter byte ≡ true → word_kind version (piece version (byte ∷ rest)) ≡ Name
    → is_name (piece version (byte ∷ rest)) ≡ true
word_is_name version byte rest letter e =
    let no_comment : (byte == 35) ≡ false = grind (arith, nat_tests) in
    let run = prefix_len is_name_byte rest in
    let size : first_size version (byte ∷ rest) ≡ suc run = rw (no_comment, letter) (one-add run) in
    let short = short_word version (piece version (byte ∷ rest)) e in
    let begins : begins_as_name (piece version (byte ∷ rest)) ≡ true = rw (size, letter) (run_passes is_name_byte rest) in
    rw begins short

-- what begins with no letter is no name
no_letter_no_name : (version : Version) (run : Bool) (byte : ℕ) (bytes : List ℕ)
    → (if run then run_kind bytes else sign_kind version byte) ≡ Name → ⊥
no_letter_no_name version true byte bytes e = let clash = sym (run_sort bytes) ∙ ap sort e in omega (arith, clash)
no_letter_no_name version false byte bytes e = let clash = sym (sign_sort version byte) ∙ ap sort e in omega (arith, clash)

by_letter : (letter : Bool) (version : Version) (byte : ℕ) (rest : List ℕ) → is_letter byte ≡ letter
    → (if letter then word_kind version (piece version (byte ∷ rest))
    else (if is_run_byte version byte then run_kind (piece version (byte ∷ rest)) else sign_kind version byte)) ≡ Name
    → is_name (piece version (byte ∷ rest)) ≡ true
by_letter true version byte rest letter e = word_is_name version byte rest letter e
by_letter false version byte rest letter e = absurd (no_letter_no_name version (is_run_byte version byte) byte (piece version (byte ∷ rest)) e)

by_gap : (gap : Bool) (version : Version) (byte : ℕ) (rest : List ℕ)
    → (if gap then None else Some (token_kind version byte (piece version (byte ∷ rest)))) ≡ Some Name
    → is_name (piece version (byte ∷ rest)) ≡ true
by_gap true version byte rest e = absurd cc
by_gap false version byte rest e =
    let kind : token_kind version byte (piece version (byte ∷ rest)) ≡ Name = cc in
    by_letter (is_letter byte) version byte rest refl kind

pub token_is_name : (version : Version) (text : List ℕ) → first_kind version text ≡ Some Name → is_name (piece version text) ≡ true
token_is_name version [] e = absurd cc
token_is_name version (byte ∷ rest) e = by_gap (is_gap_byte byte) version byte rest e

-- a number has only digits

abbrev pub is_number_kind : Kind → Bool
is_number_kind Bits = true
is_number_kind Number = true
is_number_kind kind = false

run_number : (places digits : Bool)
    → is_number_kind (if places then (if digits then Bits else kinds.Pattern) else (if digits then Number else Run)) ≡ true → digits ≡ true
run_number true true e = refl
run_number true false e = absurd cc
run_number false true e = refl
run_number false false e = absurd cc

-- a number is a run
number_sort : (kind : Kind) → is_number_kind kind ≡ true → sort kind ≡ 1
number_sort Bits e = refl
number_sort Number e = refl
number_sort kind e = absurd cc

no_run : (kind : Kind) (n : ℕ) → sort kind ≡ n → is_number_kind kind ≡ true → n ≡ 1
no_run kind n e number = sym e ∙ number_sort kind number

token_number : (letter run : Bool) (version : Version) (byte : ℕ) (bytes : List ℕ)
    → is_number_kind (if letter then word_kind version bytes else (if run then run_kind bytes else sign_kind version byte)) ≡ true
    → list_all is_digit bytes ≡ true
token_number true run version byte bytes e =
    let clash = no_run (word_kind version bytes) 0 (word_sort version bytes) e in
    absurd (omega (arith, clash))
token_number false true version byte bytes e = run_number (list_all is_place_byte bytes) (list_all is_digit bytes) e
token_number false false version byte bytes e =
    let clash = no_run (sign_kind version byte) 2 (sign_sort version byte) e in
    absurd (omega (arith, clash))

number_by_gap : (gap : Bool) (version : Version) (byte : ℕ) (rest : List ℕ) (kind : Kind) → is_number_kind kind ≡ true
    → (if gap then None else Some (token_kind version byte (piece version (byte ∷ rest)))) ≡ Some kind
    → list_all is_digit (piece version (byte ∷ rest)) ≡ true
number_by_gap true version byte rest kind number e = absurd cc
number_by_gap false version byte rest kind number e =
    let same : token_kind version byte (piece version (byte ∷ rest)) ≡ kind = cc in
    token_number (is_letter byte) (is_run_byte version byte) version byte (piece version (byte ∷ rest)) (ap is_number_kind same ∙ number)

pub token_is_number : (version : Version) (text : List ℕ) (kind : Kind) → is_number_kind kind ≡ true → first_kind version text ≡ Some kind
    → list_all is_digit (piece version text) ≡ true
token_is_number version [] kind number e = absurd cc
token_is_number version (byte ∷ rest) kind number e = number_by_gap (is_gap_byte byte) version byte rest kind number e

number_of_either : (version : Version) (text : List ℕ) → (first_kind version text ≡ Some Bits) ⊎ (first_kind version text ≡ Some Number)
    → list_all is_digit (piece version text) ≡ true
number_of_either version text (inl e) = token_is_number version text Bits refl e
number_of_either version text (inr e) = token_is_number version text Number refl e

-- The piece has the bytes that its use asks for.
pub word_as_used : (version : Version) (text : List ℕ) (used : Option UseKind) → IsOfKind used (first_kind version text)
    → IsWordOf used (piece version text)
word_as_used version text None kind = tt
word_as_used version text (Some Line) kind = token_is_name version text kind
word_as_used version text (Some Symbol) kind = token_is_name version text kind
word_as_used version text (Some Pattern) kind = tt
word_as_used version text (Some Output) kind = token_is_name version text kind
word_as_used version text (Some Leaf) kind = tt
word_as_used version text (Some FurtherLeaf) kind = tt
word_as_used version text (Some Mark) kind = tt
word_as_used version text (Some Open) kind = tt
word_as_used version text (Some Close) kind = tt
word_as_used version text (Some Least) kind = number_of_either version text kind
word_as_used version text (Some Most) kind = number_of_either version text kind
word_as_used version text (Some Copies) kind = tt

-- Steps of the reader, one after another.
use Rattle.std.proofs.Common.{rules, zero, ◌≡◌, inl, inr, ℕ, suc, ◌+◌, ◌<◌, ◌≤◌, ◌^◌, nat_lt, Bool, true, false, ◌==◌, List, [], ◌∷◌, ◌++◌, Option, Some, None, Result, Ok, Err, length, take, drop, get_or, refl, sym, ap, ◌∙◌, subst, arith, append_assoc}
use Rattle.std.proofs.lemmas.Bool.{cases_Bool, ltb-true, ltb-false, eqb-true}
use Rattle.std.proofs.lemmas.List.{length-append, length-drop, length-take-le, take-append-drop}
use Rattle.std.proofs.lemmas.Bool.{leb-true}
use Rattle.std.proofs.lemmas.Fmt.{decimal-digits_value, decimal_digit}
use Rattle.std.proofs.lemmas.Str.Parse.{numerals_by_value, tells_digits}
use Rattle.std.proofs.lemmas.Str.{digit_value_digit}
use Rattle.std.proofs.lemmas.List.Sums.{prefix_len-le-length}
use Rattle.rx_text.specs.Name.{is_name, is_name_byte}
use Rattle.net_text.specs.declared.net_fault.NetCode.{NetCode}
use Rattle.std.specs.Prelude.{IsTrue, IfOk, nat_le, codes, find, cond}
use Rattle.rx_text.specs.declared.pad_name.Role.{Role}
use Rattle.net_text.specs.declared.line_kind.LineKind.{LineKind}
use Rattle.net_text.specs.declared.line_kind.LineKind.TheVariants.{Pad, Pass, Load, End}
use Rattle.std.specs.Char.{digit_value}
use Rattle.std.specs.Fmt.{decimal}
use Rattle.std.specs.List.{AllByRecursion, prefix_len}
use Rattle.std.specs.Str.Parse.{AllDigits, digits_value}
use Rattle.rx_text.specs.NumberInText.{is_digit}
use Rattle.net_text.proofs.ReadBack.{both_true}
use Rattle.net_text.specs.Reading.{agreeing, word_at, numeral_below, number_below, number_then, number_due, with_read, name_length, name_at, line_at, line_found, line_word, begins_line, later_lines}
use Rattle.net_text.specs.Shape.{numeral_length}
use Rattle.net_text.specs.Steps.{Reads}
use Rattle.net_text.specs.declared.words.TextFault.{TextFault}
use Rattle.net_text.proofs.Agreeing.{agree_within, agree_whole}
use Rattle.net_text.proofs.Searches.{found_among}

-- two steps
pub Reads-trans : {text : List ℕ} {at mid next : ℕ} {v w : List ℕ} → Reads text at mid v → Reads text mid next w → Reads text at next (v ++ w)
Reads-trans {text} {at} {mid} {next} {v} {w} first second = record {
  front = second.front ∙ ap (λ l. l ++ w) first.front ∙ append_assoc (take at text) v w;
  further = rw length-append (omega (arith, first.further, second.further));
  within = second.within;
}

-- the front of two lists
pub take_front : (xs ys : List ℕ) → take (length xs) (xs ++ ys) ≡ xs
take_front [] ys = refl
take_front (x ∷ xs) ys = ap (λ l. x ∷ l) (take_front xs ys)

-- bytes that stand behind a place
pub Reads-here : (text : List ℕ) (at : ℕ) (v rest : List ℕ) → at ≤ length text → drop at text ≡ v ++ rest → Reads text at (at + length v) v
Reads-here text at v rest within e =
    let size : length (drop at text) ≡ length v + length rest = ap length e ∙ length-append v rest in
    record {
      front = take_on at text v rest within e;
      further = refl;
      within = omega (arith, size, length-drop at text);
    }
  where
    take_on : (at : ℕ) (text v rest : List ℕ) → at ≤ length text → drop at text ≡ v ++ rest → take (at + length v) text ≡ take at text ++ v
    take_on zero text v rest h e = let n : 0 + length v ≡ length v = omega arith in let whole : text ≡ v ++ rest = e in rw (n, whole) (take_front v rest)
    take_on (suc at) [] v rest h e = absurd (omega (arith, h))
    take_on (suc at) (c ∷ text) v rest h e =
        let n : suc at + length v ≡ suc (at + length v) = omega arith in
        rw n (ap (λ l. c ∷ l) (take_on at text v rest (omega (arith, h)) e))

-- a word that was read
pub Reads-word : (word text : List ℕ) (at next : ℕ) → at ≤ length text → word_at word at (drop at text) ≡ Ok next → Reads text at next word
Reads-word word text at next within e = by_test (nat_lt (agreeing word (drop at text)) (length word)) refl
  where
    by_test : (b : Bool) → nat_lt (agreeing word (drop at text)) (length word) ≡ b → Reads text at next word
    by_test true t = let wrong = rw t at e in absurd (cc)
    by_test false t =
        let said = rw t at e in
        let is : at + agreeing word (drop at text) ≡ next = cc in
        let most = agree_within word (drop at text) in
        let least = ltb-false _ _ t in
        let all : agreeing word (drop at text) ≡ length word = omega (arith, most.0, least) in
        let next_is : at + length word ≡ next = sym (ap (λ n. at + n) all) ∙ is in
        subst (λ n. Reads text at n word) next_is (Reads-here text at word _ within (agree_whole word (drop at text) all))

-- digits are digits in base ten
digits_of_run : (ds : List ℕ) → AllByRecursion (λ byte. IsTrue (is_digit byte)) ds → AllDigits 10 ds
digits_of_run [] h = tt
digits_of_run (d ∷ ds) h = (digit d h.0, digits_of_run ds h.1)
  where
    digit : (d : ℕ) → IsTrue (is_digit d) → digit_value d < 10
    digit d h = let both = both_true (nat_le 48 d) _ h in
        let low : 48 ≤ d = leb-true _ _ both.0 in let high : d ≤ 57 = leb-true _ _ both.1 in
        omega (arith, digit_value_digit d (low, high))

front_more : (n x : ℕ) (xs : List ℕ) → IsTrue (is_digit x) → AllByRecursion (λ x. IsTrue (is_digit x)) (take n xs)
    → AllByRecursion (λ x. IsTrue (is_digit x)) (take (1 + n) (x ∷ xs))
front_more n x xs here later = let e : 1 + n ≡ suc n = omega arith in rw e (here, later)

-- every byte of the longest run of digits is one
digits_pass : (xs : List ℕ) → AllByRecursion (λ x. IsTrue (is_digit x)) (take (prefix_len is_digit xs) xs)
digits_pass [] = tt
digits_pass (x ∷ xs) =
    elim (cases_Bool (is_digit x)) [
      | inl good ↦ rw good (front_more (prefix_len is_digit xs) x xs good (digits_pass xs))
      | inr bad ↦ rw bad tt
    ]

-- a numeral is what is written of its number
pub written : (text : List ℕ) → 0 < length (take (numeral_length text) text) → digits_value 10 (take (numeral_length text) text) < 2 ^ 64
    → decimal (digits_value 10 (take (numeral_length text) text)) ≡ take (numeral_length text) text
written [] some small = absurd (omega (arith, some))
written (first ∷ rest) some small = elim (cases_Bool (first == 48)) [
  | inl none ↦ (let same : first ≡ 48 = search rules in rw same (decimal_digit 0 (omega arith)))
  | inr other ↦ (
      let length_is : numeral_length (first ∷ rest) ≡ prefix_len is_digit (first ∷ rest) = rw other refl in
      run length_is (λ e. absurd_of (sym other ∙ rw e refl)) (digits_pass (first ∷ rest))
      )
]
  where
    head : (n : ℕ) → 0 < length (take n (first ∷ rest)) → get_or (take n (first ∷ rest)) 0 0 ≡ first
    head zero h = absurd (omega (arith, h))
    head (suc n) h = refl

    absurd_of : false ≡ true → ⊥
    absurd_of e = cc

    run : numeral_length (first ∷ rest) ≡ prefix_len is_digit (first ∷ rest) → (first ≡ 48 → ⊥)
        → AllByRecursion (λ byte. IsTrue (is_digit byte)) (take (prefix_len is_digit (first ∷ rest)) (first ∷ rest))
        → decimal (digits_value 10 (take (numeral_length (first ∷ rest)) (first ∷ rest))) ≡ take (numeral_length (first ∷ rest)) (first ∷ rest)
    run length_is other all =
        let digits = digits_of_run _ all in
        decimal-digits_value (numerals_by_value _ tells_digits) (take (numeral_length (first ∷ rest)) (first ∷ rest)) (rw length_is digits) some
        (λ zero_first. absurd (other (sym (head (numeral_length (first ∷ rest)) some) ∙ zero_first))) small

-- a number that was read
number_of_ok : (limit : ℕ) (code : NetCode) (at : ℕ) (ds : List ℕ) (v b : ℕ) → numeral_below limit code at ds ≡ Ok (v, b)
    → (0 < length ds) × (v ≡ digits_value 10 ds) × (v < limit) × (b ≡ at + length ds)
number_of_ok limit code at [] v b e = absurd (cc)
number_of_ok limit code at (d ∷ ds) v b e = by_test (nat_lt (digits_value 10 (d ∷ ds)) limit) refl
  where
    by_test : (test : Bool) → nat_lt (digits_value 10 (d ∷ ds)) limit ≡ test
        → (0 < length (d ∷ ds)) × (v ≡ digits_value 10 (d ∷ ds)) × (v < limit) × (b ≡ at + length (d ∷ ds))
    by_test false t = let wrong = rw t at e in absurd (cc)
    by_test true t =
        let said = rw t at e in
        let pair : ◌≡◌ {A = ℕ × ℕ} (v, b) (digits_value 10 (d ∷ ds), at + length (d ∷ ds)) = cc in
        let is : v ≡ digits_value 10 (d ∷ ds) = ap (λ (p : ℕ × ℕ). p.0) pair in
        let below = ltb-true _ _ t in
        (omega arith, is, omega (arith, below, is), ap (λ (p : ℕ × ℕ). p.1) pair)

module _ (limit : ℕ) (code : NetCode) (word text : List ℕ) (at value next : ℕ) (within : at ≤ length text) (small : limit ≤ 2 ^ 64) where
  -- the digits of the numeral there
  abbrev digits : List ℕ
  digits = take (numeral_length (drop at text)) (drop at text)

  behind_digits : (v b n : ℕ) → number_below limit code at (drop at text) ≡ Ok (v, b) → word_at word b (drop b text) ≡ Ok n
      → Reads text at n (decimal v ++ word) × (v < limit)
  behind_digits v b n e f =
      let (some, is, below, behind) = number_of_ok limit code at digits v b e in
      let spelled : decimal v ≡ digits = rw is (written (drop at text) some (omega (arith, is, below, small))) in
      let here = Reads-here text at digits _ within (sym (take-append-drop (numeral_length (drop at text)) (drop at text))) in
      let number : Reads text at b digits = subst (λ m. Reads text at m digits) (sym behind) here in
      (rw spelled (Reads-trans number (Reads-word word text b n number.within f)), below)

  pub Reads-number : number_due limit code word at text ≡ Ok (value, next) → Reads text at next (decimal value ++ word) × (value < limit)
  Reads-number e = by_number (number_below limit code at (drop at text)) refl e
    where
      by_word : (v b : ℕ) (r : Result ℕ TextFault) → number_below limit code at (drop at text) ≡ Ok (v, b) → word_at word b (drop b text) ≡ r
          → with_read v r ≡ Ok (value, next) → Reads text at next (decimal value ++ word) × (value < limit)
      by_word v b (Err f) n w h = absurd (cc)
      by_word v b (Ok m) n w h =
          let pair : ◌≡◌ {A = ℕ × ℕ} (v, m) (value, next) = cc in
          let same : v ≡ value = ap (λ (p : ℕ × ℕ). p.0) pair in
          let same_next : m ≡ next = ap (λ (p : ℕ × ℕ). p.1) pair in
          rw (← same, ← same_next) (behind_digits v b m n w)

      by_number : (r : Result (ℕ × ℕ) TextFault) → number_below limit code at (drop at text) ≡ r → number_then word text r ≡ Ok (value, next)
          → Reads text at next (decimal value ++ word) × (value < limit)
      by_number (Err f) n h = absurd (cc)
      by_number (Ok (v, b)) n h = by_word v b (word_at word b (drop b text)) n refl h

module _ (text : List ℕ) (at next : ℕ) (name : List ℕ) (within : at ≤ length text) where
  -- the longest run of bytes of names there
  abbrev bytes : List ℕ
  bytes = take (name_length (drop at text)) (drop at text)

  before_space : (r : Result ℕ TextFault) → is_name bytes ≡ true
      → word_at (codes " ") (at + name_length (drop at text)) (drop (at + name_length (drop at text)) text) ≡ r
      → with_read bytes r ≡ Ok (name, next) → Reads text at next (name ++ codes " ") × (is_name name ≡ true)
  before_space (Err f) t w h = absurd (cc)
  before_space (Ok m) t w h =
      let pair : ◌≡◌ {A = List ℕ × ℕ} (bytes, m) (name, next) = cc in
      let same : bytes ≡ name = ap (λ (p : List ℕ × ℕ). p.0) pair in
      let same_next : m ≡ next = ap (λ (p : List ℕ × ℕ). p.1) pair in
      let here = Reads-here text at bytes _ within (sym (take-append-drop (name_length (drop at text)) (drop at text))) in
      let size = length-take-le (name_length (drop at text)) (drop at text) (omega (arith, prefix_len-le-length is_name_byte (drop at text))) in
      let named : Reads text at (at + name_length (drop at text)) bytes = subst (λ n. Reads text at (at + n) bytes) size here in
      rw (← same, ← same_next) (Reads-trans named (Reads-word (codes " ") text _ m named.within w), t)

  -- a name that was read, and the space behind it
  pub Reads-name : name_at at text ≡ Ok (name, next) → Reads text at next (name ++ codes " ") × (is_name name ≡ true)
  Reads-name e = by_test (is_name bytes) refl
    where
      by_test : (b : Bool) → is_name bytes ≡ b → Reads text at next (name ++ codes " ") × (is_name name ≡ true)
      by_test true t = before_space _ t refl (rw t at e)
      by_test false t = let wrong = rw t at e in absurd (cc)

-- the word of a line that was found
pub Reads-line : (kinds : List LineKind) (text : List ℕ) (at next : ℕ) (kind : LineKind) → at ≤ length text
    → line_at kinds at (drop at text) ≡ Ok (kind, next) → Reads text at next (line_word kind)
Reads-line kinds text at next kind within e = found (find (begins_line (drop at text)) kinds) refl e
  where
    found : (r : Option LineKind) → find (begins_line (drop at text)) kinds ≡ r → line_found kinds at (drop at text) r ≡ Ok (kind, next)
        → Reads text at next (line_word kind)
    found None f h = absurd (cc)
    found (Some k) f h =
        let pair : ◌≡◌ {A = LineKind × ℕ} (k, at + length (line_word k)) (kind, next) = cc in
        let same : k ≡ kind = ap (λ (p : LineKind × ℕ). p.0) pair in
        let same_next : at + length (line_word k) ≡ next = ap (λ (p : LineKind × ℕ). p.1) pair in
        let whole : agreeing (line_word k) (drop at text) ≡ length (line_word k) = eqb-true _ _ (found_among _ kinds k f).1 in
        rw (← same, ← same_next) (Reads-here text at (line_word k) _ within (agree_whole (line_word k) (drop at text) whole))

-- no pad stands behind a device
pub later_no_pad : (at : ℕ) (rest : List ℕ) (role : Role) (next : ℕ) → line_at later_lines at rest ≡ Ok (Pad role, next) → ⊥
later_no_pad at rest role next e = by_tests (begins_line rest Pass) (begins_line rest Load) (begins_line rest End) e
  where
    by_tests : (a b c : Bool)
        → line_found later_lines at rest (cond a (Some Pass) (cond b (Some Load) (cond c (Some End) None))) ≡ Ok (Pad role, next) → ⊥
    by_tests true b c h = let pair : ◌≡◌ {A = LineKind × ℕ} (Pass, at + 5) (Pad role, next) = cc in let k = ap (λ (p : LineKind × ℕ). p.0) pair in cc
    by_tests false true c h = let pair : ◌≡◌ {A = LineKind × ℕ} (Load, at + 5) (Pad role, next) = cc in let k = ap (λ (p : LineKind × ℕ). p.0) pair in cc
    by_tests false false true h = let pair : ◌≡◌ {A = LineKind × ℕ} (End, at + 4) (Pad role, next) = cc in let k = ap (λ (p : LineKind × ℕ). p.0) pair in cc
    by_tests false false false h = cc

pub Reads-found : (kinds : List LineKind) (text : List ℕ) (at : ℕ) (r : Result (LineKind × ℕ) TextFault) → at ≤ length text
    → r ≡ line_at kinds at (drop at text) → IfOk r (λ read. Reads text at read.1 (line_word read.0))
Reads-found kinds text at (Err fault) within e = tt
Reads-found kinds text at (Ok (kind, next)) within e = Reads-line kinds text at next kind within (sym e)

-- The order of numbers, digit by digit.
use Rattle.std.proofs.Common.{◌≡◌, inl, inr, ℕ, ◌+◌, ◌*◌, ◌-◌, ◌≤◌, ◌<◌, nat_lt, Bool, true, false, cond, ◌&&◌, ℤ, pos, neg_ℤ, ◌<ℤ◌, List, [], ◌∷◌, length, drop, get_or, refl, sym, ◌∙◌, ap, subst, arith}
use Rattle.std.specs.declared.cmp.Ordering.{Ordering}
use Rattle.std.specs.declared.cmp.Ordering.TheVariants.{Less, Equal, Greater}
use Rattle.std.specs.Ordering.{is_lt}
use Rattle.std.specs.Bool.{Decides}
use Rattle.std.specs.List.{list_all}
use Rattle.std.specs.Char.{digit_value}
use Rattle.std.specs.Str.Parse.{digits_value}
use Rattle.std.proofs.lemmas.Bool.{cases_lt, lt-ltb, ltb-true}
use Rattle.std.proofs.lemmas.Int.{ints}
use Rattle.std.proofs.lemmas.Int.Digits.{digits_value_push}
use Rattle.std.proofs.lemmas.List.{get_or-drop, get_or-take}
use Rattle.std.proofs.lemmas.List.Folds.{list_all_at}
use Rattle.std.proofs.lemmas.Str.{digit_value_digit}
use Rattle.rx_text.specs.NumberInText.{is_digit}
use Rattle.geom.specs.CifCommands.{CifPart, is_number_part}
use Rattle.cif_syntax.specs.Ends.{between}
use Rattle.cif_values.specs.declared.less.Digits.{Digits}
use Rattle.cif_values.specs.Parts.{PartsAt, number_in}
use Rattle.cif_values.specs.Runs.{behind_digits}
use Rattle.cif_values.specs.Orders.{IsOrder, IsDigitRun, AreDigits, SignedDigits, digit_of}
use Rattle.cif_values.proofs.Bytes.{digit_bounds, all_join}
use Rattle.cif_values.proofs.Texts.{between_push, length_between, nothing_between}
use Rattle.cif_values.proofs.Standing.{NumberAt, number_at}

-- ---- digits

pub digits_push : (text : List ℕ) (from to : ℕ) → from ≤ to → to < length text → list_all is_digit (between text from to) ≡ true → is_digit (get_or text to 0) ≡ true
    → list_all is_digit (between text from (to + 1)) ≡ true
digits_push text from to o w h d =
    ap (list_all is_digit) (between_push text from to o w) ∙ all_join is_digit (between text from to) (get_or text to 0 ∷ []) h (ap (λ (v : Bool). v && true) d)

pub no_digits : (text : List ℕ) (from : ℕ) → list_all is_digit (between text from from) ≡ true
no_digits text from = ap (list_all is_digit) (nothing_between text from)

pub no_value : (text : List ℕ) (from : ℕ) → digits_value 10 (between text from from) ≡ 0
no_value text from = ap (digits_value 10) (nothing_between text from)

-- a byte of a run of digits
pub digit_in : (text : List ℕ) (run : Digits) (k : ℕ) → IsDigitRun text run → k < run.to - run.from → is_digit (get_or text (run.from + k) 0) ≡ true
digit_in text run k h l = by (is_digit (get_or text (run.from + k) 0)) refl
  where
    same : get_or (between text run.from run.to) k 0 ≡ get_or text (run.from + k) 0
    same = get_or-take (run.to - run.from) (drop run.from text) k 0 l ∙ get_or-drop run.from text k 0

    by : (t : Bool) → is_digit (get_or text (run.from + k) 0) ≡ t → t ≡ true
    by true e = refl
    by false e =
        let n = length_between text run.from run.to h.order h.within in
        let f : list_all is_digit (between text run.from run.to) ≡ false = list_all_at is_digit (between text run.from run.to) k 0 (omega (arith, n, l)) (ap is_digit same ∙ e) in
        let z : true ≡ false = sym h.digits ∙ f in absurd cc

pub value_in : (text : List ℕ) (run : Digits) (k : ℕ) → IsDigitRun text run → k < run.to - run.from
    → digit_value (get_or text (run.from + k) 0) ≡ get_or text (run.from + k) 0 - 48
value_in text run k h l =
    let d = digit_bounds (get_or text (run.from + k) 0) (digit_in text run k h l) in
    let e = digit_value_digit (get_or text (run.from + k) 0) d in omega (arith, e)

-- ---- their numbers, up to a place of so many

-- the number of the digits before this place
abbrev pub value_to : List ℕ → Digits → ℕ → ℕ → ℕ
value_to text run i count = digits_value 10 (between text run.from (run.from + (i - (count - (run.to - run.from)))))

value_at : (text : List ℕ) (run : Digits) (i count k : ℕ) → i - (count - (run.to - run.from)) ≡ k → value_to text run i count ≡ digits_value 10 (between text run.from (run.from + k))
value_at text run i count k e = ap (λ (n : ℕ). digits_value 10 (between text run.from (run.from + n))) e

empty_at : (text : List ℕ) (run : Digits) (i count : ℕ) → i - (count - (run.to - run.from)) ≡ 0 → value_to text run i count ≡ 0
empty_at text run i count e =
    let z : run.from + 0 ≡ run.from = omega arith in
    value_at text run i count 0 e ∙ (ap (λ (n : ℕ). digits_value 10 (between text run.from n)) z ∙ no_value text run.from)

pub value_begin : (text : List ℕ) (run : Digits) (count : ℕ) → value_to text run 0 count ≡ 0
value_begin text run count = empty_at text run 0 count (omega arith)

pub value_end : (text : List ℕ) (run : Digits) (count : ℕ) → IsDigitRun text run → run.to - run.from ≤ count
    → value_to text run count count ≡ digits_value 10 (between text run.from run.to)
value_end text run count h l =
    let o = h.order in
    let e : run.from + (run.to - run.from) ≡ run.to = omega (arith, o) in
    value_at text run count count (run.to - run.from) (omega (arith, l)) ∙ ap (λ (n : ℕ). digits_value 10 (between text run.from n)) e

no_less : (a b : ℕ) → b ≤ a → nat_lt a b ≡ false
no_less a b g = by (nat_lt a b) refl
  where
    by : (t : Bool) → nat_lt a b ≡ t → t ≡ false
    by true e = let z : a < b = ltb-true a b e in absurd (omega (arith, z, g))
    by false e = refl

pub value_more : (text : List ℕ) (run : Digits) (i count : ℕ) → IsDigitRun text run → run.to - run.from ≤ count → i < count
    → value_to text run (i + 1) count ≡ value_to text run i count * 10 + digit_of text run i count
value_more text run i count h l w = elim (cases_lt i (count - (run.to - run.from))) [ inl a ↦ before a | inr b ↦ within b ]
  where
    before : i < count - (run.to - run.from) → value_to text run (i + 1) count ≡ value_to text run i count * 10 + digit_of text run i count
    before a =
        let p = empty_at text run (i + 1) count (omega (arith, a)) in
        let q = empty_at text run i count (omega (arith, a)) in
        let d : digit_of text run i count ≡ 0 =
        ap (λ (v : Bool). cond v 0 (get_or text (run.from + (i - (count - (run.to - run.from)))) 0 - 48)) (lt-ltb i (count - (run.to - run.from)) a) in
        omega (arith, p, q, d)

    within : count - (run.to - run.from) ≤ i → value_to text run (i + 1) count ≡ value_to text run i count * 10 + digit_of text run i count
    within b =
        let k : ℕ = i - (count - (run.to - run.from)) in
        let c : k < run.to - run.from = omega (arith, l, w, b) in
        let o = h.order in
        let n = h.within in
        let s : run.from + (k + 1) ≡ run.from + k + 1 = omega arith in
        let p : value_to text run (i + 1) count ≡ digits_value 10 (between text run.from (run.from + k)) * 10 + digit_value (get_or text (run.from + k) 0) =
        value_at text run (i + 1) count (k + 1) (omega (arith, b))
        ∙ (ap (λ (j : ℕ). digits_value 10 (between text run.from j)) s
        ∙ (ap (digits_value 10) (between_push text run.from (run.from + k) (omega arith) (omega (arith, c, n, o)))
        ∙ digits_value_push 10 (between text run.from (run.from + k)) (get_or text (run.from + k) 0))) in
        let d : digit_of text run i count ≡ get_or text (run.from + k) 0 - 48 =
        ap (λ (v : Bool). cond v 0 (get_or text (run.from + k) 0 - 48)) (no_less i (count - (run.to - run.from)) b) in
        let v = value_in text run k h c in
        omega (arith, p, d, v)

pub digit_small : (text : List ℕ) (run : Digits) (k : ℕ) → IsDigitRun text run → k < run.to - run.from → get_or text (run.from + k) 0 - 48 < 10
digit_small text run k h l = let d = digit_bounds (get_or text (run.from + k) 0) (digit_in text run k h l) in omega (arith, d.1)

pub digit_great : (text : List ℕ) (run : Digits) (k : ℕ) → IsDigitRun text run → k < run.to - run.from → 48 ≤ get_or text (run.from + k) 0
digit_great text run k h l = (digit_bounds (get_or text (run.from + k) 0) (digit_in text run k h l)).0

-- ---- their order

pub order_begin : (text : List ℕ) (left right : Digits) (count : ℕ) → IsOrder Equal (value_to text left 0 count) (value_to text right 0 count)
order_begin text left right count = value_begin text left count ∙ sym (value_begin text right count)

pub order_more : (text : List ℕ) (left right : Digits) (i count : ℕ) (next : Ordering) → IsDigitRun text left → IsDigitRun text right → left.to - left.from ≤ count
    → right.to - right.from ≤ count → i < count
    → IsOrder next (value_to text left i count * 10 + digit_of text left i count) (value_to text right i count * 10 + digit_of text right i count)
    → IsOrder next (value_to text left (i + 1) count) (value_to text right (i + 1) count)
order_more text left right i count next h k l r w o =
    let P : ℕ → Type 0 = λ m. IsOrder next m (value_to text right i count * 10 + digit_of text right i count) in
    let Q : ℕ → Type 0 = λ n. IsOrder next (value_to text left (i + 1) count) n in
    subst Q (sym (value_more text right i count k r w)) (subst P (sym (value_more text left i count h l w)) o)

pub order_end : (text : List ℕ) (left right : Digits) (count m n : ℕ) (order : Ordering) → IsDigitRun text left → IsDigitRun text right → left.to - left.from ≤ count
    → right.to - right.from ≤ count → AreDigits text left m → AreDigits text right n
    → IsOrder order (value_to text left count count) (value_to text right count count) → IsOrder order m n
order_end text left right count m n order h k l r e f o =
    let P : ℕ → Type 0 = λ a. IsOrder order a (value_to text right count count) in
    let Q : ℕ → Type 0 = λ b. IsOrder order m b in
    subst Q (value_end text right count k r ∙ f) (subst P (value_end text left count h l ∙ e) o)

pub below_more : (m n a b : ℕ) → a < 10 → m < n → m * 10 + a < n * 10 + b
below_more m n a b s l = omega (arith, s, l)

pub same_more : (m n a b : ℕ) (order : Ordering) → m ≡ n → IsOrder order a b → IsOrder order (m * 10 + a) (n * 10 + b)
same_more m n a b Less e o = omega (arith, e, o)
same_more m n a b Equal e o = omega (arith, e, o)
same_more m n a b Greater e o = omega (arith, e, o)

pub less_decides : (m n : ℕ) (order : Ordering) → IsOrder order m n → Decides (is_lt order) (m < n)
less_decides m n Less o = (λ e. o, λ l. refl)
less_decides m n Equal o = (λ e. absurd cc, λ l. absurd (omega (arith, o, l)))
less_decides m n Greater o = (λ e. absurd cc, λ l. absurd (omega (arith, o, l)))

-- ---- numbers with signs

-- digits of a number at a place, which stand up to the end of a run
moved_digits : (text : List ℕ) (run : Digits) (from n : ℕ) → run.from ≡ from → run.to ≡ behind_digits text from
    → digits_value 10 (between text from (behind_digits text from)) ≡ n → AreDigits text run n
moved_digits text run from n e f d =
    ap (λ (j : ℕ). digits_value 10 (between text run.from j)) f ∙ (ap (λ (i : ℕ). digits_value 10 (between text i (behind_digits text from))) e ∙ d)

pub minus_digits : (text : List ℕ) (at stop : ℕ) (p : CifPart) (ps : List CifPart) (run : Digits) → is_number_part p ≡ true → PartsAt text at stop (p ∷ ps)
    → at < length text → get_or text at 0 ≡ 45 → run.from ≡ at + 1 → run.to ≡ behind_digits text (at + 1) → SignedDigits text run true (number_in p)
minus_digits text at stop p ps run k h w m e f = by (number_at text at stop p ps k h)
  where
    by : NumberAt text at stop ps (number_in p) → SignedDigits text run true (number_in p)
    by (inl d) = absurd (d.2.no_minus w m)
    by (inr d) = record { n = d.0; are = moved_digits text run (at + 1) d.0 e f d.2.value; is = d.1 }

pub plain_digits : (text : List ℕ) (at stop : ℕ) (p : CifPart) (ps : List CifPart) (run : Digits) → is_number_part p ≡ true → PartsAt text at stop (p ∷ ps)
    → (at < length text → get_or text at 0 ≡ 45 → ⊥) → run.from ≡ at → run.to ≡ behind_digits text at → SignedDigits text run false (number_in p)
plain_digits text at stop p ps run k h none e f = by (number_at text at stop p ps k h)
  where
    by : NumberAt text at stop ps (number_in p) → SignedDigits text run false (number_in p)
    by (inl d) = record { n = d.0; are = moved_digits text run at d.0 e f d.2.value; is = d.1 }
    by (inr d) = absurd (none d.2.within d.2.minus)

plain_less : (m n : ℕ) (t : Bool) (a b : ℤ) → a ≡ pos m → b ≡ pos n → Decides t (m < n) → Decides t (a <ℤ b)
plain_less m n t a b e f d = (λ g. (let l = d.0 g in omega (arith, ints, l, e, f)), λ l. d.1 (omega (arith, ints, l, e, f)))

minus_less : (m n : ℕ) (t : Bool) (a b : ℤ) → a ≡ neg_ℤ (pos m) → b ≡ neg_ℤ (pos n) → Decides t (n < m) → Decides t (a <ℤ b)
minus_less m n t a b e f d = (λ g. (let l = d.0 g in omega (arith, ints, l, e, f)), λ l. d.1 (omega (arith, ints, l, e, f)))

never_less : (m n : ℕ) (a b : ℤ) → a ≡ pos m → b ≡ neg_ℤ (pos n) → Decides false (a <ℤ b)
never_less m n a b e f = (λ g. absurd cc, λ l. absurd (omega (arith, ints, l, e, f)))

-- the number behind a sign that is known
sign_is : (t minus : Bool) (n : ℕ) (z : ℤ) → t ≡ minus → z ≡ cond t (neg_ℤ (pos n)) (pos n) → z ≡ cond minus (neg_ℤ (pos n)) (pos n)
sign_is t minus n z e h = h ∙ ap (λ (v : Bool). cond v (neg_ℤ (pos n)) (pos n)) e

pub plain_order : (text : List ℕ) (one two : Digits) (t u r : Bool) (z w : ℤ) (order : Ordering) → (a : SignedDigits text one t z) → (b : SignedDigits text two u w)
    → t ≡ false → u ≡ false → r ≡ is_lt order → IsOrder order a.n b.n → Decides r (z <ℤ w)
plain_order text one two t u r z w order a b e f g o =
    let P : Bool → Type 0 = λ v. Decides v (a.n < b.n) in
    plain_less a.n b.n r z w (sign_is t false a.n z e a.is) (sign_is u false b.n w f b.is) (subst P (sym g) (less_decides a.n b.n order o))

pub minus_order : (text : List ℕ) (one two : Digits) (t u r : Bool) (z w : ℤ) (order : Ordering) → (a : SignedDigits text one t z) → (b : SignedDigits text two u w)
    → t ≡ true → u ≡ true → r ≡ is_lt order → IsOrder order b.n a.n → Decides r (z <ℤ w)
minus_order text one two t u r z w order a b e f g o =
    let P : Bool → Type 0 = λ v. Decides v (b.n < a.n) in
    minus_less a.n b.n r z w (sign_is t true a.n z e a.is) (sign_is u true b.n w f b.is) (subst P (sym g) (less_decides b.n a.n order o))

pub mixed_first : (text : List ℕ) (one two : Digits) (t u r : Bool) (z w : ℤ) → (a : SignedDigits text one t z) → (b : SignedDigits text two u w) → t ≡ true → u ≡ false
    → r ≡ true → Decides r (0 < a.n) → Decides r (z <ℤ w)
mixed_first text one two t u r z w a b e f g d =
    let p = sign_is t true a.n z e a.is in
    let q = sign_is u false b.n w f b.is in
    let l = d.0 g in
    (λ _. omega (arith, ints, l, p, q), λ _. g)

pub mixed_second : (text : List ℕ) (one two : Digits) (t u r v : Bool) (z w : ℤ) → (a : SignedDigits text one t z) → (b : SignedDigits text two u w) → t ≡ true → u ≡ false
    → r ≡ false → Decides r (0 < a.n) → Decides v (0 < b.n) → Decides v (z <ℤ w)
mixed_second text one two t u r v z w a b e f g d k =
    let p = sign_is t true a.n z e a.is in
    let q = sign_is u false b.n w f b.is in (
      λ h. (let l = k.0 h in omega (arith, ints, l, p, q)),
      λ h. elim (cases_lt 0 a.n) [
        | inl l ↦ absurd (let y : false ≡ true = sym g ∙ d.1 l in cc)
        | inr l ↦ k.1 (omega (arith, ints, h, p, q, l))
      ],
    )

pub mixed_never : (text : List ℕ) (one two : Digits) (t u : Bool) (z w : ℤ) → (a : SignedDigits text one t z) → (b : SignedDigits text two u w) → t ≡ false → u ≡ true
    → Decides false (z <ℤ w)
mixed_never text one two t u z w a b e f = never_less a.n b.n z w (sign_is t false a.n z e a.is) (sign_is u true b.n w f b.is)

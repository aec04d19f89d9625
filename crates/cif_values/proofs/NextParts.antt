-- The first byte of parts, and what stands behind letters.
use Rattle.std.proofs.Common.{◌≡◌, ◌≢◌, ◌⊎◌, inl, inr, ℕ, ◌+◌, ◌-◌, ◌<◌, min, true, false, List, [], ◌∷◌, ◌++◌, length, drop, get_or, refl, sym, ◌∙◌, ap, subst, arith}
use Rattle.rx_text.specs.NumberInText.{is_digit}
use Rattle.geom.specs.CifCommands.{CifPart, Letters, Unsigned, Signed, WritesNumber, WritesSigned, is_capital}
use Rattle.cif_values.specs.declared.next.Next.TheVariants.{End, Number, Letter}
use Rattle.cif_values.specs.Parts.{is_plain, PartsAt}
use Rattle.cif_values.specs.Runs.{behind_blanks}
use Rattle.cif_values.specs.Values.{ComesNext}
use Rattle.cif_values.proofs.Bytes.{all_first, capital_no_digit}
use Rattle.cif_values.proofs.Texts.{length_between}
use Rattle.cif_values.proofs.Behind.{from_there, Behind, behind_part}
use Rattle.cif_values.proofs.Standing.{first_byte}

-- parts begin with this byte
abbrev pub BeginsWith : List CifPart → ℕ → Type 0
BeginsWith [] b = b ≡ 59
BeginsWith (Letters [] ∷ ps) b = ⊥
BeginsWith (Letters (f ∷ w) ∷ ps) b = (b ≡ f) × (is_capital b ≡ true)
BeginsWith (Unsigned n ∷ ps) b = is_digit b ≡ true
BeginsWith (Signed z ∷ ps) b = (is_digit b ≡ true) ⊎ (b ≡ 45)

digit_first : (n : ℕ) (word more bytes : List ℕ) → WritesNumber n word → bytes ≡ word ++ more → (f : ℕ) × (rest : List ℕ) × (bytes ≡ f ∷ rest) × (is_digit f ≡ true)
digit_first n [] more bytes w e = absurd (w.some refl)
digit_first n (d ∷ ds) more bytes w e = (d, ds ++ more, e, (all_first is_digit d ds w.digits).0)

pub begins_with : (text : List ℕ) (at stop : ℕ) (ps : List CifPart) → PartsAt text at stop ps → (at < length text) × BeginsWith ps (get_or text at 0)
begins_with text at stop [] h =
    let l : stop - at ≡ 0 = sym (length_between text at stop h.order (omega (arith, h.within))) ∙ ap length h.spelled in
    let e : at ≡ stop = omega (arith, l, h.order) in
    (omega (arith, e, h.within), ap (λ (i : ℕ). get_or text i 0) e ∙ h.semicolon)
begins_with text at stop (Letters [] ∷ ps) h = absurd (let k : false ≡ true = (all_first is_plain (Letters []) ps h.plain).0 in cc)
begins_with text at stop (Letters (f ∷ w) ∷ ps) h =
    let s = h.spelled in
    let more : List ℕ = s.gap ++ (s.rest ++ 59 ∷ drop (stop + 1) text) in
    let b = first_byte text at f (w ++ more) (from_there text at stop (Letters (f ∷ w)) ps h ∙ ap (λ (l : List ℕ). l ++ more) s.spelled) in
    (b.0, (b.1, ap is_capital b.1 ∙ (all_first is_plain (Letters (f ∷ w)) ps h.plain).0))
begins_with text at stop (Unsigned n ∷ ps) h =
    let s = h.spelled in
    let d = digit_first n s.word (s.gap ++ (s.rest ++ 59 ∷ drop (stop + 1) text)) (drop at text) s.spelled (from_there text at stop (Unsigned n) ps h) in
    let b = first_byte text at d.0 d.1 d.2 in (b.0, ap is_digit b.1 ∙ d.3)
begins_with text at stop (Signed z ∷ ps) h = by h.spelled.spelled
  where
    more : List ℕ
    more = h.spelled.gap ++ (h.spelled.rest ++ 59 ∷ drop (stop + 1) text)

    by : WritesSigned z h.spelled.word → (at < length text) × ((is_digit (get_or text at 0) ≡ true) ⊎ (get_or text at 0 ≡ 45))
    by (inl w) =
        let d = digit_first w.0 h.spelled.word more (drop at text) w.2 (from_there text at stop (Signed z) ps h) in
        let b = first_byte text at d.0 d.1 d.2 in (b.0, inl (ap is_digit b.1 ∙ d.3))
    by (inr w) =
        let b = first_byte text at 45 (w.1 ++ more) (from_there text at stop (Signed z) ps h ∙ ap (λ (l : List ℕ). l ++ more) w.3) in
        (b.0, inr b.1)

-- ---- what comes next by its byte

no_capital : (b n : ℕ) → is_capital b ≡ true → b ≡ n → is_capital n ≡ false → ⊥
no_capital b n h e f = let z : true ≡ false = sym h ∙ (ap is_capital e ∙ f) in cc

no_digit : (b n : ℕ) → is_digit b ≡ true → b ≡ n → is_digit n ≡ false → ⊥
no_digit b n h e f = let z : true ≡ false = sym h ∙ (ap is_digit e ∙ f) in cc

pub comes_end : (ps : List CifPart) (b : ℕ) → BeginsWith ps b → b ≡ 59 → ComesNext ps End
comes_end [] b h e = tt
comes_end (Letters [] ∷ ps) b h e = absurd h
comes_end (Letters (f ∷ w) ∷ ps) b h e = absurd (no_capital b 59 h.1 e refl)
comes_end (Unsigned n ∷ ps) b h e = absurd (no_digit b 59 h e refl)
comes_end (Signed z ∷ ps) b (inl h) e = absurd (no_digit b 59 h e refl)
comes_end (Signed z ∷ ps) b (inr h) e = absurd (omega (arith, h, e))

pub comes_number : (ps : List CifPart) (b : ℕ) → BeginsWith ps b → (is_digit b ≡ true) ⊎ (b ≡ 45) → ComesNext ps Number
comes_number [] b h (inl d) = absurd (no_digit b 59 d h refl)
comes_number [] b h (inr m) = absurd (omega (arith, h, m))
comes_number (Letters [] ∷ ps) b h d = absurd h
comes_number (Letters (f ∷ w) ∷ ps) b h (inl d) = absurd (let z : false ≡ true = sym (capital_no_digit b h.1) ∙ d in cc)
comes_number (Letters (f ∷ w) ∷ ps) b h (inr m) = absurd (no_capital b 45 h.1 m refl)
comes_number (Unsigned n ∷ ps) b h d = tt
comes_number (Signed z ∷ ps) b h d = tt

pub comes_letter : (ps : List CifPart) (b : ℕ) → BeginsWith ps b → b ≢ 59 → is_digit b ≡ false → b ≢ 45 → ComesNext ps (Letter b)
comes_letter [] b h s d m = absurd (s h)
comes_letter (Letters [] ∷ ps) b h s d m = absurd h
comes_letter (Letters (f ∷ w) ∷ ps) b h s d m = h.0
comes_letter (Unsigned n ∷ ps) b h s d m = let z : true ≡ false = sym h ∙ d in absurd cc
comes_letter (Signed z ∷ ps) b (inl h) s d m = let z : true ≡ false = sym h ∙ d in absurd cc
comes_letter (Signed z ∷ ps) b (inr h) s d m = absurd (m h)

-- ---- behind letters

pub behind_word : (text : List ℕ) (at stop count : ℕ) (word : List ℕ) (ps : List CifPart) → length word ≡ count → PartsAt text at stop (Letters word ∷ ps)
    → PartsAt text (behind_blanks text (min (at + count) (length text))) stop ps
behind_word text at stop count word ps l h =
    let b : Behind text at stop ps h.spelled.word = behind_part text at stop (Letters word) ps h in
    let k : length h.spelled.word ≡ count = ap length h.spelled.spelled ∙ l in
    let e : at + length h.spelled.word ≡ min (at + count) (length text) = omega (arith, k, b.parts.order, b.parts.within) in
    let P : ℕ → Type 0 = λ i. PartsAt text (behind_blanks text i) stop ps in
    subst P e b.parts

-- ---- letters

pub letter_is : (text : List ℕ) (at stop f : ℕ) (w : List ℕ) (ps : List CifPart) → PartsAt text at stop (Letters (f ∷ w) ∷ ps) → get_or text at 0 ≡ f
letter_is text at stop f w ps h = (begins_with text at stop (Letters (f ∷ w) ∷ ps) h).1.0

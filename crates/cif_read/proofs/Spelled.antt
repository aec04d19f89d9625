-- Bytes are of one command: its parts are read off them one by one.
use Rattle.std.specs.Prelude.{⊤}
use Rattle.std.proofs.Common.{◌≡◌, ◌≢◌, inl, inr, ℕ, ◌==◌, Bool, true, false, cond, ◌&&◌, ◌||◌, ℤ, List, [], ◌∷◌, ◌++◌, flat_map, Option, Some, None, codes, refl, sym, ◌∙◌, ap, append_assoc, arith}
use Rattle.rx_text.specs.NumberInText.{is_digit}
use Rattle.geom.specs.declared.point.Point.{Point}
use Rattle.geom.specs.CifCommands.{CifScale, CifMove, Translates, MirrorsX, MirrorsY, Rotates, CifCommand, Empty, Comment, Opens, Closes, CallsSymbol, SetsLayer, DrawsBox, DrawsPolygon, DrawsWire, Extension, CifPart, Letters, Unsigned, Signed, AreCifBlanks, is_cif_blank, is_capital, WritesNumber, SpellsPart, is_number_part, needs_blank, PartThen, SpellsParts, point_parts, scale_parts, direction_parts, move_parts, command_parts, IsShortName, IsExtension, SpellsCommand}
use Rattle.cif_read.proofs.Runs.{Fails, fails_at, heads, tails, all_first, one_run, blank_no_digit, blank_no_capital, capital_no_blank, digits_begin, signed_begins, one_number, one_signed, digit_no_blank}

-- the bytes with a semicolon
abbrev closed : List ℕ → List ℕ
closed bytes = bytes ++ 59 ∷ []

-- a part, the blanks behind it, and the rest
parted : (p : CifPart) (needs : Bool) (More : List ℕ → Type 0) (bytes : List ℕ) (s : PartThen p needs More bytes) → closed bytes ≡ s.word ++
    (s.gap ++ closed s.rest)
parted p needs More bytes s =
    ap closed s.is ∙ (append_assoc (s.word ++ s.gap) s.rest (59 ∷ []) ∙ append_assoc s.word s.gap (closed s.rest))

-- no digit behind blanks, where none stands behind no blanks
gap_no_digit : (gap rest : List ℕ) → AreCifBlanks gap → (gap ≡ [] → Fails is_digit rest) → Fails is_digit (gap ++ rest)
gap_no_digit [] rest b h = h refl
gap_no_digit (g ∷ gs) rest b h = blank_no_digit g (all_first is_cif_blank g gs b).0

closed_nothing : (p : ℕ → Bool) (bytes : List ℕ) → bytes ≡ [] → p 59 ≡ false → Fails p (closed bytes)
closed_nothing p bytes e h = fails_at p (59 ∷ []) (closed bytes) (ap closed (sym e)) h

-- ---- one number

-- both are numbers without signs, or both may have one
abbrev Same : CifPart → CifPart → Type 0
Same (Unsigned n) (Unsigned m) = ⊤
Same (Signed z) (Signed y) = ⊤
Same p q = ⊥

one_part : (p q : CifPart) (w v xs ys : List ℕ) → Same p q → SpellsPart p w → SpellsPart q v → Fails is_digit xs → Fails is_digit ys
    → w ++ xs ≡ v ++ ys
    → (p ≡ q) × (xs ≡ ys)
one_part (Unsigned n) (Unsigned m) w v xs ys h a b f g e = let r = one_number n m w v xs ys a b f g e in (ap Unsigned r.0, r.1)
one_part (Signed z) (Signed y) w v xs ys h a b f g e = let r = one_signed z y w v xs ys a b f g e in (ap Signed r.0, r.1)
one_part (Letters w) q a b xs ys h s t f g e = absurd h
one_part (Unsigned n) (Letters v) a b xs ys h s t f g e = absurd h
one_part (Unsigned n) (Signed y) a b xs ys h s t f g e = absurd h
one_part (Signed z) (Letters v) a b xs ys h s t f g e = absurd h
one_part (Signed z) (Unsigned m) a b xs ys h s t f g e = absurd h

-- the same number, and the same bytes behind it
number_on : (p q : CifPart) (needs need : Bool) (More Rest : List ℕ → Type 0) (bytes others : List ℕ) (s : PartThen p needs More bytes)
    (t : PartThen q need Rest others)
    → Same p q → closed bytes ≡ closed others → (s.gap ≡ [] → Fails is_digit (closed s.rest)) → (t.gap ≡ [] → Fails is_digit (closed t.rest))
    → Fails is_cif_blank (closed s.rest) → Fails is_cif_blank (closed t.rest) → (p ≡ q) × (closed s.rest ≡ closed t.rest)
number_on p q needs need More Rest bytes others s t h e f g k l =
    let a = one_part p q s.word t.word (s.gap ++ closed s.rest) (t.gap ++ closed t.rest) h s.spelled t.spelled
    (gap_no_digit s.gap (closed s.rest) s.blanks f) (gap_no_digit t.gap (closed t.rest) t.blanks g)
    (sym (parted p needs More bytes s) ∙ (e ∙ parted q need Rest others t)) in
    (a.0, (one_run is_cif_blank s.gap t.gap (closed s.rest) (closed t.rest) s.blanks t.blanks k l a.1).1)

-- the same letter, and the same bytes behind it
letter_on : (b c : ℕ) (needs need : Bool) (More Rest : List ℕ → Type 0) (bytes others : List ℕ) (s : PartThen (Letters (b ∷ [])) needs More bytes)
    (t : PartThen (Letters (c ∷ [])) need Rest others) → closed bytes ≡ closed others → Fails is_cif_blank (closed s.rest) → Fails is_cif_blank
    (closed t.rest)
    → (b ≡ c) × (closed s.rest ≡ closed t.rest)
letter_on b c needs need More Rest bytes others s t e k l =
    let a : b ∷ (s.gap ++ closed s.rest) ≡ c ∷ (t.gap ++ closed t.rest) =
    ap (λ (w : List ℕ). w ++ (s.gap ++ closed s.rest)) (sym s.spelled)
    ∙ (sym (parted (Letters (b ∷ [])) needs More bytes s) ∙ (e ∙ (parted (Letters (c ∷ [])) need Rest others t
    ∙ ap (λ (w : List ℕ). w ++ (t.gap ++ closed t.rest)) t.spelled))) in
    (heads a, (one_run is_cif_blank s.gap t.gap (closed s.rest) (closed t.rest) s.blanks t.blanks k l (tails a)).1)

-- the first byte of a part that begins with this letter
letter_first : (b : ℕ) (word : List ℕ) (needs : Bool) (More : List ℕ → Type 0) (bytes : List ℕ) → PartThen (Letters (b ∷ word)) needs More bytes
    → (more : List ℕ) × (closed bytes ≡ b ∷ more)
letter_first b word needs More bytes s = (
  word ++ (s.gap ++ closed s.rest),
  parted (Letters (b ∷ word)) needs More bytes s ∙ ap (λ (w : List ℕ). w ++
      (s.gap ++ closed s.rest)) s.spelled,
)

-- ---- numbers alone

abbrev AreNumbers : List CifPart → Type 0
AreNumbers [] = ⊤
AreNumbers (p ∷ ps) = (is_number_part p ≡ true) × AreNumbers ps

-- both lists are numbers, of the same sorts as far as both go
abbrev Aligned : List CifPart → List CifPart → Type 0
Aligned [] qs = AreNumbers qs
Aligned (p ∷ ps) [] = AreNumbers (p ∷ ps)
Aligned (p ∷ ps) (q ∷ qs) = Same p q × Aligned ps qs

same_left : (p q : CifPart) → Same p q → is_number_part p ≡ true
same_left (Unsigned n) (Unsigned m) h = refl
same_left (Signed z) (Signed y) h = refl
same_left (Letters w) q h = absurd h
same_left (Unsigned n) (Letters v) h = absurd h
same_left (Unsigned n) (Signed y) h = absurd h
same_left (Signed z) (Letters v) h = absurd h
same_left (Signed z) (Unsigned m) h = absurd h

same_right : (p q : CifPart) → Same p q → is_number_part q ≡ true
same_right (Unsigned n) (Unsigned m) h = refl
same_right (Signed z) (Signed y) h = refl
same_right (Letters w) q h = absurd h
same_right (Unsigned n) (Letters v) h = absurd h
same_right (Unsigned n) (Signed y) h = absurd h
same_right (Signed z) (Letters v) h = absurd h
same_right (Signed z) (Unsigned m) h = absurd h

aligned_left : (ps qs : List CifPart) → Aligned ps qs → AreNumbers ps
aligned_left [] qs h = tt
aligned_left (p ∷ ps) [] h = h
aligned_left (p ∷ ps) (q ∷ qs) h = (same_left p q h.0, aligned_left ps qs h.1)

aligned_right : (ps qs : List CifPart) → Aligned ps qs → AreNumbers qs
aligned_right [] qs h = h
aligned_right (p ∷ ps) [] h = tt
aligned_right (p ∷ ps) (q ∷ qs) h = (same_right p q h.0, aligned_right ps qs h.1)

number_begins : (p : CifPart) (word more : List ℕ) → is_number_part p ≡ true → SpellsPart p word → Fails is_cif_blank (word ++ more)
number_begins (Unsigned n) word more h s = digits_begin n word more s
number_begins (Signed z) word more h s = signed_begins z word more s
number_begins (Letters w) word more h s = absurd cc

numbers_begin : (ps : List CifPart) (bytes : List ℕ) → AreNumbers ps → SpellsParts ps bytes → Fails is_cif_blank (closed bytes)
numbers_begin [] bytes h s = closed_nothing is_cif_blank bytes s refl
numbers_begin (p ∷ ps) bytes h s =
    fails_at is_cif_blank (s.word ++ (s.gap ++ closed s.rest)) (closed bytes) (sym (parted p (needs_blank p ps) (SpellsParts ps) bytes s))
    (number_begins p s.word (s.gap ++ closed s.rest) h.0 s.spelled)

-- no digit behind a number, where numbers follow or nothing
apart_digits : (p : CifPart) (ps : List CifPart) (gap rest : List ℕ) → is_number_part p ≡ true → AreNumbers ps → (needs_blank p ps ≡ true
    → gap ≢ [])
    → SpellsParts ps rest → gap ≡ [] → Fails is_digit (closed rest)
apart_digits p [] gap rest n h a s e = closed_nothing is_digit rest s refl
apart_digits p (q ∷ qs) gap rest n h a s e =
    absurd (a (ap (λ (v : Bool). v && is_number_part q) n ∙ h.0) e)

digits_no_end : (n : ℕ) (word more : List ℕ) → WritesNumber n word → word ++ more ≡ 59 ∷ [] → ⊥
digits_no_end n [] more w e = w.some refl
digits_no_end n (b ∷ bs) more w e =
    let z : true ≡ false = sym (all_first is_digit b bs w.digits).0 ∙ ap is_digit (heads e) in cc

word_no_end : (p : CifPart) (word more : List ℕ) → is_number_part p ≡ true → SpellsPart p word → word ++ more ≡ 59 ∷ [] → ⊥
word_no_end (Letters w) word more n t e = cc
word_no_end (Unsigned m) word more n t e = digits_no_end m word more t e
word_no_end (Signed y) word more n (inl t) e = digits_no_end t.0 word more t.2 e
word_no_end (Signed y) word more n (inr t) e =
    let q : 45 ≡ 59 = heads (ap (λ (w : List ℕ). w ++ more) (sym t.3) ∙ e) in omega (arith, q)

nothing_more : (p : CifPart) (ps : List CifPart) (bytes : List ℕ) → is_number_part p ≡ true → SpellsParts (p ∷ ps) bytes
    → closed bytes ≡ 59 ∷ [] → ⊥
nothing_more p ps bytes n s e =
    word_no_end p s.word (s.gap ++ closed s.rest) n s.spelled (sym (parted p (needs_blank p ps) (SpellsParts ps) bytes s) ∙ e)

-- numbers are those that are written
numbers_same : (ps qs : List CifPart) (bytes others : List ℕ) → Aligned ps qs → SpellsParts ps bytes → SpellsParts qs others
    → closed bytes ≡ closed others → ps ≡ qs
numbers_same [] [] bytes others h s t e = refl
numbers_same [] (q ∷ qs) bytes others h s t e = absurd (nothing_more q qs others h.0 t (sym e ∙ ap closed s))
numbers_same (p ∷ ps) [] bytes others h s t e = absurd (nothing_more p ps bytes h.0 s (e ∙ ap closed t))
numbers_same (p ∷ ps) (q ∷ qs) bytes others h s t e =
    let l = aligned_left ps qs h.1 in
    let r = aligned_right ps qs h.1 in
    let n = number_on p q (needs_blank p ps) (needs_blank q qs) (SpellsParts ps) (SpellsParts qs) bytes others s t h.0 e
    (apart_digits p ps s.gap s.rest (same_left p q h.0) l s.apart s.more) (apart_digits q qs t.gap t.rest (same_right p q h.0) r t.apart t.more)
    (numbers_begin ps s.rest l s.more) (numbers_begin qs t.rest r t.more) in
    ap (λ (v : CifPart). v ∷ ps) n.0 ∙ ap (λ (v : List CifPart). q ∷ v) (numbers_same ps qs s.rest t.rest h.1 s.more t.more n.1)

-- ---- points

points_are_numbers : (ps : List Point) → AreNumbers (flat_map point_parts ps)
points_are_numbers [] = tt
points_are_numbers (p ∷ ps) = (refl, (refl, points_are_numbers ps))

points_aligned : (ps qs : List Point) → Aligned (flat_map point_parts ps) (flat_map point_parts qs)
points_aligned [] qs = points_are_numbers qs
points_aligned (p ∷ ps) [] = points_are_numbers (p ∷ ps)
points_aligned (p ∷ ps) (q ∷ qs) = (tt, (tt, points_aligned ps qs))

same_point : (p q : Point) → p.x ≡ q.x → p.y ≡ q.y → p ≡ q
same_point p q x y = ap (λ (v : ℤ). let r : Point = record { x = v; y = p.y } in r) x ∙ ap (λ
    (v : ℤ). let r : Point = record { x = q.x; y = v } in r) y

same_points : (ps qs : List Point) → flat_map point_parts ps ≡ flat_map point_parts qs → ps ≡ qs
same_points [] [] e = refl
same_points [] (q ∷ qs) e = absurd cc
same_points (p ∷ ps) [] e = absurd cc
same_points (p ∷ ps) (q ∷ qs) e =
    let x : p.x ≡ q.x = cc in
    let y : p.y ≡ q.y = cc in
    let rest : flat_map point_parts ps ≡ flat_map point_parts qs = cc in
    ap (λ (v : Point). v ∷ ps) (same_point p q x y) ∙ ap (λ (v : List Point). q ∷ v) (same_points ps qs rest)

-- ---- transformations

abbrev first_letter : CifMove → ℕ
first_letter (Translates x y) = 84
first_letter MirrorsX = 77
first_letter MirrorsY = 77
first_letter (Rotates a b) = 82

move_first : (m : CifMove) (ms : List CifMove) (bytes : List ℕ) → SpellsParts (flat_map move_parts (m ∷ ms)) bytes → (more : List ℕ) ×
    (closed bytes ≡ first_letter m ∷ more)
move_first (Translates x y) ms bytes s = letter_first 84 [] false _ bytes s
move_first MirrorsX ms bytes s = letter_first 77 [] false _ bytes s
move_first MirrorsY ms bytes s = letter_first 77 [] false _ bytes s
move_first (Rotates a b) ms bytes s = letter_first 82 [] false _ bytes s

letter_no_digit : (m : CifMove) → is_digit (first_letter m) ≡ false
letter_no_digit (Translates x y) = refl
letter_no_digit MirrorsX = refl
letter_no_digit MirrorsY = refl
letter_no_digit (Rotates a b) = refl

letter_no_blank : (m : CifMove) → is_cif_blank (first_letter m) ≡ false
letter_no_blank (Translates x y) = refl
letter_no_blank MirrorsX = refl
letter_no_blank MirrorsY = refl
letter_no_blank (Rotates a b) = refl

letter_no_end : (m : CifMove) → first_letter m ≡ 59 → ⊥
letter_no_end (Translates x y) e = omega (arith, e)
letter_no_end MirrorsX e = omega (arith, e)
letter_no_end MirrorsY e = omega (arith, e)
letter_no_end (Rotates a b) e = omega (arith, e)

moves_no_digit : (ms : List CifMove) (bytes : List ℕ) → SpellsParts (flat_map move_parts ms) bytes → Fails is_digit (closed bytes)
moves_no_digit [] bytes s = closed_nothing is_digit bytes s refl
moves_no_digit (m ∷ ms) bytes s =
    let f = move_first m ms bytes s in fails_at is_digit (first_letter m ∷ f.0) (closed bytes) (sym f.1) (letter_no_digit m)

moves_no_blank : (ms : List CifMove) (bytes : List ℕ) → SpellsParts (flat_map move_parts ms) bytes → Fails is_cif_blank (closed bytes)
moves_no_blank [] bytes s = closed_nothing is_cif_blank bytes s refl
moves_no_blank (m ∷ ms) bytes s =
    let f = move_first m ms bytes s in fails_at is_cif_blank (first_letter m ∷ f.0) (closed bytes) (sym f.1) (letter_no_blank m)

-- a number with more behind it does not begin with a blank
then_begins : (z : ℤ) (needs : Bool) (More : List ℕ → Type 0) (bytes : List ℕ) → PartThen (Signed z) needs More bytes → Fails is_cif_blank
    (closed bytes)
then_begins z needs More bytes s =
    fails_at is_cif_blank (s.word ++ (s.gap ++ closed s.rest)) (closed bytes) (sym (parted (Signed z) needs More bytes s))
    (signed_begins z s.word (s.gap ++ closed s.rest) s.spelled)

-- a letter and two numbers, with transformations behind them
pair_on : (b c : ℕ) (x y z w : ℤ) (ms ns : List CifMove) (bytes others : List ℕ)
    → (s : PartThen (Letters (b ∷ [])) false (PartThen (Signed x) true (PartThen (Signed y) (needs_blank (Signed y) (flat_map move_parts ms))
    (SpellsParts (flat_map move_parts ms)))) bytes)
    → (t : PartThen (Letters (c ∷ [])) false (PartThen (Signed z) true (PartThen (Signed w) (needs_blank (Signed w) (flat_map move_parts ns))
    (SpellsParts (flat_map move_parts ns)))) others)
    → closed bytes ≡ closed others
    → (b ≡ c) × (x ≡ z) × (y ≡ w) × (closed s.more.more.rest ≡ closed t.more.more.rest)
pair_on b c x y z w ms ns bytes others s t e =
    let l = letter_on b c false false _ _ bytes others s t e (then_begins x true _ s.rest s.more) (then_begins z true _ t.rest t.more) in
    let f = number_on (Signed x) (Signed z) true true _ _ s.rest t.rest s.more t.more tt l.1 (λ g. absurd (s.more.apart refl g)) (λ g. absurd
    (t.more.apart refl g))
    (then_begins y (needs_blank (Signed y) (flat_map move_parts ms)) _ s.more.rest s.more.more) (then_begins w (needs_blank (Signed w)
    (flat_map move_parts ns)) _ t.more.rest t.more.more) in
    let g = number_on (Signed y) (Signed w) (needs_blank (Signed y) (flat_map move_parts ms)) (needs_blank (Signed w)
    (flat_map move_parts ns)) _ _ s.more.rest t.more.rest
    s.more.more t.more.more tt f.1 (λ h. moves_no_digit ms s.more.more.rest s.more.more.more)
    (λ h. moves_no_digit ns t.more.more.rest t.more.more.more)
    (moves_no_blank ms s.more.more.rest s.more.more.more) (moves_no_blank ns t.more.more.rest t.more.more.more) in
    let xz : x ≡ z = signed_same f.0 in
    let yw : y ≡ w = signed_same g.0 in
    (l.0, xz, yw, g.1)
  where
    signed_same : {u v : ℤ} → Signed u ≡ Signed v → u ≡ v
    signed_same h = cc

-- two letters, with transformations behind them
mirror_on : (b c : ℕ) (ms ns : List CifMove) (bytes others : List ℕ)
    → (s : PartThen (Letters (codes "M")) false (PartThen (Letters (b ∷ [])) (needs_blank (Letters (b ∷ [])) (flat_map move_parts ms))
    (SpellsParts (flat_map move_parts ms))) bytes)
    → (t : PartThen (Letters (codes "M")) false (PartThen (Letters (c ∷ [])) (needs_blank (Letters (c ∷ [])) (flat_map move_parts ns))
    (SpellsParts (flat_map move_parts ns))) others)
    → is_cif_blank b ≡ false → is_cif_blank c ≡ false → closed bytes ≡ closed others
    → (b ≡ c) × (closed s.more.rest ≡ closed t.more.rest)
mirror_on b c ms ns bytes others s t p q e =
    let k = letter_first b [] (needs_blank (Letters (b ∷ [])) (flat_map move_parts ms)) _ s.rest s.more in
    let j = letter_first c [] (needs_blank (Letters (c ∷ [])) (flat_map move_parts ns)) _ t.rest t.more in
    let l = letter_on 77 77 false false _ _ bytes others s t e (fails_at is_cif_blank (b ∷ k.0) (closed s.rest) (sym k.1) p)
    (fails_at is_cif_blank (c ∷ j.0) (closed t.rest) (sym j.1) q) in
    letter_on b c (needs_blank (Letters (b ∷ [])) (flat_map move_parts ms)) (needs_blank (Letters (c ∷ []))
    (flat_map move_parts ns)) _ _ s.rest t.rest
    s.more t.more l.1 (moves_no_blank ms s.more.rest s.more.more) (moves_no_blank ns t.more.rest t.more.more)

moves_same : (ms ns : List CifMove) (bytes others : List ℕ) → SpellsParts (flat_map move_parts ms) bytes → SpellsParts
    (flat_map move_parts ns) others
    → closed bytes ≡ closed others → ms ≡ ns
moves_same [] [] bytes others s t e = refl
moves_same [] (n ∷ ns) bytes others s t e =
    let f = move_first n ns others t in absurd (letter_no_end n (heads (sym f.1 ∙ (sym e ∙ ap closed s))))
moves_same (m ∷ ms) [] bytes others s t e =
    let f = move_first m ms bytes s in absurd (letter_no_end m (heads (sym f.1 ∙ (e ∙ ap closed t))))
moves_same (Translates x y ∷ ms) (Translates z w ∷ ns) bytes others s t e =
    let r = pair_on 84 84 x y z w ms ns bytes others s t e in
    let again = moves_same ms ns s.more.more.rest t.more.more.rest s.more.more.more t.more.more.more r.3 in
    ap (λ (v : ℤ). Translates v y ∷ ms) r.1 ∙ (ap (λ (v : ℤ). Translates z v ∷ ms) r.2 ∙ ap (λ (l : List CifMove). Translates z w ∷ l) again)
moves_same (Rotates x y ∷ ms) (Rotates z w ∷ ns) bytes others s t e =
    let r = pair_on 82 82 x y z w ms ns bytes others s t e in
    let again = moves_same ms ns s.more.more.rest t.more.more.rest s.more.more.more t.more.more.more r.3 in
    ap (λ (v : ℤ). Rotates v y ∷ ms) r.1 ∙ (ap (λ (v : ℤ). Rotates z v ∷ ms) r.2 ∙ ap (λ (l : List CifMove). Rotates z w ∷ l) again)
moves_same (MirrorsX ∷ ms) (MirrorsX ∷ ns) bytes others s t e =
    let r = mirror_on 88 88 ms ns bytes others s t refl refl e in
    ap (λ (l : List CifMove). MirrorsX ∷ l) (moves_same ms ns s.more.rest t.more.rest s.more.more t.more.more r.1)
moves_same (MirrorsY ∷ ms) (MirrorsY ∷ ns) bytes others s t e =
    let r = mirror_on 89 89 ms ns bytes others s t refl refl e in
    ap (λ (l : List CifMove). MirrorsY ∷ l) (moves_same ms ns s.more.rest t.more.rest s.more.more t.more.more r.1)
moves_same (MirrorsX ∷ ms) (MirrorsY ∷ ns) bytes others s t e =
    let r = mirror_on 88 89 ms ns bytes others s t refl refl e in let z : 88 ≡ 89 = r.0 in absurd (omega (arith, z))
moves_same (MirrorsY ∷ ms) (MirrorsX ∷ ns) bytes others s t e =
    let r = mirror_on 89 88 ms ns bytes others s t refl refl e in let z : 89 ≡ 88 = r.0 in absurd (omega (arith, z))
moves_same (m ∷ ms) (n ∷ ns) bytes others s t e =
    let f = move_first m ms bytes s in
    let g = move_first n ns others t in
    let z : first_letter m ≡ first_letter n = heads (sym f.1 ∙ (e ∙ g.1)) in
    absurd (omega (arith, z))

-- ---- whole commands

cut_left : (w xs ys : List ℕ) → w ++ xs ≡ w ++ ys → xs ≡ ys
cut_left [] xs ys e = e
cut_left (b ∷ w) xs ys e = cut_left w xs ys (tails e)

-- the same bytes behind the same letters
word_on : (w : List ℕ) (needs need : Bool) (More Rest : List ℕ → Type 0) (bytes others : List ℕ) (s : PartThen (Letters w) needs More bytes)
    (t : PartThen (Letters w) need Rest others) → closed bytes ≡ closed others → Fails is_cif_blank (closed s.rest) → Fails is_cif_blank
    (closed t.rest)
    → closed s.rest ≡ closed t.rest
word_on w needs need More Rest bytes others s t e k l =
    let a : w ++ (s.gap ++ closed s.rest) ≡ w ++ (t.gap ++ closed t.rest) =
    ap (λ (v : List ℕ). v ++ (s.gap ++ closed s.rest)) (sym s.spelled)
    ∙ (sym (parted (Letters w) needs More bytes s) ∙ (e ∙ (parted (Letters w) need Rest others t
    ∙ ap (λ (v : List ℕ). v ++ (t.gap ++ closed t.rest)) t.spelled))) in
    (one_run is_cif_blank s.gap t.gap (closed s.rest) (closed t.rest) s.blanks t.blanks k l (cut_left w (s.gap ++ closed s.rest)
    (t.gap ++ closed t.rest) a)).1

-- letters and then numbers
numbers_behind : (w : List ℕ) (p q : CifPart) (ps qs : List CifPart) (bytes others : List ℕ) → Aligned (p ∷ ps) (q ∷ qs) → SpellsParts
    (Letters w ∷ p ∷ ps) bytes
    → SpellsParts (Letters w ∷ q ∷ qs) others → closed bytes ≡ closed others → p ∷ ps ≡ q ∷ qs
numbers_behind w p q ps qs bytes others h s t e =
    numbers_same (p ∷ ps) (q ∷ qs) s.rest t.rest h s.more t.more
    (word_on w false false _ _ bytes others s t e (numbers_begin (p ∷ ps) s.rest (aligned_left (p ∷ ps) (q ∷ qs) h) s.more)
    (numbers_begin (q ∷ qs) t.rest (aligned_right (p ∷ ps) (q ∷ qs) h) t.more))

scale_numbers : (scale : Option CifScale) → AreNumbers (scale_parts scale)
scale_numbers None = tt
scale_numbers (Some scale) = (refl, (refl, tt))

scales_aligned : (a b : Option CifScale) → Aligned (scale_parts a) (scale_parts b)
scales_aligned None b = scale_numbers b
scales_aligned (Some a) None = (refl, (refl, tt))
scales_aligned (Some a) (Some b) = (tt, (tt, tt))

same_scale : (a b : CifScale) → a.times ≡ b.times → a.per ≡ b.per → a ≡ b
same_scale a b t p =
    ap (λ (v : ℕ). let r : CifScale = record { times = v; per = a.per } in r) t ∙ ap (λ
    (v : ℕ). let r : CifScale = record { times = b.times; per = v } in r) p

same_scales : (a b : Option CifScale) → scale_parts a ≡ scale_parts b → a ≡ b
same_scales None None e = refl
same_scales None (Some b) e = absurd cc
same_scales (Some a) None e = absurd cc
same_scales (Some a) (Some b) e =
    let t : a.times ≡ b.times = cc in
    let p : a.per ≡ b.per = cc in
    ap (λ (v : CifScale). Some v) (same_scale a b t p)

direction_numbers : (d : Option Point) → AreNumbers (direction_parts d)
direction_numbers None = tt
direction_numbers (Some p) = (refl, (refl, tt))

directions_aligned : (a b : Option Point) → Aligned (direction_parts a) (direction_parts b)
directions_aligned None b = direction_numbers b
directions_aligned (Some a) None = (refl, (refl, tt))
directions_aligned (Some a) (Some b) = (tt, (tt, tt))

same_directions : (a b : Option Point) → direction_parts a ≡ direction_parts b → a ≡ b
same_directions None None e = refl
same_directions None (Some b) e = absurd cc
same_directions (Some a) None e = absurd cc
same_directions (Some a) (Some b) e =
    let x : a.x ≡ b.x = cc in
    let y : a.y ≡ b.y = cc in
    ap (λ (v : Point). Some v) (same_point a b x y)

-- a call with its transformations
calls_same : (n m : ℕ) (ms ns : List CifMove) (bytes others : List ℕ) → SpellsParts (command_parts (CallsSymbol n ms)) bytes
    → SpellsParts (command_parts (CallsSymbol m ns)) others → closed bytes ≡ closed others → CallsSymbol n ms ≡ CallsSymbol m ns
calls_same n m ms ns bytes others s t e =
    let w = word_on (codes "C") false false _ _ bytes others s t e (number_first n _ _ s.rest s.more) (number_first m _ _ t.rest t.more) in
    let f = number_on (Unsigned n) (Unsigned m) _ _ _ _ s.rest t.rest s.more t.more tt w (λ g. moves_no_digit ms s.more.rest s.more.more)
    (λ g. moves_no_digit ns t.more.rest t.more.more) (moves_no_blank ms s.more.rest s.more.more) (moves_no_blank ns t.more.rest t.more.more) in
    let nm : n ≡ m = unsigned_same f.0 in
    ap (λ (v : ℕ). CallsSymbol v ms) nm ∙ ap (CallsSymbol m) (moves_same ms ns s.more.rest t.more.rest s.more.more t.more.more f.1)
  where
    unsigned_same : {u v : ℕ} → Unsigned u ≡ Unsigned v → u ≡ v
    unsigned_same h = cc

    number_first : (n : ℕ) (needs : Bool) (More : List ℕ → Type 0) (bytes : List ℕ) → PartThen (Unsigned n) needs More bytes → Fails is_cif_blank
        (closed bytes)
    number_first n needs More bytes s =
        fails_at is_cif_blank (s.word ++ (s.gap ++ closed s.rest)) (closed bytes) (sym (parted (Unsigned n) needs More bytes s))
        (digits_begin n s.word (s.gap ++ closed s.rest) s.spelled)

-- a name of a layer
abbrev is_name_byte : ℕ → Bool
is_name_byte b = is_capital b || is_digit b

name_begins : (name more : List ℕ) → IsShortName name → Fails is_cif_blank (name ++ more)
name_begins [] more h = absurd (h.some refl)
name_begins (b ∷ bs) more h = by (is_capital b) refl (all_first is_name_byte b bs h.bytes).0
  where
    by : (t : Bool) → is_capital b ≡ t → is_name_byte b ≡ true → is_cif_blank b ≡ false
    by true c n = capital_no_blank b c
    by false c n = digit_no_blank b (ap (λ (v : Bool). v || is_digit b) (sym c) ∙ n)

behind_name : (gap : List ℕ) → AreCifBlanks gap → Fails is_name_byte (gap ++ 59 ∷ [])
behind_name [] b = refl
behind_name (g ∷ gs) b =
    let h = (all_first is_cif_blank g gs b).0 in
    ap (λ (v : Bool). v || is_digit g) (blank_no_capital g h) ∙ blank_no_digit g h

layers_same : (name other bytes others : List ℕ) → IsShortName name → IsShortName other → SpellsParts (command_parts (SetsLayer name)) bytes
    → SpellsParts (command_parts (SetsLayer other)) others → closed bytes ≡ closed others → SetsLayer name ≡ SetsLayer other
layers_same name other bytes others a b s t e =
    let w = word_on (codes "L") false false _ _ bytes others s t e (first name s.rest a s.more) (first other t.rest b t.more) in
    let l : name ++ (s.more.gap ++ closed s.more.rest) ≡ other ++ (t.more.gap ++ closed t.more.rest) =
    ap (λ (v : List ℕ). v ++ (s.more.gap ++ closed s.more.rest)) (sym s.more.spelled)
    ∙ (sym (parted (Letters name) false _ s.rest s.more) ∙ (w ∙ (parted (Letters other) false _ t.rest t.more
    ∙ ap (λ (v : List ℕ). v ++ (t.more.gap ++ closed t.more.rest)) t.more.spelled))) in
    ap SetsLayer (one_run is_name_byte name other (s.more.gap ++ closed s.more.rest) (t.more.gap ++ closed t.more.rest) a.bytes b.bytes
    (last s.more.gap s.more.rest s.more.blanks s.more.more) (last t.more.gap t.more.rest t.more.blanks t.more.more) l).0
  where
    first : (name bytes : List ℕ) → IsShortName name → PartThen (Letters name) false (λ l. l ≡ []) bytes → Fails is_cif_blank (closed bytes)
    first name bytes h s =
        fails_at is_cif_blank (s.word ++ (s.gap ++ closed s.rest)) (closed bytes) (sym (parted (Letters name) false _ bytes s))
        (fails_at is_cif_blank (name ++ (s.gap ++ closed s.rest)) (s.word ++ (s.gap ++ closed s.rest)) (ap (λ (v : List ℕ). v ++
        (s.gap ++ closed s.rest)) (sym s.spelled))
        (name_begins name (s.gap ++ closed s.rest) h))

    last : (gap rest : List ℕ) → AreCifBlanks gap → rest ≡ [] → Fails is_name_byte (gap ++ closed rest)
    last gap rest b r = fails_at is_name_byte (gap ++ 59 ∷ []) (gap ++ closed rest) (ap (λ (v : List ℕ). gap ++ closed v) (sym r))
        (behind_name gap b)

-- ---- by the first bytes

abbrev second : List ℕ → ℕ
second [] = 0
second (b ∷ bs) = b

-- which command the first bytes are of
abbrev sort_bytes : List ℕ → ℕ
sort_bytes [] = 0
sort_bytes (b ∷ bs) = cond (is_digit b) 10 (cond (b == 68) (second bs) b)

abbrev sort_of : CifCommand → ℕ
sort_of Empty = 59
sort_of Comment = 40
sort_of (Opens n scale) = 83
sort_of Closes = 70
sort_of (CallsSymbol n moves) = 67
sort_of (SetsLayer name) = 76
sort_of (DrawsBox along across centre direction) = 66
sort_of (DrawsPolygon points) = 80
sort_of (DrawsWire width points) = 87
sort_of (Extension text) = 10

-- the bytes of a command begin as its sort does, and with no blank
record Starts (c : CifCommand) (bytes : List ℕ) : Type 0 where
  sort : sort_bytes (closed bytes) ≡ sort_of c
  no_blank : Fails is_cif_blank (closed bytes)

starts_at : (c : CifCommand) (bytes begun : List ℕ) → closed bytes ≡ begun → sort_bytes begun ≡ sort_of c → Fails is_cif_blank begun
    → Starts c bytes
starts_at c bytes begun e s f = record { sort = ap sort_bytes e ∙ s; no_blank = fails_at is_cif_blank begun (closed bytes) (sym e) f }

word_first : (b d : ℕ) (needs : Bool) (More : List ℕ → Type 0) (bytes : List ℕ) (s : PartThen (Letters (b ∷ d ∷ [])) needs More bytes) →
    (more : List ℕ) × (closed bytes ≡ b ∷ d ∷ more)
word_first b d needs More bytes s =
    (s.gap ++ closed s.rest, parted (Letters (b ∷ d ∷ [])) needs More bytes s ∙ ap (λ (w : List ℕ). w ++ (s.gap ++ closed s.rest)) s.spelled)

starts : (c : CifCommand) (bytes : List ℕ) → SpellsCommand c bytes → Starts c bytes
starts Empty bytes s = starts_at Empty bytes (59 ∷ []) (ap closed s.1) refl refl
starts Comment bytes s = starts_at Comment bytes (40 ∷ ((s.text ++ 41 ∷ s.gap) ++ 59 ∷ [])) (ap closed s.is) refl refl
starts (Opens n scale) bytes s = let f = word_first 68 83 false _ bytes s.1 in starts_at (Opens n scale) bytes (68 ∷ 83 ∷ f.0) f.1 refl refl
starts Closes bytes s = let f = word_first 68 70 false _ bytes s.1 in starts_at Closes bytes (68 ∷ 70 ∷ f.0) f.1 refl refl
starts (CallsSymbol n moves) bytes s = let f = letter_first 67 [] false _ bytes s.1 in starts_at (CallsSymbol n moves) bytes
    (67 ∷ f.0) f.1 refl refl
starts (SetsLayer name) bytes s = let f = letter_first 76 [] false _ bytes s.1 in starts_at (SetsLayer name) bytes (76 ∷ f.0) f.1 refl refl
starts (DrawsBox along across centre direction) bytes s =
    let f = letter_first 66 [] false _ bytes s.1 in starts_at (DrawsBox along across centre direction) bytes (66 ∷ f.0) f.1 refl refl
starts (DrawsPolygon points) bytes s = by points s.1
  where
    by : (ps : List Point) → SpellsParts (command_parts (DrawsPolygon ps)) bytes → Starts (DrawsPolygon points) bytes
    by [] t = let f = letter_first 80 [] false _ bytes t in starts_at (DrawsPolygon points) bytes (80 ∷ f.0) f.1 refl refl
    by (p ∷ ps) t = let f = letter_first 80 [] false _ bytes t in starts_at (DrawsPolygon points) bytes (80 ∷ f.0) f.1 refl refl
starts (DrawsWire width points) bytes s = let f = letter_first 87 [] false _ bytes s.1 in starts_at (DrawsWire width points) bytes
    (87 ∷ f.0) f.1 refl refl
starts (Extension text) bytes s = by text s.0 s.1
  where
    by : (t : List ℕ) → bytes ≡ t → IsExtension t → Starts (Extension text) bytes
    by [] e x = absurd x
    by (d ∷ ds) e x =
        starts_at (Extension text) bytes (d ∷ closed ds) (ap closed e) (ap (λ (v : Bool). cond v 10 (cond (d == 68) (second (closed ds)) d)) x.0)
        (digit_no_blank d x.0)

pub first_is_no_blank : (c : CifCommand) (bytes : List ℕ) → SpellsCommand c bytes → Fails is_cif_blank (bytes ++ 59 ∷ [])
first_is_no_blank c bytes s = (starts c bytes s).no_blank

-- bytes before a semicolon
same_front : (xs ys : List ℕ) → xs ++ 59 ∷ [] ≡ ys ++ 59 ∷ [] → xs ≡ ys
same_front [] [] e = refl
same_front [] (y ∷ []) e = absurd cc
same_front [] (y ∷ z ∷ ys) e = absurd cc
same_front (x ∷ []) [] e = absurd cc
same_front (x ∷ z ∷ xs) [] e = absurd cc
same_front (x ∷ xs) (y ∷ ys) e = ap (λ (v : ℕ). v ∷ xs) (heads e) ∙ ap (λ (l : List ℕ). y ∷ l) (same_front xs ys (tails e))

-- Bytes are of one command.
pub one_command : (c d : CifCommand) (bytes others : List ℕ) → SpellsCommand c bytes → SpellsCommand d others
    → bytes ++ 59 ∷ [] ≡ others ++ 59 ∷ [] → c ≡ d
one_command c d bytes others s t e =
    by c d s t (sym (starts c bytes s).sort ∙ (ap sort_bytes e ∙ (starts d others t).sort))
  where
    by : (c d : CifCommand) → SpellsCommand c bytes → SpellsCommand d others → sort_of c ≡ sort_of d → c ≡ d
    by Empty Empty s t z = refl
    by Comment Comment s t z = refl
    by Closes Closes s t z = refl
    by (Opens n a) (Opens m b) s t z =
        let l = numbers_behind (codes "DS") (Unsigned n) (Unsigned m) (scale_parts a) (scale_parts b) bytes others
        (tt, scales_aligned a b) s.1 t.1 e in
        let nm : n ≡ m = cc in
        let ab : scale_parts a ≡ scale_parts b = cc in
        ap (λ (v : ℕ). Opens v a) nm ∙ ap (Opens m) (same_scales a b ab)
    by (CallsSymbol n ms) (CallsSymbol m ns) s t z = calls_same n m ms ns bytes others s.1 t.1 e
    by (SetsLayer name) (SetsLayer other) s t z = layers_same name other bytes others s.0 t.0 s.1 t.1 e
    by (DrawsBox a b p u) (DrawsBox c d q v) s t z =
        let l = numbers_behind (codes "B") (Unsigned a) (Unsigned c) (Unsigned b ∷ point_parts p ++ direction_parts u)
        (Unsigned d ∷ point_parts q ++ direction_parts v)
        bytes others (tt, (tt, (tt, (tt, directions_aligned u v)))) s.1 t.1 e in
        let ac : a ≡ c = cc in
        let bd : b ≡ d = cc in
        let x : p.x ≡ q.x = cc in
        let y : p.y ≡ q.y = cc in
        let uv : direction_parts u ≡ direction_parts v = cc in
        ap (λ (n : ℕ). DrawsBox n b p u) ac ∙ (ap (λ (n : ℕ). DrawsBox c n p u) bd ∙ (ap (λ (n : Point). DrawsBox c d n u) (same_point p q x y)
        ∙ ap (DrawsBox c d q) (same_directions u v uv)))
    by (DrawsPolygon ps) (DrawsPolygon qs) s t z = ap DrawsPolygon (same_points ps qs (polygon_parts ps qs s.1 t.1))
      where
        polygon_parts : (ps qs : List Point) → SpellsParts (Letters (codes "P") ∷ flat_map point_parts ps) bytes
            → SpellsParts (Letters (codes "P") ∷ flat_map point_parts qs) others → flat_map point_parts ps ≡ flat_map point_parts qs
        polygon_parts ps qs s t =
            numbers_same (flat_map point_parts ps) (flat_map point_parts qs) s.rest t.rest (points_aligned ps qs) s.more t.more
            (word_on (codes "P") _ _ _ _ bytes others s t e (numbers_begin (flat_map point_parts ps) s.rest (points_are_numbers ps) s.more)
            (numbers_begin (flat_map point_parts qs) t.rest (points_are_numbers qs) t.more))
    by (DrawsWire a ps) (DrawsWire b qs) s t z =
        let l = numbers_behind (codes "W") (Unsigned a) (Unsigned b) (flat_map point_parts ps) (flat_map point_parts qs) bytes others
        (tt, points_aligned ps qs) s.1 t.1 e in
        let ab : a ≡ b = cc in
        let pq : flat_map point_parts ps ≡ flat_map point_parts qs = cc in
        ap (λ (n : ℕ). DrawsWire n ps) ab ∙ ap (DrawsWire b) (same_points ps qs pq)
    by (Extension x) (Extension y) s t z = ap Extension (sym s.0 ∙ (same_front bytes others e ∙ t.0))
    by c d s t z = absurd (omega (arith, z))

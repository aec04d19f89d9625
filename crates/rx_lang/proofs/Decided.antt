-- A test for each question about words: whether an expression spells one, marks one, and whether a vector matches a pattern.
use Rattle.std.proofs.Common.{◌≡◌, ◌⊎◌, ℕ, zero, suc, pred, ◌≤◌, Bool, true, false, not, ◌&&◌, ◌||◌, ◌==◌, List, [], ◌∷◌, ◌++◌, length, Option, Some, None, slice_get, Decides, refl, sym, subst, inl, inr, arith}
use Rattle.std.specs.Bool.{⊤}
use Rattle.std.proofs.lemmas.Bool.Decides.{Decides-and, Decides-or, Decides-like, Decides-eqb}
use Rattle.rx_lang.specs.declared.pattern.PatternBit.{PatternBit}
use Rattle.rx_lang.specs.declared.pattern.PatternBit.TheVariants.{Zero, One, Any}
use Rattle.rx_lang.specs.Vector.{Bits, Agrees, Matches}
use Rattle.rx_lang.specs.Expression.{Expr, symbol, sequence, union, star, plus, optional, marked, repeated}
use Rattle.rx_lang.specs.Meaning.{Cut, Many, none, more, Repeats, RepeatMarks, EndsIn, Spells, Marks, SomeMarks}
use Rattle.rx_lang.specs.Specification.{NamedPattern, Specification, MatchesSymbol, Language}

-- some cut of the word has a front that passes p and a rest that passes q
abbrev pub cut : {X : Type 0} → (List X → Bool) → (List X → Bool) → List X → Bool
cut p q [] = p [] && q []
cut p q (x ∷ u) = (p [] && q (x ∷ u)) || cut (λ v. p (x ∷ v)) q u

-- words that pass p, one after another, make the word, which has at most so many letters
abbrev pub many_within : {X : Type 0} → (List X → Bool) → ℕ → List X → Bool
many_within p n [] = true
many_within p zero (x ∷ u) = false
many_within p (suc n) (x ∷ u) = cut (λ v. p (x ∷ v)) (many_within p n) u

abbrev pub many : {X : Type 0} → (List X → Bool) → List X → Bool
many p u = many_within p (length u) u

abbrev pub is_letter : {X : Type 0} → (X → Bool) → List X → Bool
is_letter is [] = false
is_letter is (x ∷ []) = is x
is_letter is (x ∷ (y ∷ u)) = false

abbrev pub is_nil : {X : Type 0} → List X → Bool
is_nil [] = true
is_nil (x ∷ u) = false

-- at least m and at most n words that pass p make the word
abbrev pub repeats : {X : Type 0} → (List X → Bool) → ℕ → ℕ → List X → Bool
repeats p m zero u = m == 0 && is_nil u
repeats p m (suc n) u = (m == 0 && is_nil u) || cut p (repeats p (pred m) n) u

-- a word that passes q stands behind fewer than n words that pass p
abbrev pub repeat_marks : {X : Type 0} → (List X → Bool) → (List X → Bool) → ℕ → List X → Bool
repeat_marks p q zero u = false
repeat_marks p q (suc n) u = q u || cut p (repeat_marks p q n) u

abbrev pub ends_in : {X : Type 0} → (List X → Bool) → List X → Bool
ends_in p u = cut (λ v. true) p u

module _ {X : Type 0} (is : ℕ → X → Bool) where
  abbrev pub spells : Expr → List X → Bool
  spells (symbol s) u = is_letter (is s) u
  spells (sequence f g) u = cut (spells f) (spells g) u
  spells (union f g) u = spells f u || spells g u
  spells (star f) u = many (spells f) u
  spells (plus f) u = cut (spells f) (many (spells f)) u
  spells (optional f) u = is_nil u || spells f u
  spells (marked f y) u = spells f u
  spells (repeated f m n) u = repeats (spells f) m n u

  abbrev pub marks : Expr → ℕ → List X → Bool
  marks (symbol s) y u = false
  marks (sequence f g) y u = marks f y u || cut (spells f) (marks g y) u
  marks (union f g) y u = marks f y u || marks g y u
  marks (star f) y u = cut (many (spells f)) (marks f y) u
  marks (plus f) y u = cut (many (spells f)) (marks f y) u
  marks (optional f) y u = marks f y u
  marks (marked f z) y u = (z == y && spells f u) || marks f y u
  marks (repeated f m n) y u = repeat_marks (spells f) (marks f y) n u

  abbrev pub some_marks : List Expr → ℕ → List X → Bool
  some_marks [] y u = false
  some_marks (e ∷ es) y u = marks e y u || some_marks es y u

-- cuts of the empty word, and of one that begins with a letter
module _ {X : Type 0} where
  cut_nil : (P Q : List X → Type 0) (v w : List X) → [] ≡ v ++ w → P v → Q w → P [] × Q []
  cut_nil P Q [] w e p q = (p, subst Q (sym e) q)
  cut_nil P Q (x ∷ v) w e p q = cc

  cut_letter : (P Q : List X → Type 0) (x : X) (u v w : List X) → x ∷ u ≡ v ++ w → P v → Q w
      → (P [] × Q (x ∷ u)) ⊎ Cut (λ v. P (x ∷ v)) Q u
  cut_letter P Q x u [] w e p q = inl (p, subst Q (sym e) q)
  cut_letter P Q x u (y ∷ v) w e p q =
      let same : y ≡ x = cc in
      let rest : u ≡ v ++ w = cc in
      inr (record { front = v; rest = w; whole = rest; first = subst (λ z. P (z ∷ v)) same p; second = q })

  letter_cut : (P Q : List X → Type 0) (x : X) (u : List X) → (P [] × Q (x ∷ u)) ⊎ Cut (λ v. P (x ∷ v)) Q u → Cut P Q (x ∷ u)
  letter_cut P Q x u (inl h) = record { front = []; rest = x ∷ u; whole = refl; first = h.0; second = h.1 }
  letter_cut P Q x u (inr h) = record {
    front = x ∷ h.front;
    rest = h.rest;
    whole = let e = h.whole in cc;
    first = h.first;
    second = h.second;
  }

  pub cut_decided : (P Q : List X → Type 0) (p q : List X → Bool) → ((v : List X) → Decides (p v) (P v)) → (u : List X)
      → ((w : List X) → length w ≤ length u → Decides (q w) (Q w)) → Decides (cut p q u) (Cut P Q u)
  cut_decided P Q p q first [] second =
      Decides-like (cut p q []) (λ h. record { front = []; rest = []; whole = refl; first = h.0; second = h.1 })
      (λ h. cut_nil P Q h.front h.rest h.whole h.first h.second)
      (Decides-and (p []) (q []) (first []) (second [] (omega arith)))
  cut_decided P Q p q first (x ∷ u) second =
      let later : Decides (cut (λ v. p (x ∷ v)) q u) (Cut (λ v. P (x ∷ v)) Q u)
      = cut_decided (λ v. P (x ∷ v)) Q (λ v. p (x ∷ v)) q (λ v. first (x ∷ v)) u (λ w h. second w (omega arith)) in
      Decides-like (cut p q (x ∷ u)) (letter_cut P Q x u) (λ h. cut_letter P Q x u h.front h.rest h.whole h.first h.second)
      (Decides-or (p [] && q (x ∷ u)) (cut (λ v. p (x ∷ v)) q u) (Decides-and (p []) (q (x ∷ u)) (first []) (second (x ∷ u) (omega arith))) later)

  -- the first of many words begins with the first letter
  more_letter : (P : List X → Type 0) (x : X) (u v w : List X) → x ∷ u ≡ v ++ w → (v ≡ [] → ⊥) → P v → Many P w → Cut (λ v. P (x ∷ v)) (Many P) u
  more_letter P x u [] w e ne p m = absurd (ne refl)
  more_letter P x u (y ∷ v) w e ne p m =
      let same : y ≡ x = cc in
      let rest : u ≡ v ++ w = cc in
      record { front = v; rest = w; whole = rest; first = subst (λ z. P (z ∷ v)) same p; second = m }

  many_letter : (P : List X → Type 0) (x : X) (u whole : List X) → whole ≡ x ∷ u → Many P whole → Cut (λ v. P (x ∷ v)) (Many P) u
  many_letter P x u _ e (none whole n) = cc
  many_letter P x u _ e (more whole v w c ne p m) = more_letter P x u v w (let d = sym e in cc) ne p m

  letter_many : (P : List X → Type 0) (x : X) (u : List X) → Cut (λ v. P (x ∷ v)) (Many P) u → Many P (x ∷ u)
  letter_many P x u h = more (x ∷ u) (x ∷ h.front) h.rest (let e = h.whole in cc) (λ e. cc) h.first h.second

  many_within_decided : (P : List X → Type 0) (p : List X → Bool) → ((v : List X) → Decides (p v) (P v)) → (n : ℕ) (u : List X)
      → length u ≤ n → Decides (many_within p n u) (Many P u)
  many_within_decided P p each n [] h = (λ _. none [] refl, λ _. refl)
  many_within_decided P p each zero (x ∷ u) h = absurd (omega arith)
  many_within_decided P p each (suc n) (x ∷ u) h =
      Decides-like (many_within p (suc n) (x ∷ u)) (letter_many P x u) (many_letter P x u (x ∷ u) refl)
      (cut_decided (λ v. P (x ∷ v)) (Many P) (λ v. p (x ∷ v)) (many_within p n) (λ v. each (x ∷ v)) u
      (λ w k. many_within_decided P p each n w (omega arith)))

  pub many_decided : (P : List X → Type 0) (p : List X → Bool) → ((v : List X) → Decides (p v) (P v)) → (u : List X)
      → Decides (many p u) (Many P u)
  many_decided P p each u = many_within_decided P p each (length u) u (omega arith)

  letter_decided : (Is : X → Type 0) (is : X → Bool) → ((x : X) → Decides (is x) (Is x)) → (u : List X)
      → Decides (is_letter is u) ((x : X) × (u ≡ x ∷ []) × Is x)
  letter_decided Is is each [] = (λ e. cc, λ h. let e = h.1 in cc)
  letter_decided Is is each (x ∷ []) =
      (λ e. (x, refl, (each x).0 e), λ h. let same : h.0 ≡ x = (let e = h.1 in cc) in (each x).1 (subst Is same h.2))
  letter_decided Is is each (x ∷ (y ∷ u)) = (λ e. cc, λ h. let e = h.1 in cc)

  nil_decided : (u : List X) → Decides (is_nil u) (u ≡ [])
  nil_decided [] = (λ _. refl, λ _. refl)
  nil_decided (x ∷ u) = (λ e. cc, λ e. cc)

  repeats_decided : (P : List X → Type 0) (p : List X → Bool) → ((v : List X) → Decides (p v) (P v)) → (m n : ℕ) (u : List X)
      → Decides (repeats p m n u) (Repeats P m n u)
  repeats_decided P p each m zero u = Decides-and (m == 0) (is_nil u) (Decides-eqb m 0) (nil_decided u)
  repeats_decided P p each m (suc n) u =
      Decides-or (m == 0 && is_nil u) (cut p (repeats p (pred m) n) u) (Decides-and (m == 0) (is_nil u) (Decides-eqb m 0) (nil_decided u))
      (cut_decided P (Repeats P (pred m) n) p (repeats p (pred m) n) each u (λ w h. repeats_decided P p each (pred m) n w))

  repeat_marks_decided : (P Q : List X → Type 0) (p q : List X → Bool) → ((v : List X) → Decides (p v) (P v))
      → ((v : List X) → Decides (q v) (Q v)) → (n : ℕ) (u : List X) → Decides (repeat_marks p q n u) (RepeatMarks P Q n u)
  repeat_marks_decided P Q p q each last zero u = (λ e. cc, λ h. absurd h)
  repeat_marks_decided P Q p q each last (suc n) u =
      Decides-or (q u) (cut p (repeat_marks p q n) u) (last u)
      (cut_decided P (RepeatMarks P Q n) p (repeat_marks p q n) each u (λ w h. repeat_marks_decided P Q p q each last n w))

  ends_in_decided : (P : List X → Type 0) (p : List X → Bool) → ((v : List X) → Decides (p v) (P v)) → (u : List X)
      → Decides (ends_in p u) (EndsIn P u)
  ends_in_decided P p each u = cut_decided (λ v. ⊤) P (λ v. true) p (λ v. (λ _. tt, λ _. refl)) u (λ w h. each w)

module _ {X : Type 0} (Is : ℕ → X → Type 0) (is : ℕ → X → Bool) (each : (s : ℕ) (x : X) → Decides (is s x) (Is s x)) where
  pub spells_decided : (e : Expr) (u : List X) → Decides (spells is e u) (Spells Is e u)
  spells_decided (symbol s) u = letter_decided (Is s) (is s) (each s) u
  spells_decided (sequence f g) u =
      cut_decided (Spells Is f) (Spells Is g) (spells is f) (spells is g) (spells_decided f) u (λ w h. spells_decided g w)
  spells_decided (union f g) u = Decides-or (spells is f u) (spells is g u) (spells_decided f u) (spells_decided g u)
  spells_decided (star f) u = many_decided (Spells Is f) (spells is f) (spells_decided f) u
  spells_decided (plus f) u =
      cut_decided (Spells Is f) (Many (Spells Is f)) (spells is f) (many (spells is f)) (spells_decided f) u
      (λ w h. many_decided (Spells Is f) (spells is f) (spells_decided f) w)
  spells_decided (optional f) u = Decides-or (is_nil u) (spells is f u) (nil_decided u) (spells_decided f u)
  spells_decided (marked f y) u = spells_decided f u
  spells_decided (repeated f m n) u = repeats_decided (Spells Is f) (spells is f) (spells_decided f) m n u

  -- marks behind any number of words of the expression
  loop_decided : (f : Expr) (y : ℕ) → ((u : List X) → Decides (marks is f y u) (Marks Is f y u)) → (u : List X)
      → Decides (cut (many (spells is f)) (marks is f y) u) (Cut (Many (Spells Is f)) (Marks Is f y) u)
  loop_decided f y each_mark u =
      cut_decided (Many (Spells Is f)) (Marks Is f y) (many (spells is f)) (marks is f y)
      (many_decided (Spells Is f) (spells is f) (spells_decided f)) u (λ w h. each_mark w)

  pub marks_decided : (e : Expr) (y : ℕ) (u : List X) → Decides (marks is e y u) (Marks Is e y u)
  marks_decided (symbol s) y u = (λ e. cc, λ h. absurd h)
  marks_decided (sequence f g) y u =
      Decides-or (marks is f y u) (cut (spells is f) (marks is g y) u) (marks_decided f y u)
      (cut_decided (Spells Is f) (Marks Is g y) (spells is f) (marks is g y) (spells_decided f) u (λ w h. marks_decided g y w))
  marks_decided (union f g) y u = Decides-or (marks is f y u) (marks is g y u) (marks_decided f y u) (marks_decided g y u)
  marks_decided (star f) y u = loop_decided f y (marks_decided f y) u
  marks_decided (plus f) y u = loop_decided f y (marks_decided f y) u
  marks_decided (optional f) y u = marks_decided f y u
  marks_decided (marked f z) y u =
      Decides-or (z == y && spells is f u) (marks is f y u)
      (Decides-and (z == y) (spells is f u) (Decides-eqb z y) (spells_decided f u)) (marks_decided f y u)
  marks_decided (repeated f m n) y u =
      repeat_marks_decided (Spells Is f) (Marks Is f y) (spells is f) (marks is f y) (spells_decided f) (marks_decided f y) n u

  pub some_marks_decided : (es : List Expr) (y : ℕ) (u : List X) → Decides (some_marks is es y u) (SomeMarks Is es y u)
  some_marks_decided [] y u = (λ e. cc, λ h. absurd h)
  some_marks_decided (e ∷ es) y u =
      Decides-or (marks is e y u) (some_marks is es y u) (marks_decided e y u) (some_marks_decided es y u)

-- the bit is what this place of a pattern asks for
abbrev pub agrees : PatternBit → Bool → Bool
agrees Zero bit = not bit
agrees One bit = bit
agrees Any bit = true

abbrev pub matches : List PatternBit → Bits → Bool
matches [] [] = true
matches [] (bit ∷ x) = false
matches (place ∷ pattern) [] = false
matches (place ∷ pattern) (bit ∷ x) = agrees place bit && matches pattern x

agrees_decided : (place : PatternBit) (bit : Bool) → Decides (agrees place bit) (Agrees place bit)
agrees_decided Zero true = (λ e. cc, λ e. cc)
agrees_decided Zero false = (λ e. refl, λ e. refl)
agrees_decided One bit = (λ e. e, λ e. e)
agrees_decided Any bit = (λ e. tt, λ h. refl)

pub matches_decided : (pattern : List PatternBit) (x : Bits) → Decides (matches pattern x) (Matches pattern x)
matches_decided [] [] = (λ e. tt, λ h. refl)
matches_decided [] (bit ∷ x) = (λ e. cc, λ h. absurd h)
matches_decided (place ∷ pattern) [] = (λ e. cc, λ h. absurd h)
matches_decided (place ∷ pattern) (bit ∷ x) =
    Decides-and (agrees place bit) (matches pattern x) (agrees_decided place bit) (matches_decided pattern x)

-- the vector matches the pattern of the symbol, if there is one
abbrev pub matches_declared : Option NamedPattern → Bits → Bool
matches_declared None x = false
matches_declared (Some declared) x = matches declared.pattern x

abbrev pub matches_symbol : List NamedPattern → ℕ → Bits → Bool
matches_symbol symbols s x = matches_declared (slice_get symbols s) x

declared_decided : (found : Option NamedPattern) (x : Bits)
    → Decides (matches_declared found x) ((declared : NamedPattern) × (found ≡ Some declared) × Matches declared.pattern x)
declared_decided None x = (λ e. cc, λ h. let e = h.1 in cc)
declared_decided (Some declared) x = (
  λ e. (declared, refl, (matches_decided declared.pattern x).0 e),
  λ h. let same : h.0 ≡ declared = (let e = h.1 in cc) in (matches_decided declared.pattern x).1 (subst (λ d. Matches d.pattern x) same h.2),
)

pub matches_symbol_decided : (symbols : List NamedPattern) (s : ℕ) (x : Bits)
    → Decides (matches_symbol symbols s x) (MatchesSymbol symbols s x)
matches_symbol_decided symbols s x = declared_decided (slice_get symbols s) x

-- the word is in the language of the output
abbrev pub language : Specification → ℕ → List Bits → Bool
language spec y u = some_marks (matches_symbol spec.symbols) spec.statements y u || ends_in (some_marks (matches_symbol spec.symbols) spec.scans y) u

pub language_decided : (spec : Specification) (y : ℕ) (u : List Bits) → Decides (language spec y u) (Language spec y u)
language_decided spec y u =
    let each : (es : List Expr) (v : List Bits) → Decides (some_marks (matches_symbol spec.symbols) es y v) (SomeMarks (MatchesSymbol spec.symbols) es y v)
    = λ es v. some_marks_decided (MatchesSymbol spec.symbols) (matches_symbol spec.symbols) (matches_symbol_decided spec.symbols) es y v in
    Decides-or (some_marks (matches_symbol spec.symbols) spec.statements y u) (ends_in (some_marks (matches_symbol spec.symbols) spec.scans y) u)
    (each spec.statements u)
    (ends_in_decided (SomeMarks (MatchesSymbol spec.symbols) spec.scans y) (some_marks (matches_symbol spec.symbols) spec.scans y) (each spec.scans) u)

-- Symbols by their numbers.
use Rattle.std.proofs.Common.{◌≡◌, ◌≢◌, ℕ, zero, suc, ◌<◌, Bool, true, false, cond, ◌==◌, List, [], ◌∷◌, ◌++◌, length, get_or, reverse, Option, Some, None, is_some, inl, inr, refl, sym, ◌∙◌, ap, subst, arith}
use Rattle.std.specs.List.{find, fold}
use Rattle.std.proofs.lemmas.List.{reverse-append}
use Rattle.std.proofs.lemmas.Bool.{eq-eqb, ne_eqb}
use Rattle.geom.specs.Rows.{Among}
use Rattle.geom.specs.CifDrawings.{CifSymbol}
use Rattle.cif_drawing.specs.declared.ink.Symbol.{Symbol}
use Rattle.cif_drawing.specs.Inks.{symbol_at, cif_symbol, with_symbol, closed_symbols, AreSymbols}
use Rattle.cif_drawing.specs.Numbers.{IsIndex, IsIndexOf}
use Rattle.cif_drawing.proofs.Lists.{among_at, among_left, among_right}
use Rattle.cif_drawing.proofs.Standing.{front_stays, symbol_stands, length_closed}

abbrev pub found : List CifSymbol → ℕ → Option CifSymbol
found symbols n = find (λ symbol. symbol.number == n) symbols

found_left : (xs ys : List CifSymbol) (n : ℕ) (v : CifSymbol) → found xs n ≡ Some v → found (xs ++ ys) n ≡ Some v
found_left [] ys n v h = absurd cc
found_left (x ∷ xs) ys n v h = by (x.number == n) h (found_left xs ys n v)
  where
    by : (t : Bool) → cond t (Some x) (found xs n) ≡ Some v → (found xs n ≡ Some v → found (xs ++ ys) n ≡ Some v)
        → cond t (Some x) (found (xs ++ ys) n) ≡ Some v
    by true h more = h
    by false h more = more h

found_right : (xs ys : List CifSymbol) (n : ℕ) → found xs n ≡ None → found (xs ++ ys) n ≡ found ys n
found_right [] ys n h = refl
found_right (x ∷ xs) ys n h = by (x.number == n) h (found_right xs ys n)
  where
    by : (t : Bool) → cond t (Some x) (found xs n) ≡ None → (found xs n ≡ None → found (xs ++ ys) n ≡ found ys n)
        → cond t (Some x) (found (xs ++ ys) n) ≡ found ys n
    by true h more = absurd cc
    by false h more = more h

found_one : (x : CifSymbol) (n : ℕ) → x.number ≡ n → found (x ∷ []) n ≡ Some x
found_one x n e = ap (λ (t : Bool). cond t (Some x) (found [] n)) (eq-eqb x.number n e)

found_no_one : (x : CifSymbol) (n : ℕ) → x.number ≢ n → found (x ∷ []) n ≡ None
found_no_one x n e = ap (λ (t : Bool). cond t (Some x) (found [] n)) (ne_eqb x.number n e)

turned : (x : CifSymbol) (xs : List CifSymbol) → reverse (x ∷ xs) ≡ reverse xs ++ x ∷ []
turned x xs = reverse-append (x ∷ []) xs

pub found_none : (symbols : List CifSymbol) (n : ℕ) → ((k : ℕ) → k < length symbols → (symbol_at symbols k).number ≢ n) → found (reverse symbols) n ≡ None
found_none [] n h = refl
found_none (x ∷ xs) n h =
    ap (λ (l : List CifSymbol). found l n) (turned x xs)
    ∙ (found_right (reverse xs) (x ∷ []) n (found_none xs n (λ k l. h (suc k) (omega arith))) ∙ found_no_one x n (h 0 (omega arith)))

pub found_some : (symbols : List CifSymbol) (n k : ℕ) → k < length symbols → (symbol_at symbols k).number ≡ n
    → ((j : ℕ) → j < length symbols → (symbol_at symbols j).number ≡ n → j ≡ k) → found (reverse symbols) n ≡ Some (symbol_at symbols k)
found_some [] n k h e a = absurd (omega arith)
found_some (x ∷ xs) n zero h e a =
    ap (λ (l : List CifSymbol). found l n) (turned x xs)
    ∙ (found_right (reverse xs) (x ∷ []) n (found_none xs n (λ j l f. let z : suc j ≡ 0 = a (suc j) (omega arith) f in absurd (omega arith))) ∙ found_one x n e)
found_some (x ∷ xs) n (suc k) h e a =
    ap (λ (l : List CifSymbol). found l n) (turned x xs)
    ∙ found_left (reverse xs) (x ∷ []) n (symbol_at xs k)
    (found_some xs n k (omega arith) e (λ j l f. let z : suc j ≡ suc k = a (suc j) (omega arith) f in omega arith))

-- ---- of symbols

a_symbol : (symbols : List Symbol) (k : ℕ) → k < length symbols → Symbol
a_symbol [] k h = absurd (omega arith)
a_symbol (s ∷ ss) k h = s

number_at : (symbols : List Symbol) (k : ℕ) (d : Symbol) → k < length symbols → AreSymbols [] symbols
    → (symbol_at (closed_symbols symbols) k).number ≡ (get_or symbols k d).number
number_at symbols k d h a = ap (λ (s : CifSymbol). s.number) (symbol_stands symbols k d h a).is

length_same : (symbols : List Symbol) → length (closed_symbols symbols) ≡ length symbols
length_same symbols = omega (arith, length_closed [] symbols)

pub none_found : (symbols : List Symbol) (n : ℕ) → AreSymbols [] symbols → IsIndexOf symbols n None → found (reverse (closed_symbols symbols)) n ≡ None
none_found symbols n a h =
    found_none (closed_symbols symbols) n (λ k l e.
    let short : k < length symbols = omega (arith, length_same symbols) in
    let d : Symbol = a_symbol symbols k short in
    h (get_or symbols k d) (among_at symbols k d short) (sym (number_at symbols k d short a) ∙ e))

pub index_found : (symbols : List Symbol) (n k : ℕ) → AreSymbols [] symbols → IsIndex symbols n k
    → found (reverse (closed_symbols symbols)) n ≡ Some (symbol_at (closed_symbols symbols) k)
index_found symbols n k a h =
    let d : Symbol = a_symbol symbols k h.within in
    found_some (closed_symbols symbols) n k (omega (arith, length_same symbols, h.within)) (number_at symbols k d h.within a ∙ h.has d)
    (λ j l e.
    let short : j < length symbols = omega (arith, length_same symbols) in
    h.alone j d short (sym (number_at symbols j d short a) ∙ e))

pub is_found : (symbols : List Symbol) (n : ℕ) (o : Option ℕ) → AreSymbols [] symbols → IsIndexOf symbols n o
    → is_some o ≡ is_some (found (reverse (closed_symbols symbols)) n)
is_found symbols n None a h = ap (λ (c : Option CifSymbol). is_some c) (sym (none_found symbols n a h))
is_found symbols n (Some k) a h = ap (λ (c : Option CifSymbol). is_some c) (sym (index_found symbols n k a h))

-- ---- a number that is not found

found_not : (xs : List CifSymbol) (n : ℕ) (x : CifSymbol) → found xs n ≡ None → Among xs x → x.number ≡ n → ⊥
found_not [] n x h i e = i
found_not (y ∷ ys) n x h i e = by (y.number == n) refl h i (found_not ys n x)
  where
    by : (t : Bool) → (y.number == n) ≡ t → cond t (Some y) (found ys n) ≡ None → Among (y ∷ ys) x → (found ys n ≡ None → Among ys x → x.number ≡ n → ⊥) → ⊥
    by true g h i more = absurd cc
    by false g h (inl f) more = (let t : true ≡ false = sym (eq-eqb y.number n (ap (λ (c : CifSymbol). c.number) f ∙ e)) ∙ g in absurd cc)
    by false g h (inr j) more = more h j e

among_turned : (xs : List CifSymbol) (x : CifSymbol) → Among xs x → Among (reverse xs) x
among_turned [] x i = absurd i
among_turned (y ∷ ys) x i =
    let P : List CifSymbol → Type 0 = λ l. Among l x in
    subst P (sym (turned y ys)) (elim i [ inl e ↦ among_right (reverse ys) (y ∷ []) x (inl e) | inr j ↦ among_left (reverse ys) (y ∷ []) x (among_turned ys x j) ])

closed_among : (closed : List CifSymbol) (ss : List Symbol) (s : Symbol) → Among ss s → (c : CifSymbol) × Among (fold with_symbol closed ss) c × (c.number ≡ s.number)
closed_among closed [] s i = absurd i
closed_among closed (r ∷ rs) s (inl e) =
    let f = front_stays (with_symbol closed r) rs in
    let P : List CifSymbol → Type 0 = λ l. Among l (cif_symbol closed r) in (
      cif_symbol closed r,
      subst P (sym f.1) (among_left (with_symbol closed r) f.0 (cif_symbol closed r) (among_right closed (cif_symbol closed r ∷ []) (cif_symbol closed r) (inl refl))),
      ap (λ (v : Symbol). v.number) e,
    )
closed_among closed (r ∷ rs) s (inr i) = closed_among (with_symbol closed r) rs s i

pub not_found : (symbols : List Symbol) (n : ℕ) → found (reverse (closed_symbols symbols)) n ≡ None → IsIndexOf symbols n None
not_found symbols n h = λ s i e.
    let f = closed_among [] symbols s i in
    found_not (reverse (closed_symbols symbols)) n f.0 h (among_turned (closed_symbols symbols) f.0 f.1) (f.2 ∙ e)

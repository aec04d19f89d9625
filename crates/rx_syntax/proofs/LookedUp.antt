-- Names that stand in a set by their bytes.
use Rattle.std.proofs.Common.{◌≡◌, ℕ, suc, Bool, true, false, not, cond, Some, None, List, [], ◌∷◌, ◌++◌, map, refl, ap, sym, ◌∙◌, subst, Bor, is_some, if◌then◌else◌, ◌||◌}
use Rattle.std.specs.Prelude.{Option, bytes_eq, position}
use Rattle.std.specs.List.{list_any, position_or_len}
use Rattle.std.specs.Bool.{one_answer}
use Rattle.std.proofs.Math.Numerals.{one-add}
use Rattle.std.proofs.lemmas.List.{map-append}
use Rattle.std.proofs.lemmas.Slice.Eq.{bytes_eq-Decides}
use Rattle.rx_syntax.specs.Uses.{is_among}
use Rattle.rx_syntax.specs.Accepted.{number_in}

-- the words of the keys
abbrev pub words_of : List (Bor (List ℕ)) → List (List ℕ)
words_of keys = map (λ key. key.now) keys

-- the key has this word
abbrev pub has_word : List ℕ → Bor (List ℕ) → Bool
has_word word key = bytes_eq word key.now

pub bytes_eq_sym : (xs ys : List ℕ) → bytes_eq xs ys ≡ bytes_eq ys xs
bytes_eq_sym xs ys =
    let there = bytes_eq-Decides xs ys in
    let back = bytes_eq-Decides ys xs in
    one_answer (bytes_eq xs ys) (bytes_eq ys xs) there (λ e. sym (back.0 e), λ e. back.1 (sym e))

pub among_words : (word : List ℕ) (keys : List (Bor (List ℕ))) → list_any (has_word word) keys ≡ is_among word (words_of keys)
among_words word [] = refl
among_words word (key ∷ keys) = ap (λ more. bytes_eq word key.now || more) (among_words word keys)

-- one more place, unless it is here
place_or : (here : Bool) (n m : ℕ) → n ≡ suc m → cond (not here) n 0 ≡ (if here then 0 else suc m)
place_or true n m e = refl
place_or false n m e = e

pub number_of_word : (word : List ℕ) (keys : List (Bor (List ℕ))) → position_or_len (has_word word) keys ≡ number_in (words_of keys) word
number_of_word word [] = refl
number_of_word word (key ∷ keys) =
    let later = one-add (position_or_len (has_word word) keys) ∙ ap suc (number_of_word word keys) in
    rw (bytes_eq_sym key.now word) (place_or (bytes_eq word key.now) _ _ later)

one_of_both : (here there : Bool) (n m : ℕ) → n ≡ m → is_some (cond here (Some n) None) ≡ there
    → cond here (Some n) None ≡ (if there then Some m else None)
one_of_both true there n m e is = subst (λ b. Some n ≡ (if b then Some m else None)) is (ap Some e)
one_of_both false there n m e is = subst (λ b. None ≡ (if b then Some m else None)) is refl

-- the answer of a search, where it is said whether there is one
pub found_number : (word : List ℕ) (keys : List (Bor (List ℕ))) (found : Option ℕ) → found ≡ position (has_word word) keys
    → is_some found ≡ list_any (has_word word) keys
    → found ≡ (if is_among word (words_of keys) then Some (number_in (words_of keys) word) else None)
found_number word keys found e is =
    let some : is_some (position (has_word word) keys) ≡ is_among word (words_of keys) =
    ap is_some (sym e) ∙ is ∙ among_words word keys in
    e ∙ one_of_both _ _ _ _ (number_of_word word keys) some

-- a new word goes last
pub inserted : (word : Bor (List ℕ)) (keys after : List (Bor (List ℕ))) → is_among word.now (words_of keys) ≡ false
    → after ≡ (if list_any (has_word word.now) keys then keys else keys ++ word ∷ []) → words_of after ≡ words_of keys ++ word.now ∷ []
inserted word keys after new e =
    let none : list_any (has_word word.now) keys ≡ false = among_words word.now keys ∙ new in
    let last : after ≡ keys ++ word ∷ [] = e ∙ ap (λ b. if b then keys else keys ++ word ∷ []) none in
    ap words_of last ∙ map-append (λ key. key.now) keys (word ∷ [])

-- Answers for the fronts of a word by computation.
use Rattle.std.proofs.Common.{◌≡◌, ℕ, zero, suc, ◌+◌, ◌≤◌, Bool, false, List, [], ◌∷◌, length, take, get_or, refl, arith}
use Rattle.std.proofs.lemmas.Bool.Decides.{Decides-at}
use Rattle.rx_lang.specs.Vector.{Bits}
use Rattle.rx_lang.specs.Specification.{Specification, Language}
use Rattle.rx_lang.specs.Examples.{Answers}
use Rattle.rx_lang.proofs.Decided.{language, language_decided}

-- the test on each front of the word, the shortest first
abbrev pub on_fronts : (List Bits → Bool) → List Bits → List Bool
on_fronts test [] = test [] ∷ []
on_fronts test (x ∷ word) = test [] ∷ on_fronts (λ u. test (x ∷ u)) word

length-on_fronts : (test : List Bits → Bool) (word : List Bits) → length (on_fronts test word) ≡ length word + 1
length-on_fronts test [] = refl
length-on_fronts test (x ∷ word) = omega (arith, length-on_fronts (λ u. test (x ∷ u)) word)

get_or-on_fronts : (test : List Bits → Bool) (word : List Bits) (t : ℕ) → t ≤ length word → get_or (on_fronts test word) t false ≡ test (take t word)
get_or-on_fronts test [] zero h = refl
get_or-on_fronts test [] (suc t) h = absurd (omega arith)
get_or-on_fronts test (x ∷ word) zero h = refl
get_or-on_fronts test (x ∷ word) (suc t) h = get_or-on_fronts (λ u. test (x ∷ u)) word t (omega arith)

pub answered : (spec : Specification) (y : ℕ) (word : List Bits) (answers : List Bool) → on_fronts (language spec y) word ≡ answers
    → Answers (Language spec y) word answers
answered spec y word answers e = rw (← e) (record {
  size = length-on_fronts (language spec y) word;
  each = λ t h. Decides-at _ _ (get_or-on_fronts (language spec y) word t h) (language_decided spec y (take t word));
})

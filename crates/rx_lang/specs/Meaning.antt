-- Which words an expression spells (Kleene, 1956), and which it marks for an output (after Floyd and Ullman, 1982).
-- The letters are any type: input vectors, or the occurrences of symbols.
use Rattle.std.specs.Prelude.{◌≡◌, ◌≢◌, ℕ, zero, suc, pred, ◌⊎◌, List, [], ◌∷◌, ◌++◌, ⊤}
use Rattle.rx_lang.specs.Expression.{Expr, symbol, sequence, union, star, plus, optional, marked, repeated}

-- The word is cut into a front with P and a rest with Q.
pub record Cut {X : Type 0} (P Q : List X → Type 0) (u : List X) : Type 0 where
  pub front : List X
  pub rest : List X
  pub whole : u ≡ front ++ rest
  pub first : P front
  pub second : Q rest

-- Words of P, one after another, none of them empty.
pub data Many {X : Type 0} (P : List X → Type 0) : List X → Type 0 where
  none : (u : List X) → u ≡ [] → Many P u
  more : (u v w : List X) → u ≡ v ++ w → v ≢ [] → P v → Many P w → Many P u

-- At least m and at most n words of P, one after another, which may be empty.
abbrev pub Repeats : {X : Type 0} → (List X → Type 0) → ℕ → ℕ → List X → Type 0
Repeats P m zero u = (m ≡ 0) × (u ≡ [])
Repeats P m (suc n) u = ((m ≡ 0) × (u ≡ [])) ⊎ Cut P (Repeats P (pred m) n) u

-- A word of Q behind fewer than n words of P.
abbrev pub RepeatMarks : {X : Type 0} → (List X → Type 0) → (List X → Type 0) → ℕ → List X → Type 0
RepeatMarks P Q zero u = ⊥
RepeatMarks P Q (suc n) u = Q u ⊎ Cut P (RepeatMarks P Q n) u

-- Some rest of the word has P: a word of P that may begin at any time.
abbrev pub EndsIn : {X : Type 0} → (List X → Type 0) → List X → Type 0
EndsIn P u = Cut (λ v. ⊤) P u

module _ {X : Type 0} (Is : ℕ → X → Type 0) where
  -- The expression spells the word, where a letter is a symbol by Is.
  abbrev pub Spells : Expr → List X → Type 0
  Spells (symbol s) u = (x : X) × (u ≡ x ∷ []) × Is s x
  Spells (sequence f g) u = Cut (Spells f) (Spells g) u
  Spells (union f g) u = Spells f u ⊎ Spells g u
  Spells (star f) u = Many (Spells f) u
  Spells (plus f) u = Cut (Spells f) (Many (Spells f)) u
  Spells (optional f) u = (u ≡ []) ⊎ Spells f u
  Spells (marked f y) u = Spells f u
  Spells (repeated f m n) u = Repeats (Spells f) m n u

  -- The word ends at a mark of output y.
  abbrev pub Marks : Expr → ℕ → List X → Type 0
  Marks (symbol s) y u = ⊥
  Marks (sequence f g) y u = Marks f y u ⊎ Cut (Spells f) (Marks g y) u
  Marks (union f g) y u = Marks f y u ⊎ Marks g y u
  Marks (star f) y u = Cut (Many (Spells f)) (Marks f y) u
  Marks (plus f) y u = Cut (Many (Spells f)) (Marks f y) u
  Marks (optional f) y u = Marks f y u
  Marks (marked f z) y u = ((z ≡ y) × Spells f u) ⊎ Marks f y u
  Marks (repeated f m n) y u = RepeatMarks (Spells f) (Marks f y) n u

  -- Some expression marks the word for output y.
  abbrev pub SomeMarks : List Expr → ℕ → List X → Type 0
  SomeMarks [] y u = ⊥
  SomeMarks (e ∷ es) y u = Marks e y u ⊎ SomeMarks es y u

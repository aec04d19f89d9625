-- Which states of a position automaton words of vectors lead to.
use Rattle.std.specs.Prelude.{◌≡◌, ◌⊎◌, ◌↔◌, ℕ, ◌<◌, List, [], ◌∷◌, ◌++◌, length, slice_index_or, ⊤}
use Rattle.rx_lang.specs.Vector.{Bits}
use Rattle.rx_lang.specs.Meaning.{EndsIn}
use Rattle.rx_lang.specs.Specification.{Specification, MatchesSymbol, Language}
use Rattle.rx_lang.specs.Positions.{State, start, scan_start, after, occurrence_symbols, expr_letters, scan_letters, IsSpelled, LeadsTo, ShowsMark}

module _ {X : Type 0} (R : ℕ → X → Type 0) where
  -- the occurrences read the letters, one each
  abbrev pub ReadsLetters : List ℕ → List X → Type 0
  ReadsLetters [] [] = ⊤
  ReadsLetters [] (x ∷ u) = ⊥
  ReadsLetters (q ∷ w) [] = ⊥
  ReadsLetters (q ∷ w) (x ∷ u) = R q x × ReadsLetters w u

  -- the front of a word of P that ends in q reads the letters
  pub record ReadsTo (P : List ℕ → Type 0) (q : ℕ) (u : List X) : Type 0 where
    pub front : List ℕ
    pub rest : List ℕ
    pub word : P (front ++ q ∷ rest)
    pub reads : ReadsLetters (front ++ q ∷ []) u

-- the vector matches the symbol of the occurrence
abbrev pub ReadsVector : Specification → ℕ → Bits → Type 0
ReadsVector spec q x = MatchesSymbol spec.symbols (slice_index_or (occurrence_symbols spec) q 0) x

-- The vectors lead to the state.
abbrev pub VectorsLeadTo : Specification → List Bits → State → Type 0
VectorsLeadTo spec u start = u ≡ []
VectorsLeadTo spec u scan_start = ⊤
VectorsLeadTo spec u (after q) =
    ReadsTo (ReadsVector spec) (IsSpelled (expr_letters spec)) q u ⊎ EndsIn (ReadsTo (ReadsVector spec) (IsSpelled (scan_letters spec)) q) u

-- The vectors lead to a state from which this vector leads to the occurrence.
pub record GoesOnWith (spec : Specification) (u : List Bits) (x : Bits) (q : ℕ) : Type 0 where
  pub state : State
  pub reached : VectorsLeadTo spec u state
  pub leads : LeadsTo spec state q
  pub reads : ReadsVector spec q x

-- The vectors lead to a state in which a word is marked.
pub record IsShown (spec : Specification) (u : List Bits) (y : ℕ) : Type 0 where
  pub state : State
  pub reached : VectorsLeadTo spec u state
  pub shows : ShowsMark spec state y

-- States are reached one from another, and the language of an output is what leads to the states that show it.
pub record IsReadByPairs (spec : Specification) : Type 0 where
  pub none : (q : ℕ) → VectorsLeadTo spec [] (after q) → ⊥
  pub next : (u : List Bits) (x : Bits) (q : ℕ) → VectorsLeadTo spec (u ++ x ∷ []) (after q) ↔ GoesOnWith spec u x q
  pub below : (u : List Bits) (q : ℕ) → VectorsLeadTo spec u (after q) → q < length (occurrence_symbols spec)
  pub language : (y : ℕ) (u : List Bits) → Language spec y u ↔ IsShown spec u y

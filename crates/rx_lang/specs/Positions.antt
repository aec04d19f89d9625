-- Which occurrences of symbols may follow one another in the words of a specification, each occurrence being a letter of its
-- own (McNaughton and Yamada, 1960; Glushkov, 1961), and how large the programmable logic array is that is made of this.
use Rattle.std.specs.Prelude.{◌≡◌, ◌≢◌, ◌⊎◌, ◌↔◌, ℕ, ◌+◌, ◌*◌, ◌<◌, List, [], ◌∷◌, ◌++◌, length, map, flat_map, slice_get, Some, Any, AllPairs, Contains, ⊤}
use Rattle.rx_lang.specs.Expression.{Expr}
use Rattle.rx_lang.specs.Meaning.{Spells, SomeMarks}
use Rattle.rx_lang.specs.Copies.{IsItself, all_numbered, copied, occurrences}
use Rattle.rx_lang.specs.Specification.{Specification}

-- ---- pairs of letters

-- some word of P begins with q, ends in p, or has q right after p

abbrev pub BeginsWith : (List ℕ → Type 0) → ℕ → Type 0
BeginsWith P q = (rest : List ℕ) × P (q ∷ rest)

abbrev pub EndsWith : (List ℕ → Type 0) → ℕ → Type 0
EndsWith P p = (front : List ℕ) × P (front ++ p ∷ [])

abbrev pub HasPair : (List ℕ → Type 0) → ℕ → ℕ → Type 0
HasPair P p q = (front : List ℕ) × (rest : List ℕ) × P (front ++ p ∷ q ∷ rest)

-- ---- states

-- What was read last: nothing since the reset, nothing of a word that may begin at any time, or an occurrence. The occurrences
-- are numbered from 0, first those of the `expr` statements and then those of the `scan` statements.
pub data State : Type 0 where
  start : State
  scan_start : State
  after : ℕ → State

-- the symbol of each occurrence, those under counted repeats once for each copy
abbrev pub occurrence_symbols : Specification → List ℕ
occurrence_symbols spec = flat_map occurrences (spec.statements ++ spec.scans)

-- the statements, with copies in place of counted repeats and each occurrence as a letter of its own

abbrev pub expr_letters : Specification → List Expr
expr_letters spec = all_numbered 0 (map copied spec.statements)

abbrev pub scan_letters : Specification → List Expr
scan_letters spec = all_numbered (length (flat_map occurrences spec.statements)) (map copied spec.scans)

-- one of these expressions spells the word
abbrev pub IsSpelled : List Expr → List ℕ → Type 0
IsSpelled es w = Any (λ e. Spells IsItself e w) es

-- one of these expressions marks the word for output y
abbrev pub IsMarked : List Expr → ℕ → List ℕ → Type 0
IsMarked es y w = SomeMarks IsItself es y w

-- In this state a word may go on with occurrence q.
abbrev pub LeadsTo : Specification → State → ℕ → Type 0
LeadsTo spec start q = BeginsWith (IsSpelled (expr_letters spec)) q
LeadsTo spec scan_start q = BeginsWith (IsSpelled (scan_letters spec)) q
LeadsTo spec (after p) q = HasPair (IsSpelled (expr_letters spec)) p q ⊎ HasPair (IsSpelled (scan_letters spec)) p q

-- In this state a word is marked for output y.
abbrev pub ShowsMark : Specification → State → ℕ → Type 0
ShowsMark spec start y = IsMarked (expr_letters spec) y []
ShowsMark spec scan_start y = IsMarked (scan_letters spec) y []
ShowsMark spec (after p) y = EndsWith (IsMarked (expr_letters spec) y) p ⊎ EndsWith (IsMarked (scan_letters spec) y) p

-- ---- sizes

-- the state is a start, or an occurrence was read last
abbrev pub IsStateOf : Specification → State → Type 0
IsStateOf spec start = ⊤
IsStateOf spec scan_start = ⊤
IsStateOf spec (after p) = p < length (occurrence_symbols spec)

-- a state and a symbol with which it goes on
pub record Step : Type 0 where
  pub state : State
  pub symbol : ℕ

-- In this state a word may go on with an occurrence of the symbol.
abbrev pub GoesOn : Specification → Step → Type 0
GoesOn spec step = IsStateOf spec step.state × (q : ℕ) × LeadsTo spec step.state q × (slice_get (occurrence_symbols spec) q ≡ Some step.symbol)

-- In this state a word is marked.
abbrev pub IsMarkedState : Specification → State → Type 0
IsMarkedState spec state = IsStateOf spec state × (y : ℕ) × ShowsMark spec state y

-- the list has all that P holds of, each once, and nothing else
pub record Enumerates {A : Type 0} (P : A → Type 0) (xs : List A) : Type 0 where
  pub once : AllPairs (λ a b. a ≢ b) xs
  pub all : (a : A) → P a ↔ Contains xs a

-- The array has t terms: one for each state and each symbol with which it goes on, and one for each state in which a word is
-- marked.
pub record HasTerms (spec : Specification) (t : ℕ) : Type 0 where
  pub steps : List Step
  pub marked : List State
  pub all_steps : Enumerates (GoesOn spec) steps
  pub all_marked : Enumerates (IsMarkedState spec) marked
  pub count : t ≡ length steps + length marked

-- the rows of tiles of an array with t terms
abbrev pub array_rows : Specification → ℕ → ℕ
array_rows spec t = 5 * t + 16 * length (occurrence_symbols spec) + 5 * (length spec.lines + length spec.outputs) + 30

-- the columns of tiles
abbrev pub array_columns : Specification → ℕ
array_columns spec =
    2 * (2 * length spec.lines + length (occurrence_symbols spec) + 2) + 8 * (length (occurrence_symbols spec) + length spec.outputs) + 20

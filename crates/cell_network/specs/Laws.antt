-- Laws of cells, as statements.
use Rattle.std.specs.Prelude.{◌≡◌, ◌≢◌, ◌⊎◌, ◌↔◌, ℕ, Bool, true, false, List, [], Some, slice_get, take}
use Rattle.rx_lang.specs.Vector.{Bits}
use Rattle.rx_lang.specs.Meaning.{EndsIn}
use Rattle.rx_lang.specs.Specification.{NamedPattern, MatchesSymbol}
use Rattle.star_normal.specs.Trees.{Flags, FlaggedTree, leaf, seq, alt, flags, BeginsAnywhere, TreeSpells, WholeMarks}
use Rattle.star_normal.specs.Tables.{TreeTable, IsTree, whole}
use Rattle.cell_network.specs.Cells.{CellValues, SomeCellPulls, CellRun}

-- the letter passes the test for the symbol with this number
abbrev pub Passes : {X : Type 0} → (ℕ → X → Bool) → ℕ → X → Type 0
Passes is s x = is s x ≡ true

-- the test tells which vectors match the pattern of a symbol
abbrev pub TestsSymbols : List NamedPattern → (ℕ → Bits → Bool) → Type 0
TestsSymbols symbols is = (s : ℕ) (x : Bits) → Passes is s x ↔ MatchesSymbol symbols s x

module _ {X : Type 0} (Is : ℕ → X → Type 0) where
  -- a word of the tree that is not empty, its scan flags left aside
  abbrev pub SpellsFull : FlaggedTree → List X → Type 0
  SpellsFull t u = (u ≢ []) × TreeSpells Is t u

  -- of an alternative, from whether its right part scans
  abbrev pub EitherEnds : Bool → Flags → FlaggedTree → FlaggedTree → List X → Type 0
  EitherEnds true f l r u = SpellsFull l u ⊎ EndsIn (SpellsFull r) u
  EitherEnds false f l r u = BeginsAnywhere f.scan (SpellsFull (alt f l r)) u

  -- A word of the tree that is not empty ends here: one of its scan node may have begun at any time.
  abbrev pub EndsWord : FlaggedTree → List X → Type 0
  EndsWord (leaf f s) u = BeginsAnywhere f.scan (SpellsFull (leaf f s)) u
  EndsWord (seq f l r) u = BeginsAnywhere f.scan (SpellsFull (seq f l r)) u
  EndsWord (alt f l r) u = EitherEnds (flags r).scan f l r u

-- the letters, a test for the symbols, and which letters the symbols are
module _ {X : Type 0} (is : ℕ → X → Bool) (Is : ℕ → X → Type 0) where
  -- At every time of a run OUT of the root tells whether a word of the tree that is not empty ends with the letters so far.
  abbrev pub RootTellsWords : Type 0
  RootTellsWords = (table : TreeTable) → IsTree table → (u : List X) (vs : List CellValues) → CellRun is table u vs
      → (t : ℕ) (v : CellValues) → slice_get vs t ≡ Some v
      → (v.out table.root ≡ true) ↔ EndsWord Is (whole table) (take t u)

  -- At every time of a run some node pulls the shared wire of an output exactly where the tree marks the letters so far for it.
  abbrev pub PullsTellMarks : Type 0
  PullsTellMarks = (table : TreeTable) → IsTree table → (u : List X) (vs : List CellValues) → CellRun is table u vs
      → (t y : ℕ) (v : CellValues) → slice_get vs t ≡ Some v
      → SomeCellPulls table v y ↔ WholeMarks Is (whole table) y (take t u)

-- Laws of the meaning of expressions, as statements.
use Rattle.std.specs.Prelude.{◌≡◌, ◌⊎◌, ◌↔◌, ℕ, ◌<◌, List, [], ◌++◌, All, Some, slice_get}
use Rattle.rx_lang.specs.declared.pattern.PatternBit.{PatternBit}
use Rattle.rx_lang.specs.Vector.{Bits, Matches}
use Rattle.rx_lang.specs.declared.expr_node.ExprNode.{ExprNode}
use Rattle.rx_lang.specs.Expression.{Expr, sequence, star, plus, marked}
use Rattle.rx_lang.specs.Copies.{copied}
use Rattle.rx_lang.specs.Tables.{children, tree_at, tree_of, trees}
use Rattle.rx_lang.specs.Meaning.{Cut, Many, Spells, Marks}
use Rattle.rx_lang.specs.Specification.{Specification, Language}

-- A vector matches a pattern or does not.
abbrev pub MatchingIsDecided : Type 0
MatchingIsDecided = (pattern : List PatternBit) (x : Bits) → Matches pattern x ⊎ (Matches pattern x → ⊥)

-- A word is in the language of an output or is not.
abbrev pub LanguageIsDecided : Type 0
LanguageIsDecided = (spec : Specification) (y : ℕ) (u : List Bits) → Language spec y u ⊎ (Language spec y u → ⊥)

-- Words of P, one after another, take one more word of P in front, also an empty one, and further such words behind.
pub record ManyJoins {X : Type 0} (P : List X → Type 0) : Type 0 where
  pub front : (v w : List X) → P v → Many P w → Many P (v ++ w)
  pub behind : (v w : List X) → Many P v → Many P w → Many P (v ++ w)

-- The tree of a node is made of the trees of its children, where these stand before it.
abbrev pub TreesAreMade : Type 0
TreesAreMade = (nodes : List ExprNode) (k : ℕ) (node : ExprNode) → slice_get nodes k ≡ Some node → All (λ child. child < k) (children node)
    → tree_at (trees nodes) k ≡ tree_of (trees nodes) node

module _ {X : Type 0} (Is : ℕ → X → Type 0) where
  -- At least once is once and then any number of times.
  abbrev pub PlusSpells : Type 0
  PlusSpells = (f : Expr) (u : List X) → Spells Is (plus f) u ↔ Spells Is (sequence f (star f)) u

  -- Where the first part of a sequence is marked, each of its words is marked, and so is each word that the second part marks
  -- behind one of them. All else is marked within the first part.
  pub record SequenceMarks : Type 0 where
    pub first : (f g : Expr) (y : ℕ) (u : List X) → Spells Is f u → Marks Is (sequence (marked f y) g) y u
    pub second : (f g : Expr) (y z : ℕ) (v w : List X) → Spells Is f v → Marks Is g z w → Marks Is (sequence (marked f y) g) z (v ++ w)
    pub only : (f g : Expr) (y z : ℕ) (u : List X) → Marks Is (sequence (marked f y) g) z u
        → ((y ≡ z) × Spells Is f u) ⊎ Marks Is f z u ⊎ Cut (Spells Is f) (Marks Is g z) u

  -- A marked loop marks the empty word exactly where its expression spells it or marks it within.
  abbrev pub StarMarksEmpty : Type 0
  StarMarksEmpty = (f : Expr) (y z : ℕ) → Marks Is (star (marked f y)) z [] ↔ (((y ≡ z) × Spells Is f []) ⊎ Marks Is f z [])

  -- Copies in place of counted repeats spell and mark the same words.
  pub record CopiesMean (e : Expr) : Type 0 where
    pub spells : (u : List X) → Spells Is (copied e) u ↔ Spells Is e u
    pub marks : (y : ℕ) (u : List X) → Marks Is (copied e) y u ↔ Marks Is e y u

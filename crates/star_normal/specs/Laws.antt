-- Laws of the normal form, as statements.
use Rattle.std.specs.Prelude.{◌≡◌, ◌⊎◌, ◌↔◌, ℕ, List, [], ◌∷◌, Option, Some, None}
use Rattle.rx_lang.specs.Expression.{Expr}
use Rattle.rx_lang.specs.Meaning.{Spells, SomeMarks, EndsIn}
use Rattle.star_normal.specs.Trees.{FlaggedTree, TreeSpells, TreeMarks, WholeSpells, WholeMarks}

module _ {X : Type 0} (Is : ℕ → X → Type 0) where
  -- Some expression spells the word.
  abbrev pub SomeSpells : List Expr → List X → Type 0
  SomeSpells [] u = ⊥
  SomeSpells (e ∷ es) u = Spells Is e u ⊎ SomeSpells es u

  -- The tree, its scan flags left aside, spells and marks what the union of the expressions does.
  pub record HasWords (es : List Expr) (t : FlaggedTree) : Type 0 where
    pub spells : (u : List X) → TreeSpells Is t u ↔ SomeSpells es u
    pub marks : (y : ℕ) (u : List X) → TreeMarks Is t y u ↔ SomeMarks Is es y u

  -- the part has the words of the expressions, and stands where there are some
  abbrev pub PartHasWords : List Expr → Option FlaggedTree → Type 0
  PartHasWords es None = es ≡ []
  PartHasWords es (Some t) = HasWords es t

  -- The tree spells and marks what an expression does, and each word that ends in one that a scan spells or marks.
  pub record HasLanguages (es scans : List Expr) (t : FlaggedTree) : Type 0 where
    pub spells : (u : List X) → WholeSpells Is t u ↔ (SomeSpells es u ⊎ EndsIn (SomeSpells scans) u)
    pub marks : (y : ℕ) (u : List X) → WholeMarks Is t y u ↔ (SomeMarks Is es y u ⊎ EndsIn (SomeMarks Is scans y) u)

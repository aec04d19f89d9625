-- Classes of squares that share sides, by their first squares, and how near two of them come.
use Rattle.std.specs.Prelude.{◌⊎◌, ℕ, ℤ, pos, ◌+ℤ◌, ◌≤ℤ◌}
use Rattle.geom.specs.Squares.{BoxShape, Inside}
use Rattle.geom.specs.Rows.{Squares}
use Rattle.geom.specs.Conduction.{Leads}
use Rattle.nmos_model.specs.Channels.{IsByRow}

-- It holds of the square, and of no square before it in row order.
pub record IsFirst (S : Squares) (x y : ℤ) : Type 0 where
  pub holds : S x y
  pub first : (u v : ℤ) → S u v → IsByRow x y u v

-- The square is in the class of the square (x, y): squares of the set that share sides lead to it.
pub record InClass (S : Squares) (x y u v : ℤ) : Type 0 where
  pub inside : S x y
  pub leads : Leads S x y u v

-- A class of the set has its first square here.
abbrev pub IsClass : Squares → ℤ → ℤ → Type 0
IsClass S x y = IsFirst (InClass S x y) x y

-- The rectangle is the least one round the squares.
pub record IsRound (S : Squares) (r : BoxShape) : Type 0 where
  pub holds : (x y : ℤ) → S x y → Inside r x y
  pub least : (other : BoxShape) → ((x y : ℤ) → S x y → Inside other x y) → (x y : ℤ) → Inside r x y → Inside other x y

-- Less than s lies between two numbers of columns, or of rows.
pub record IsNear (s : ℕ) (a b : ℤ) : Type 0 where
  pub first : a ≤ℤ (b +ℤ pos s)
  pub second : b ≤ℤ (a +ℤ pos s)

-- Two squares are within s of each other: fewer than s columns and fewer than s rows of squares lie between them.
pub record AreWithin (s : ℕ) (x y u v : ℤ) : Type 0 where
  pub across : IsNear s x u
  pub upward : IsNear s y v

-- The square is of the first set, and within s of a square of the second.
pub record HasPartner (s : ℕ) (S T : Squares) (x y : ℤ) : Type 0 where
  pub inside : S x y
  pub u : ℤ
  pub v : ℤ
  pub partner : T u v
  pub within : AreWithin s x y u v

-- The square is of one of two sets, and within s of a square of the other.
abbrev pub IsPartner : ℕ → Squares → Squares → Squares
IsPartner s S T x y = HasPartner s S T x y ⊎ HasPartner s T S x y

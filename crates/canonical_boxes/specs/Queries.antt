-- Squares that are asked about, in the order of their rows.
use Rattle.std.specs.Prelude.{◌≡◌, ℕ, ◌<◌, ◌≤ℤ◌, List, length}
use Rattle.geom.specs.declared.point.Point.{Point}
use Rattle.geom.specs.Rows.{Among, Pairwise}
use Rattle.canonical_boxes.specs.declared.locating.Query.{Query}
use Rattle.canonical_boxes.specs.Canonical.{IsAt}

-- the first is asked of a row no higher
abbrev pub IsLower : Query → Query → Type 0
IsLower q r = q.y ≤ℤ r.y

-- A query for each of the first squares.
pub record AreQueriesBelow (squares : List Point) (n : ℕ) (queries : List Query) : Type 0 where
  pub each : (k : ℕ) (p : Point) → IsAt squares k p → k < n → Among queries (record { y = p.y; number = k })
  pub back : (q : Query) → Among queries q → (p : Point) × IsAt squares q.number p × (p.y ≡ q.y)

-- A query for each of the squares, by rows.
pub record AreQueries (squares : List Point) (queries : List Query) : Type 0 where
  pub all : AreQueriesBelow squares (length squares) queries
  pub rising : Pairwise IsLower queries

-- Rows from one up to another, without a first or without a last where none is named.
use Rattle.std.specs.Prelude.{◌≡◌, ◌≢◌, ℤ, ◌≤ℤ◌, ◌<ℤ◌, ◌⊎◌, ◌↔◌, Option, Some, None, IfSome}
use Rattle.geom.specs.declared.span.Span.{Span}

-- The row lies in the span.
pub record InSpan (span : Span) (y : ℤ) : Type 0 where
  pub from : IfSome span.from (λ from. from ≤ℤ y)
  pub to : IfSome span.to (λ to. y <ℤ to)

-- There is a span, and the row lies in it.
abbrev pub InRows : Option Span → ℤ → Type 0
InRows None y = ⊥
InRows (Some span) y = InSpan span y

-- There is a span, and it begins or ends at the row.
abbrev pub IsEdge : Option Span → ℤ → Type 0
IsEdge None y = ⊥
IsEdge (Some span) y = (span.from ≡ Some y) ⊎ (span.to ≡ Some y)

-- The part has the rows of the span on one side of the middle, and no edge but those within that side.
pub record Restricts (span : Span) (middle : ℤ) (Side : ℤ → Type 0) (part : Option Span) : Type 0 where
  pub rows : (y : ℤ) → Side y → InRows part y ↔ InSpan span y
  pub edges : (y : ℤ) → IsEdge part y → IsEdge (Some span) y × Side y × (y ≢ middle)

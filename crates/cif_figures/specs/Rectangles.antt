-- Rectangles by twice their edges in units.
use Rattle.std.specs.Prelude.{◌^◌, ◌≤◌, ℤ, ◌<ℤ◌}
use Rattle.std.specs.Int.RustNames.{unsigned_abs}
use Rattle.geom.specs.CifCommands.{CifScale}
use Rattle.geom.specs.CifCodes.{IsOffGrid, IsFarOff}
use Rattle.geom.specs.CifShapes.{Outline}
use Rattle.cif_codes.specs.declared.edges.Edges.{Edges}

abbrev pub outline_of : Edges → Outline
outline_of edges = record { left = edges.left; bottom = edges.bottom; right = edges.right; top = edges.top }

-- After scaling the edge is on the grid and within 2^40 λ of the origin.
pub record IsDrawnEdge (scale : CifScale) (twice : ℤ) : Type 0 where
  pub near : unsigned_abs twice ≤ 2 ^ 55
  pub on_grid : IsOffGrid scale twice → ⊥
  pub not_far : IsFarOff scale twice → ⊥

-- The edges are in order, and such.
pub record IsDrawn (scale : CifScale) (edges : Edges) : Type 0 where
  pub left : IsDrawnEdge scale edges.left
  pub bottom : IsDrawnEdge scale edges.bottom
  pub right : IsDrawnEdge scale edges.right
  pub top : IsDrawnEdge scale edges.top
  pub across : edges.left <ℤ edges.right
  pub upward : edges.bottom <ℤ edges.top

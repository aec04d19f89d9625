-- Boxes that meet no code.
use Rattle.std.specs.Prelude.{◌≡◌, ℕ, not, false, Bool, ℤ, pos, ◌+ℤ◌, ◌-ℤ◌, ◌*ℤ◌, Option, Some, None}
use Rattle.geom.specs.declared.layer.Layer.{Layer}
use Rattle.geom.specs.declared.point.Point.{Point}
use Rattle.geom.specs.CifCommands.{DrawsBox}
use Rattle.geom.specs.CifShapes.{is_zero}
use Rattle.geom.specs.CifDrawings.{CifState, scale_of}
use Rattle.cif_values.specs.declared.boxes.Sides.{Sides}
use Rattle.cif_values.specs.Values.{SidesStand}
use Rattle.cif_codes.specs.declared.scale.Scale.{Scale}
use Rattle.cif_codes.specs.declared.edges.Edges.{Edges}
use Rattle.cif_codes.specs.Scales.{ratio, grid_of}
use Rattle.cif_codes.specs.Least.{IsLeastCode}

-- The sides stand for those of a box that meets no code, in a definition of this scale, where this layer is set.
pub record IsClearBox (scale : Scale) (layer : Layer) (along across : ℕ) (centre : Point) (direction : Option Point) (sides : Sides) : Type 0 where
  pub state : CifState
  pub stand : SidesStand (grid_of scale) along across centre direction sides
  pub scale_is : scale_of state.opening ≡ ratio scale
  pub layer_is : state.layer ≡ Some layer
  pub clear : IsLeastCode state (DrawsBox along across centre direction) None

-- The direction is not along the x axis.
abbrev pub is_upright : Option Point → Bool
is_upright None = false
is_upright (Some d) = not (is_zero d.y)

-- twice the edges by the centre and by the sides from west to east and from south to north
abbrev pub centred_edges : Point → ℤ → ℤ → Edges
centred_edges centre wide high = record {
  left = pos 2 *ℤ centre.x -ℤ wide;
  bottom = pos 2 *ℤ centre.y -ℤ high;
  right = pos 2 *ℤ centre.x +ℤ wide;
  top = pos 2 *ℤ centre.y +ℤ high;
}

-- The boxes of a layer.
use Rattle.std.specs.Prelude.{◌≡◌, List}
use Rattle.geom.specs.declared.layer.Layer.{Layer}
use Rattle.geom.specs.declared.layer.Layer.TheVariants.{Metal}
use Rattle.geom.specs.Squares.{BoxShape}
use Rattle.geom.specs.Merged.{InRuns}
use Rattle.geom.specs.Rows.{Among}

-- the boxes that are of the layer, in runs as they were
pub record IsChosen (drawn : List BoxShape) (layer : Layer) (chosen : List BoxShape) : Type 0 where
  pub back : (b : BoxShape) → Among chosen b → Among drawn b
  pub layers : (b : BoxShape) → Among chosen b → b.layer ≡ layer
  pub forth : (b : BoxShape) → Among drawn b → b.layer ≡ layer → Among chosen b
  pub runs : InRuns drawn → InRuns chosen

-- the box in metal
abbrev pub in_metal : BoxShape → BoxShape
in_metal b = record { layer = Metal; x1 = b.x1; y1 = b.y1; x2 = b.x2; y2 = b.y2 }

-- Boxes that a design may or may not have.
use Rattle.std.specs.Prelude.{Bool, List, [], ◌∷◌, ◌++◌, Option, Some, None, if◌then◌else◌}
use Rattle.geom.specs.declared.layer.Layer.{Layer}
use Rattle.geom.specs.declared.layer.Layer.TheVariants.{Metal}
use Rattle.geom.specs.Squares.{BoxShape}
use Rattle.micro_tiles.specs.declared.design.Arms.{Arms}
use Rattle.micro_tiles.specs.Boxes.{run, pad, cut}

-- the box, if there is one
abbrev pub listed : Option BoxShape → List BoxShape
listed None = []
listed (Some b) = b ∷ []

-- the boxes that there are, in order
abbrev pub present : List (Option BoxShape) → List BoxShape
present [] = []
present (slot ∷ slots) = listed slot ++ present slots

-- what widens a wire, where there is a cut
abbrev pub pad_if : Bool → Layer → List BoxShape
pad_if cuts layer = if cuts then pad layer else []

abbrev pub cut_if : Bool → List BoxShape
cut_if cuts = if cuts then cut ∷ [] else []

-- the boxes of wires of metal and of another layer, which may meet under a cut
abbrev pub wires : Arms → Layer → Arms → Bool → List BoxShape
wires metal layer arms cuts = run Metal metal ++ run layer arms ++ (pad_if cuts layer ++ cut_if cuts)

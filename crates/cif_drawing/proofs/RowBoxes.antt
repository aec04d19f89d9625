-- The boxes of a polygon, by rows.
use Rattle.std.proofs.Common.{Bool, true, false, not, ℤ, pos, ◌-ℤ◌, int_lt, List, [], ◌∷◌, ◌++◌, map, cond}
use Rattle.std.specs.List.{filter}
use Rattle.geom.specs.declared.layer.Layer.{Layer}
use Rattle.geom.specs.declared.point.Point.{Point}
use Rattle.geom.specs.Squares.{BoxShape}
use Rattle.geom.specs.CifShapes.{is_inside_polygon}
use Rattle.cif_shapes.specs.Changes.{run_boxes}

-- with a number among others in order, each once
abbrev pub put : ℤ → List ℤ → List ℤ
put x [] = x ∷ []
put x (y ∷ ys) = cond (int_lt x y) (x ∷ y ∷ ys) (cond (int_lt y x) (y ∷ put x ys) (y ∷ ys))

-- the numbers in order, each once
abbrev pub in_order : List ℤ → List ℤ
in_order [] = []
in_order (x ∷ xs) = put x (in_order xs)

-- one of them is true
abbrev pub differs : Bool → Bool → Bool
differs true b = not b
differs false b = b

-- the row enters or leaves the polygon at this column
abbrev pub is_change : List Point → ℤ → ℤ → Bool
is_change points y x = differs (is_inside_polygon points x y) (is_inside_polygon points (x -ℤ pos 1) y)

-- the columns at which a row does
abbrev pub row_changes : List Point → ℤ → List ℤ
row_changes points y = filter (is_change points y) (in_order (map (λ p. p.x) points))

-- the boxes between each two neighbouring heights
abbrev pub strip_boxes : Layer → List Point → List ℤ → List BoxShape
strip_boxes layer points [] = []
strip_boxes layer points (low ∷ []) = []
strip_boxes layer points (low ∷ high ∷ heights) =
    run_boxes layer low high (row_changes points low) ++ strip_boxes layer points (high ∷ heights)

-- the boxes of a polygon
abbrev pub polygon_list : Layer → List Point → List BoxShape
polygon_list layer points = strip_boxes layer points (in_order (map (λ p. p.y) points))

-- Squares of a drawing in a frame, by rows from the lowest, each by the layers that cover it.
use Rattle.std.specs.Prelude.{◌≡◌, ◌↔◌, ℕ, ◌<◌, ◌≤◌, ◌+◌, ◌*◌, ℤ, pos, ◌+ℤ◌, ◌<ℤ◌, Bool, true, false, List, length, slice_index_or, ◌⊎◌}
use Rattle.geom.specs.Squares.{BoxShape, Covered}
use Rattle.geom.specs.declared.layer.Layer.{Layer}
use Rattle.geom.specs.declared.layer.Layer.TheVariants.{Diffusion, Poly, Metal, Cut, Implant}
use Rattle.nmos_model.specs.declared.raster.Cover.{Cover}
use Rattle.nmos_model.specs.declared.raster.Frame.{Frame}
use Rattle.nmos_model.specs.declared.raster.Stretch.{Stretch}

-- the layer covers the square
abbrev pub covers : Layer → Cover → Bool
covers Diffusion cover = cover.diffusion
covers Poly cover = cover.poly
covers Metal cover = cover.metal
covers Cut cover = cover.cut
covers Implant cover = cover.implant

abbrev pub bare : Cover
bare = record { diffusion = false; poly = false; metal = false; cut = false; implant = false }

-- what covers the square of this number
abbrev pub cover_at : List Cover → ℕ → Cover
cover_at squares at = slice_index_or squares at bare

-- the place is one of the stretch
abbrev pub IsIn : Stretch → ℕ → Type 0
IsIn s at = (s.from ≤ at) × (at < s.to)

-- the number of the square in this column and row of a frame of this width
abbrev pub number_of : ℕ → ℕ → ℕ → ℕ
number_of width column row = row * width + column

-- the square of this number stands in these columns and rows
abbrev pub IsAmong : ℕ → Stretch → Stretch → ℕ → Type 0
IsAmong width columns rows at = (row : ℕ) × IsIn rows row × (row * width + columns.from ≤ at) × (at < row * width + columns.to)

-- The layer was added where P holds, and nothing else was changed.
abbrev pub Paints : (ℕ → Type 0) → Layer → List Cover → List Cover → Type 0
Paints P layer old new =
    (at : ℕ) (other : Layer) → (covers other (cover_at new at) ≡ true) ↔ ((covers other (cover_at old at) ≡ true) ⊎ (P at × (layer ≡ other)))

-- The square (x, y) stands in this column and row of the frame.
pub record StandsAt (frame : Frame) (x y : ℤ) (column row : ℕ) : Type 0 where
  pub across : x ≡ frame.x +ℤ pos column
  pub upward : y ≡ frame.y +ℤ pos row
  pub column_within : column < frame.width
  pub row_within : row < frame.height

-- The square lies inside, with squares of the frame on all sides.
pub record IsInner (frame : Frame) (column row : ℕ) : Type 0 where
  pub left : 0 < column
  pub right : column + 1 < frame.width
  pub bottom : 0 < row
  pub top : row + 1 < frame.height

-- The squares show the drawing: each square of the frame by what covers it, and nothing is drawn but inside.
pub record Shows (frame : Frame) (squares : List Cover) (Drawn : Layer → ℤ → ℤ → Type 0) : Type 0 where
  pub size : length squares ≡ frame.width * frame.height
  pub is : (layer : Layer) (x y : ℤ) (column row : ℕ) → StandsAt frame x y column row
      → (covers layer (cover_at squares (number_of frame.width column row)) ≡ true) ↔ Drawn layer x y
  pub inner : (layer : Layer) (x y : ℤ) → Drawn layer x y → (column : ℕ) × (row : ℕ) × StandsAt frame x y column row × IsInner frame column row

-- The box lies inside the frame, with squares of the frame on all its sides.
pub record Holds (frame : Frame) (b : BoxShape) : Type 0 where
  pub left : frame.x <ℤ b.x1
  pub right : b.x2 <ℤ (frame.x +ℤ pos frame.width)
  pub bottom : frame.y <ℤ b.y1
  pub top : b.y2 <ℤ (frame.y +ℤ pos frame.height)

-- the squares of the frame show these boxes
abbrev pub ShowsBoxes : Frame → List BoxShape → List Cover → Type 0
ShowsBoxes frame boxes squares =
    (layer : Layer) (x y : ℤ) (column row : ℕ) → StandsAt frame x y column row
    → (covers layer (cover_at squares (number_of frame.width column row)) ≡ true) ↔ Covered boxes layer x y

-- The least rectangle round boxes, and the frame of a raster that holds them.
use Rattle.std.specs.Prelude.{◌≡◌, ℕ, ◌<◌, ◌≤◌, ◌+◌, ◌*◌, ◌^◌, pos, neg_ℤ, ◌+ℤ◌, ◌≤ℤ◌, List}
use Rattle.std.specs.Int.{int_min, int_max}
use Rattle.geom.specs.Squares.{BoxShape}
use Rattle.geom.specs.Rows.{Among}
use Rattle.nmos_model.specs.declared.raster.Frame.{Frame}
use Rattle.nmos_model.specs.declared.frame.Extent.{Extent}
use Rattle.nmos_model.specs.Rasters.{Holds}

-- the box lies in the rectangle
pub record LiesIn (e : Extent) (b : BoxShape) : Type 0 where
  pub left : e.x1 ≤ℤ b.x1
  pub right : b.x2 ≤ℤ e.x2
  pub bottom : e.y1 ≤ℤ b.y1
  pub top : b.y2 ≤ℤ e.y2

-- The rectangle is the least round the boxes: each of its edges is one of a box's.
pub record IsExtent (boxes : List BoxShape) (e : Extent) : Type 0 where
  pub all : (b : BoxShape) → Among boxes b → LiesIn e b
  pub left : (b : BoxShape) × Among boxes b × (b.x1 ≡ e.x1)
  pub right : (b : BoxShape) × Among boxes b × (b.x2 ≡ e.x2)
  pub bottom : (b : BoxShape) × Among boxes b × (b.y1 ≡ e.y1)
  pub top : (b : BoxShape) × Among boxes b × (b.y2 ≡ e.y2)

-- The rectangle has more than 4,000,000 squares.
pub record IsWide (e : Extent) : Type 0 where
  pub width : ℕ
  pub height : ℕ
  pub across : e.x2 ≡ e.x1 +ℤ pos width
  pub upward : e.y2 ≡ e.y1 +ℤ pos height
  pub many : 4000000 < width * height

-- The least rectangle round the boxes has more than 4,000,000 squares.
pub record IsTooWide (boxes : List BoxShape) : Type 0 where
  pub extent : Extent
  pub least : IsExtent boxes extent
  pub wide : IsWide extent

-- The frame is the rectangle with a square more on all sides; it has at most 4,000,000 squares without these.
pub record IsFramed (e : Extent) (frame : Frame) : Type 0 where
  pub width : ℕ
  pub height : ℕ
  pub across : e.x2 ≡ e.x1 +ℤ pos width
  pub upward : e.y2 ≡ e.y1 +ℤ pos height
  pub left : e.x1 ≡ frame.x +ℤ pos 1
  pub bottom : e.y1 ≡ frame.y +ℤ pos 1
  pub columns : frame.width ≡ width + 2
  pub rows : frame.height ≡ height + 2
  pub few : width * height ≤ 4000000

-- The frame lies within 2^40 + 1 of the origin.
pub record IsNear (frame : Frame) : Type 0 where
  pub left : neg_ℤ (pos (2 ^ 40 + 1)) ≤ℤ frame.x
  pub right : (frame.x +ℤ pos frame.width) ≤ℤ pos (2 ^ 40 + 1)
  pub bottom : neg_ℤ (pos (2 ^ 40 + 1)) ≤ℤ frame.y
  pub top : (frame.y +ℤ pos frame.height) ≤ℤ pos (2 ^ 40 + 1)

-- The frame holds the boxes, with a square on all sides, is not too large and lies near the origin.
pub record IsFrameOf (boxes : List BoxShape) (frame : Frame) : Type 0 where
  pub holds : (b : BoxShape) → Among boxes b → Holds frame b
  pub few : frame.width * frame.height ≤ 20000004
  pub some : 0 < frame.height
  pub near : IsNear frame

-- the edges of the box
abbrev pub edges_of : BoxShape → Extent
edges_of b = record { x1 = b.x1; y1 = b.y1; x2 = b.x2; y2 = b.y2 }

-- the least rectangle round two
abbrev pub around : Extent → Extent → Extent
around e f = record { x1 = int_min e.x1 f.x1; y1 = int_min e.y1 f.y1; x2 = int_max e.x2 f.x2; y2 = int_max e.y2 f.y2 }

-- Channel regions of a raster: rectangles of its squares, and what is asked of these.
use Rattle.std.specs.Prelude.{◌≡◌, ℕ, ◌<◌, ◌≤◌, ◌+◌, ◌-◌, ◌/◌, ◌%◌, ◌^◌, ◌&&◌, not, Bool, true, false, if◌then◌else◌, List, [], ◌∷◌, ◌++◌, Option, Some, None, pos, ◌+ℤ◌}
use Rattle.rx_text.specs.declared.place.Place.{Place}
use Rattle.rx_text.specs.declared.place.Place.TheVariants.{Square}
use Rattle.geom.specs.declared.layer.Layer.TheVariants.{Diffusion}
use Rattle.geom.specs.Rows.{Among}
use Rattle.nmos_model.specs.declared.channel.Channel.{Channel}
use Rattle.nmos_model.specs.declared.channel_squares.Kind.{Kind}
use Rattle.nmos_model.specs.declared.channel_squares.Kind.TheVariants.{Depletion, Enhancement, NoChannel, Terminal, NoTerminal}
use Rattle.nmos_model.specs.declared.block.Block.{Block}
use Rattle.nmos_model.specs.declared.block.Lines.{Lines}
use Rattle.nmos_model.specs.declared.raster.Cover.{Cover}
use Rattle.nmos_model.specs.declared.raster.Frame.{Frame}
use Rattle.nmos_model.specs.declared.block.Region.{Region}
use Rattle.nmos_model.specs.declared.refusal.ExtractCode.TheVariants.{X1, X2}
use Rattle.nmos_model.specs.declared.refusal.ReadChipFault.{ReadChipFault}
use Rattle.nmos_model.specs.declared.refusal.ReadChipFault.TheVariants.{Fault, NoMemory}
use Rattle.nmos_model.specs.Conductors.{conducts}
use Rattle.nmos_model.specs.Rasters.{IsIn, IsInner, cover_at, number_of}

-- the squares of a frame
pub record Raster : Type 0 where
  pub frame : Frame
  pub covers : List Cover

-- diffusion and poly
abbrev pub is_channel : Cover → Bool
is_channel cover = cover.diffusion && cover.poly

-- the square is a channel square under implant or beside it, no channel square, conducting diffusion, or none
abbrev pub is_kind : Kind → Cover → Bool
is_kind Depletion cover = is_channel cover && cover.implant
is_kind Enhancement cover = is_channel cover && not cover.implant
is_kind NoChannel cover = not (is_channel cover)
is_kind Terminal cover = conducts Diffusion cover
is_kind NoTerminal cover = not (conducts Diffusion cover)

-- the kind of the squares of a channel
abbrev pub channel_kind : Bool → Kind
channel_kind true = Depletion
channel_kind false = Enhancement

-- what covers the square of the column and row
abbrev pub cover_in : Raster → ℕ → ℕ → Cover
cover_in raster column row = cover_at raster.covers (number_of raster.frame.width column row)

-- a link to a channel square
abbrev pub channel_link : Raster → ℕ → Option ℕ
channel_link raster number = if is_channel (cover_at raster.covers number) then Some number else None

-- west, east, south and north
abbrev pub channel_links : Raster → ℕ → List (Option ℕ)
channel_links raster number =
    channel_link raster (number - 1)
    ∷ channel_link raster (number + 1)
    ∷ channel_link raster (number - raster.frame.width)
    ∷ channel_link raster (number + raster.frame.width)
    ∷ []

-- Each channel square has squares of the frame on all sides.
abbrev pub HasMargin : Raster → Type 0
HasMargin raster = (column row : ℕ) → column < raster.frame.width → row < raster.frame.height
    → is_channel (cover_in raster column row) ≡ true → IsInner raster.frame column row

-- the column and row are those of a square of the block
abbrev pub IsInBlock : Block → ℕ → ℕ → Type 0
IsInBlock block column row = IsIn block.columns column × IsIn block.rows row

-- All squares of the block are of the kind.
abbrev pub AreAll : Raster → Block → Kind → Type 0
AreAll raster block kind = (column row : ℕ) → IsInBlock block column row → is_kind kind (cover_in raster column row) ≡ true

-- The block ends within the frame.
pub record IsWithin (frame : Frame) (block : Block) : Type 0 where
  pub right : block.columns.to ≤ frame.width
  pub top : block.rows.to ≤ frame.height

-- Both lines end within the frame.
pub record AreWithin (frame : Frame) (lines : Lines) : Type 0 where
  pub one : IsWithin frame lines.one
  pub other : IsWithin frame lines.other

-- All squares of both lines are of the kind.
abbrev pub AreBoth : Raster → Lines → Kind → Type 0
AreBoth raster lines kind = AreAll raster lines.one kind × AreAll raster lines.other kind

-- the lines of squares next to a block, as long as its sides
abbrev pub above_and_below : Block → Lines
above_and_below block = record {
  one = record { columns = block.columns; rows = record { from = block.rows.to; to = block.rows.to + 1 } };
  other = record { columns = block.columns; rows = record { from = block.rows.from - 1; to = block.rows.from } };
}

abbrev pub left_and_right : Block → Lines
left_and_right block = record {
  one = record { columns = record { from = block.columns.from - 1; to = block.columns.from }; rows = block.rows };
  other = record { columns = record { from = block.columns.to; to = block.columns.to + 1 }; rows = block.rows };
}

-- From one number on the test holds up to but not including the end, where it fails, or else the size is reached.
pub record IsEnd (test : ℕ → Bool) (from size end : ℕ) : Type 0 where
  pub order : from ≤ end
  pub within : end ≤ size
  pub before : (at : ℕ) → from ≤ at → at < end → test at ≡ true
  pub fails : end < size → test end ≡ false

-- The block has squares, and squares of the frame on all sides, which are numbered by 32 bits.
pub record IsInnerBlock (frame : Frame) (block : Block) : Type 0 where
  pub left : 0 < block.columns.from
  pub across : block.columns.from < block.columns.to
  pub right : block.columns.to < frame.width
  pub bottom : 0 < block.rows.from
  pub upward : block.rows.from < block.rows.to
  pub top : block.rows.to < frame.height
  pub columns_fit : block.columns.to + 1 < 2 ^ 32
  pub rows_fit : block.rows.to + 1 < 2 ^ 32

-- All squares of the region are channel squares of one kind, and none next to it is a channel square.
pub record IsCut (raster : Raster) (region : Region) : Type 0 where
  pub channel : AreAll raster region.block (channel_kind region.depletion)
  pub ends : AreBoth raster (above_and_below region.block) NoChannel
  pub sides : AreBoth raster (left_and_right region.block) NoChannel

-- The region's first square has this number.
pub record IsRegion (raster : Raster) (first : ℕ) (region : Region) : Type 0 where
  pub inner : IsInnerBlock raster.frame region.block
  pub first_is : first ≡ number_of raster.frame.width region.block.columns.from region.block.rows.from
  pub cut : IsCut raster region

-- Conducting diffusion lies along two opposite sides of the block and nowhere along the others: above and below it where it is
-- upright, else to its left and right.
abbrev pub HasEnds : Raster → Bool → Block → Type 0
HasEnds raster true block = AreBoth raster (above_and_below block) Terminal × AreBoth raster (left_and_right block) NoTerminal
HasEnds raster false block = AreBoth raster (left_and_right block) Terminal × AreBoth raster (above_and_below block) NoTerminal

-- a channel with the squares of the region
abbrev pub channel_at : Frame → Bool → Region → Channel
channel_at frame upright region = record {
  x1 = frame.x +ℤ pos region.block.columns.from;
  y1 = frame.y +ℤ pos region.block.rows.from;
  x2 = frame.x +ℤ pos region.block.columns.to;
  y2 = frame.y +ℤ pos region.block.rows.to;
  upright = upright;
  depletion = region.depletion;
}

-- The region with terminals is the channel.
abbrev pub IsChannelOf : Raster → Region → Channel → Type 0
IsChannelOf raster region channel = (upright : Bool) × HasEnds raster upright region.block × (channel ≡ channel_at raster.frame upright region)

-- The first of the list of which Q does not hold.
pub record IsFirstFailure {X : Type 0} (Q : X → Type 0) (xs : List X) (x : X) : Type 0 where
  pub earlier : List X
  pub later : List X
  pub whole : xs ≡ earlier ++ x ∷ later
  pub before : (one : X) → Among earlier one → Q one
  pub fails : Q x → ⊥

-- the place of the square of the column and row
abbrev pub square_at : Frame → ℕ → ℕ → Place
square_at frame column row = Square (frame.x +ℤ pos column) (frame.y +ℤ pos row)

-- A fault names the first of the squares where no region begins.
abbrev pub IsOddFirst : Raster → List ℕ → ReadChipFault → Type 0
IsOddFirst raster firsts (Fault fault) = (first : ℕ) × IsFirstFailure (λ n. (region : Region) × IsRegion raster n region) firsts first
    × (fault ≡ record { code = X1; place = square_at raster.frame (first % raster.frame.width) (first / raster.frame.width) })
IsOddFirst raster firsts NoMemory = Unit {0}

-- A fault names the first of the regions that has no terminals.
abbrev pub IsOddEnds : Raster → List Region → ReadChipFault → Type 0
IsOddEnds raster regions (Fault fault) = (region : Region) × IsFirstFailure (λ r. (upright : Bool) × HasEnds raster upright r.block) regions region
    × (fault ≡ record { code = X2; place = square_at raster.frame region.block.columns.from region.block.rows.from })
IsOddEnds raster regions NoMemory = Unit {0}

-- What a drawing that covers the squares of a plan has in each of its tiles.
use Rattle.std.proofs.Common.{◌≡◌, ◌↔◌, ℕ, ◌-◌, ◌*◌, ◌<◌, ℤ, pos, ◌+ℤ◌, ◌-ℤ◌, List, arith}
use Rattle.std.proofs.lemmas.Int.{ints}
use Rattle.geom.specs.declared.layer.Layer.{Layer}
use Rattle.geom.specs.declared.layer.Layer.TheVariants.{Diffusion, Poly}
use Rattle.geom.specs.Squares.{BoxShape, Covered}
use Rattle.geom.specs.Conduction.{Drawing, IsChannel, Leads}
use Rattle.micro_tiles.specs.Regions.{TransistorsAreWhole, ChannelsAreTransistors}
use Rattle.micro_tiles.specs.Shapes.{TilesHaveWideBoxes, CutsAreContacts, IsInner, TilesKeepInside, TilesHaveOneShape, PolyAvoidsDiffusion}
use Rattle.micro_tiles.specs.Strips.{TilesHaveStrips}
use Rattle.micro_tiles.specs.Table.{tile_count, boxes}
use Rattle.nmos_model.specs.Alike.{CoverAlike}
use Rattle.stick_grid.specs.Plans.{Plan, IsPlan, Covers, local_x, local_y}
use Rattle.stick_grid.specs.Transistors.{TransistorsArePlaced, ChannelsAreOfTiles}
use Rattle.tile_rules.proofs.Steps.{moved}

-- the facts of single tiles, and of the transistors of plans, from which the rules follow
pub record Facts : Type 0 where
  pub strips : TilesHaveStrips
  pub wide : TilesHaveWideBoxes
  pub contacts : CutsAreContacts
  pub inside : TilesKeepInside
  pub shapes : TilesHaveOneShape
  pub apart : PolyAvoidsDiffusion
  pub whole : TransistorsAreWhole
  pub channels : ChannelsAreTransistors
  pub placed : TransistorsArePlaced
  pub of_tiles : ChannelsAreOfTiles

-- The drawing has the squares of the plan.
pub record Tiled (Drawn : Drawing) : Type 0 where
  pub facts : Facts
  pub plan : Plan
  pub known : IsPlan plan
  pub alike : CoverAlike Drawn (Covers plan)

-- The square lies in the tile of this row and column.
pub record LiesIn (plan : Plan) (row col : ℕ) (x y : ℤ) : Type 0 where
  pub is_row : row < plan.rows
  pub is_col : col < plan.cols
  pub inner : IsInner (pos 0) (local_x col x) (local_y plan row y)

-- a tile in which the square lies
pub record Place (plan : Plan) (x y : ℤ) : Type 0 where
  pub row : ℕ
  pub col : ℕ
  pub lies : LiesIn plan row col x y

-- A square lies in one tile at most.
one_row : (plan : Plan) (row col r c : ℕ) (x y : ℤ) → LiesIn plan row col x y → LiesIn plan r c x y → row ≡ r
one_row plan row col r c x y h k =
    let a = h.is_row in
    let b = k.is_row in
    let i = h.inner in
    let j = k.inner in
    omega (arith, ints, i.bottom, i.top, j.bottom, j.top)

one_col : (plan : Plan) (row col r c : ℕ) (x y : ℤ) → LiesIn plan row col x y → LiesIn plan r c x y → col ≡ c
one_col plan row col r c x y h k =
    let i = h.inner in
    let j = k.inner in
    omega (arith, ints, i.left, i.right, j.left, j.right)

placed_back : (a d : ℤ) → (a -ℤ d) +ℤ d ≡ a
placed_back a d = omega (arith, ints)

local_back : (a d : ℤ) → (a +ℤ d) -ℤ d ≡ a
local_back a d = omega (arith, ints)

-- the boxes of the tile in this row and column
abbrev pub boxes_at : Plan → ℕ → ℕ → List BoxShape
boxes_at plan row col = boxes (plan.tile row col)

-- where the tile in a column, or in a row, begins
abbrev pub west_of : ℕ → ℤ
west_of col = pos (14 * col)

abbrev pub south_of : Plan → ℕ → ℤ
south_of plan row = pos (14 * (plan.rows - 1 - row))

module _ (Drawn : Drawing) (t : Tiled Drawn) where
  pub in_table : (row col : ℕ) → row < t.plan.rows → col < t.plan.cols → t.plan.tile row col < tile_count
  in_table row col is_row is_col = t.known.known row col is_row is_col

  -- A square that a tile covers lies in it.
  lies_in : (row col : ℕ) (layer : Layer) (x y : ℤ) → row < t.plan.rows → col < t.plan.cols
      → Covered (boxes_at t.plan row col) layer (local_x col x) (local_y t.plan row y) → LiesIn t.plan row col x y
  lies_in row col layer x y is_row is_col covered = record {
    is_row = is_row;
    is_col = is_col;
    inner = (t.facts.inside (t.plan.tile row col) (in_table row col is_row is_col)).all layer (local_x col x) (local_y t.plan row y) covered;
  }

  pub place_of : (layer : Layer) (x y : ℤ) → Drawn layer x y → Place t.plan x y
  place_of layer x y h =
      let c = (t.alike layer x y).0 h in
      record { row = c.row; col = c.col; lies = lies_in c.row c.col layer x y c.is_row c.is_col c.covered }

  -- What the tile covers is drawn.
  pub drawn_at : (row col : ℕ) → row < t.plan.rows → col < t.plan.cols → (layer : Layer) (x y : ℤ) → Covered (boxes_at t.plan row col) layer x y
      → Drawn layer (x +ℤ west_of col) (y +ℤ south_of t.plan row)
  drawn_at row col is_row is_col layer x y h = (t.alike layer (x +ℤ west_of col) (y +ℤ south_of t.plan row)).1 (record {
    row = row;
    col = col;
    is_row = is_row;
    is_col = is_col;
    covered = rw (local_back x (west_of col), local_back y (south_of t.plan row)) h;
  })

  -- It lies in the tile.
  pub lies_at : (row col : ℕ) → row < t.plan.rows → col < t.plan.cols → (layer : Layer) (x y : ℤ) → Covered (boxes_at t.plan row col) layer x y
      → LiesIn t.plan row col (x +ℤ west_of col) (y +ℤ south_of t.plan row)
  lies_at row col is_row is_col layer x y h = record {
    is_row = is_row;
    is_col = is_col;
    inner = rw (local_back x (west_of col), local_back y (south_of t.plan row))
        ((t.facts.inside (t.plan.tile row col) (in_table row col is_row is_col)).all layer x y h);
  }

  -- The tile has what the drawing has at a square that lies in it.
  module _ (row col : ℕ) (x y : ℤ) (lies : LiesIn t.plan row col x y) where
    pub covers_here : (layer : Layer) → Drawn layer x y ↔ Covered (boxes_at t.plan row col) layer (local_x col x) (local_y t.plan row y)
    covers_here layer = (
      λ h.
          let c = (t.alike layer x y).0 h in
          let there = lies_in c.row c.col layer x y c.is_row c.is_col c.covered in
          let r = one_row t.plan c.row c.col row col x y there lies in
          let k = one_col t.plan c.row c.col row col x y there lies in
          rw (← r, ← k) c.covered,
      λ h. (t.alike layer x y).1 (record { row = row; col = col; is_row = lies.is_row; is_col = lies.is_col; covered = h }),
    )

    pub channel_here : IsChannel Drawn x y ↔ IsChannel (Covered (boxes_at t.plan row col)) (local_x col x) (local_y t.plan row y)
    channel_here = (
      λ h. record { diffusion = (covers_here Diffusion).0 h.diffusion; poly = (covers_here Poly).0 h.poly },
      λ h. record { diffusion = (covers_here Diffusion).1 h.diffusion; poly = (covers_here Poly).1 h.poly },
    )

  -- Squares of a layer that lie in one tile are joined.
  pub joined_here : (layer : Layer) (row col : ℕ) (x y u v : ℤ) → LiesIn t.plan row col x y → LiesIn t.plan row col u v
      → Drawn layer x y → Drawn layer u v → Leads (Drawn layer) x y u v
  joined_here layer row col x y u v lies other h k =
      let shape = (t.facts.shapes (t.plan.tile row col) (in_table row col lies.is_row lies.is_col)).layer layer in
      let path = shape (local_x col x) (local_y t.plan row y) (local_x col u) (local_y t.plan row v)
      ((covers_here row col x y lies layer).0 h) ((covers_here row col u v other layer).0 k) in
      let west = west_of col in
      let south = south_of t.plan row in
      rw (placed_back x west, placed_back y south, placed_back u west, placed_back v south) at
      (moved (Covered (boxes_at t.plan row col) layer) (Drawn layer) (west_of col) (south_of t.plan row)
      (drawn_at row col lies.is_row lies.is_col layer)
      (local_x col x) (local_y t.plan row y) (local_x col u) (local_y t.plan row v) path)

-- Parts of plans, and plans with the same tiles.
use Rattle.std.proofs.Common.{◌≡◌, ℕ, zero, suc, ◌+◌, ◌<◌, ℤ, List, ◌++◌, refl, sym, ap, ◌∙◌, subst, arith}
use Rattle.std.specs.List.{range_with_len, flat_map}
use Rattle.geom.specs.declared.layer.Layer.{Layer}
use Rattle.geom.specs.Squares.{Covered}
use Rattle.micro_tiles.specs.declared.side.Side.TheVariants.{North, East, South, West}
use Rattle.micro_tiles.specs.Sides.{Carries}
use Rattle.micro_tiles.specs.Designs.{side_net}
use Rattle.micro_tiles.specs.Table.{tile_count, boxes, design_of, port_at}
use Rattle.stick_grid.specs.Tilings.{MeetsEast, MeetsSouth}
use Rattle.stick_grid.specs.Plans.{Plan, IsPlan, Covers, local_x, local_y}
use Rattle.stick_grid.specs.Pieces.{Piece, MeetsAtEast, MeetsAtSouth, Connected}
use Rattle.stick_grid.specs.Pieces.Connected.{same, east, west, south, north}
use Rattle.stick_grid.specs.Names.{IsPiece, AreNames}
use Rattle.stick_grid.specs.Devices.{placed, transistor_in, transistors_in_row, transistors_of}
use Rattle.micro_tiles.specs.Table.{transistor_at}
use Rattle.stick_grid.specs.Windows.{IsWindow, moved_piece, KeepsPlan, WindowsKeepPlans, HaveSameTiles, SameTilesAgree}

module _ (part whole : Plan) (row col : ℕ) (w : IsWindow part whole row col) where
  -- the tile of the part is the tile of the whole
  tile_is : (p : Piece) → p.row < part.rows → p.col < part.cols → part.tile p.row p.col ≡ whole.tile (row + p.row) (col + p.col)
  tile_is p is_row is_col = w.tiles p.row p.col is_row is_col

  next_col : (r c : ℕ) → whole.tile r (col + (c + 1)) ≡ whole.tile r (col + c + 1)
  next_col r c = let e : col + (c + 1) ≡ col + c + 1 = omega arith in ap (whole.tile r) e

  next_row : (r c : ℕ) → whole.tile (row + (r + 1)) c ≡ whole.tile (row + r + 1) c
  next_row r c = let e : row + (r + 1) ≡ row + r + 1 = omega arith in ap (λ (k : ℕ). whole.tile k c) e

  pub part_plan : IsPlan whole → IsPlan part
  part_plan known =
      let fits_rows = w.rows in
      let fits_cols = w.cols in
      record {
        known = λ r c is_row is_col. subst (λ t. t < tile_count) (sym (w.tiles r c is_row is_col)) (known.known (row + r) (col + c) (omega arith) (omega arith));
        eastward = λ r c is_row is_col.
            let at = w.tiles r c is_row (omega arith) in
            let next = w.tiles r (c + 1) is_row is_col ∙ next_col (row + r) c in
            subst (λ t. MeetsEast t (part.tile r (c + 1))) (sym at)
            (subst (MeetsEast (whole.tile (row + r) (col + c))) (sym next) (known.eastward (row + r) (col + c) (omega arith) (omega arith)));
        southward = λ r c is_row is_col.
            let at = w.tiles r c (omega arith) is_col in
            let next = w.tiles (r + 1) c is_row is_col ∙ next_row r (col + c) in
            subst (λ t. MeetsSouth t (part.tile (r + 1) c)) (sym at)
            (subst (MeetsSouth (whole.tile (row + r) (col + c))) (sym next) (known.southward (row + r) (col + c) (omega arith) (omega arith)));
      }

  piece_in : (p : Piece) → IsPiece part p → IsPiece whole (moved_piece row col p)
  piece_in p h =
      let fits_rows = w.rows in
      let fits_cols = w.cols in
      let is_row = h.is_row in
      let is_col = h.is_col in
      let e = tile_is p h.is_row h.is_col in
      record {
        is_row = omega arith;
        is_col = omega arith;
        side = h.side;
        layer = h.layer;
        carried = subst (λ t. Carries (port_at t h.side) h.layer) e h.carried;
        number = subst (λ t. p.net ≡ side_net (design_of t) h.side h.layer) e h.number;
      }

  piece_out : (p : Piece) → p.row < part.rows → p.col < part.cols → IsPiece whole (moved_piece row col p) → IsPiece part p
  piece_out p is_row is_col h =
      let e = sym (tile_is p is_row is_col) in
      record {
        is_row = is_row;
        is_col = is_col;
        side = h.side;
        layer = h.layer;
        carried = subst (λ t. Carries (port_at t h.side) h.layer) e h.carried;
        number = subst (λ t. p.net ≡ side_net (design_of t) h.side h.layer) e h.number;
      }

  east_in : (a b : Piece) → MeetsAtEast part a b → MeetsAtEast whole (moved_piece row col a) (moved_piece row col b)
  east_in a b m =
      let fits_rows = w.rows in
      let fits_cols = w.cols in
      let one_row = m.row in
      let next = m.col in
      let is_row = m.is_row in
      let is_col = m.is_col in
      let d = tile_is a m.is_row (omega arith) in
      let e = tile_is b (omega arith) m.is_col in
      record {
        layer = m.layer;
        row = ap (λ (k : ℕ). row + k) m.row;
        col = omega arith;
        is_row = omega arith;
        is_col = omega arith;
        carried = subst (λ t. Carries (port_at t East) m.layer) d m.carried;
        first = subst (λ t. a.net ≡ side_net (design_of t) East m.layer) d m.first;
        second = subst (λ t. b.net ≡ side_net (design_of t) West m.layer) e m.second;
      }

  south_in : (a b : Piece) → MeetsAtSouth part a b → MeetsAtSouth whole (moved_piece row col a) (moved_piece row col b)
  south_in a b m =
      let fits_rows = w.rows in
      let fits_cols = w.cols in
      let next = m.row in
      let one_col = m.col in
      let is_row = m.is_row in
      let is_col = m.is_col in
      let d = tile_is a (omega arith) m.is_col in
      let e = tile_is b m.is_row (omega arith) in
      record {
        layer = m.layer;
        row = omega arith;
        col = ap (λ (k : ℕ). col + k) m.col;
        is_row = omega arith;
        is_col = omega arith;
        carried = subst (λ t. Carries (port_at t South) m.layer) d m.carried;
        first = subst (λ t. a.net ≡ side_net (design_of t) South m.layer) d m.first;
        second = subst (λ t. b.net ≡ side_net (design_of t) North m.layer) e m.second;
      }

  abbrev here : Piece → Piece
  here p = moved_piece row col p

  joined_in : (a b : Piece) → Connected part a b → Connected whole (here a) (here b)
  joined_in _ _ (same a) = same (here a)
  joined_in _ _ (east a m b h rest) = east (here a) (here m) (here b) (east_in a m h) (joined_in m b rest)
  joined_in _ _ (west a m b h rest) = west (here a) (here m) (here b) (east_in m a h) (joined_in m b rest)
  joined_in _ _ (south a m b h rest) = south (here a) (here m) (here b) (south_in a m h) (joined_in m b rest)
  joined_in _ _ (north a m b h rest) = north (here a) (here m) (here b) (south_in m a h) (joined_in m b rest)

  pub keeps_plan : IsPlan whole → KeepsPlan part whole row col
  keeps_plan known = record { plan = part_plan known; piece = piece_in; piece_back = piece_out; eastward = east_in; southward = south_in; joined = joined_in }

pub windows_keep_plans : WindowsKeepPlans
windows_keep_plans part whole row col known w = keeps_plan part whole row col w known

-- ---- the same tiles

pub same_back : (one other : Plan) → HaveSameTiles one other → HaveSameTiles other one
same_back one other h = record {
  rows = sym h.rows;
  cols = sym h.cols;
  tiles = λ row col is_row is_col. sym (h.tiles row col (subst (λ n. row < n) (sym h.rows) is_row) (subst (λ n. col < n) (sym h.cols) is_col));
}

-- The whole plan is a part, from its corner on.
window_of : (one other : Plan) → HaveSameTiles one other → IsWindow one other 0 0
window_of one other h =
    let rows = h.rows in
    let cols = h.cols in
    record {
      rows = omega arith;
      cols = omega arith;
      tiles = λ r c is_row is_col.
          let row : r ≡ 0 + r = omega arith in
          let col : c ≡ 0 + c = omega arith in
          h.tiles r c is_row is_col ∙ ap (λ (k : ℕ). other.tile k c) row ∙ ap (other.tile (0 + r)) col;
    }

unmoved : (p : Piece) → moved_piece 0 0 p ≡ p
unmoved p =
    let row : 0 + p.row ≡ p.row = omega arith in
    let col : 0 + p.col ≡ p.col = omega arith in
    λ i. record { row = row i; col = col i; net = p.net }

pub same_plan : (one other : Plan) → HaveSameTiles one other → IsPlan one → IsPlan other
same_plan one other h known = part_plan other one 0 0 (window_of other one (same_back one other h)) known

-- the lists of two functions that agree
pub same_flat : {X : Type 0} (f g : ℕ → List X) (a n : ℕ) → ((k : ℕ) → k < a + n → f k ≡ g k) → flat_map f (range_with_len a n) ≡ flat_map g (range_with_len a n)
same_flat f g a zero agree = refl
same_flat f g a (suc n) agree =
    ap (λ l. l ++ flat_map f (range_with_len (a + 1) n)) (agree a (omega arith))
    ∙ ap (λ l. g a ++ l) (same_flat f g (a + 1) n (λ k below. agree k (omega arith)))

module _ (one other : Plan) (h : HaveSameTiles one other) where
  below_rows : (row : ℕ) → row < one.rows → row < other.rows
  below_rows row is_row = subst (λ n. row < n) h.rows is_row

  below_cols : (col : ℕ) → col < one.cols → col < other.cols
  below_cols col is_col = subst (λ n. col < n) h.cols is_col

  covers_too : (layer : Layer) (x y : ℤ) → Covers one layer x y → Covers other layer x y
  covers_too layer x y c = record {
    row = c.row;
    col = c.col;
    is_row = below_rows c.row c.is_row;
    is_col = below_cols c.col c.is_col;
    covered = subst (λ t. Covered (boxes t) layer (local_x c.col x) (local_y other c.row y)) (h.tiles c.row c.col c.is_row c.is_col)
        (rw (← h.rows) c.covered);
  }

  same_transistors : transistors_of one ≡ transistors_of other
  same_transistors =
      same_flat (transistors_in_row one) (transistors_in_row other) 0 one.rows (λ row is_row.
      same_flat (transistor_in one row) (transistor_in other row) 0 one.cols (λ col is_col.
      ap (λ t. placed row col (transistor_at t)) (h.tiles row col (omega arith) (omega arith)))
      ∙ ap (λ n. flat_map (transistor_in other row) (range_with_len 0 n)) h.cols)
      ∙ ap (λ n. flat_map (transistors_in_row other) (range_with_len 0 n)) h.rows

  w : IsWindow one other 0 0
  w = window_of one other h

  piece_too : (p : Piece) → IsPiece one p → IsPiece other p
  piece_too p is = subst (IsPiece other) (unmoved p) (piece_in one other 0 0 w p is)

  east_too : (a b : Piece) → MeetsAtEast one a b → MeetsAtEast other a b
  east_too a b m = subst (λ p. MeetsAtEast other p b) (unmoved a) (subst (MeetsAtEast other (moved_piece 0 0 a)) (unmoved b) (east_in one other 0 0 w a b m))

  south_too : (a b : Piece) → MeetsAtSouth one a b → MeetsAtSouth other a b
  south_too a b m = subst (λ p. MeetsAtSouth other p b) (unmoved a) (subst (MeetsAtSouth other (moved_piece 0 0 a)) (unmoved b) (south_in one other 0 0 w a b m))

  joined_too : (a b : Piece) → Connected one a b → Connected other a b
  joined_too a b c = subst (λ p. Connected other p b) (unmoved a) (subst (Connected other (moved_piece 0 0 a)) (unmoved b) (joined_in one other 0 0 w a b c))

names_too : (one other : Plan) → HaveSameTiles one other → (count : ℕ) (name : Piece → ℕ) → AreNames one count name → AreNames other count name
names_too one other h count name n =
    let back = same_back one other h in
    record {
      below = λ p is. n.below p (piece_too other one back p is);
      eastward = λ a b m. n.eastward a b (east_too other one back a b m);
      southward = λ a b m. n.southward a b (south_too other one back a b m);
      home = n.home;
      exists = λ k below. piece_too one other h (n.home k) (n.exists k below);
      bears = n.bears;
      leads = λ p is. joined_too one other h p (n.home (name p)) (n.leads p (piece_too other one back p is));
    }

pub same_tiles_agree : SameTilesAgree
same_tiles_agree one other h = record {
  plan = same_plan one other h;
  squares = λ layer x y. (covers_too one other h layer x y, covers_too other one (same_back one other h) layer x y);
  transistors = same_transistors one other h;
  names = names_too one other h;
}

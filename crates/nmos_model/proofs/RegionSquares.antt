-- The regions of a raster that shows a drawing are the drawing's channel regions that are full rectangles.
use Rattle.std.proofs.Common.{◌≡◌, ◌↔◌, ℕ, ◌<◌, ◌+◌, ◌^◌, not, ℤ, pos, ◌+ℤ◌, ◌-ℤ◌, ◌<ℤ◌, arith, refl, sym, ap, ◌∙◌, Bool, true, false, List, length}
use Rattle.std.proofs.lemmas.Bool.{and_from, and_parts}
use Rattle.std.proofs.lemmas.Int.{ints}
use Rattle.std.proofs.Math.Nat.{le-mul_of_pos_right, mul_comm}
use Rattle.geom.specs.declared.layer.Layer.TheVariants.{Diffusion, Implant}
use Rattle.geom.specs.Conduction.{Drawing, IsChannel, Conducts}
use Rattle.geom.specs.Rows.{Squares}
use Rattle.geom.specs.Squares.{BoxShape, Inside}
use Rattle.nmos_model.specs.declared.raster.Cover.{Cover}
use Rattle.nmos_model.specs.declared.raster.Frame.{Frame}
use Rattle.nmos_model.specs.declared.block.Block.{Block}
use Rattle.nmos_model.specs.declared.block.Region.{Region}
use Rattle.nmos_model.specs.declared.channel_squares.Kind.{Kind}
use Rattle.nmos_model.specs.declared.channel_squares.Kind.TheVariants.{Depletion, Enhancement, NoChannel, Terminal, NoTerminal}
use Rattle.nmos_model.specs.Channels.{Begins, IsFull, IsImplanted, HasTerminals, Above, Below, LeftOf, RightOf}
use Rattle.nmos_model.specs.Rasters.{StandsAt, Shows, number_of}
use Rattle.nmos_model.specs.Regions.{Raster, AreAll, AreBoth, HasEnds, IsInnerBlock, IsRegion, IsWithin, above_and_below, channel_kind, cover_in, is_kind, left_and_right}
use Rattle.nmos_model.proofs.Boxes.{distance}
use Rattle.nmos_model.proofs.ChannelPlaces.{raster, channel_there}
use Rattle.nmos_model.proofs.Conducting.{conducting}
use Rattle.nmos_model.proofs.Places.{stands_once}
use Rattle.nmos_model.proofs.Rectangles.{Fills, SameEdges, corner_inside, fills_same, filled_class, first_corner, full_fills, full_sides, implanted_same, last_inside}

-- the squares of the block in lambda
abbrev pub rectangle : Frame → Block → BoxShape
rectangle frame block = record {
  layer = Diffusion;
  x1 = frame.x +ℤ pos block.columns.from;
  y1 = frame.y +ℤ pos block.rows.from;
  x2 = frame.x +ℤ pos block.columns.to;
  y2 = frame.y +ℤ pos block.rows.to;
}

not_from : (t : Bool) → (t ≡ true → ⊥) → not t ≡ true
not_from true f = absurd (f refl)
not_from false f = refl

not_so : (t : Bool) → not t ≡ true → t ≡ true → ⊥
not_so true e f = cc
not_so false e f = cc

-- what a square of the kind has in the drawing
abbrev pub KindThere : Drawing → Kind → Squares
KindThere Drawn Depletion x y = IsChannel Drawn x y × Drawn Implant x y
KindThere Drawn Enhancement x y = IsChannel Drawn x y × (Drawn Implant x y → ⊥)
KindThere Drawn NoChannel x y = IsChannel Drawn x y → ⊥
KindThere Drawn Terminal x y = Conducts Drawn Diffusion x y
KindThere Drawn NoTerminal x y = Conducts Drawn Diffusion x y → ⊥

-- ---- the lines next to a block

module _ (frame : Frame) (block : Block) (inner : IsInnerBlock frame block) (x y : ℤ) where
  above_is : Inside (rectangle frame (above_and_below block).one) x y ↔ Above (rectangle frame block) x y
  above_is = (
    λ i.
        let l = i.left in let r = i.right in let b = i.bottom in let t = i.top in
        (record { left = l; right = r }, omega (arith, ints)),
    λ h.
        let e = h.1 in
        record { left = h.0.left; right = h.0.right; bottom = omega (arith, ints); top = omega (arith, ints) },
  )

  below_is : Inside (rectangle frame (above_and_below block).other) x y ↔ Below (rectangle frame block) x y
  below_is = (
    λ i.
        let low = inner.bottom in let l = i.left in let r = i.right in let b = i.bottom in let t = i.top in
        (record { left = l; right = r }, omega (arith, ints)),
    λ h.
        let low = inner.bottom in let e = h.1 in
        record { left = h.0.left; right = h.0.right; bottom = omega (arith, ints); top = omega (arith, ints) },
  )

  left_is : Inside (rectangle frame (left_and_right block).one) x y ↔ LeftOf (rectangle frame block) x y
  left_is = (
    λ i.
        let low = inner.left in let l = i.left in let r = i.right in let b = i.bottom in let t = i.top in
        (record { bottom = b; top = t }, omega (arith, ints)),
    λ h.
        let low = inner.left in let e = h.1 in
        record { left = omega (arith, ints); right = omega (arith, ints); bottom = h.0.bottom; top = h.0.top },
  )

  right_is : Inside (rectangle frame (left_and_right block).other) x y ↔ RightOf (rectangle frame block) x y
  right_is = (
    λ i.
        let l = i.left in let r = i.right in let b = i.bottom in let t = i.top in
        (record { bottom = b; top = t }, omega (arith, ints)),
    λ h.
        let e = h.1 in
        record { left = omega (arith, ints); right = omega (arith, ints); bottom = h.0.bottom; top = h.0.top },
  )

module _ (frame : Frame) (squares : List Cover) (Drawn : Drawing) (shows : Shows frame squares Drawn) where
  abbrev there : Raster
  there = raster frame squares Drawn shows

  kind_there : (kind : Kind) (x y : ℤ) (column row : ℕ) → StandsAt frame x y column row
      → (is_kind kind (cover_in there column row) ≡ true) ↔ KindThere Drawn kind x y
  kind_there Depletion x y column row at =
      let channel = channel_there frame squares Drawn shows x y column row at in
      let implant = shows.is Implant x y column row at in (
        λ e. let b = and_parts _ _ e in (channel.0 b.0, implant.0 b.1),
        λ h. and_from _ _ (channel.1 h.0) (implant.1 h.1),
      )
  kind_there Enhancement x y column row at =
      let channel = channel_there frame squares Drawn shows x y column row at in
      let implant = shows.is Implant x y column row at in (
        λ e. let b = and_parts _ _ e in (channel.0 b.0, λ i. not_so _ b.1 (implant.1 i)),
        λ h. and_from _ _ (channel.1 h.0) (not_from _ (λ e. h.1 (implant.0 e))),
      )
  kind_there NoChannel x y column row at =
      let channel = channel_there frame squares Drawn shows x y column row at in
      (λ e h. not_so _ e (channel.1 h), λ f. not_from _ (λ e. f (channel.0 e)))
  kind_there Terminal x y column row at = conducting frame squares Drawn shows Diffusion x y column row at
  kind_there NoTerminal x y column row at =
      let conducts = conducting frame squares Drawn shows Diffusion x y column row at in
      (λ e h. not_so _ e (conducts.1 h), λ f. not_from _ (λ e. f (conducts.0 e)))

  -- what all squares of a block are
  all_there : (block : Block) (kind : Kind) → IsWithin frame block
      → AreAll there block kind ↔ ((x y : ℤ) → Inside (rectangle frame block) x y → KindThere Drawn kind x y)
  all_there block kind within = (
    λ all x y i.
        let l = i.left in let r = i.right in let b = i.bottom in let t = i.top in
        let right = within.right in let top = within.top in
        let across = distance frame.x x (omega (arith, ints)) in
        let upward = distance frame.y y (omega (arith, ints)) in
        let ex = across.1 in let ey = upward.1 in
        (kind_there kind x y across.0 upward.0
        (record { across = ex; upward = ey; column_within = omega (arith, ints); row_within = omega (arith, ints) })).0
        (all across.0 upward.0 ((omega (arith, ints), omega (arith, ints)), (omega (arith, ints), omega (arith, ints)))),
    λ f column row h.
        let left = h.0.0 in let right = h.0.1 in let bottom = h.1.0 in let top = h.1.1 in
        let columns = within.right in let rows = within.top in
        (kind_there kind (frame.x +ℤ pos column) (frame.y +ℤ pos row) column row
        (record { across = refl; upward = refl; column_within = omega arith; row_within = omega arith })).1
        (f _ _ (record { left = omega (arith, ints); right = omega (arith, ints); bottom = omega (arith, ints); top = omega (arith, ints) })),
  )

  module _ (block : Block) (inner : IsInnerBlock frame block) where
    whole_within : IsWithin frame block
    whole_within = let right = inner.right in let top = inner.top in record { right = omega arith; top = omega arith }

    above_within : IsWithin frame (above_and_below block).one
    above_within = let right = inner.right in let top = inner.top in record { right = omega arith; top = omega arith }

    below_within : IsWithin frame (above_and_below block).other
    below_within = let right = inner.right in let top = inner.top in let up = inner.upward in record { right = omega arith; top = omega arith }

    left_within : IsWithin frame (left_and_right block).one
    left_within = let right = inner.right in let top = inner.top in let across = inner.across in record { right = omega arith; top = omega arith }

    right_within : IsWithin frame (left_and_right block).other
    right_within = let right = inner.right in let top = inner.top in record { right = omega arith; top = omega arith }

    -- all squares of the line are of the kind
    abbrev AllOf : Squares → Kind → Type 0
    AllOf Line kind = (x y : ℤ) → Line x y → KindThere Drawn kind x y

    ends_there : (kind : Kind) → AreBoth there (above_and_below block) kind
        ↔ (AllOf (Above (rectangle frame block)) kind × AllOf (Below (rectangle frame block)) kind)
    ends_there kind =
        let above = all_there (above_and_below block).one kind above_within in
        let below = all_there (above_and_below block).other kind below_within in (
          λ all. (
            λ x y line. above.0 all.0 x y ((above_is frame block inner x y).1 line),
            λ x y line. below.0 all.1 x y ((below_is frame block inner x y).1 line),
          ),
          λ h. (
            above.1 (λ x y i. h.0 x y ((above_is frame block inner x y).0 i)),
            below.1 (λ x y i. h.1 x y ((below_is frame block inner x y).0 i)),
          ),
        )

    sides_there : (kind : Kind) → AreBoth there (left_and_right block) kind
        ↔ (AllOf (LeftOf (rectangle frame block)) kind × AllOf (RightOf (rectangle frame block)) kind)
    sides_there kind =
        let left = all_there (left_and_right block).one kind left_within in
        let right = all_there (left_and_right block).other kind right_within in (
          λ all. (
            λ x y line. left.0 all.0 x y ((left_is frame block inner x y).1 line),
            λ x y line. right.0 all.1 x y ((right_is frame block inner x y).1 line),
          ),
          λ h. (
            left.1 (λ x y i. h.0 x y ((left_is frame block inner x y).0 i)),
            right.1 (λ x y i. h.1 x y ((right_is frame block inner x y).0 i)),
          ),
        )

    -- ends of the raster are terminals of the drawing
    pub ends_terminals : (upright : Bool) → HasEnds there upright block ↔ HasTerminals Drawn upright (rectangle frame block)
    ends_terminals true =
        let ends = ends_there Terminal in let sides = sides_there NoTerminal in (
          λ h. let e = ends.0 h.0 in let s = sides.0 h.1 in (e.0, e.1, s.0, s.1),
          λ h. (ends.1 (h.0, h.1), sides.1 (h.2, h.3)),
        )
    ends_terminals false =
        let ends = ends_there NoTerminal in let sides = sides_there Terminal in (
          λ h. let s = sides.0 h.0 in let e = ends.0 h.1 in (s.0, s.1, e.0, e.1),
          λ h. (sides.1 (h.0, h.1), ends.1 (h.2, h.3)),
        )

  implanted : (depletion : Bool) (r : BoxShape) → ((x y : ℤ) → Inside r x y → KindThere Drawn (channel_kind depletion) x y)
      → IsImplanted Drawn depletion r
  implanted true r all = λ x y i. (all x y i).1
  implanted false r all = λ x y i. (all x y i).1

  channels_there : (depletion : Bool) (r : BoxShape) → ((x y : ℤ) → Inside r x y → KindThere Drawn (channel_kind depletion) x y)
      → (x y : ℤ) → Inside r x y → IsChannel Drawn x y
  channels_there true r all = λ x y i. (all x y i).0
  channels_there false r all = λ x y i. (all x y i).0

  kinds_there : (depletion : Bool) (r : BoxShape) → ((x y : ℤ) → Inside r x y → IsChannel Drawn x y) → IsImplanted Drawn depletion r
      → (x y : ℤ) → Inside r x y → KindThere Drawn (channel_kind depletion) x y
  kinds_there true r channels implant = λ x y i. (channels x y i, implant x y i)
  kinds_there false r channels implant = λ x y i. (channels x y i, implant x y i)

  -- ---- a region of the raster is one of the drawing

  module _ (first : ℕ) (region : Region) (is : IsRegion there first region) where
    abbrev whole : BoxShape
    whole = rectangle frame region.block

    region_kinds : (x y : ℤ) → Inside whole x y → KindThere Drawn (channel_kind region.depletion) x y
    region_kinds = (all_there region.block (channel_kind region.depletion) (whole_within region.block is.inner)).0 is.cut.channel

    region_fills : Fills (IsChannel Drawn) whole
    region_fills =
        let ends = (ends_there region.block is.inner NoChannel).0 is.cut.ends in
        let sides = (sides_there region.block is.inner NoChannel).0 is.cut.sides in
        record {
          all = channels_there region.depletion whole region_kinds;
          above = ends.0;
          below = ends.1;
          left = sides.0;
          right = sides.1;
        }

    pub region_implanted : IsImplanted Drawn region.depletion whole
    region_implanted = implanted region.depletion whole region_kinds

    pub region_full : IsFull Drawn whole.x1 whole.y1 whole
    region_full =
        let across = is.inner.across in let upward = is.inner.upward in
        let wide : whole.x1 <ℤ whole.x2 = omega (arith, ints) in
        let high : whole.y1 <ℤ whole.y2 = omega (arith, ints) in
        record {
          channel = region_fills.all whole.x1 whole.y1 (record { left = omega (arith, ints); right = wide; bottom = omega (arith, ints); top = high });
          squares = filled_class (IsChannel Drawn) whole region_fills wide high;
        }

  -- ---- a full rectangle of the drawing is a region of the raster

  module _ (x y : ℤ) (r : BoxShape) (depletion : Bool) (full : IsFull Drawn x y r) (implant : IsImplanted Drawn depletion r)
      (begins : Begins Drawn x y) where
    -- The rectangle by its block in the frame.
    record Framed : Type 0 where
      block : Block
      inner : IsInnerBlock frame block
      is : SameEdges (rectangle frame block) r

    framed : length squares + frame.width < 2 ^ 32 → Framed
    framed few =
        let fills = full_fills Drawn x y r full in
        let sides = full_sides Drawn x y r full in let wide = sides.0 in let high = sides.1 in
        let first = shows.inner Diffusion r.x1 r.y1 (fills.all r.x1 r.y1 (corner_inside Drawn x y r full)).diffusion in
        let last = shows.inner Diffusion (r.x2 -ℤ pos 1) (r.y2 -ℤ pos 1) (fills.all (r.x2 -ℤ pos 1) (r.y2 -ℤ pos 1) (last_inside Drawn x y r full)).diffusion in
        let x1 = first.2.across in let y1 = first.2.upward in let x2 = last.2.across in let y2 = last.2.upward in
        let right = last.3.right in let top = last.3.top in
        let across : first.0 < last.0 + 1 = omega (arith, ints) in
        let upward : first.1 < last.1 + 1 = omega (arith, ints) in
        let column = first.2.column_within in
        let some : 0 < frame.width = omega arith in
        let tall = le-mul_of_pos_right frame.height some in
        let turned = mul_comm frame.width frame.height in
        record {
          block = record { columns = record { from = first.0; to = last.0 + 1 }; rows = record { from = first.1; to = last.1 + 1 } };
          inner = record {
            left = first.3.left;
            across = across;
            right = right;
            bottom = first.3.bottom;
            upward = upward;
            top = top;
            columns_fit = omega (arith, few, right);
            rows_fit = omega (arith, tall, turned, shows.size, few, top);
          };
          is = record { x1 = sym x1; y1 = sym y1; x2 = omega (arith, ints); y2 = omega (arith, ints) };
        }

    pub full_region : length squares + frame.width < 2 ^ 32 → (column row first : ℕ) → StandsAt frame x y column row
        → first ≡ number_of frame.width column row → (region : Region) × IsRegion there first region
    full_region few column row first at is =
        let f = framed few in
        let fills = fills_same (IsChannel Drawn) r (rectangle frame f.block) f.is (full_fills Drawn x y r full) in
        let corner = first_corner Drawn x y r full begins in
        let across = f.inner.across in let upward = f.inner.upward in let right = f.inner.right in let top = f.inner.top in
        let stands : StandsAt frame x y f.block.columns.from f.block.rows.from =
        record { across = sym corner.0 ∙ sym f.is.x1; upward = sym corner.1 ∙ sym f.is.y1; column_within = omega arith; row_within = omega arith } in
        let place = stands_once frame x y column row f.block.columns.from f.block.rows.from at stands in (
          record { block = f.block; depletion = depletion },
          record {
            inner = f.inner;
            first_is = is ∙ ap (λ c. number_of frame.width c row) place.0 ∙ ap (λ q. number_of frame.width f.block.columns.from q) place.1;
            cut = record {
              channel = (all_there f.block (channel_kind depletion) (whole_within f.block f.inner)).1
                  (kinds_there depletion (rectangle frame f.block) fills.all (implanted_same Drawn depletion r (rectangle frame f.block) f.is implant));
              ends = (ends_there f.block f.inner NoChannel).1 (fills.above, fills.below);
              sides = (sides_there f.block f.inner NoChannel).1 (fills.left, fills.right);
            };
          },
        )

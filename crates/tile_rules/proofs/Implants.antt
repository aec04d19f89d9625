-- A channel region that has implant lies, with two squares round it, wholly under implant.
use Rattle.std.proofs.Common.{◌≡◌, ◌↔◌, ℕ, ◌<◌, ℤ, Some}
use Rattle.geom.specs.declared.layer.Layer.TheVariants.{Implant}
use Rattle.geom.specs.Squares.{BoxShape, Inside}
use Rattle.geom.specs.Conduction.{Drawing, IsChannel, Leads}
use Rattle.micro_tiles.specs.declared.device.Mode.{Mode}
use Rattle.micro_tiles.specs.declared.device.Mode.TheVariants.{Enhancement, Depletion}
use Rattle.micro_tiles.specs.declared.device.Transistor.{Transistor}
use Rattle.micro_tiles.specs.Regions as regions
use Rattle.micro_tiles.specs.Regions.{channel_box}
use Rattle.micro_tiles.specs.Table.{is_transpose, transistor_at}
use Rattle.nmos_model.specs.declared.channel.Channel.{Channel}
use Rattle.nmos_model.specs.Channels.{rectangle_of}
use Rattle.stick_grid.specs.Plans.{local_x, local_y}
use Rattle.stick_grid.specs.Transistors.{channel_at}
use Rattle.lambda_rules.specs.Classes.{InClass}
use Rattle.lambda_rules.specs.Rules.{grown, IsAll, HasImplant, IsInside}
use Rattle.tile_rules.proofs.Moved.{within_grown, inside_moved, grown_moved}
use Rattle.tile_rules.proofs.Tiled.{Tiled, boxes_at, west_of, south_of, covers_here}
use Rattle.tile_rules.proofs.Channels.{of_tile, region, whole, lies_round, region_is}
use Rattle.tile_rules.proofs.Rounds.{round_of}

module _ (Drawn : Drawing) (t : Tiled Drawn) (row col : ℕ) (is_row : row < t.plan.rows) (is_col : col < t.plan.cols) (one : Transistor)
    (has : transistor_at (t.plan.tile row col) ≡ Some one) where
  abbrev r : BoxShape
  r = channel_box one.mode (is_transpose (t.plan.tile row col))

  abbrev c : Channel
  c = channel_at t.plan row col one

  module _ (x y : ℤ) (is : IsChannel Drawn x y) (inside : Inside (rectangle_of c) x y) where
    class : (u v : ℤ) → Leads (IsChannel Drawn) x y u v ↔ Inside (rectangle_of c) u v
    class = region_is Drawn c x y (region Drawn t row col is_row is_col one has) inside

    -- An enhancement channel has no implant.
    bare : (u v : ℤ) → regions.IsImplanted Enhancement (boxes_at t.plan row col) r → Inside (rectangle_of c) u v → Drawn Implant u v → ⊥
    bare u v none i h =
        let j = (inside_moved (west_of col) (south_of t.plan row) r u v).0 i in
        let lies = lies_round Drawn t row col is_row is_col one has u v (within_grown 2 r (local_x col u) (local_y t.plan row v) j) in
        none (local_x col u) (local_y t.plan row v) ((covers_here Drawn t row col u v lies Implant).0 h)

    -- Two squares round a depletion channel lie under implant.
    round : regions.IsImplanted Depletion (boxes_at t.plan row col) r → IsAll (grown 2 (rectangle_of c)) (Drawn Implant)
    round all u v i =
        let j = grown_moved (west_of col) (south_of t.plan row) 2 r u v i in
        let lies = lies_round Drawn t row col is_row is_col one has u v j in
        (covers_here Drawn t row col u v lies Implant).1 (all (local_x col u) (local_y t.plan row v) j)

    implanted : (mode : Mode) → regions.IsImplanted mode (boxes_at t.plan row col) r → HasImplant Drawn x y
        → IsInside 2 (InClass (IsChannel Drawn) x y) (Drawn Implant)
    implanted Enhancement none h = absurd (bare h.u h.v none ((class h.u h.v).0 h.inside.leads) h.implant)
    implanted Depletion all h =
        record { around = rectangle_of c; round = round_of (IsChannel Drawn) (rectangle_of c) x y inside class is; all = round all }

pub implant_round : (Drawn : Drawing) (t : Tiled Drawn) (x y : ℤ) → IsChannel Drawn x y → HasImplant Drawn x y
    → IsInside 2 (InClass (IsChannel Drawn) x y) (Drawn Implant)
implant_round Drawn t x y is h =
    let o = of_tile Drawn t x y is in
    implanted Drawn t o.row o.col o.is_row o.is_col o.transistor o.has x y is o.inside o.transistor.mode
    (whole Drawn t o.row o.col o.is_row o.is_col o.transistor o.has).implant h

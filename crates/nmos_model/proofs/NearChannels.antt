-- The channels of a frame that lies near lie near.
use Rattle.std.proofs.Common.{List, arith}
use Rattle.std.proofs.lemmas.Int.{ints}
use Rattle.geom.specs.declared.layer.Layer.TheVariants.{Poly}
use Rattle.geom.specs.Conduction.{Drawing}
use Rattle.nmos_model.specs.declared.channel.Channel.{Channel}
use Rattle.nmos_model.specs.declared.raster.Cover.{Cover}
use Rattle.nmos_model.specs.declared.raster.Frame.{Frame}
use Rattle.nmos_model.specs.Channels.{IsTransistor}
use Rattle.nmos_model.specs.Devices as devices
use Rattle.nmos_model.specs.Extents.{IsNear}
use Rattle.nmos_model.specs.Rasters.{Shows}

pub near_channel : (frame : Frame) (squares : List Cover) (Drawn : Drawing) → Shows frame squares Drawn → IsNear frame
    → (c : Channel) → IsTransistor Drawn c → devices.IsNear c
near_channel frame squares Drawn shows near c region =
    let at = shows.inner Poly c.x1 c.y1 region.full.channel.poly in
    let x = at.2.across in let y = at.2.upward in
    let left = near.left in let bottom = near.bottom in
    let column = at.3.left in let row = at.3.bottom in
    record { across = omega (arith, ints); upward = omega (arith, ints) }

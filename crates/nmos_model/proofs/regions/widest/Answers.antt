use Rattle.std.proofs.Common.{◌≡◌, ◌<◌, ◌*◌, ◌%◌, ◌/◌, true, arith, sym, subst}
use Rattle.std.proofs.Math.Nat.{le-mul_of_pos_right, mul_comm}
use Rattle.nmos_model.specs.Rasters.{cover_at}
use Rattle.nmos_model.specs.Regions.{cover_in, is_channel}
use Rattle.nmos_model.proofs.ChannelPlaces.{channel_within}
use Rattle.nmos_model.proofs.Places.{number_is, stands_at}
use Rattle.nmos_model.proofs.RegionRuns.{widest_inner, widest_only}
use Rattle.nmos_model.proofs.regions.widest.Goals as goal

pub returns-clause-inner : goal.returns-clause-inner
returns-clause-inner c =
    let raster = c.args.squares.now in
    let first = c.args.first in
    let same = c.frame-width.ensures.frame in
    let size = rw same at c.frame-width.ensures.size in
    let few = rw same at c.frame-width.ensures.few in
    let within = channel_within raster first c.requires.channel in
    let lower : first < raster.frame.width * raster.frame.height = omega (arith, within, size) in
    let at = stands_at raster.frame first lower in
    let channel : is_channel (cover_in raster (first % raster.frame.width) (first / raster.frame.width)) ≡ true =
    subst (λ n. is_channel (cover_at raster.covers n) ≡ true) (sym (number_is raster.frame first)) c.requires.channel in
    let column = at.column_within in
    let some : 0 < raster.frame.width = omega arith in
    let rows = le-mul_of_pos_right raster.frame.height some in
    let turned = mul_comm raster.frame.width raster.frame.height in
    rw same
    (widest_inner raster (first % raster.frame.width) (first / raster.frame.width) _ _ at.column_within at.row_within channel
    (rw same at c.end_of_row.ensures) (rw same at c.end_of_column.ensures) c.requires.margin (omega (arith, few)) (omega (arith, rows, turned, size, few)))

pub returns-clause-only : goal.returns-clause-only
returns-clause-only c = λ region found.
    let raster = c.args.squares.now in
    let first = c.args.first in
    let same = c.frame-width.ensures.frame in
    let size = rw same at c.frame-width.ensures.size in
    let within = channel_within raster first c.requires.channel in
    let lower : first < raster.frame.width * raster.frame.height = omega (arith, within, size) in
    let at = stands_at raster.frame first lower in
    let channel : is_channel (cover_in raster (first % raster.frame.width) (first / raster.frame.width)) ≡ true =
    subst (λ n. is_channel (cover_at raster.covers n) ≡ true) (sym (number_is raster.frame first)) c.requires.channel in
    rw (c.cover.ensures, same)
    (widest_only raster (first % raster.frame.width) (first / raster.frame.width) _ _ at.column_within at.row_within channel
    (rw same at c.end_of_row.ensures) (rw same at c.end_of_column.ensures) first (sym (number_is raster.frame first)) region found)

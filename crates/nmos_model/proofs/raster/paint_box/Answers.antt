use Rattle.std.proofs.Common.{ap, subst}
use Rattle.geom.specs.Squares.{BoxShape}
use Rattle.nmos_model.specs.Rasters.{IsAmong, Paints}
use Rattle.nmos_model.proofs.Boxes.{shows_more}
use Rattle.nmos_model.proofs.raster.paint_box.Goals as goal

pub returns-clause-painted : goal.returns-clause-painted
returns-clause-painted c = λ boxes.
    let columns = c.columns-columns.ensures in
    let rows = c.rows-rows.ensures in
    let layer = ap (λ (v : BoxShape). v.layer) c.b.view_is in
    shows_more c.args.frame c.args.b.now c.columns-columns.result c.rows-rows.result columns.left columns.right rows.bottom rows.top columns.within
    boxes c.args.squares.now c.paint.new.squares
    (subst (λ l. Paints (IsAmong c.args.frame.width c.columns-columns.result c.rows-rows.result) l c.args.squares.now c.paint.new.squares) layer c.paint.ensures.painted)

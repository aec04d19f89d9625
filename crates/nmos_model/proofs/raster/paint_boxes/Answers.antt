use Rattle.std.proofs.Common.{◌∷◌, take, subst, ◌∙◌}
use Rattle.std.proofs.lemmas.List.{take_more, take_all}
use Rattle.nmos_model.specs.Rasters.{ShowsBoxes}
use Rattle.nmos_model.proofs.Boxes.{covered_more, shows_same, among_at}
use Rattle.nmos_model.proofs.raster.paint_boxes.Goals as goal

pub paint_box-requires-clause-holds : goal.paint_box-requires-clause-holds
paint_box-requires-clause-holds c =
    c.requires.holds c.b-item.result (among_at c.args.boxes.now c.loop-b.b-index c.b-item.result c.loop-b-test.true c.b-item.is)

pub loop-b-preserved : goal.loop-b-preserved
loop-b-preserved c =
    let last = take_more c.args.boxes.now c.loop-b.b-index c.b-item.result c.loop-b-test.true in
    record {
      size = c.paint_box.ensures.size ∙ c.loop-b.invariant.size;
      shows = rw (last, ← c.b-item.is)
          (shows_same c.args.frame (c.b-item.result ∷ take c.loop-b.b-index c.args.boxes.now) _ c.paint_box.new.squares
          (λ layer x y. covered_more (take c.loop-b.b-index c.args.boxes.now) c.b-item.result layer x y)
          (c.paint_box.ensures.painted (take c.loop-b.b-index c.args.boxes.now) c.loop-b.invariant.shows));
    }

pub returns-clause-painted : goal.returns-clause-painted
returns-clause-painted c =
    subst (λ bs. ShowsBoxes c.args.frame bs c.loop-b.squares) (take_all c.loop-b.b-index c.args.boxes.now c.loop-b-test.false) c.loop-b.invariant.shows

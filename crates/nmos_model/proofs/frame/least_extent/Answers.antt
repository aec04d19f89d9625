use Rattle.std.proofs.Common.{take}
use Rattle.std.proofs.lemmas.List.{take_more}
use Rattle.nmos_model.proofs.Frames.{grown_extent, valid_more}
use Rattle.nmos_model.proofs.frame.least_extent.Goals as goal

pub loop-b-preserved : goal.loop-b-preserved
loop-b-preserved c =
    let before = take c.loop-b.b-index c.args.boxes.now in
    let last = take_more c.args.boxes.now c.loop-b.b-index c.b-item.result c.loop-b-test.true in
    let invariant = c.loop-b.invariant in
    rw (last, ← c.b-item.is) (record {
      some = grown_extent c.loop-b.extent before c.b-item.result c.grown.result invariant.some invariant.none c.grown.ensures.first c.grown.ensures.more;
      none = tt;
      valid = valid_more before c.b-item.result c.grown.ensures.valid invariant.valid;
    })

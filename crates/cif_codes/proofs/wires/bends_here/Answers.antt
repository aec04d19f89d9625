-- One point after another.
use Rattle.std.proofs.Common.{ℕ, [], pos, flat_map, subst, arith}
use Rattle.geom.specs.CifCommands.{point_parts}
use Rattle.cif_codes.specs.Scales.{ratio, grid_of}
use Rattle.cif_codes.proofs.Checking.{stands_word}
use Rattle.cif_codes.proofs.PointCodes.{point_next}
use Rattle.cif_codes.proofs.Bending.{bends_begin, bends_more, bends_end}
use Rattle.cif_codes.proofs.wires.bends_here.Goals as goal

pub loop-scale-init : goal.loop-scale-init
loop-scale-init c = record {
  place = c.requires.place;
  few = omega arith;
  near = tt;
  up_to = λ stop w points p st.
      bends_begin c.args.text.now (grid_of c.args.scale) (ratio c.args.scale) w stop points c.args.at c.with_number.result
      (c.with_number.ensures [] [] (pos w) (c.none.ensures (ratio c.args.scale)) st) p;
}

pub loop-scale-preserved : goal.loop-scale-preserved
loop-scale-preserved c = record {
  place = c.bend_here-next.ensures.within;
  few = (let l = c.bend_here-next.ensures.later (c.points_stand.ensures.begins c.loop-scale-test.true) in
      omega (arith, l, c.loop-scale.invariant.few, c.with_bend-bends.ensures.counted));
  near = c.with_bend-bends.ensures.near;
  up_to = λ stop w points p st. (
      let u = c.loop-scale.invariant.up_to stop w points p st in
      let n = point_next c.args.text.now c.loop-scale.from stop u.rest u.parts (c.points_stand.ensures.yes c.loop-scale-test.true stop u.rest u.parts) in
      let m = c.bend_here-next.ensures.parts stop n.point (flat_map point_parts n.rest) n.parts in
      bends_more c.args.text.now (grid_of c.args.scale) (ratio c.args.scale) w stop points c.loop-scale.from c.bend_here-next.result.1 c.loop-scale.bends
      c.with_bend-bends.result u n m.1
      (c.with_bend-bends.ensures.checked w u.done n.point st u.checked m.0));
}

pub returns-clause-checked : goal.returns-clause-checked
returns-clause-checked c = λ stop w points p st.
    let u = c.loop-scale.invariant.up_to stop w points p (stands_word (grid_of c.args.scale) (pos w) c.args.width st) in
    bends_end c.args.text.now (grid_of c.args.scale) (ratio c.args.scale) w stop points c.loop-scale.from c.loop-scale.bends u
    (c.points_stand.ensures.no c.loop-scale-test.false stop u.rest u.parts)

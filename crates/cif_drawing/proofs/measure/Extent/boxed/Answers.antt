-- The edges fit.
use Rattle.std.proofs.Common.{arith}
use Rattle.std.proofs.lemmas.Int.{ints}
use Rattle.geom.specs.Squares.{IsBox}
use Rattle.cif_drawing.specs.Measures.{extent_box}
use Rattle.cif_drawing.proofs.Placed.{box_same}
use Rattle.cif_drawing.proofs.Tests.{box_of_test}
use Rattle.cif_drawing.proofs.measure.Extent.boxed.Goals as goal

pub returns : goal.returns
returns c =
    let b : IsBox (extent_box c.args.self) = box_of_test (extent_box c.args.self) c.requires in
    let f = b.across.first in
    let g = b.across.order in
    let h = b.across.last in
    let k = b.upward.first in
    let l = b.upward.order in
    let m = b.upward.last in
    box_same c.args.layer _ _ _ _ _ _ _ _ (omega (arith, ints, f, g, h)) (omega (arith, ints, k, l, m)) (omega (arith, ints, f, g, h)) (omega (arith, ints, k, l, m))

pub invariant_of-result : goal.invariant_of-result
invariant_of-result c =
    let b : IsBox (extent_box c.args.self) = box_of_test (extent_box c.args.self) c.requires in
    let f = b.across.first in
    let g = b.across.order in
    let h = b.across.last in
    let k = b.upward.first in
    let l = b.upward.order in
    let m = b.upward.last in
    record {
      across = record { first = omega (arith, ints, f, g, h); order = omega (arith, ints, f, g, h); last = omega (arith, ints, f, g, h) };
      upward = record { first = omega (arith, ints, k, l, m); order = omega (arith, ints, k, l, m); last = omega (arith, ints, k, l, m) };
    }

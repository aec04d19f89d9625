-- Twice the edges are even.
use Rattle.std.proofs.Common.{◌≡◌, ◌-ℤ◌, ◌+ℤ◌, ◌∙◌, FitsSigned, to_z, of_z, w64, rules}
use Rattle.std.specs.Int.{int_min, int_max}
use Rattle.std.proofs.lemmas.Int.{to_z-of_z}
use Rattle.cif_shapes.proofs.WireSegments.{low_half, high_half, edges_of, edges_side}
use Rattle.cif_shapes.proofs.wires.edges.Goals as goal

pub half-requires : goal.half-requires
half-requires c =
    let one : to_z w64 (of_z w64 c.args.one) ≡ c.args.one = to_z-of_z w64 c.args.one c.ranges.one in
    let other : to_z w64 (of_z w64 c.args.other) ≡ c.args.other = to_z-of_z w64 c.args.other c.ranges.other in
    let width : to_z w64 (of_z w64 c.args.width) ≡ c.args.width = to_z-of_z w64 c.args.width c.ranges.width in
    let fits : FitsSigned w64 c.low.result = search rules in
    let low : c.low.result ≡ int_min c.args.one c.args.other -ℤ c.args.width = rw (one, other, width) at c.low.ensures in
    low_half c.args.one c.args.other c.args.width (to_z w64 (of_z w64 c.low.result)) c.requires (to_z-of_z w64 c.low.result fits ∙ low)

pub half-requires-2 : goal.half-requires-2
half-requires-2 c =
    let one : to_z w64 (of_z w64 c.args.one) ≡ c.args.one = to_z-of_z w64 c.args.one c.ranges.one in
    let other : to_z w64 (of_z w64 c.args.other) ≡ c.args.other = to_z-of_z w64 c.args.other c.ranges.other in
    let width : to_z w64 (of_z w64 c.args.width) ≡ c.args.width = to_z-of_z w64 c.args.width c.ranges.width in
    let fits : FitsSigned w64 c.high.result = search rules in
    let high : c.high.result ≡ int_max c.args.one c.args.other +ℤ c.args.width = rw (one, other, width) at c.high.ensures in
    high_half c.args.one c.args.other c.args.width (to_z w64 (of_z w64 c.high.result)) c.requires (to_z-of_z w64 c.high.result fits ∙ high)

pub returns-clause-edges : goal.returns-clause-edges
returns-clause-edges c =
    let one : to_z w64 (of_z w64 c.args.one) ≡ c.args.one = to_z-of_z w64 c.args.one c.ranges.one in
    let other : to_z w64 (of_z w64 c.args.other) ≡ c.args.other = to_z-of_z w64 c.args.other c.ranges.other in
    let width : to_z w64 (of_z w64 c.args.width) ≡ c.args.width = to_z-of_z w64 c.args.width c.ranges.width in
    let low : c.low.result ≡ int_min c.args.one c.args.other -ℤ c.args.width = rw (one, other, width) at c.low.ensures in
    let high : c.high.result ≡ int_max c.args.one c.args.other +ℤ c.args.width = rw (one, other, width) at c.high.ensures in
    let fits : FitsSigned w64 c.low.result = search rules in
    let fits_too : FitsSigned w64 c.high.result = search rules in
    let half : FitsSigned w64 c.half.result = search rules in
    let half_too : FitsSigned w64 c.half-2.result = search rules in
    edges_of c.args.one c.args.other c.args.width c.low.result c.high.result (to_z w64 (of_z w64 c.half.result)) (to_z w64 (of_z w64 c.half-2.result))
    c.half.result c.half-2.result low high (c.half.ensures ∙ to_z-of_z w64 c.low.result fits) (c.half-2.ensures ∙ to_z-of_z w64 c.high.result fits_too)
    (to_z-of_z w64 c.half.result half) (to_z-of_z w64 c.half-2.result half_too)

pub returns-clause-side : goal.returns-clause-side
returns-clause-side c =
    edges_side c.args.one c.args.other c.args.width (to_z w64 (of_z w64 c.half.result)) (to_z w64 (of_z w64 c.half-2.result)) c.requires (returns-clause-edges c)

-- The edges are those in each direction.
use Rattle.std.proofs.Common.{FitsSigned, w64, rules}
use Rattle.std.proofs.lemmas.Int.{to_z-of_z}
use Rattle.cif_shapes.proofs.WireSegments.{edges_same}
use Rattle.cif_shapes.proofs.wires.segment_box.Goals as goal

pub returns-clause-across : goal.returns-clause-across
returns-clause-across c =
    let start : FitsSigned w64 c.args.start.x = search rules in
    let stop : FitsSigned w64 c.args.stop.x = search rules in
    let low : FitsSigned w64 c.edges-x1.result.0 = search rules in
    let high : FitsSigned w64 c.edges-x1.result.1 = search rules in
    edges_same _ _ _ _ _ _ _ _ _ _ (to_z-of_z w64 c.args.start.x start) (to_z-of_z w64 c.args.stop.x stop) (to_z-of_z w64 c.args.width c.ranges.width)
    (to_z-of_z w64 c.edges-x1.result.0 low) (to_z-of_z w64 c.edges-x1.result.1 high) c.edges-x1.ensures.edges

pub returns-clause-upward : goal.returns-clause-upward
returns-clause-upward c =
    let start : FitsSigned w64 c.args.start.y = search rules in
    let stop : FitsSigned w64 c.args.stop.y = search rules in
    let low : FitsSigned w64 c.edges-y1.result.0 = search rules in
    let high : FitsSigned w64 c.edges-y1.result.1 = search rules in
    edges_same _ _ _ _ _ _ _ _ _ _ (to_z-of_z w64 c.args.start.y start) (to_z-of_z w64 c.args.stop.y stop) (to_z-of_z w64 c.args.width c.ranges.width)
    (to_z-of_z w64 c.edges-y1.result.0 low) (to_z-of_z w64 c.edges-y1.result.1 high) c.edges-y1.ensures.edges

-- A square is in the first alone where it is not outside of it, nor in the second.
use Rattle.std.proofs.Common.{List, ap, ◌∙◌, ◌++◌}
use Rattle.geom.specs.Squares.{BoxShape}
use Rattle.canonical_boxes.proofs.Combined.{without_squares}
use Rattle.canonical_boxes.proofs.combining.without.Goals as goal

pub returns : goal.returns
returns c =
    without_squares c.args.a.now c.args.b.now c.deref.result.now c.in_ok-set.set c.in_ok-outside.ensures.plane c.in_ok-set.ensures c.in_ok-outside.outside.items
    (c.deref.ensures.value ∙ c.in_ok-extend_from_slice.ensures.items ∙ ap
    (λ (l : List BoxShape). c.in_ok-outside.outside.items ++ l) c.boxes-boxes.ensures.list) c.in_ok-outside.ensures.free

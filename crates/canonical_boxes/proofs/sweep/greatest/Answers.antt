-- The last entry up to a key has the greatest of these keys.
use Rattle.std.proofs.lemmas.Int.{to_z-of_z}
use mir.Syntax.{w64}
use Rattle.canonical_boxes.proofs.Sweeps.{greatest_at}
use Rattle.canonical_boxes.proofs.sweep.greatest.Goals as goal

pub returns-in-Some : goal.returns-in-Some
returns-in-Some c =
    let entry = (c.range.ensures.in_range tt).3 _ _ c.in-Some.ensures.steps in
    let last = (c.range.ensures.in_range tt).4 _ _ c.in-Some.ensures.steps in
    greatest_at c.args.runs.now c.args.x _ c.in-Some.field-0-0.now c.in-Some.number.now (to_z-of_z w64 c.args.x c.ranges.x) entry.0.1 entry.1
    (λ q u some. last q (tt, u) some)

-- The last step up to a column has the column.
use Rattle.std.proofs.lemmas.Int.{to_z-of_z}
use mir.Syntax.{w64}
use Rattle.canonical_boxes.proofs.Skies.{step_found, fits_plane}
use Rattle.canonical_boxes.proofs.gaps.step_at.Goals as goal

pub returns-in-Some : goal.returns-in-Some
returns-in-Some c =
    let entry = (c.range.ensures.in_range tt).3 _ _ c.in-Some.ensures.steps in
    let last = (c.range.ensures.in_range tt).4 _ _ c.in-Some.ensures.steps in
    let q = c.in-Some.from.now in
    let h = c.in-Some.height.now in
    rw (
      to_z-of_z w64 q (fits_plane q (c.requires.first q h entry.1) (c.requires.last q h entry.1)),
      to_z-of_z w64 h
          (fits_plane h (c.requires.bottom q h entry.1) (c.requires.top q h entry.1)),
    )
    (step_found c.args.tops.now c.args.x _ q h (to_z-of_z w64 c.args.x c.ranges.x) entry.0.1 entry.1 (λ z u some. last z (tt, u) some))

-- What is not covered, and that again as a set.
use Rattle.std.proofs.Common.{◌↔◌, ℤ, List, subst}
use Rattle.geom.specs.Squares.{BoxShape}
use Rattle.geom.specs.Rows.{Over}
use Rattle.canonical_boxes.proofs.Combined.{outside_squares}
use Rattle.canonical_boxes.proofs.combining.outside.Goals as goal

pub returns-clause-squares : goal.returns-clause-squares
returns-clause-squares c =
    let P : List BoxShape → Type 0 = λ l. (x y : ℤ) → Over c.in_ok-beyond.beyond x y ↔ Over l x y in
    outside_squares c.args.set.now c.in_ok-free.free.items c.in_ok-beyond.beyond c.in_ok-free.ensures.free (subst P c.deref.ensures.value c.in_ok-beyond.ensures)

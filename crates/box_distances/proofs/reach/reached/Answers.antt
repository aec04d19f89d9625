-- The boxes are covered as one set.
use Rattle.std.proofs.Common.{◌↔◌, ℤ, pos, List, subst}
use Rattle.geom.specs.Squares.{BoxShape}
use Rattle.geom.specs.Rows.{Over}
use Rattle.box_distances.specs.Narrow.{AreReached}
use Rattle.box_distances.proofs.reach.reached.Goals as goal

pub returns : goal.returns
returns c = λ x y.
    let P : List BoxShape → Type 0 = λ l. AreReached (pos c.args.back) (pos c.args.ahead) l c.in_ok-boxes.boxes.items in
    let Q : List BoxShape → Type 0 = λ l. (x y : ℤ) → Over c.in_ok-set.set x y ↔ Over l x y in
    let one = subst P c.boxes.ensures.list c.in_ok-boxes.ensures in
    let two = subst Q c.deref.ensures.value c.in_ok-set.ensures in
    ((λ o. (one x y).0 ((two x y).0 o)), (λ h. (two x y).1 ((one x y).1 h)))

-- What the squares outside hold of a line is free of the set.
use Rattle.std.proofs.Common.{List, subst, ◌∙◌}
use Rattle.canonical_boxes.specs.declared.holding.Area.{Area}
use Rattle.nmos_extract.specs.Sides.{AreFree}
use Rattle.nmos_extract.proofs.Freed.{free_in_plane}
use Rattle.nmos_extract.proofs.sides.free_beside.Goals as goal

pub returns : goal.returns
returns c =
    let set = c.args.set.now in
    let beyond = c.in_ok-beyond.beyond in
    let squares = c.in_ok-beyond.ensures.squares in
    let plane = c.in_ok-beyond.ensures.plane in
    record {
      above = subst (λ (l : List Area). AreFree set l c.in_ok-above.above.items) (c.deref.ensures.value ∙ c.in_ok-over.ensures)
          (free_in_plane set beyond squares plane c.deref.result.now c.in_ok-above.above.items c.in_ok-above.ensures);
      below = subst (λ (l : List Area). AreFree set l c.in_ok-below.below.items) (c.deref-2.ensures.value ∙ c.in_ok-under.ensures)
          (free_in_plane set beyond squares plane c.deref-2.result.now c.in_ok-below.below.items c.in_ok-below.ensures);
      left = subst (λ (l : List Area). AreFree set l c.in_ok-left.left.items) (c.deref-3.ensures.value ∙ c.in_ok-west.ensures)
          (free_in_plane set beyond squares plane c.deref-3.result.now c.in_ok-left.left.items c.in_ok-left.ensures);
      right = subst (λ (l : List Area). AreFree set l c.in_ok-right.right.items) (c.deref-4.ensures.value ∙ c.in_ok-east.ensures)
          (free_in_plane set beyond squares plane c.deref-4.result.now c.in_ok-right.right.items c.in_ok-right.ensures);
    }

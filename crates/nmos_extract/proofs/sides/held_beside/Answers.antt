-- Each list is held of its lines.
use Rattle.std.proofs.Common.{List, subst, ◌∙◌}
use Rattle.canonical_boxes.specs.declared.holding.Area.{Area}
use Rattle.canonical_boxes.specs.Held.{AreHeld}
use Rattle.nmos_extract.proofs.sides.held_beside.Goals as goal

pub returns : goal.returns
returns c =
    let set = c.args.set.now in
    record {
      above = subst (λ (l : List Area). AreHeld set l c.in_ok-above.above.items) (c.deref.ensures.value ∙ c.in_ok-over.ensures) c.in_ok-above.ensures;
      below = subst (λ (l : List Area). AreHeld set l c.in_ok-below.below.items) (c.deref-2.ensures.value ∙ c.in_ok-under.ensures) c.in_ok-below.ensures;
      left = subst (λ (l : List Area). AreHeld set l c.in_ok-left.left.items) (c.deref-3.ensures.value ∙ c.in_ok-west.ensures) c.in_ok-left.ensures;
      right = subst (λ (l : List Area). AreHeld set l c.in_ok-right.right.items) (c.deref-4.ensures.value ∙ c.in_ok-east.ensures) c.in_ok-right.ensures;
    }

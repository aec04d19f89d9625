-- What is held of the parts in the plane is held in the plane.
use Rattle.std.proofs.Common.{List, subst, ◌∙◌}
use Rattle.canonical_boxes.specs.declared.holding.Area.{Area}
use Rattle.canonical_boxes.specs.Held.{AreHeld}
use Rattle.canonical_boxes.proofs.Clips.{held_in_plane}
use Rattle.canonical_boxes.proofs.holding.holds_in_plane.Goals as goal

pub returns : goal.returns
returns c =
    let P : List Area → Type 0 = λ l. AreHeld c.args.set.now l c.in_ok-held.held.items in
    held_in_plane c.args.set.now c.args.areas.now c.in_ok-held.held.items (subst P (c.deref.ensures.value ∙ c.in_ok-within.ensures) c.in_ok-held.ensures)

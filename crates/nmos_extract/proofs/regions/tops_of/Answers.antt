-- What the squares outside hold of a line is free of the set.
use Rattle.std.proofs.Common.{List, map, subst, ap, ◌∙◌}
use Rattle.canonical_boxes.specs.declared.holding.Area.{Area}
use Rattle.nmos_extract.specs.Areas.{above}
use Rattle.nmos_extract.specs.Sides.{AreFree}
use Rattle.nmos_extract.proofs.Freed.{free_in_plane}
use Rattle.nmos_extract.proofs.regions.tops_of.Goals as goal

pub returns : goal.returns
returns c =
    let set = c.args.squares.now in
    subst (λ (l : List Area). AreFree set l c.in_ok-tops.tops.items) (c.deref.ensures.value ∙ c.in_ok-areas.ensures ∙ ap (map above) c.boxes-boxes.ensures.list)
    (free_in_plane set c.in_ok-beyond.beyond c.in_ok-beyond.ensures.squares c.in_ok-beyond.ensures.plane c.deref.result.now c.in_ok-tops.tops.items
    c.in_ok-tops.ensures)

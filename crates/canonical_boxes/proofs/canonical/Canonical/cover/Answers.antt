-- The boxes in one layer cover what they cover, merged too.
use Rattle.std.proofs.Common.{List, sym, subst, ◌∙◌}
use Rattle.geom.specs.Squares.{BoxShape}
use Rattle.geom.specs.Merged.{InRuns, Merges}
use Rattle.canonical_boxes.proofs.Parted.{merged_squares}
use Rattle.canonical_boxes.proofs.canonical.Canonical.cover.Goals as goal

pub of_layer-requires : goal.of_layer-requires
of_layer-requires c = let P : List BoxShape → Type 0 = λ l. InRuns l in subst P (sym c.deref-2.ensures.value) c.in_ok-merged.ensures.runs

pub returns : goal.returns
returns c =
    let P : List BoxShape → Type 0 = λ l. Merges c.deref.result.now l in
    merged_squares c.args.boxes.now c.deref.result.now c.deref-2.result.now c.in_ok-set.set (c.deref.ensures.value ∙ c.in_ok-one_layer.ensures)
    (subst P (sym c.deref-2.ensures.value) c.in_ok-merged.ensures) c.in_ok-set.ensures

-- Merging keeps the squares of each layer.
use Rattle.std.proofs.Common.{List, subst, sym}
use Rattle.geom.specs.Merged.{InRuns, Merges}
use Rattle.geom.specs.Squares.{BoxShape}
use Rattle.nmos_extract.proofs.Layered.{same_layers}
use Rattle.nmos_extract.proofs.layers.layers_of.Goals as goal

pub sets_of-requires : goal.sets_of-requires
sets_of-requires c = subst InRuns (sym c.deref.ensures.value) c.in_ok-merged.ensures.runs

pub returns : goal.returns
returns c =
    let P : List BoxShape → Type 0 = λ l. Merges c.args.boxes.now l in
    same_layers c.args.boxes.now c.deref.result.now c.in_ok-layers.layers (subst P (sym c.deref.ensures.value) c.in_ok-merged.ensures) c.in_ok-layers.ensures

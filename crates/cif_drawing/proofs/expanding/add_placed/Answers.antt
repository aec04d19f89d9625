-- Each box stays within reach.
use Rattle.cif_drawing.specs.Measures.{is_box}
use Rattle.cif_drawing.specs.Placements.{placed}
use Rattle.cif_drawing.proofs.Lists.{among_item}
use Rattle.cif_drawing.proofs.Expanded.{all_at}
use Rattle.cif_drawing.proofs.expanding.add_placed.Goals as goal

pub place-requires-clause-within : goal.place-requires-clause-within
place-requires-clause-within c =
    all_at is_box (placed c.args.placement) c.args.several.now c.b-item.result c.requires.within
    (among_item c.args.several.now c.loop-b.b-index c.b-item.result c.loop-b-test.true c.b-item.is)

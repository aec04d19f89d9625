use Rattle.chip_box.proofs.Existence.{rectangles_exist}
use Rattle.chip_box.proofs.laws.rectangles_exist.Goals as goal

-- src/laws.rt
pub returns : goal.returns
returns c = rectangles_exist

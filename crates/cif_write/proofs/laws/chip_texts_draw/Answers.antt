use Rattle.cif_write.proofs.ChipIsDrawn.{chip_is_drawn}
use Rattle.cif_write.proofs.laws.chip_texts_draw.Goals as goal

pub returns : goal.returns
returns c = record { drawn = chip_is_drawn }

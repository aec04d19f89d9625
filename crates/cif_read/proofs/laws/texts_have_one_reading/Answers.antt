-- By what stands apart, and by what polygons are.
use Rattle.cif_read.proofs.OneReading.{texts_read_once}
use Rattle.cif_read.proofs.laws.texts_have_one_reading.Goals as goal

pub returns : goal.returns
returns c = texts_read_once c.sentences_are_apart.ensures c.polygons_have_one_list.ensures

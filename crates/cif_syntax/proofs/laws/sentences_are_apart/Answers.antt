-- Sentences are told apart by what is due behind their bytes.
use Rattle.cif_syntax.proofs.Apart.{sentences_apart}
use Rattle.cif_syntax.proofs.laws.sentences_are_apart.Goals as goal

pub returns : goal.returns
returns c = sentences_apart

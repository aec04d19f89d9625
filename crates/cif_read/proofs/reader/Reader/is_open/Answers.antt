-- A definition is open.
use Rattle.cif_read.proofs.States.{open_decided}
use Rattle.cif_read.proofs.reader.Reader.is_open.Goals as goal

pub returns : goal.returns
returns c = open_decided c.args.self.now.builder.opening c.args.self.now.opening c.is_some.result c.requires.opening c.is_some.ensures

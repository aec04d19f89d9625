-- The definition of the number is open.
use Rattle.cif_read.proofs.States.{opened_known, opened_none}
use Rattle.cif_read.proofs.reader.Reader.is_opened.Goals as goal

pub returns-in-Some : goal.returns-in-Some
returns-in-Some c = opened_known c.args.self.now.builder.opening c.args.self.now.opening c.in-Some.opening c.args.number c.requires.opening
    c.in-Some.is

pub returns-in-None : goal.returns-in-None
returns-in-None c = opened_none c.args.self.now.builder.opening c.args.self.now.opening c.args.number c.requires.opening c.in-None.is

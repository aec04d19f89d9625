-- The scale of the definition that is open, or 1.
use Rattle.cif_read.proofs.States.{scale_known, scale_plain}
use Rattle.cif_read.proofs.reader.Reader.scale.Goals as goal

pub returns-in-Some-clause-is : goal.returns-in-Some-clause-is
returns-in-Some-clause-is c = (scale_known c.args.self.now.builder.opening c.args.self.now.opening c.in-Some.opening c.requires.opening
    c.in-Some.is).0

pub returns-in-Some-clause-scale : goal.returns-in-Some-clause-scale
returns-in-Some-clause-scale c = (scale_known c.args.self.now.builder.opening c.args.self.now.opening c.in-Some.opening c.requires.opening
    c.in-Some.is).1

pub returns-in-None-clause-scale : goal.returns-in-None-clause-scale
returns-in-None-clause-scale c = scale_plain c.args.self.now.builder.opening c.args.self.now.opening c.requires.opening c.in-None.is

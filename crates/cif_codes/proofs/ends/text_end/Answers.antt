-- The end of a text, in a definition or not.
use Rattle.std.proofs.Common.{arith}
use Rattle.cif_codes.proofs.Ending.{end_within, end_whole, end_followed}
use Rattle.cif_codes.proofs.ends.text_end.Goals as goal

pub returns-then-is_open-clause-fault : goal.returns-then-is_open-clause-fault
returns-then-is_open-clause-fault c = λ s from o h. end_within s c.args.text.now from c.args.first h (o.0 c.if-is_open.true)

pub returns-then-behind-text-clause-whole : goal.returns-then-behind-text-clause-whole
returns-then-behind-text-clause-whole c = λ s from o h.
    end_whole s c.args.text.now from c.args.first c.skip_blanks-behind.result c.args.is_open h c.skip_blanks-behind.ensures.place (omega arith) o c.if-is_open.false

pub returns-clause-fault : goal.returns-clause-fault
returns-clause-fault c = λ s from o h.
    end_followed s c.args.text.now from c.args.first c.skip_blanks-behind.result c.args.is_open h c.skip_blanks-behind.ensures.place (omega arith) o c.if-is_open.false

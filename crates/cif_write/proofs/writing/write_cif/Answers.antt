use Rattle.cif_write.proofs.Gathering.{Puts-flushed}
use Rattle.cif_write.proofs.writing.write_cif.Goals as goal

pub returns-clause-ok : goal.returns-clause-ok
returns-clause-ok g c =
    (Puts-flushed _ _ (rw c.new-page.ensures at c.in_ok-put_chip.ensures.bytes) c.flush.ensures.ok c.flush.ensures.failed).0

pub returns-clause-failed : goal.returns-clause-failed
returns-clause-failed g c =
    (Puts-flushed _ _ (rw c.new-page.ensures at c.in_ok-put_chip.ensures.bytes) c.flush.ensures.ok c.flush.ensures.failed).1

use Rattle.net_text.proofs.Gathering.{on_ok, PutsBehind-flushed}
use Rattle.net_text.proofs.writing.write_net.Goals as goal

pub returns-clause-ok : goal.returns-clause-ok
returns-clause-ok g c =
    (PutsBehind-flushed _ _ (rw c.new-page.ensures at c.in_ok-put_net.ensures.bytes) c.flush.ensures.ok c.flush.ensures.failed).0

pub returns-clause-failed : goal.returns-clause-failed
returns-clause-failed g c =
    (PutsBehind-flushed _ _ (rw c.new-page.ensures at c.in_ok-put_net.ensures.bytes) c.flush.ensures.ok c.flush.ensures.failed).1

pub returns-clause-reads_back : goal.returns-clause-reads_back
returns-clause-reads_back g c = on_ok c.flush.result c.in_ok-put_net.ensures.reads_back

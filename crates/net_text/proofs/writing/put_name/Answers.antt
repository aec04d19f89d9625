use Rattle.net_text.proofs.Gathering.{Gathers-nil, PutsBehind-failed, PutsBehind-last}
use Rattle.net_text.proofs.writing.put_name.Goals as goal

pub returns-in_err-put-in-Some-clause-bytes : goal.returns-in_err-put-in-Some-clause-bytes
returns-in_err-put-in-Some-clause-bytes g c =
    rw c.in-Some.is (PutsBehind-failed _ _ _ _ _ c.from_residual.ensures.0 (Gathers-nil _ _) c.in_err-put-in-Some.ensures.bytes)

pub returns-in_ok-put-in-Some-clause-bytes : goal.returns-in_ok-put-in-Some-clause-bytes
returns-in_ok-put-in-Some-clause-bytes g c =
    rw c.in-Some.is (PutsBehind-last _ _ _ _ c.in_ok-put-in-Some.ensures.bytes (rw c.as_bytes.ensures.bytes at c.put-in-Some.ensures.bytes))

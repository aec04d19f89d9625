use Rattle.net_text.proofs.Gathering.{Gathers-nil, PutsBehind-failed, PutsBehind-last}
use Rattle.net_text.proofs.writing.put_number.Goals as goal

pub returns-in_err-put-clause-bytes : goal.returns-in_err-put-clause-bytes
returns-in_err-put-clause-bytes g c =
    PutsBehind-failed _ _ _ _ _ c.from_residual.ensures.0 (Gathers-nil _ _) c.in_err-put.ensures.bytes

pub returns-clause-bytes : goal.returns-clause-bytes
returns-clause-bytes g c =
    PutsBehind-last _ _ _ _ c.in_ok-put.ensures.bytes (rw (c.as_bytes.ensures, c.decimal_text.ensures) at c.put-2.ensures.bytes)

use Rattle.net_text.proofs.Gathering.{Gathers-nil, Gathers-trans, PutsBehind-failed, PutsBehind-last}
use Rattle.net_text.proofs.writing.put_head.Goals as goal

pub returns-in_err-put-clause-bytes : goal.returns-in_err-put-clause-bytes
returns-in_err-put-clause-bytes g c =
    PutsBehind-failed _ _ _ _ _ c.from_residual.ensures.0 (Gathers-nil _ _) c.in_err-put.ensures.bytes

pub returns-in_err-put_number-clause-bytes : goal.returns-in_err-put_number-clause-bytes
returns-in_err-put_number-clause-bytes g c =
    PutsBehind-failed _ _ _ _ _ c.from_residual-in_err-put_number.ensures.0 c.in_ok-put.ensures.bytes c.in_err-put_number.ensures.bytes

pub returns-clause-bytes : goal.returns-clause-bytes
returns-clause-bytes g c =
    PutsBehind-last _ _ _ _ (Gathers-trans c.in_ok-put.ensures.bytes c.in_ok-put_number.ensures.bytes) c.put-2.ensures.bytes

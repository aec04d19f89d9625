use Rattle.std.proofs.Common.{append_assoc}
use Rattle.net_text.proofs.Gathering.{Gathers-nil, Gathers-trans, PutsBehind-failed, PutsBehind-last}
use Rattle.net_text.proofs.writing.put_pad.Goals as goal

pub returns-in_err-put-clause-bytes : goal.returns-in_err-put-clause-bytes
returns-in_err-put-clause-bytes g c =
    let word = rw c.word_of.ensures at c.in_err-put.ensures.bytes in
    rw (← c.pad.view_is, append_assoc, append_assoc) (PutsBehind-failed _ _ _ _ _ c.from_residual.ensures.0 (Gathers-nil _ _) word)

pub returns-in_err-put_name-clause-bytes : goal.returns-in_err-put_name-clause-bytes
returns-in_err-put_name-clause-bytes g c =
    let word = rw c.word_of.ensures at c.in_ok-put.ensures.bytes in
    rw (← c.pad.view_is, append_assoc) (PutsBehind-failed _ _ _ _ _ c.from_residual-in_err-put_name.ensures.0 word c.in_err-put_name.ensures.bytes)

pub returns-in_err-put_number-clause-bytes : goal.returns-in_err-put_number-clause-bytes
returns-in_err-put_number-clause-bytes g c =
    let word = rw c.word_of.ensures at c.in_ok-put.ensures.bytes in
    rw (← c.pad.view_is)
    (PutsBehind-failed _ _ _ _ _ c.from_residual-in_err-put_number.ensures.0 (Gathers-trans word c.in_ok-put_name.ensures.bytes) c.in_err-put_number.ensures.bytes)

pub returns-clause-bytes : goal.returns-clause-bytes
returns-clause-bytes g c =
    let word = rw c.word_of.ensures at c.in_ok-put.ensures.bytes in
    rw (← c.pad.view_is)
    (PutsBehind-last _ _ _ _ (Gathers-trans (Gathers-trans word c.in_ok-put_name.ensures.bytes) c.in_ok-put_number.ensures.bytes) c.put-2.ensures.bytes)

use Rattle.std.proofs.Common.{append_assoc}
use Rattle.cif_write.proofs.Gathering.{Gathers-nil, Gathers-trans, Puts-failed, Puts-last}
use Rattle.cif_write.proofs.writing.put_chip.Goals as goal

pub returns-in_err-put_kinds-clause-bytes : goal.returns-in_err-put_kinds-clause-bytes
returns-in_err-put_kinds-clause-bytes g c =
    let kinds = rw c.kinds.ensures at c.in_err-put_kinds.ensures.bytes in
    rw (append_assoc, append_assoc) (Puts-failed _ _ _ _ _ c.from_residual.ensures.0 (Gathers-nil _ _) kinds)

pub returns-in_err-put_calls-clause-bytes : goal.returns-in_err-put_calls-clause-bytes
returns-in_err-put_calls-clause-bytes g c =
    let kinds = rw c.kinds.ensures at c.in_ok-put_kinds.ensures.bytes in
    let calls = rw c.calls.ensures at c.in_err-put_calls.ensures.bytes in
    rw append_assoc (Puts-failed _ _ _ _ _ c.from_residual-in_err-put_calls.ensures.0 kinds calls)

pub returns-in_err-put_labels-clause-bytes : goal.returns-in_err-put_labels-clause-bytes
returns-in_err-put_labels-clause-bytes g c =
    let kinds = rw c.kinds.ensures at c.in_ok-put_kinds.ensures.bytes in
    let calls = rw c.calls.ensures at c.in_ok-put_calls.ensures.bytes in
    let labels = rw c.labels.ensures at c.in_err-put_labels.ensures.bytes in
    Puts-failed _ _ _ _ _ c.from_residual-in_err-put_labels.ensures.0 (Gathers-trans kinds calls) labels

pub returns-clause-bytes : goal.returns-clause-bytes
returns-clause-bytes g c =
    let kinds = rw c.kinds.ensures at c.in_ok-put_kinds.ensures.bytes in
    let calls = rw c.calls.ensures at c.in_ok-put_calls.ensures.bytes in
    let labels = rw c.labels.ensures at c.in_ok-put_labels.ensures.bytes in
    Puts-last _ _ _ _ (Gathers-trans (Gathers-trans kinds calls) labels) c.put.ensures.bytes

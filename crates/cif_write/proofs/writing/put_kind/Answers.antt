use Rattle.std.proofs.Common.{append_assoc}
use Rattle.cif_write.proofs.Gathering.{Gathers-nil, Gathers-trans, Puts-failed, Puts-last}
use Rattle.cif_write.proofs.writing.put_kind.Goals as goal

pub returns-in_err-put_word-clause-bytes : goal.returns-in_err-put_word-clause-bytes
returns-in_err-put_word-clause-bytes g c =
    let number = rw (c.as_bytes.ensures, c.kind_number.ensures) at c.in_err-put_word.ensures.bytes in
    rw append_assoc (Puts-failed _ _ _ _ _ c.from_residual.ensures.0 (Gathers-nil _ _) number)

pub returns-in_err-put_boxes-clause-bytes : goal.returns-in_err-put_boxes-clause-bytes
returns-in_err-put_boxes-clause-bytes g c =
    let number = rw (c.as_bytes.ensures, c.kind_number.ensures) at c.in_ok-put_word.ensures.bytes in
    Puts-failed _ _ _ _ _ c.from_residual-in_err-put_boxes.ensures.0 number c.in_err-put_boxes.ensures.bytes

pub returns-clause-bytes : goal.returns-clause-bytes
returns-clause-bytes g c =
    let number = rw (c.as_bytes.ensures, c.kind_number.ensures) at c.in_ok-put_word.ensures.bytes in
    Puts-last _ _ _ _ (Gathers-trans number c.in_ok-put_boxes.ensures.bytes) c.put.ensures.bytes

use Rattle.std.proofs.Common.{append_assoc}
use Rattle.cif_write.proofs.Gathering.{Gathers-nil, Puts-failed, Puts-last}
use Rattle.cif_write.proofs.writing.put_pair.Goals as goal

pub returns-in_err-put_word-clause-bytes : goal.returns-in_err-put_word-clause-bytes
returns-in_err-put_word-clause-bytes g c =
    let x = rw c.as_bytes.ensures at c.in_err-put_word.ensures.bytes in
    rw append_assoc (Puts-failed _ _ _ _ _ c.from_residual.ensures.0 (Gathers-nil _ _) x)

pub returns-clause-bytes : goal.returns-clause-bytes
returns-clause-bytes g c =
    let x = rw c.as_bytes.ensures at c.in_ok-put_word.ensures.bytes in
    let y = rw c.as_bytes-2.ensures at c.put_word-2.ensures.bytes in
    rw append_assoc (Puts-last _ _ _ _ x y)

use Rattle.std.proofs.Common.{append_assoc}
use Rattle.cif_write.proofs.Gathering.{Gathers-nil, Gathers-trans, Puts-failed, Puts-last}
use Rattle.cif_write.proofs.writing.put_word.Goals as goal

pub returns-in_err-put-clause-bytes : goal.returns-in_err-put-clause-bytes
returns-in_err-put-clause-bytes g c =
    rw append_assoc (Puts-failed _ _ _ _ _ c.from_residual.ensures.0 (Gathers-nil _ _) c.in_err-put.ensures.bytes)

pub returns-in_err-put-2-clause-bytes : goal.returns-in_err-put-2-clause-bytes
returns-in_err-put-2-clause-bytes g c =
    Puts-failed _ _ _ _ _ c.from_residual-in_err-put-2.ensures.0 c.in_ok-put.ensures.bytes c.in_err-put-2.ensures.bytes

pub returns-clause-bytes : goal.returns-clause-bytes
returns-clause-bytes g c =
    Puts-last _ _ _ _ (Gathers-trans c.in_ok-put.ensures.bytes c.in_ok-put-2.ensures.bytes) c.put-3.ensures.bytes

use Rattle.std.proofs.Common.{◌∙◌}
use Rattle.cif_write.proofs.Fronts.{AppendsFront-within_first}
use Rattle.cif_write.proofs.Gathering.{Puts-err, Puts-through}
use Rattle.cif_write.proofs.page.Page.put.Goals as goal

pub returns-in_err-flush-clause-bytes : goal.returns-in_err-flush-clause-bytes
returns-in_err-flush-clause-bytes g c =
    let front = rw c.if-append.ensures.kept at c.in_err-flush.ensures.failed in
    Puts-err _ _ _ _ _ _ c.from_residual.ensures.0 (AppendsFront-within_first _ _ _ _ front)

pub returns-clause-bytes : goal.returns-clause-bytes
returns-clause-bytes g c =
    let flushed = rw c.if-append.ensures.kept at c.in_ok-flush.ensures.ok in
    Puts-through _ _ _ _ _ _ _ flushed (c.if-append-2.ensures.kept ∙ c.in_ok-flush.ensures.empty) c.put_all.ensures.ok c.put_all.ensures.err

use Rattle.std.proofs.Common.{◌∙◌}
use Rattle.net_text.proofs.Gathering.{AppendsFront-first, PutsBehind-err, PutsBehind-through}
use Rattle.net_text.proofs.page.Page.put.Goals as goal

pub returns-in_err-flush-clause-bytes : goal.returns-in_err-flush-clause-bytes
returns-in_err-flush-clause-bytes g c =
    let front = rw c.if-append.ensures.kept at c.in_err-flush.ensures.failed in
    PutsBehind-err _ _ _ _ _ _ c.from_residual.ensures.0 (AppendsFront-first _ _ _ _ front)

pub returns-clause-bytes : goal.returns-clause-bytes
returns-clause-bytes g c =
    let flushed = rw c.if-append.ensures.kept at c.in_ok-flush.ensures.ok in
    PutsBehind-through _ _ _ _ _ _ _ flushed (c.if-append-2.ensures.kept ∙ c.in_ok-flush.ensures.empty) c.put_all.ensures.ok c.put_all.ensures.err

use Rattle.cif_write.proofs.Gathering.{Gathers-nil, Puts-failed, Puts-last}
use Rattle.cif_write.proofs.writing.put_box.Goals as goal

pub returns-in_err-put_layer-clause-bytes : goal.returns-in_err-put_layer-clause-bytes
returns-in_err-put_layer-clause-bytes g c =
    rw (← c.b.view_is) (Puts-failed _ _ _ _ _ c.from_residual.ensures.0 (Gathers-nil _ _) c.in_err-put_layer.ensures.bytes)

pub returns-clause-bytes : goal.returns-clause-bytes
returns-clause-bytes g c =
    let line = rw (← c.b.view_is) at c.put_box_line.ensures.bytes in
    rw (← c.b.view_is) (Puts-last _ _ _ _ c.in_ok-put_layer.ensures.bytes line)

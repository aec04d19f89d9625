use Rattle.std.proofs.Common.{arith}
use Rattle.cif_write.proofs.Gathering.{Gathers-nil, Gathers-trans, Puts-failed}
use Rattle.cif_write.proofs.BoxLines.{kinds_lines_more, kinds_lines_around}
use Rattle.cif_write.proofs.writing.put_kinds.Goals as goal

pub loop-before-init : goal.loop-before-init
loop-before-init g c = record { gathered = Gathers-nil _ _; count = omega arith }

pub loop-before-preserved : goal.loop-before-preserved
loop-before-preserved g c =
    let lines = rw c.boxes.ensures at c.in_ok-put_kind.ensures.bytes in
    record {
      gathered = rw (kinds_lines_more _ _ _ _ c.loop-before-test.true c.index-kinds-before.is) (Gathers-trans c.loop-before.invariant.gathered lines);
      count = omega (arith, c.in_ok-put_kind.ensures.never_falls);
    }

pub returns-in_err-put_kind-clause-bytes : goal.returns-in_err-put_kind-clause-bytes
returns-in_err-put_kind-clause-bytes g c =
    let lines = rw c.boxes.ensures at c.in_err-put_kind.ensures.bytes in
    rw (kinds_lines_around _ _ _ _ c.loop-before-test.true c.index-kinds-before.is)
    (Puts-failed _ _ _ _ _ c.from_residual.ensures.0 c.loop-before.invariant.gathered lines)

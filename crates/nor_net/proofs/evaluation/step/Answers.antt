use Rattle.std.proofs.Common.{refl}
use Rattle.nor_net.proofs.evaluation.step.Goals as goal

pub returns : goal.returns
returns c =
    rw (
      c.settle-5.ensures.values,
      c.settle-4.ensures.values,
      c.settle-3.ensures.values,
      c.settle-2.ensures.values,
      c.settle.ensures.values,
      c.copy_from_slice.ensures.after,
      c.drive_with-low.ensures,
      c.drive_with.ensures,
      c.drive_with-2.ensures,
    )
    refl

-- Either function passes over the rows.
use Rattle.std.proofs.Common.{rules, ◌≡◌, w64, to_z, of_z}
use Rattle.geom.proofs.sweep.Sweep.step.Goals as goal

pub returns-then-last-strip-clause-within : goal.returns-then-last-strip-clause-within
returns-then-last-strip-clause-within c =
    let y : to_z w64 (of_z w64 c.args.row) ≡ c.args.row = search rules in
    rw (← y) c.begin_run.ensures.within

pub returns-then-last-strip-clause-passed : goal.returns-then-last-strip-clause-passed
returns-then-last-strip-clause-passed c =
    let y : to_z w64 (of_z w64 c.args.row) ≡ c.args.row = search rules in
    rw (← y) c.begin_run.ensures.passed

pub returns-else-last-strip-clause-within : goal.returns-else-last-strip-clause-within
returns-else-last-strip-clause-within c =
    let y : to_z w64 (of_z w64 c.args.row) ≡ c.args.row = search rules in
    rw (← y) c.lengthen.ensures.within

pub returns-else-last-strip-clause-passed : goal.returns-else-last-strip-clause-passed
returns-else-last-strip-clause-passed c =
    let y : to_z w64 (of_z w64 c.args.row) ≡ c.args.row = search rules in
    rw (← y) c.lengthen.ensures.passed

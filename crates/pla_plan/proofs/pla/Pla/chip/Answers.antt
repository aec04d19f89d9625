-- One row more, until all are called.
use Rattle.std.proofs.Common.{◌≡◌, ℕ, ◌+◌, ◌-◌, ◌*◌, pos, sym, ap, subst, ◌∙◌, arith}
use Rattle.geom.specs.declared.chip.Call.{Call}
use Rattle.pla_plan.specs.Planes.{planes_plan}
use Rattle.pla_plan.specs.RowChips.{IsRowChip}
use Rattle.pla_plan.proofs.ChipRows.{RowsSoFar, row_more, whole_chip}
use Rattle.pla_plan.proofs.pla.Pla.chip.Goals as goal

pub loop-row-preserved : goal.loop-row-preserved
loop-row-preserved c =
    let plan = planes_plan c.args.self.now in
    let n = c.loop-row.row in
    let call = c.row_call.ensures in
    let south : c.rows-rows.result - 1 - n ≡ c.args.self.now.rows - 1 - n = ap (λ (r : ℕ). r - 1 - n) c.rows-rows.ensures.number in
    subst (λ l. RowsSoFar plan c.number_of.new.kinds.items l (n + 1)) (sym c.in_ok-push.ensures.items)
    (row_more plan c.loop-row.kinds.items c.number_of.new.kinds.items c.in_ok-boxes.boxes.items c.in_ok-kind.kind c.in_ok-kind.ensures
    c.loop-row.calls.items c.row_call.result n c.loop-row.invariant c.in_ok-boxes.ensures (ap (λ (x : Call). x.kind) call) (ap (λ (x : Call). x.x) call)
    (ap (λ (x : Call). x.y) call ∙ ap (λ (r : ℕ). pos (14 * r)) south))

pub returns-clause-rows : goal.returns-clause-rows
returns-clause-rows c =
    let last : c.loop-row.row ≡ c.args.self.now.rows = omega (arith, c.rows-rows.ensures.number) in
    subst (IsRowChip (planes_plan c.args.self.now)) (sym c.new.ensures)
    (whole_chip (planes_plan c.args.self.now) c.loop-row.kinds.items c.loop-row.calls.items c.args.labels.items c.loop-row.row last c.loop-row.invariant)

pub returns-clause-squares : goal.returns-clause-squares
returns-clause-squares c =
    let last : c.loop-row.row ≡ c.args.self.now.rows = omega (arith, c.rows-rows.ensures.number) in
    c.row_chips_cover_plans.ensures (planes_plan c.args.self.now) c.new.result
    (subst (IsRowChip (planes_plan c.args.self.now)) (sym c.new.ensures)
    (whole_chip (planes_plan c.args.self.now) c.loop-row.kinds.items c.loop-row.calls.items c.args.labels.items c.loop-row.row last c.loop-row.invariant))

pub returns-clause-within : goal.returns-clause-within
returns-clause-within c =
    let planes = c.args.self.now in
    let last : c.loop-row.row ≡ planes.rows = omega (arith, c.rows-rows.ensures.number) in
    c.row_chips_have_rows.ensures (planes_plan planes) c.new.result (c.planes_are_plans.ensures planes c.rows-rows.ensures.array)
    (subst (IsRowChip (planes_plan planes)) (sym c.new.ensures)
    (whole_chip (planes_plan planes) c.loop-row.kinds.items c.loop-row.calls.items c.args.labels.items c.loop-row.row last c.loop-row.invariant))

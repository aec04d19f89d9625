use Rattle.std.proofs.Common.{◌<◌, ◌^◌, ap, length, arith}
use Rattle.pla_plan.proofs.PlaneNets.{terms_near}
use Rattle.pla_plan.proofs.plane_rows.add_sum.Goals as goal

pub overflow_cast-gnd : goal.overflow_cast-gnd
overflow_cast-gnd c = omega (arith, ap length c.terms.ensures.gates, c.terms.ensures.array.rows_fit, c.terms.ensures.array.few_rows)

pub overflow_add-gnd : goal.overflow_add-gnd
overflow_add-gnd c = omega (arith, ap length c.terms.ensures.gates, c.terms.ensures.array.rows_fit, c.terms.ensures.array.few_rows)

pub plane_nets-requires : goal.plane_nets-requires
plane_nets-requires c =
    let few : length c.args.planes.now.terms < 2 ^ 20 = omega (arith, c.terms.ensures.array.rows_fit, c.terms.ensures.array.few_rows) in
    rw (c.inputs.ensures, c.nets.ensures.nets, c.part.ensures) (terms_near _ _ _ few c.requires.inputs)

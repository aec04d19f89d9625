use Rattle.std.proofs.Common.{◌+◌, ◌≤◌, length, ap, arith}
use Rattle.report_text.proofs.AreaBounds.{area_fits}
use Rattle.report_text.proofs.LeafTotals.{few_leaves, few_wires}
use Rattle.report_text.proofs.figures.count_figures.Goals as goal

-- src/figures.rt
pub overflow_mul-result : goal.overflow_mul-result
overflow_mul-result c = omega (arith, few_leaves c.args.spec.now c.lines.ensures.specification, c.requires.leaves)

pub array_figures-requires-clause-few : goal.array_figures-requires-clause-few
array_figures-requires-clause-few c = omega (arith, few_leaves c.args.spec.now c.lines.ensures.specification, c.requires.leaves)

pub overflow_mul-count : goal.overflow_mul-count
overflow_mul-count c = omega (arith, few_leaves c.args.spec.now c.lines.ensures.specification, c.requires.leaves)

pub level-requires : goal.level-requires
level-requires c = omega (arith, few_leaves c.args.spec.now c.lines.ensures.specification, c.requires.leaves)

pub overflow_mul-result-7 : goal.overflow_mul-result-7
overflow_mul-result-7 c =
    let tables = c.args.spec.now in
    let wires : length c.lines.result.now + length c.symbols.result.now + length c.outputs.result.now ≤ 64 = omega (
      arith,
      ap length c.lines.ensures.lines,
      ap length c.symbols.ensures.symbols,
      ap length c.outputs.ensures.outputs,
      few_wires tables c.lines.ensures.specification,
    ) in
    let fits = area_fits (length c.lines.result.now + length c.symbols.result.now + length c.outputs.result.now) c.args.count wires
    (omega (arith, few_leaves tables c.lines.ensures.specification, c.requires.leaves)) in
    omega (arith, fits)

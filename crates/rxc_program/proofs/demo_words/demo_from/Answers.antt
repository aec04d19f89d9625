use Rattle.std.proofs.Common.{◌≤◌, sym, ◌∙◌, arith}
use Rattle.rxc_program.proofs.DemoWords.{count_within}
use Rattle.rxc_program.proofs.demo_words.demo_from.Goals as goal

-- src/demo_words.rt
pub overflow_cast-result : goal.overflow_cast-result
overflow_cast-result c =
    let few : c.in-Some.leaves ≤ 4096 = count_within _ c.in-Some.leaves (sym c.number.ensures ∙ c.in-Some.is) in
    omega (arith, few)

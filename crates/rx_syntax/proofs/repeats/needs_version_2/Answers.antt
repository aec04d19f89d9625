use Rattle.std.proofs.Common.{◌<◌, ◌∙◌, All, length, subst, sym}
use Rattle.rx_syntax.proofs.RepeatTests.{roots_tested}
use Rattle.rx_syntax.proofs.Roots.{roots_before, roots_behind}
use Rattle.rx_syntax.proofs.repeats.needs_version_2.Goals as goal

pub have_repeat-requires : goal.have_repeat-requires
have_repeat-requires c =
    subst (All (λ root. root < length c.deref.result.now)) (sym c.exprs.ensures.roots)
    (roots_tested c.args.spec.now.nodes c.deref.result.now c.args.spec.now.exprs (c.deref.ensures.value ∙ c.in_ok-repeats.ensures)
    (roots_before c.args.spec.now.exprs c.args.spec.now.scans (length c.args.spec.now.nodes) c.exprs.ensures.specification.roots_in_table))

pub have_repeat-requires-else-have_repeat : goal.have_repeat-requires-else-have_repeat
have_repeat-requires-else-have_repeat c =
    subst (All (λ root. root < length c.deref-else-have_repeat.result.now)) (sym c.scans.ensures.roots)
    (roots_tested c.args.spec.now.nodes c.deref-else-have_repeat.result.now c.args.spec.now.scans
    (c.deref-else-have_repeat.ensures.value ∙ c.in_ok-repeats.ensures)
    (roots_behind c.args.spec.now.exprs c.args.spec.now.scans (length c.args.spec.now.nodes) c.scans.ensures.specification.roots_in_table))

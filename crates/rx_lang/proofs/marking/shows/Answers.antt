use Rattle.std.proofs.Common.{◌<◌, length, All, subst, sym}
use Rattle.rx_lang.proofs.Statements.{roots_before}
use Rattle.rx_lang.proofs.marking.shows.Goals as goal

pub some_marks-requires-clause-in_table : goal.some_marks-requires-clause-in_table
some_marks-requires-clause-in_table c =
    subst (All (λ root. root < length c.args.spec.now.nodes)) (sym c.exprs.ensures.roots)
    (roots_before c.args.spec.now.exprs c.args.spec.now.scans (length c.args.spec.now.nodes) c.exprs.ensures.specification.roots_in_table)

use Rattle.rx_lang.specs.Tables.{specification}
use Rattle.rxc_program.proofs.Reported.{as_report}
use Rattle.rxc_program.proofs.report.report_of.Goals as goal

-- src/report.rt
pub returns : goal.returns
returns c =
    as_report (λ text. text.items) (specification c.args.spec.now) c.in_ok-figures.figures c.in_ok-figures.ensures c.report_text.result
    c.report_text.ensures

use Rattle.rx_lang.specs.Tables.{specification}
use Rattle.rxc_program.proofs.report.report_on.Goals as goal

-- src/report.rt
pub report_of-requires-clause-lines : goal.report_of-requires-clause-lines
report_of-requires-clause-lines c = c.accepted_names_are_names.ensures.lines c.args.text.now _ _ c.in_ok-spec.ensures.accepted

pub report_of-requires-clause-outputs : goal.report_of-requires-clause-outputs
report_of-requires-clause-outputs c = c.accepted_names_are_names.ensures.outputs c.args.text.now _ _ c.in_ok-spec.ensures.accepted

pub returns-in-Ok-clause-report : goal.returns-in-Ok-clause-report
returns-in-Ok-clause-report c = record {
  spec = specification c.in_ok-spec.spec;
  accepted = c.in_ok-spec.ensures.accepted;
  report = c.in-Ok.ensures;
}

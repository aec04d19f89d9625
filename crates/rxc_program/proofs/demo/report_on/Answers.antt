use Rattle.rx_lang.specs.Tables.{specification}
use Rattle.rxc_program.proofs.Reported.{as_demo, lines_named, outputs_named}
use Rattle.rxc_program.proofs.demo.report_on.Goals as goal

-- src/demo.rt
pub figures-requires-clause-lines : goal.figures-requires-clause-lines
figures-requires-clause-lines c = lines_named c.args.start c.args.leaves c.in_ok-spec.spec c.in_ok-spec.ensures.made

pub figures-requires-clause-outputs : goal.figures-requires-clause-outputs
figures-requires-clause-outputs c = outputs_named c.args.start c.args.leaves c.in_ok-spec.spec c.in_ok-spec.ensures.made

pub returns : goal.returns
returns c =
    as_demo (λ text. text.items) (specification c.in_ok-spec.spec) c.in_ok-figures.figures c.in_ok-figures.ensures c.args.start c.args.leaves
    c.in_ok-spec.ensures.made c.demo_text.result c.demo_text.ensures

use Rattle.rxc_program.proofs.Promised.{compiles_accepted, judges_input, reports_none, runs_command, shows_languages}
use Rattle.rxc_program.specs.Endings.{change}
use Rattle.rxc_program.proofs.top.run.Goals as goal

-- src/top.rt
pub returns-in-Ok-clause-run : goal.returns-in-Ok-clause-run
returns-in-Ok-clause-run g c =
    let source = change g.S.Source.left g.S.Source.faults c.args.src.now c.serve.new.src in
    let sink = change g.O.Sink.held g.O.Sink.faults c.args.out.now c.serve.new.out in
    runs_command c.args.words.now source sink c.serve.result c.in-Ok.command c.in-Ok.ensures.command c.serve.ensures

pub returns-in-Ok-clause-compiles : goal.returns-in-Ok-clause-compiles
returns-in-Ok-clause-compiles g c =
    let source = change g.S.Source.left g.S.Source.faults c.args.src.now c.serve.new.src in
    let sink = change g.O.Sink.held g.O.Sink.faults c.args.out.now c.serve.new.out in
    compiles_accepted c.args.words.now source sink c.serve.result (returns-in-Ok-clause-run g c)
    c.inputs_are_judged.ensures.judged c.texts_are_accepted_or_refused.ensures.one_specification

pub returns-in-Ok-clause-languages : goal.returns-in-Ok-clause-languages
returns-in-Ok-clause-languages g c =
    let source = change g.S.Source.left g.S.Source.faults c.args.src.now c.serve.new.src in
    let sink = change g.O.Sink.held g.O.Sink.faults c.args.out.now c.serve.new.out in
    shows_languages c.args.words.now source sink c.serve.result (returns-in-Ok-clause-run g c)
    c.inputs_are_judged.ensures.judged c.networks_show_their_languages.ensures.files

pub returns-in-Ok-clause-known : goal.returns-in-Ok-clause-known
returns-in-Ok-clause-known g c =
    let source = change g.S.Source.left g.S.Source.faults c.args.src.now c.serve.new.src in
    let sink = change g.O.Sink.held g.O.Sink.faults c.args.out.now c.serve.new.out in
    judges_input c.args.words.now source sink c.serve.result (returns-in-Ok-clause-run g c) c.inputs_are_judged.ensures.judged

pub returns-in-Ok-clause-usage : goal.returns-in-Ok-clause-usage
returns-in-Ok-clause-usage g c =
    let source = change g.S.Source.left g.S.Source.faults c.args.src.now c.serve.new.src in
    let sink = change g.O.Sink.held g.O.Sink.faults c.args.out.now c.serve.new.out in
    reports_none c.args.words.now source sink c.serve.result c.in-Ok.command c.in-Ok.ensures.command c.serve.ensures

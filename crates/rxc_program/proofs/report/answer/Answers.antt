use Rattle.std.proofs.Common.{refl, subst}
use Rattle.rxc_program.proofs.Answered.{piece_answers}
use Rattle.rxc_program.specs.Endings.{change}
use Rattle.rxc_program.specs.Reporting.{reporting}
use Rattle.rxc_program.specs.Serving.{TakesPiece}
use Rattle.rxc_program.proofs.report.answer.Goals as goal

-- src/report.rt
pub returns-in-Ok-clause-answers : goal.returns-in-Ok-clause-answers
returns-in-Ok-clause-answers g c =
    let sink = change g.O.Sink.held g.O.Sink.faults c.args.out.now c.write_text.new.out in
    piece_answers sink c.args.text.now reporting c.in-Ok.report.items (refl, c.in-Ok.ensures.report) c.write_text.result
    (subst (λ piece. TakesPiece sink piece c.write_text.result) c.deref.ensures.value c.write_text.ensures.taken)

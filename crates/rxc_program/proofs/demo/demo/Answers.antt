use Rattle.std.proofs.Common.{[], refl, subst}
use Rattle.rxc_program.proofs.Answered.{piece_answers}
use Rattle.rxc_program.specs.Endings.{change}
use Rattle.rxc_program.specs.Reporting.{demonstrating}
use Rattle.rxc_program.specs.Serving.{TakesPiece}
use Rattle.rxc_program.proofs.demo.demo.Goals as goal

-- src/demo.rt
pub returns-in-Ok-clause-answers : goal.returns-in-Ok-clause-answers
returns-in-Ok-clause-answers g c =
    let sink = change g.O.Sink.held g.O.Sink.faults c.args.out.now c.write_text.new.out in
    piece_answers sink [] (demonstrating c.args.start c.args.leaves) c.in-Ok.text.items (refl, c.in-Ok.ensures) c.write_text.result
    (subst (λ piece. TakesPiece sink piece c.write_text.result) c.deref.ensures.value c.write_text.ensures.taken)

use Rattle.rxc_program.proofs.Extracted.{extract_answers}
use Rattle.rxc_program.specs.Endings.{change}
use Rattle.rxc_program.proofs.extract.answer.Goals as goal

-- src/extract.rt
pub returns-in-Ok-clause-answers : goal.returns-in-Ok-clause-answers
returns-in-Ok-clause-answers g c =
    let sink = change g.O.Sink.held g.O.Sink.faults c.args.out.now c.write_network.new.out in
    let layout = c.in-Ok.ensures.layout in
    extract_answers sink c.args.text.now c.in-Ok.network layout (c.layouts_stand_for_networks.ensures c.args.text.now c.in-Ok.network layout.drawn)
    (c.layouts_have_one_reading.ensures.named c.args.text.now c.in-Ok.network layout)
    c.write_network.result c.write_network.ensures.taken

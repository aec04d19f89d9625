use Rattle.net_text.specs.NetworkText.{network_text}
use Rattle.rxc_program.proofs.Answered.{compiled, file_answers}
use Rattle.rxc_program.specs.Endings.{change}
use Rattle.rxc_program.specs.Files.{network_file}
use Rattle.rxc_program.proofs.net.answer.Goals as goal

-- src/net.rt
pub returns-in-Ok-clause-answers : goal.returns-in-Ok-clause-answers
returns-in-Ok-clause-answers g c =
    let made = c.in-Ok.ensures.network in
    let names = c.accepted_names_are_names.ensures in
    let sink = change g.O.Sink.held g.O.Sink.faults c.args.out.now c.write_network.new.out in
    let text = c.args.text.now in
    let is = compiled sink text made.0 c.in-Ok.network made.1 made.2 c.in-Ok.ensures.valid.0 c.in-Ok.ensures.valid.1
    (names.lines text _ made.0 made.1) (names.outputs text _ made.0 made.1) in
    file_answers sink text network_file (network_text c.in-Ok.network) is c.write_network.result c.write_network.ensures.taken

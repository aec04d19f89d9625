use Rattle.rxc_program.proofs.Chips.{NetLaws, chip_laws}
use Rattle.rxc_program.proofs.DrivenJudged.{TraceLaws}
use Rattle.rxc_program.proofs.Files.{file_tells}
use Rattle.rxc_program.proofs.Telling.{tells_languages}
use Rattle.rxc_program.proofs.laws.networks_show_their_languages.Goals as goal

-- src/laws.rt
pub returns-clause-networks : goal.returns-clause-networks
returns-clause-networks c = λ spec text output vectors circuit is driven shown. tells_languages spec circuit is vectors output driven.widths shown

pub returns-clause-files : goal.returns-clause-files
returns-clause-files c = λ text spec vectors driven.
    let trace = c.texts_are_traces_or_refused.ensures in
    let net = c.texts_are_networks_or_refused.ensures in
    let traces : TraceLaws = record { either = trace.either; exclusive = trace.exclusive; one_trace = trace.one_trace; one_refusal = trace.one_refusal } in
    let nets : NetLaws = record {
      either = net.either;
      exclusive = net.exclusive;
      one_network = c.text_is_of_one_network.ensures;
      one_refusal = net.one_refusal;
    } in
    let chips = chip_laws nets c.layouts_have_one_reading.ensures c.layouts_stand_for_networks.ensures c.same_networks_agree.ensures.reflexive in
    file_tells traces chips c.same_networks_run_alike.ensures.run spec text vectors driven

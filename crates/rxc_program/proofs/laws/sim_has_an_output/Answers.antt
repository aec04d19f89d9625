use Rattle.rxc_program.proofs.Chips.{NetLaws, chip_laws}
use Rattle.rxc_program.proofs.OneOutput.{parts_valid}
use Rattle.rxc_program.proofs.laws.sim_has_an_output.Goals as goal

-- src/laws.rt
pub returns : goal.returns
returns c = λ text vectors circuit drives.
    let net = c.texts_are_networks_or_refused.ensures in
    let nets : NetLaws = record {
      either = net.either;
      exclusive = net.exclusive;
      one_network = c.text_is_of_one_network.ensures;
      one_refusal = net.one_refusal;
    } in
    let chips = chip_laws nets c.layouts_have_one_reading.ensures c.layouts_stand_for_networks.ensures c.same_networks_agree.ensures.reflexive in
    let output = c.traces_have_an_output.ensures circuit (parts_valid chips text vectors circuit drives.parts) vectors in
    (output.0, record { vectors = vectors; circuit = circuit; drives = drives; shown = output.1 })

use Rattle.rxc_program.proofs.Chips.{NetLaws, chip_laws}
use Rattle.rxc_program.proofs.DrivenJudged.{TraceLaws}
use Rattle.rxc_program.proofs.OneOutput.{one_output}
use Rattle.rxc_program.proofs.laws.sim_has_one_output.Goals as goal

-- src/laws.rt
pub returns : goal.returns
returns c = λ text some others first second.
    let trace = c.texts_are_traces_or_refused.ensures in
    let net = c.texts_are_networks_or_refused.ensures in
    let traces : TraceLaws = record { either = trace.either; exclusive = trace.exclusive; one_trace = trace.one_trace; one_refusal = trace.one_refusal } in
    let nets : NetLaws = record {
      either = net.either;
      exclusive = net.exclusive;
      one_network = c.text_is_of_one_network.ensures;
      one_refusal = net.one_refusal;
    } in
    let chips = chip_laws nets c.layouts_have_one_reading.ensures c.layouts_stand_for_networks.ensures c.same_networks_agree.ensures.reflexive in
    one_output traces chips c.same_networks_run_alike.ensures.run text c.traces_have_one_output.ensures some others first second

use Rattle.rxc_program.proofs.Chips.{NetLaws, chip_laws}
use Rattle.rxc_program.proofs.DrivenJudged.{TraceLaws}
use Rattle.rxc_program.proofs.Judged.{decided, judged}
use Rattle.rxc_program.proofs.laws.inputs_are_judged.Goals as goal

-- src/laws.rt
pub returns-clause-judged : goal.returns-clause-judged
returns-clause-judged c =
    let law = c.texts_are_accepted_or_refused_at_a_place.ensures in
    let trace = c.texts_are_traces_or_refused.ensures in
    let net = c.texts_are_networks_or_refused.ensures in
    let layouts = c.layouts_have_one_reading.ensures in
    let traces : TraceLaws = record { either = trace.either; exclusive = trace.exclusive; one_trace = trace.one_trace; one_refusal = trace.one_refusal } in
    let nets : NetLaws = record {
      either = net.either;
      exclusive = net.exclusive;
      one_network = c.text_is_of_one_network.ensures;
      one_refusal = net.one_refusal;
    } in
    judged law.either law.exclusive law.one_refusal traces (chip_laws nets layouts c.layouts_stand_for_networks.ensures c.same_networks_agree.ensures.reflexive) layouts

pub returns-clause-decided : goal.returns-clause-decided
returns-clause-decided c =
    let law = c.texts_are_accepted_or_refused_at_a_place.ensures in
    let trace = c.texts_are_traces_or_refused.ensures in
    let net = c.texts_are_networks_or_refused.ensures in
    let layouts = c.layouts_have_one_reading.ensures in
    let traces : TraceLaws = record { either = trace.either; exclusive = trace.exclusive; one_trace = trace.one_trace; one_refusal = trace.one_refusal } in
    let nets : NetLaws = record {
      either = net.either;
      exclusive = net.exclusive;
      one_network = c.text_is_of_one_network.ensures;
      one_refusal = net.one_refusal;
    } in
    decided law.either law.exclusive law.one_refusal traces (chip_laws nets layouts c.layouts_stand_for_networks.ensures c.same_networks_agree.ensures.reflexive) layouts

use Rattle.switch_sim.proofs.OneTrace.{traced_or_refused, one_refusal, one_trace, not_both}
use Rattle.switch_sim.proofs.laws.texts_are_traces_or_refused.Goals as goal

pub returns : goal.returns
returns c = record {
  either = traced_or_refused;
  exclusive = not_both;
  one_trace = one_trace;
  one_refusal = one_refusal;
}

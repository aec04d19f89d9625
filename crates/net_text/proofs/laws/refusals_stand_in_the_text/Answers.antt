use Rattle.net_text.proofs.RefusalLines.{refusal_within}
use Rattle.net_text.proofs.laws.refusals_stand_in_the_text.Goals as goal

pub returns : goal.returns
returns c = refusal_within

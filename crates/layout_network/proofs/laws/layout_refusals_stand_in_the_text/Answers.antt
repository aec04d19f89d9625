use Rattle.std.proofs.Common.{refl}
use Rattle.layout_network.proofs.RefusalPlaces.{refusal_within}
use Rattle.layout_network.proofs.laws.layout_refusals_stand_in_the_text.Goals as goal

-- src/laws.rt
pub returns : goal.returns
returns c = λ text code line column refused. refusal_within text code _ refused line column refl

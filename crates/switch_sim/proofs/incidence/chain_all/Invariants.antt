use Rattle.switch_sim.specs.Incidence.{AreEarlier, AreLast}
use Rattle.switch_sim.proofs.incidence.chain_all.Given as goal

abbrev pub invariant-loop-at : goal.invariant-loop-at
invariant-loop-at l = record {
  last : AreLast l.devices l.at l.last;
  earlier : AreEarlier l.devices l.at l.earlier;
}

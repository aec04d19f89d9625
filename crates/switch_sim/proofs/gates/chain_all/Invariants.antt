use Rattle.switch_sim.specs.Gating.{AreEarlierGated, AreLastGated}
use Rattle.switch_sim.proofs.gates.chain_all.Given as goal

abbrev pub invariant-loop-at : goal.invariant-loop-at
invariant-loop-at l = record {
  last : AreLastGated l.devices l.at l.last;
  earlier : AreEarlierGated l.devices l.at l.earlier;
}

use Rattle.std.proofs.Common.{◌≡◌, ◌≤◌, ◌-◌, length, drop}
use Rattle.switch_sim.specs.TraceCuts.{cut, AreEnds}
use Rattle.switch_sim.specs.TraceTexts.{lines_of, first_fault, trace_fault}
use Rattle.switch_sim.proofs.Reading.{SoFar}
use Rattle.switch_sim.proofs.trace.read_trace.Given as goal

abbrev pub invariant-loop-spot : goal.invariant-loop-spot
invariant-loop-spot l = record {
  read : SoFar l.text l.at (cut 0 l.ends.items l.bits.items);
  cuts : AreEnds 0 l.ends.items l.bits.items;
  few : length l.ends.items ≤ 10000;
  faults : trace_fault l.text ≡ first_fault (length l.ends.items) l.at (lines_of (drop l.at l.text));
  within : l.at ≤ length l.text;
}

abbrev pub decreases-loop-spot : goal.decreases-loop-spot
decreases-loop-spot l = length l.text - l.at

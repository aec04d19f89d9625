use Rattle.std.proofs.Common.{◌-◌, length}
use Rattle.net_text.specs.Steps.{ReadTo}
use Rattle.net_text.proofs.reading.read_parts.Given as goal

abbrev pub invariant-loop-parts : goal.invariant-loop-parts
invariant-loop-parts l = record {
  read : ReadTo l.text l.parts.nets l.parts.pads.items l.parts.devices.items l.at;
}

abbrev pub decreases-loop-parts : goal.decreases-loop-parts
decreases-loop-parts l = length l.text - l.at

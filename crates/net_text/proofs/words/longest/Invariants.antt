use Rattle.std.proofs.Common.{◌≡◌, ◌≤◌, ◌+◌, length, drop, take}
use Rattle.net_text.specs.Reading.{longest}
use Rattle.net_text.proofs.words.longest.Given as goal

abbrev pub invariant-loop-kind : goal.invariant-loop-kind
invariant-loop-kind l = record {
  most : l.most ≡ longest (take l.kind-index l.kinds) (drop l.at l.text);
  inside : l.at + l.most ≤ length l.text;
}

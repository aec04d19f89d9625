use Rattle.std.proofs.Common.{◌≡◌, ◌≤◌, ◌+◌, ◌-◌, length, drop}
use Rattle.net_text.specs.Reading.{agreeing}
use Rattle.net_text.proofs.words.agreeing.Given as goal

abbrev pub invariant-loop-count : goal.invariant-loop-count
invariant-loop-count l = record {
  counted : agreeing l.word l.rest ≡ l.count + agreeing (drop l.count l.word) (drop l.count l.rest);
  within : l.count ≤ length l.word;
  inside : l.count ≤ length l.rest;
}

abbrev pub decreases-loop-count : goal.decreases-loop-count
decreases-loop-count l = length l.word - l.count

use Rattle.std.proofs.Common.{◌≡◌, ◌≤◌, ◌-◌, vec_len}
use Rattle.std.specs.Io.KnownBytes.{Consumes}
use Rattle.rx_io.proofs.reading.read_all.Given as goal

-- what the source has lost is what was gathered
abbrev pub invariant-loop-bytes : goal.invariant-loop-bytes
invariant-loop-bytes g l = record {
  gathered : Consumes (g.S.Source.left l.fn.src) (g.S.Source.left l.src) l.bytes.items;
  within : vec_len l.bytes ≤ l.most;
  room : vec_len l.buffer ≡ 65536;
  count : g.S.Source.faults l.src ≡ g.S.Source.faults l.fn.src;
}

abbrev pub decreases-loop-bytes : goal.decreases-loop-bytes
decreases-loop-bytes g l = l.most - vec_len l.bytes

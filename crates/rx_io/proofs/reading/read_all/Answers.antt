use Rattle.std.proofs.Common.{arith}
use Rattle.rx_io.proofs.Fronts.{LosesBeyond-more, LosesUpTo-more}
use Rattle.rx_io.proofs.reading.read_all.Goals as goal

pub returns-then-most-len-clause-too_long : goal.returns-then-most-len-clause-too_long
returns-then-most-len-clause-too_long g c =
    let room = c.in_ok-count.ensures.bound.0 in
    λ _. LosesBeyond-more _ _ _ _ _ _ _ _ c.loop-bytes.invariant.gathered c.in_ok-count.ensures.bytes.0 (omega arith) (omega arith) room (omega arith)

pub returns-in_err-extend_from_slice-clause-no_memory : goal.returns-in_err-extend_from_slice-clause-no_memory
returns-in_err-extend_from_slice-clause-no_memory g c =
    λ _. LosesUpTo-more _ _ _ _ _ _ _ c.loop-bytes.invariant.gathered c.in_ok-count.ensures.bytes.0 (omega arith)

use Rattle.std.proofs.Common.{◌<◌, ◌≤◌, length, arith}
use Rattle.std.specs.List.{prefix_len}
use Rattle.switch_sim.specs.TraceTexts.{is_bit}
use Rattle.switch_sim.proofs.LineFaults.{too_many_first, bad_bit_first, no_fault}
use Rattle.switch_sim.proofs.trace.line_fault.Goals as goal

pub returns-then-count-ge-MOST_VECTORS-clause-fault : goal.returns-then-count-ge-MOST_VECTORS-clause-fault
returns-then-count-ge-MOST_VECTORS-clause-fault c =
    let some : 0 < prefix_len is_bit c.args.line.now = omega (arith, c.bit_count-good.ensures.count) in
    too_many_first c.args.count c.args.at c.args.line.now some c.if-count-ge-MOST_VECTORS.true

pub returns-then-good-line-clause-fault : goal.returns-then-good-line-clause-fault
returns-then-good-line-clause-fault c =
    let below : prefix_len is_bit c.args.line.now < length c.args.line.now = omega (arith, c.bit_count-good.ensures.count) in
    rw c.bit_count-good.ensures.count (bad_bit_first c.args.count c.args.at c.args.line.now c.if-count-ge-MOST_VECTORS.false below)

pub returns-clause-fault : goal.returns-clause-fault
returns-clause-fault c =
    let some : 0 < prefix_len is_bit c.args.line.now = omega (arith, c.bit_count-good.ensures.count) in
    let all : length c.args.line.now ≤ prefix_len is_bit c.args.line.now = omega (arith, c.bit_count-good.ensures.count) in
    no_fault c.args.count c.args.at c.args.line.now some c.if-count-ge-MOST_VECTORS.false all

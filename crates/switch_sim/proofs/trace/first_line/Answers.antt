use Rattle.std.proofs.Common.{◌<◌, ◌≤◌, length, take, sym, ap, ◌∙◌, arith}
use Rattle.std.specs.List.{prefix_len}
use Rattle.switch_sim.specs.TraceTexts.{first_fault}
use Rattle.switch_sim.specs.TraceReading.{not_line_feed, ended_line}
use Rattle.switch_sim.proofs.TextLines.{unsplit, ended}
use Rattle.switch_sim.proofs.trace.first_line.Goals as goal

pub returns-then-width-rest-clause-fault : goal.returns-then-width-rest-clause-fault
returns-then-width-rest-clause-fault c =
    let whole : length c.args.rest.now ≤ prefix_len not_line_feed c.args.rest.now = omega (arith, c.line_length-width.ensures.count) in
    ap (first_fault c.args.count c.args.at) (unsplit c.args.rest.now whole) ∙ sym c.last_fault.ensures.fault

pub returns-else-width-rest-clause-line : goal.returns-else-width-rest-clause-line
returns-else-width-rest-clause-line c =
    let below : prefix_len not_line_feed c.args.rest.now < length c.args.rest.now =
    omega (arith, c.line_length-width.ensures.count, c.line_length-width.ensures.within) in
    (ended c.args.rest.now c.args.count c.args.at below c.ended_line.result
    (c.ended_line.ensures.line ∙ ap (λ n. ended_line c.args.count c.args.at (take n c.args.rest.now)) c.line_length-width.ensures.count)).0

pub returns-else-width-rest-clause-fault : goal.returns-else-width-rest-clause-fault
returns-else-width-rest-clause-fault c =
    let below : prefix_len not_line_feed c.args.rest.now < length c.args.rest.now =
    omega (arith, c.line_length-width.ensures.count, c.line_length-width.ensures.within) in
    (ended c.args.rest.now c.args.count c.args.at below c.ended_line.result
    (c.ended_line.ensures.line ∙ ap (λ n. ended_line c.args.count c.args.at (take n c.args.rest.now)) c.line_length-width.ensures.count)).1

-- A line is found where it stands, and none elsewhere.
use Rattle.std.proofs.Common.{◌-◌, ◌/◌, sym, arith}
use Rattle.node_cell.proofs.Places.{found, none_found}
use Rattle.node_cell.proofs.lines.every_second.Goals as goal
use Rattle.node_cell.proofs.lines.every_second.Goals.{else-first-at-via-then-first-at+then-at-first-eq0+else-at-first, else-first-at-via-then-first-at+else-at-first-eq0, else-first-at-via-else-first-at}

pub returns-then-at-first-clause-line : goal.returns-then-at-first-clause-line
returns-then-at-first-clause-line c =
    let first = c.args.first in
    let at = c.args.at in
    let low = c.if-first-at.true in
    let even = c.if-at-first-eq0.true in
    let few = c.if-at-first.true in
    sym (found first c.args.count at ((at - first) / 2) few (omega (arith, low, even)))

pub returns-else-first-at-clause-line : goal.returns-else-first-at-clause-line
returns-else-first-at-clause-line c =
    let first = c.args.first in
    let at = c.args.at in
    sym (none_found first c.args.count at (λ i below e. elim c.else-first-at.branch [
      | else-first-at-via-then-first-at+then-at-first-eq0+else-at-first w ↦
          let low = w.if-first-at.true in
          let even = w.if-at-first-eq0.true in
          let many = w.if-at-first.false in
          omega (arith, low, even, many, below, e)
      | else-first-at-via-then-first-at+else-at-first-eq0 w ↦
          let low = w.if-first-at.true in
          let odd = w.if-at-first-eq0.false in
          odd (omega (arith, low, e))
      | else-first-at-via-else-first-at w ↦
          let high = w.if-first-at.false in
          omega (arith, high, e)
    ]))

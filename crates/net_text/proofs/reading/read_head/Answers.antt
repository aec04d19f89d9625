use Rattle.std.proofs.Common.{rules, sym, ◌∙◌, arith}
use Rattle.std.specs.Prelude.{codes}
use Rattle.net_text.proofs.DueHead.{head_read, count_read, lines_due}
use Rattle.net_text.proofs.LinesRead.{head_parts}
use Rattle.net_text.proofs.Steps.{Reads-number, Reads-word}
use Rattle.net_text.specs.Stages.{IsFirst}
use Rattle.net_text.specs.declared.net_fault.NetCode.TheVariants.{N5}
use Rattle.net_text.proofs.reading.read_head.Goals as goal

pub returns-in_err-at-clause-fault : goal.returns-in_err-at-clause-fault
returns-in_err-at-clause-fault c =
    let stopped = rw (sym c.behind_word.ensures ∙ c.in_err-at.was) at (head_read 0 c.args.text.now) in
    let first : IsFirst c.args.text.now c.in_err-at.field-0.0 = stopped.first in
    search rules

pub returns-in_err-nets-clause-fault : goal.returns-in_err-nets-clause-fault
returns-in_err-nets-clause-fault c =
    let head = rw (sym c.behind_word.ensures ∙ c.in_ok-at.was) at (head_read 0 c.args.text.now) in
    let stopped = rw (sym c.number_before.ensures ∙ c.in_err-nets.was) at (count_read 0 c.args.text.now c.in_ok-at.at head) in
    let first : IsFirst c.args.text.now c.in_err-nets.field-0.0 = stopped.first in
    search rules

pub returns-clause-read : goal.returns-clause-read
returns-clause-read c =
    let word = Reads-word (codes "rxnet 1\nnets ") c.args.text.now 0 c.in_ok-at.at (omega arith) (sym c.behind_word.ensures ∙ c.in_ok-at.was) in
    let number = Reads-number 16777217 N5 (codes "\n") c.args.text.now c.in_ok-at.at c.in_ok-nets.nets c.in_ok-nets.next word.within (omega arith)
    (sym c.number_before.ensures ∙ c.in_ok-nets.was) in
    let head = rw (sym c.behind_word.ensures ∙ c.in_ok-at.was) at (head_read c.in_ok-nets.nets c.args.text.now) in
    let count = rw (sym c.number_before.ensures ∙ c.in_ok-nets.was) at (count_read c.in_ok-nets.nets c.args.text.now c.in_ok-at.at head) in
    head_parts c.in_ok-nets.nets word number.0 number.1 (lines_due c.in_ok-nets.nets c.args.text.now c.in_ok-at.at c.in_ok-nets.next head count)

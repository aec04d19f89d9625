use Rattle.std.proofs.Common.{rules, refl, true}
use Rattle.net_text.specs.Stages.{LinesDue, IsFirst}
use Rattle.net_text.proofs.DueNets.{net_read}
use Rattle.net_text.proofs.LinesRead.{pad_read}
use Rattle.net_text.proofs.reading.read_pad.Goals as goal

pub returns-clause-read : goal.returns-clause-read
returns-clause-read c = pad_read c.args.nets c.in_ok-net.net c.in_ok-name.ensures.read c.in_ok-net.ensures.reads c.in_ok-net.ensures.below

pub returns-clause-due : goal.returns-clause-due
returns-clause-due c =
    let named = c.in_ok-name.ensures.due c.args.nets c.requires.due in
    rw c.in_ok-net.ensures.number at
    (net_read c.args.nets c.args.text.now c.in_ok-name.at c.in_ok-name.ensures.read.reads.within {K = LinesDue true} 10 refl named c.in_ok-name.ensures.space)

pub returns-in_err-name-clause-fault : goal.returns-in_err-name-clause-fault
returns-in_err-name-clause-fault c =
    let first : IsFirst c.args.text.now c.in_err-name.field-0.0 = c.in_err-name.ensures.fault c.args.nets c.requires.due in
    search rules

pub returns-in_err-net-clause-fault : goal.returns-in_err-net-clause-fault
returns-in_err-net-clause-fault c =
    let named = c.in_ok-name.ensures.due c.args.nets c.requires.due in
    let stopped = rw c.in_err-net.ensures.fault at
    (net_read c.args.nets c.args.text.now c.in_ok-name.at c.in_ok-name.ensures.read.reads.within {K = LinesDue true} 10 refl named c.in_ok-name.ensures.space) in
    let first : IsFirst c.args.text.now c.in_err-net.field-0.0 = stopped.first in
    search rules

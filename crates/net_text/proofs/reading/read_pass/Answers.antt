use Rattle.std.proofs.Common.{rules, refl, false}
use Rattle.net_text.specs.Stages.{DeviceNet, TwoNets, LinesDue, IsFirst}
use Rattle.net_text.proofs.DueNets.{net_read}
use Rattle.net_text.proofs.LinesRead.{pass_read}
use Rattle.net_text.proofs.Placed.{ends_in_space}
use Rattle.net_text.proofs.reading.read_pass.Goals as goal

pub returns-clause-read : goal.returns-clause-read
returns-clause-read c =
    pass_read c.args.nets c.in_ok-gate.gate c.in_ok-a.a c.in_ok-b.b c.in_ok-gate.ensures.reads c.in_ok-a.ensures.reads c.in_ok-b.ensures.reads
    c.in_ok-gate.ensures.below c.in_ok-a.ensures.below c.in_ok-b.ensures.below

pub returns-clause-due : goal.returns-clause-due
returns-clause-due c =
    let gate = rw c.in_ok-gate.ensures.number at
    (net_read c.args.nets c.args.text.now c.args.at c.requires.within {K = TwoNets} 32 refl c.requires.due c.requires.space) in
    let a = rw c.in_ok-a.ensures.number at
    (net_read c.args.nets c.args.text.now c.in_ok-gate.at c.in_ok-gate.ensures.reads.within {K = DeviceNet} 32 refl gate (ends_in_space _ c.in_ok-gate.ensures.reads)) in
    rw c.in_ok-b.ensures.number at
    (net_read c.args.nets c.args.text.now c.in_ok-a.at c.in_ok-a.ensures.reads.within {K = LinesDue false} 10 refl a (ends_in_space _ c.in_ok-a.ensures.reads))

pub returns-in_err-gate-clause-fault : goal.returns-in_err-gate-clause-fault
returns-in_err-gate-clause-fault c =
    let stopped = rw c.in_err-gate.ensures.fault at
    (net_read c.args.nets c.args.text.now c.args.at c.requires.within {K = TwoNets} 32 refl c.requires.due c.requires.space) in
    let first : IsFirst c.args.text.now c.in_err-gate.field-0.0 = stopped.first in
    search rules

pub returns-in_err-a-clause-fault : goal.returns-in_err-a-clause-fault
returns-in_err-a-clause-fault c =
    let gate = rw c.in_ok-gate.ensures.number at
    (net_read c.args.nets c.args.text.now c.args.at c.requires.within {K = TwoNets} 32 refl c.requires.due c.requires.space) in
    let stopped = rw c.in_err-a.ensures.fault at
    (net_read c.args.nets c.args.text.now c.in_ok-gate.at c.in_ok-gate.ensures.reads.within {K = DeviceNet} 32 refl gate (ends_in_space _ c.in_ok-gate.ensures.reads)) in
    let first : IsFirst c.args.text.now c.in_err-a.field-0.0 = stopped.first in
    search rules

pub returns-in_err-b-clause-fault : goal.returns-in_err-b-clause-fault
returns-in_err-b-clause-fault c =
    let gate = rw c.in_ok-gate.ensures.number at
    (net_read c.args.nets c.args.text.now c.args.at c.requires.within {K = TwoNets} 32 refl c.requires.due c.requires.space) in
    let a = rw c.in_ok-a.ensures.number at
    (net_read c.args.nets c.args.text.now c.in_ok-gate.at c.in_ok-gate.ensures.reads.within {K = DeviceNet} 32 refl gate (ends_in_space _ c.in_ok-gate.ensures.reads)) in
    let stopped = rw c.in_err-b.ensures.fault at
    (net_read c.args.nets c.args.text.now c.in_ok-a.at c.in_ok-a.ensures.reads.within {K = LinesDue false} 10 refl a (ends_in_space _ c.in_ok-a.ensures.reads)) in
    let first : IsFirst c.args.text.now c.in_err-b.field-0.0 = stopped.first in
    search rules

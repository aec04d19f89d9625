use Rattle.std.proofs.Common.{rules, refl, sym, ◌∙◌}
use Rattle.net_text.specs.Stages.{PadNet, IsFirst}
use Rattle.net_text.proofs.DueNets.{pad_name_read}
use Rattle.net_text.proofs.LinesRead.{named_pad, plain_pad}
use Rattle.net_text.proofs.Placed.{ends_in_space}
use Rattle.net_text.proofs.Steps.{Reads-name}
use Rattle.net_text.proofs.reading.read_pad_name.Goals as goal

pub returns-in_ok-name-in-Input-clause-read : goal.returns-in_ok-name-in-Input-clause-read
returns-in_ok-name-in-Input-clause-read c =
    let read = Reads-name c.args.text.now c.args.at c.in_ok-name-in-Input.next c.in_ok-name-in-Input.name c.requires.within
    (sym c.name_before_space.ensures ∙ c.in_ok-name-in-Input.was) in
    rw (c.in-Input.is, c.input.ensures) (named_pad _ _ _ _ _ refl read.0 read.1)

pub returns-in_ok-name-in-Output-clause-read : goal.returns-in_ok-name-in-Output-clause-read
returns-in_ok-name-in-Output-clause-read c =
    let read = Reads-name c.args.text.now c.args.at c.in_ok-name-in-Output.next c.in_ok-name-in-Output.name c.requires.within
    (sym c.name_before_space-in-Output.ensures ∙ c.in_ok-name-in-Output.was) in
    rw (c.in-Output.is, c.output.ensures) (named_pad _ _ _ _ _ refl read.0 read.1)

pub returns-in_ok-name-in-Input-clause-due : goal.returns-in_ok-name-in-Input-clause-due
returns-in_ok-name-in-Input-clause-due c nets due =
    rw (sym c.name_before_space.ensures ∙ c.in_ok-name-in-Input.was) at
    (pad_name_read nets c.args.text.now c.args.at c.requires.within {K = PadNet} (rw c.in-Input.is at due))

pub returns-in_ok-name-in-Output-clause-due : goal.returns-in_ok-name-in-Output-clause-due
returns-in_ok-name-in-Output-clause-due c nets due =
    rw (sym c.name_before_space-in-Output.ensures ∙ c.in_ok-name-in-Output.was) at
    (pad_name_read nets c.args.text.now c.args.at c.requires.within {K = PadNet} (rw c.in-Output.is at due))

pub returns-in_ok-name-in-Input-clause-space : goal.returns-in_ok-name-in-Input-clause-space
returns-in_ok-name-in-Input-clause-space c =
    let read = Reads-name c.args.text.now c.args.at c.in_ok-name-in-Input.next c.in_ok-name-in-Input.name c.requires.within
    (sym c.name_before_space.ensures ∙ c.in_ok-name-in-Input.was) in
    ends_in_space _ read.0

pub returns-in_ok-name-in-Output-clause-space : goal.returns-in_ok-name-in-Output-clause-space
returns-in_ok-name-in-Output-clause-space c =
    let read = Reads-name c.args.text.now c.args.at c.in_ok-name-in-Output.next c.in_ok-name-in-Output.name c.requires.within
    (sym c.name_before_space-in-Output.ensures ∙ c.in_ok-name-in-Output.was) in
    ends_in_space _ read.0

pub returns-in_err-name-in-Input-clause-fault : goal.returns-in_err-name-in-Input-clause-fault
returns-in_err-name-in-Input-clause-fault c nets due =
    let stopped = rw (sym c.name_before_space.ensures ∙ c.in_err-name-in-Input.was) at
    (pad_name_read nets c.args.text.now c.args.at c.requires.within {K = PadNet} (rw c.in-Input.is at due)) in
    let first : IsFirst c.args.text.now c.in_err-name-in-Input.field-0.0 = stopped.first in
    search rules

pub returns-in_err-name-in-Output-clause-fault : goal.returns-in_err-name-in-Output-clause-fault
returns-in_err-name-in-Output-clause-fault c nets due =
    let stopped = rw (sym c.name_before_space-in-Output.ensures ∙ c.in_err-name-in-Output.was) at
    (pad_name_read nets c.args.text.now c.args.at c.requires.within {K = PadNet} (rw c.in-Output.is at due)) in
    let first : IsFirst c.args.text.now c.in_err-name-in-Output.field-0.0 = stopped.first in
    search rules

pub returns-in_default : goal.returns-in_default
returns-in_default c =
    let plain = plain_pad c.args.text.now c.args.at c.requires.within c.args.role c.in_default.not-Input c.in_default.not-Output in
    record { read = rw c.plain.ensures plain.0; due = plain.1; space = c.requires.space; fault = λ nets due. tt }

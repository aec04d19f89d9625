use Rattle.std.proofs.Common.{rules, refl, sym, ◌∙◌, false, arith}
use Rattle.std.specs.Prelude.{codes}
use Rattle.net_text.specs.NetworkText.{role_word}
use Rattle.net_text.specs.Stages.{LinesDue, IsFirst}
use Rattle.net_text.proofs.DueNets.{net_read}
use Rattle.net_text.proofs.LinesRead.{pad_more, device_more, end_read, load_read, still_empty, at_end, behind_word, no_word, not_at_end}
use Rattle.net_text.proofs.Placed.{ends_in_space}
use Rattle.net_text.proofs.reading.Parts.read_line.Goals as goal

pub returns-in_err-kind-clause-fault : goal.returns-in_err-kind-clause-fault
returns-in_err-kind-clause-fault c =
    let first : IsFirst c.args.text.now c.in_err-kind.field-0.0 =
    no_word c.args.self.now.nets c.args.text.now c.args.at c.args.self.now.pads.items c.args.self.now.devices c.is_empty.result c.requires c.is_empty.ensures _
    (sym c.first_word.ensures.is ∙ c.in_err-kind.was) in
    search rules

pub read_pad-requires-clause-due : goal.read_pad-requires-clause-due
read_pad-requires-clause-due c =
    rw c.in-Pad.is at
    (behind_word c.args.self.now.nets c.args.text.now c.args.at c.args.self.now.pads.items c.args.self.now.devices c.is_empty.result c.requires c.is_empty.ensures
    c.in_ok-kind.kind c.in_ok-kind.behind (sym c.first_word.ensures.is ∙ c.in_ok-kind.was))

pub read_pad-requires-clause-space : goal.read_pad-requires-clause-space
read_pad-requires-clause-space c = ends_in_space (role_word c.in-Pad.role) (rw c.in-Pad.is at c.in_ok-kind.ensures.reads)

pub returns-in_ok-push-in-Pad-clause-line : goal.returns-in_ok-push-in-Pad-clause-line
returns-in_ok-push-in-Pad-clause-line c =
    let none = still_empty c.args.self.now.devices _ c.is_empty.ensures (c.in_ok-kind.ensures.pads_first c.in-Pad.role c.in-Pad.is) in
    rw c.in_ok-push-in-Pad.ensures.items
    (pad_more c.in_ok-pad-in-Pad.pad none c.requires (rw c.in-Pad.is at c.in_ok-kind.ensures.reads) c.in_ok-pad-in-Pad.ensures.read c.in_ok-pad-in-Pad.ensures.due)

pub read_pass-requires-clause-due : goal.read_pass-requires-clause-due
read_pass-requires-clause-due c =
    rw c.in-Pass.is at
    (behind_word c.args.self.now.nets c.args.text.now c.args.at c.args.self.now.pads.items c.args.self.now.devices c.is_empty.result c.requires c.is_empty.ensures
    c.in_ok-kind.kind c.in_ok-kind.behind (sym c.first_word.ensures.is ∙ c.in_ok-kind.was))

pub read_pass-requires-clause-space : goal.read_pass-requires-clause-space
read_pass-requires-clause-space c = ends_in_space (codes "pass") (rw c.in-Pass.is at c.in_ok-kind.ensures.reads)

pub returns-in_ok-push-in-Pass-clause-line : goal.returns-in_ok-push-in-Pass-clause-line
returns-in_ok-push-in-Pass-clause-line c =
    rw c.in_ok-push-in-Pass.ensures.items
    (device_more c.in_ok-device-in-Pass.device c.requires (rw c.in-Pass.is at c.in_ok-kind.ensures.reads) (omega arith) c.in_ok-device-in-Pass.ensures.read c.in_ok-device-in-Pass.ensures.due)

pub returns-in_err-net-in-Load-clause-fault : goal.returns-in_err-net-in-Load-clause-fault
returns-in_err-net-in-Load-clause-fault c =
    let word = rw c.in-Load.is at c.in_ok-kind.ensures.reads in
    let due = rw c.in-Load.is at
    (behind_word c.args.self.now.nets c.args.text.now c.args.at c.args.self.now.pads.items c.args.self.now.devices c.is_empty.result c.requires c.is_empty.ensures
    c.in_ok-kind.kind c.in_ok-kind.behind (sym c.first_word.ensures.is ∙ c.in_ok-kind.was)) in
    let stopped = rw c.in_err-net-in-Load.ensures.fault at
    (net_read c.args.self.now.nets c.args.text.now c.in_ok-kind.behind word.within {K = LinesDue false} 10 refl due (ends_in_space (codes "load") word)) in
    let first : IsFirst c.args.text.now c.in_err-net-in-Load.field-0.0 = stopped.first in
    search rules

pub returns-in_ok-push-in-Load-clause-line : goal.returns-in_ok-push-in-Load-clause-line
returns-in_ok-push-in-Load-clause-line c =
    let word = rw c.in-Load.is at c.in_ok-kind.ensures.reads in
    let due = rw c.in-Load.is at
    (behind_word c.args.self.now.nets c.args.text.now c.args.at c.args.self.now.pads.items c.args.self.now.devices c.is_empty.result c.requires c.is_empty.ensures
    c.in_ok-kind.kind c.in_ok-kind.behind (sym c.first_word.ensures.is ∙ c.in_ok-kind.was)) in
    let next = rw c.in_ok-net-in-Load.ensures.number at
    (net_read c.args.self.now.nets c.args.text.now c.in_ok-kind.behind word.within {K = LinesDue false} 10 refl due (ends_in_space (codes "load") word)) in
    let load = load_read c.args.self.now.nets c.in_ok-net-in-Load.net c.in_ok-net-in-Load.ensures.reads c.in_ok-net-in-Load.ensures.below in
    rw c.in_ok-push-in-Load.ensures.items (device_more _ c.requires word (omega arith) load next)

pub returns-in_err-end_of_text-in-End-clause-fault : goal.returns-in_err-end_of_text-in-End-clause-fault
returns-in_err-end_of_text-in-End-clause-fault c =
    let due = rw c.in-End.is at
    (behind_word c.args.self.now.nets c.args.text.now c.args.at c.args.self.now.pads.items c.args.self.now.devices c.is_empty.result c.requires c.is_empty.ensures
    c.in_ok-kind.kind c.in_ok-kind.behind (sym c.first_word.ensures.is ∙ c.in_ok-kind.was)) in
    let first : IsFirst c.args.text.now c.in_err-end_of_text-in-End.field-0.0 =
    not_at_end c.args.text.now c.in_ok-kind.behind due _ (sym c.end_of_text.ensures ∙ c.in_err-end_of_text-in-End.was) in
    search rules

pub returns-in_ok-end_of_text-in-End-clause-line : goal.returns-in_ok-end_of_text-in-End-clause-line
returns-in_ok-end_of_text-in-End-clause-line c =
    let due = rw c.in-End.is at
    (behind_word c.args.self.now.nets c.args.text.now c.args.at c.args.self.now.pads.items c.args.self.now.devices c.is_empty.result c.requires c.is_empty.ensures
    c.in_ok-kind.kind c.in_ok-kind.behind (sym c.first_word.ensures.is ∙ c.in_ok-kind.was)) in
    end_read c.requires (rw c.in-End.is at c.in_ok-kind.ensures.reads) (at_end _ _ _ _ (sym c.end_of_text.ensures ∙ c.in_ok-end_of_text-in-End.was)) due

use Rattle.std.proofs.Common.{sym, subst, inl}
use Rattle.rx_lang.specs.Tables.{specification}
use Rattle.rx_syntax.specs.Accepted.{Accepted}
use Rattle.rx_syntax.proofs.AcceptedParts.{accepted_parts, whole_kept}
use Rattle.rx_syntax.proofs.RefusedWithin.{refused_within}
use Rattle.rx_syntax.proofs.read.read_spec.Goals as goal

pub fault_at-requires-clause-within : goal.fault_at-requires-clause-within
fault_at-requires-clause-within c =
    refused_within c.args.text.now c.args.most_leaves c.in-Err.fault.code c.in-Err.fault.at (inl c.in-Err.ensures.fault)

pub new-requires : goal.new-requires
new-requires c =
    whole_kept c.in-Ok.declarations c.in-Ok.ensures.tables c.in_ok-nodes.nodes.items c.in_ok-nodes.exprs.items c.in_ok-nodes.scans.items
    c.in_ok-nodes.ensures.nodes c.in_ok-lines.lines.items c.into_symbols-symbols.result.items c.in_ok-outputs.outputs.items c.in_ok-lines.ensures
    c.into_symbols-symbols.ensures c.in_ok-outputs.ensures

pub returns-clause-accepted : goal.returns-clause-accepted
returns-clause-accepted c =
    subst (λ t. Accepted c.args.text.now c.args.most_leaves (specification t)) (sym c.new.ensures)
    (accepted_parts c.args.text.now c.args.most_leaves c.in-Ok.declarations c.in-Ok.ensures.declares c.in_ok-lines.lines.items
    c.into_symbols-symbols.result.items c.in_ok-outputs.outputs.items c.in_ok-nodes.nodes.items c.in_ok-nodes.exprs.items
    c.in_ok-nodes.scans.items c.in_ok-lines.ensures c.into_symbols-symbols.ensures c.in_ok-outputs.ensures c.in_ok-nodes.ensures.statements
    c.in_ok-nodes.ensures.scans)

pub returns-in-Err-read_names-clause-fault : goal.returns-in-Err-read_names-clause-fault
returns-in-Err-read_names-clause-fault c = c.names_fault.ensures c.args.most_leaves c.in-Err-read_names.ensures.fault

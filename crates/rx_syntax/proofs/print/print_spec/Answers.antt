use Rattle.std.proofs.Common.{◌∙◌, ◌++◌, ◌<◌, All, ap, codes, flat_map, length, subst, sym}
use Rattle.rx_syntax.specs.Pieces.{node_statement}
use Rattle.rx_syntax.specs.Printed.{names_text, symbol_text, version_text}
use Rattle.rx_syntax.proofs.Assembling.{assembled, gone_through}
use Rattle.rx_syntax.proofs.Roots.{roots_before, roots_behind}
use Rattle.rx_syntax.proofs.print.print_spec.Goals as goal

pub put_statements-requires : goal.put_statements-requires
put_statements-requires c =
    subst (All (λ root. root < length c.args.spec.now.nodes)) (sym c.exprs.ensures.roots)
    (roots_before c.args.spec.now.exprs c.args.spec.now.scans (length c.args.spec.now.nodes) c.exprs.ensures.specification.roots_in_table)

pub put_statements-requires-2 : goal.put_statements-requires-2
put_statements-requires-2 c =
    subst (All (λ root. root < length c.args.spec.now.nodes)) (sym c.scans.ensures.roots)
    (roots_behind c.args.spec.now.exprs c.args.spec.now.scans (length c.args.spec.now.nodes) c.scans.ensures.specification.roots_in_table)

pub returns : goal.returns
returns c =
    assembled c.args.spec.now c.new-text.result.items c.put_version.new.text.items c.put_names.new.text.items c.loop-symbol.text.items c.put_names-2.new.text.items
    c.put_statements.new.text.items c.put_statements-2.new.text.items c.new-text.ensures.items
    (c.in_ok-put_version.ensures ∙ ap (λ needed. c.new-text.result.items ++ version_text needed) c.in_ok-needs_version_2.ensures)
    (c.in_ok-put_names.ensures ∙ ap (λ names. c.put_version.new.text.items ++ names_text (codes "line") names) c.lines.ensures.lines)
    (c.loop-symbol.invariant ∙ ap (λ t. c.put_names.new.text.items ++ t)
    (gone_through symbol_text c.symbols-symbol-items.result.now c.args.spec.now.symbols c.loop-symbol.symbol-index c.symbols-symbol-items.ensures.symbols
    c.loop-symbol-test.false))
    (c.in_ok-put_names-2.ensures ∙ ap (λ names. c.loop-symbol.text.items ++ names_text (codes "output") names) c.outputs.ensures.outputs)
    (c.in_ok-put_statements.ensures
    ∙ ap (λ roots. c.put_names-2.new.text.items ++ flat_map (node_statement c.args.spec.now (codes "expr")) roots) c.exprs.ensures.roots)
    (c.in_ok-put_statements-2.ensures
    ∙ ap (λ roots. c.put_statements.new.text.items ++ flat_map (node_statement c.args.spec.now (codes "scan")) roots) c.scans.ensures.roots)

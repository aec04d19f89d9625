use Rattle.std.proofs.Common.{ap, ◌∙◌}
use Rattle.rx_lang.specs.Specification.{NamedPattern}
use Rattle.cell_network.specs.Shapes.{mismatches}
use Rattle.cell_network.proofs.Frames.{symbol_more}
use Rattle.cell_network.proofs.shapes.add_symbol_gates.Goals as goal

pub loop-s-preserved : goal.loop-s-preserved
loop-s-preserved c =
    symbol_more c.args.numbers.now c.args.symbols.now c.loop-s.s c.index-symbols-s.result c.deref.result.now c.args.gates.now.items c.loop-s.gates.items
    c.add_gate.new.gates.items c.loop-s-test.true c.index-symbols-s.is
    (c.deref.ensures.value ∙ c.in_ok-inputs.ensures ∙ ap mismatches c.as_slice.ensures ∙ ap (λ (one : NamedPattern). mismatches one.pattern) c.symbol.view_is)
    c.loop-s.invariant c.in_ok-add_gate.ensures

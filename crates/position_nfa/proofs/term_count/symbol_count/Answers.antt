use Rattle.std.proofs.Common.{◌∙◌, arith}
use Rattle.std.proofs.lemmas.Option.{get_or_from_slice_get}
use Rattle.position_nfa.specs.Terms.{occurs}
use Rattle.position_nfa.proofs.Counted.{symbols_count}
use Rattle.position_nfa.proofs.term_count.symbol_count.Goals as goal

pub returns-clause-count : goal.returns-clause-count
returns-clause-count c =
    c.count_true.ensures.count ∙ symbols_count (occurs c.args.symbols.now c.args.positions.now) c.mark_symbols.new.occurring (omega arith)
    (λ s h. get_or_from_slice_get c.mark_symbols.new.occurring s _ _ (c.mark_symbols.ensures s h))

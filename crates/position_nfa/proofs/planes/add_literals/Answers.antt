use Rattle.std.proofs.Common.{slice_index_or, refl, ap, ◌∙◌}
use Rattle.std.proofs.lemmas.List.{get_or_default}
use Rattle.rx_lang.specs.declared.pattern.PatternBit.{PatternBit}
use Rattle.rx_lang.specs.declared.pattern.PatternBit.TheVariants.{Any}
use Rattle.position_nfa.specs.Registers.{literal}
use Rattle.position_nfa.proofs.PlaneSteps.{literal_more}
use Rattle.position_nfa.proofs.planes.add_literals.Goals as goal

pub loop-line-preserved : goal.loop-line-preserved
loop-line-preserved c =
    literal_more c.args.counts c.args.pattern.now c.loop-line.line _ c.args.inputs.now.items c.loop-line.inputs.items c.add_literal.new.inputs.items
    c.loop-line-test.true c.loop-line.invariant c.in_ok-add_literal.ensures

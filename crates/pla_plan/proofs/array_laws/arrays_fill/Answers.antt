use Rattle.std.proofs.Common.{arith}
use Rattle.position_nfa.specs.Registers.{array_counts}
use Rattle.pla_plan.specs.ArrayOf.{array_of}
use Rattle.pla_plan.proofs.ArrayHeights.{transfers_long}
use Rattle.pla_plan.proofs.Filled.{fills}
use Rattle.pla_plan.proofs.array_laws.arrays_fill.Goals as goal

pub returns : goal.returns
returns c nfa tables automaton known few =
    let array = c.automata_make_arrays.ensures nfa tables automaton known few in
    let long = transfers_long (array_counts nfa tables) in
    fills (array_of nfa tables) array (omega arith) (c.planes_are_plans.ensures (array_of nfa tables) array)
    c.columns_are_of_nets.ensures c.parts_fill_rows.ensures c.tiles_keep_inside.ensures

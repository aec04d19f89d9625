use Rattle.pla_plan.proofs.ArrayDrawn.{registers_drawn}
use Rattle.pla_plan.proofs.array_laws.arrays_draw_registers.Goals as goal

pub returns : goal.returns
returns c nfa tables automaton specification few =
    registers_drawn nfa tables automaton specification few c.automata_make_arrays.ensures c.planes_are_modules.ensures c.columns_are_of_nets.ensures
    c.modules_stand_for_networks.ensures c.same_networks_agree.ensures.transitive

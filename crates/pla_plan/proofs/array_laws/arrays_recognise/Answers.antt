use Rattle.rx_lang.specs.Tables.{specification}
use Rattle.nor_net.specs.SwitchForm.{switch_form}
use Rattle.position_nfa.specs.Registers.{register_netlist}
use Rattle.stick_grid.specs.Plans.{Covers}
use Rattle.pla_plan.specs.Planes.{planes_plan}
use Rattle.pla_plan.specs.ArrayOf.{array_of}
use Rattle.pla_plan.specs.ArrayNetworks.{array_labels}
use Rattle.pla_plan.proofs.ArrayDrawn.{pads_apart}
use Rattle.pla_plan.proofs.ArrayRecognised.{draws}
use Rattle.pla_plan.proofs.ArraySwitch.{is_network}
use Rattle.pla_plan.proofs.array_laws.arrays_recognise.Goals as goal

pub returns : goal.returns
returns c nfa tables automaton known few recogniser =
    draws (specification tables) (Covers (planes_plan (array_of nfa tables))) (array_labels nfa tables) (switch_form (register_netlist nfa tables))
    c.same_networks_agree.ensures.symmetric c.same_networks_run_alike.ensures.show
    (c.arrays_draw_registers.ensures nfa tables automaton known few)
    (is_network nfa tables (record { lines = known.few_lines; positions = automaton.few; outputs = known.few_outputs })
    (c.automata_make_arrays.ensures nfa tables automaton known few) (pads_apart nfa tables known)) recogniser

use Rattle.std.proofs.Common.{subst}
use Rattle.rx_lang.specs.Tables.{specification}
use Rattle.stick_grid.specs.Plans.{Covers}
use Rattle.position_nfa.specs.Automaton.{IsAutomaton}
use Rattle.pla_plan.specs.Planes.{planes_plan}
use Rattle.pla_plan.specs.ArrayOf.{array_of}
use Rattle.pla_plan.specs.ArrayNetworks.{DrawsRecogniser}
use Rattle.rxc_program.proofs.ArrayFiles.{array_files, few_positions}
use Rattle.rxc_program.proofs.pla.array_chip.Goals as goal

-- src/pla.rt
pub returns : goal.returns
returns c =
    let tables = c.args.spec.now in
    let nfa = c.in_ok-nfa.nfa in
    let sound : IsAutomaton nfa = subst IsAutomaton c.nfa.view_is c.nfa.invariant in
    let automaton = c.in_ok-nfa.ensures.automaton (specification tables)
    (record { leaves = c.in_ok-tree.ensures.leaves; letters = c.in_ok-tree.ensures.letters; scan_letters = c.in_ok-tree.ensures.scan_letters }) in
    let few = few_positions (specification tables) nfa automaton c.requires.few in
    let array = c.automata_make_arrays.ensures nfa tables sound c.requires.tables few in
    let labels = c.in_ok-labels.ensures in
    let shows =
    subst (λ ls. DrawsRecogniser (specification tables) (Covers (planes_plan (array_of nfa tables))) ls) labels.labels
    (labels.recogniser few automaton) in
    let sizes = c.arrays_have_sizes.ensures nfa tables automaton in
    let terms = c.registers_have_the_terms.ensures nfa tables sound c.requires.tables automaton in
    let fills = c.arrays_fill.ensures nfa tables sound c.requires.tables few in
    array_files nfa tables c.requires.lines c.requires.outputs c.chip_texts_draw.ensures array
    (c.planes_are_plans.ensures _ array) c.tiles_keep_inside.ensures sizes terms shows fills
    c.in_ok-array.array _ c.in_ok-array.ensures labels.labels
    (λ chip. c.equal_drawings_are_alike.ensures.networks (record { array = c.in_ok-array.array }) (record { chip = chip }))
    (λ chip. c.tiles_keep_rules.ensures (record { chip = chip }))
    c.chip.result c.chip.ensures.squares c.chip.ensures.labels c.chip.ensures.rows

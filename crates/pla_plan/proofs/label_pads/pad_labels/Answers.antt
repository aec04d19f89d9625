-- Each pad is on one of the nets that have a column.
use Rattle.std.proofs.Common.{◌≡◌, ℕ, List, ◌+◌, ◌*◌, ◌<◌, length, map, All, sym, ap, subst, ◌∙◌, arith}
use Rattle.std.proofs.lemmas.List.Elements.{All-from_recursion}
use Rattle.geom.specs.declared.chip.Label.{Label}
use Rattle.rx_lang.specs.Tables.{specification}
use Rattle.switch_net.specs.Circuit.{Circuit}
use Rattle.switch_net.specs.declared.network.Pad.{Pad}
use Rattle.stick_grid.specs.Plans.{Covers}
use Rattle.pla_plan.specs.Planes.{planes_plan}
use Rattle.pla_plan.specs.ArrayOf.{array_of}
use Rattle.pla_plan.specs.ArrayNetworks.{DrawsRecogniser, array_labels, pad_label}
use Rattle.pla_plan.proofs.RecogniserOf.{recogniser_of}
use Rattle.nor_net.specs.Netlist.{Netlist}
use Rattle.position_nfa.specs.declared.array_nets.ArrayCounts.{ArrayCounts}
use Rattle.position_nfa.specs.Registers.{array_counts, array_pads, part_nets, register_netlist}
use Rattle.pla_plan.proofs.ArrayPads.{pads_below}
use Rattle.pla_plan.proofs.ArrayPlaces.{columns_long, same_columns}
use Rattle.pla_plan.proofs.label_pads.pad_labels.Goals as goal

pub labels_of-requires : goal.labels_of-requires
labels_of-requires c =
    let tables = c.args.spec.now in
    let counts : ArrayCounts = array_counts c.args.nfa.now tables in
    let lines = ap length c.lines.ensures.lines in
    let positions = ap length c.symbols.ensures.symbols in
    let outputs = ap length c.outputs.ensures.outputs in
    let all = All-from_recursion (λ (pad : Pad). pad.net.0 < part_nets counts + 0) (array_pads counts tables) (pads_below counts tables 0) in
    let pads_are =
    c.pads.ensures.pads ∙ ap (λ (k : Circuit). k.pads) c.in_ok-network.ensures.form ∙ ap (λ (n : Netlist). n.pads) c.in_ok-net.ensures.netlist in
    let given = subst (All (λ (pad : Pad). pad.net.0 < part_nets counts + 0)) (sym pads_are) all in
    let long = ap length c.deref.ensures.value ∙ ap length c.in_ok-at.ensures
    ∙ columns_long (2 + 2 * length c.lines.result.now + length c.symbols.result.now) (length c.symbols.result.now) (length c.outputs.result.now) in
    λ k d lt. let below = given k d lt in omega arith

pub returns-clause-recogniser : goal.returns-clause-recogniser
returns-clause-recogniser c = λ few known.
    let nfa = c.args.nfa.now in
    let tables = c.args.spec.now in
    let spec = specification tables in
    let shows = c.in_ok-net.ensures.shows (c.automata_show_the_languages.ensures tables nfa c.lines.ensures.specification known) in
    let counts : ArrayCounts = array_counts nfa tables in
    let recogniser = recogniser_of spec c.in_ok-net.net (register_netlist nfa tables) c.in_ok-network.network c.in_ok-network.ensures.form
    c.in_ok-net.ensures.netlist c.in_ok-net.ensures.pads (c.in_ok-network.ensures.recognises spec shows)
    (c.in_ok-network.ensures.known spec shows 1 c.in_ok-net.ensures.known) in
    let pads_are =
    c.pads.ensures.pads ∙ ap (λ (k : Circuit). k.pads) c.in_ok-network.ensures.form ∙ ap (λ (n : Netlist). n.pads) c.in_ok-net.ensures.netlist in
    let places_are =
    c.deref.ensures.value ∙ c.in_ok-at.ensures
    ∙ same_columns (length c.lines.result.now) (length c.symbols.result.now) (length c.outputs.result.now) counts.lines counts.positions counts.outputs
    (ap length c.lines.ensures.lines) (ap length c.symbols.ensures.symbols) (ap length c.outputs.ensures.outputs) in
    let labels_are : c.in_ok-labels.labels.items ≡ array_labels nfa tables =
    c.in_ok-labels.ensures ∙ ap (λ (ps : List Pad). map (pad_label c.deref.result.now) ps) pads_are
    ∙ ap (λ (at : List ℕ). map (pad_label at) (array_pads counts tables)) places_are in
    subst (λ (ls : List Label). DrawsRecogniser spec (Covers (planes_plan (array_of nfa tables))) ls) (sym labels_are)
    (c.arrays_recognise.ensures nfa tables c.symbols.ensures.automaton c.lines.ensures.specification few recogniser)

-- What the array of a specification draws, with a label on each pad.
use Rattle.std.specs.Prelude.{◌≡◌, ℕ, ◌+◌, ◌*◌, ◌≤◌, pos, List, length, map, get_or}
use Rattle.geom.specs.declared.chip.Label.{Label}
use Rattle.geom.specs.declared.layer.Layer.TheVariants.{Poly}
use Rattle.geom.specs.Conduction.{Drawing}
use Rattle.rx_lang.specs.Specification.{Specification, Language}
use Rattle.rx_lang.specs.Positions.{array_rows, array_columns}
use Rattle.rx_lang.specs.Tables.{Tables, IsSpecification, specification}
use Rattle.switch_net.specs.Circuit.{Circuit}
use Rattle.switch_net.specs.Recognition.{HasPads, Recognises, ShowsSurely}
use Rattle.switch_net.specs.declared.network.Pad.{Pad}
use Rattle.nmos_model.specs.Networks.{StandsFor}
use Rattle.stick_grid.specs.Plans.{Covers}
use Rattle.stick_grid.specs.LabelledModules.{StandsForSame}
use Rattle.nor_net.specs.SwitchForm.{switch_form}
use Rattle.position_nfa.specs.Automaton.{Automaton, IsAutomaton}
use Rattle.position_nfa.specs.Agreement.{IsAutomatonOf}
use Rattle.position_nfa.specs.Registers.{array_counts, array_pads, register_netlist}
use Rattle.pla_plan.specs.Planes.{PlaneTables, planes_plan}
use Rattle.pla_plan.specs.ArrayOf.{array_places, array_of}

-- The array of a specification's own automaton has the specification's rows and columns, by the number of its terms.
pub record HasSizes (spec : Specification) (planes : PlaneTables) : Type 0 where
  pub rows : planes.rows ≡ array_rows spec (length planes.terms)
  pub cols : planes.cols ≡ array_columns spec

abbrev pub ArraysHaveSizes : Type 0
ArraysHaveSizes = (nfa : Automaton) (tables : Tables) → IsAutomatonOf (specification tables) nfa
    → HasSizes (specification tables) (array_of nfa tables)

-- the pad's name on the poly of its net at the south border, where the nets have their poly in these columns
abbrev pub pad_label : List ℕ → Pad → Label
pad_label at pad = record { pad = pad.name; layer = Poly; x = pos (14 * get_or at pad.net.0 0 + 6); y = pos 0 }

-- the labels of the array: the supplies, the clocks, the reset, the lines, the outputs
abbrev pub array_labels : Automaton → Tables → List Label
array_labels nfa tables = let c = array_counts nfa tables in map (pad_label (array_places c)) (array_pads c tables)

-- The squares of the array with these labels stand for a network that is the same as the switch network of the registers.
abbrev pub ArraysDrawRegisters : Type 0
ArraysDrawRegisters = (nfa : Automaton) (tables : Tables) → IsAutomaton nfa → IsSpecification tables → length nfa.symbols ≤ 256
    → StandsForSame (Covers (planes_plan (array_of nfa tables))) (array_labels nfa tables) (switch_form (register_netlist nfa tables))

-- The network has the specification's pads and from all charges recognises its languages; so also in a ternary run, in which no
-- output is unknown.
pub record IsRecogniser (spec : Specification) (circuit : Circuit) : Type 0 where
  pub pads : HasPads circuit spec.lines spec.outputs
  pub recognises : Recognises circuit (length spec.lines) (Language spec)
  pub sure : ShowsSurely circuit (length spec.lines) (Language spec)

-- The drawing with these labels stands for such a network.
pub record DrawsRecogniser (spec : Specification) (Drawn : Drawing) (labels : List Label) : Type 0 where
  pub circuit : Circuit
  pub stands : StandsFor Drawn labels circuit
  pub recogniser : IsRecogniser spec circuit

-- Where the switch network of the registers is one of the specification, the array draws one.
abbrev pub ArraysRecognise : Type 0
ArraysRecognise = (nfa : Automaton) (tables : Tables) → IsAutomaton nfa → IsSpecification tables → length nfa.symbols ≤ 256
    → IsRecogniser (specification tables) (switch_form (register_netlist nfa tables))
    → DrawsRecogniser (specification tables) (Covers (planes_plan (array_of nfa tables))) (array_labels nfa tables)

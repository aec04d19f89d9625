-- What the layout of a tree recognises.
use Rattle.std.specs.Prelude.{◌<◌, List, length, All}
use Rattle.geom.specs.declared.chip.Label.{Label}
use Rattle.geom.specs.Conduction.{Drawing}
use Rattle.rx_lang.specs.Specification.{Specification, Language}
use Rattle.rx_lang.specs.Tables.{Tables, IsSpecification, specification}
use Rattle.star_normal.specs.Tables.{TreeTable, IsTree, whole}
use Rattle.star_normal.specs.Trees.{leaves}
use Rattle.switch_net.specs.Circuit.{Circuit}
use Rattle.switch_net.specs.Recognition.{HasPads, Recognises, ShowsSurely}
use Rattle.nmos_model.specs.Networks.{StandsFor}
use Rattle.stick_grid.specs.Plans.{Covers}
use Rattle.nor_net.specs.SwitchForm.{switch_form}
use Rattle.block_grid.specs.Sheets.{Sheet}
use Rattle.cell_network.specs.Whole.{cells_of}
use Rattle.tree_chip.specs.TreePlans.{IsSheetOf, tree_plan, tree_labels}

-- The network has the specification's pads and from all charges recognises its languages; so also in a ternary run, in which no
-- output is unknown.
pub record IsRecogniser (spec : Specification) (circuit : Circuit) : Type 0 where
  pub pads : HasPads circuit spec.lines spec.outputs
  pub recognises : Recognises circuit (length spec.lines) (Language spec)
  pub sure : ShowsSurely circuit (length spec.lines) (Language spec)

-- The drawing with these labels stands for such a network.
pub record DrawsRecogniser (spec : Specification) (Drawn : Drawing) (labels : List Label) : Type 0 where
  pub circuit : Circuit
  pub stands : StandsFor Drawn labels circuit
  pub recogniser : IsRecogniser spec circuit

-- Where the switch network of the cells is one of the specification, the layout draws one.
abbrev pub TreesRecognise : Type 0
TreesRecognise = (sheet : Sheet) (tree : TreeTable) (tables : Tables) → IsTree tree → IsSpecification tables
    → All (λ s. s < length tables.symbols) (leaves (whole tree)) → IsSheetOf tree sheet
    → IsRecogniser (specification tables) (switch_form (cells_of tree tables))
    → DrawsRecogniser (specification tables) (Covers (tree_plan sheet tree tables)) (tree_labels sheet tree tables)

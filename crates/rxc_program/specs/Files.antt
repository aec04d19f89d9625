-- Files of networks that recognise the languages of a specification.
use Rattle.std.specs.Prelude.{◌≡◌, ⊤, ℕ, ◌*◌, ◌≤◌, false, List, length}
use Rattle.geom.specs.declared.chip.Label.{Label}
use Rattle.geom.specs.declared.chip.Rect.{Rect}
use Rattle.geom.specs.Squares.{BoxShape, Covered}
use Rattle.geom.specs.Chips.{IsBoxOf}
use Rattle.geom.specs.CifRefusals.{DrawsCif}
use Rattle.rx_lang.specs.Specification.{Specification, Language}
use Rattle.rx_lang.specs.Positions.{HasTerms, array_rows, array_columns}
use Rattle.rx_lang.specs.Squares.{IsLevel}
use Rattle.switch_net.specs.Circuit.{Circuit}
use Rattle.switch_net.specs.Recognition.{HasPads, Recognises, ShowsSurely}
use Rattle.net_text.specs.NetworkText.{IsNetworkText}
use Rattle.tile_rules.specs.KeptRules.{KeepsRules}
use Rattle.layout_network.specs.Layouts.{DrawsNetwork}
use Rattle.report_text.specs.Sizes.{blocks, tree_area_bound, tree_side_bound}
use Rattle.rxc_program.specs.Chips.{begins_network}

-- the kinds of files that are written for a specification
pub data FileKind : Type 0 where
  network_file : FileKind
  pla_file : FileKind
  tree_file : FileKind

-- the most symbols in the expressions of a specification that is compiled to such a file
abbrev pub most_leaves : FileKind → ℕ
most_leaves network_file = 4096
most_leaves pla_file = 256
most_leaves tree_file = 4096

-- ---- what a file stands for

-- The file does not begin as a network text does, and is a CIF text whose squares stand for this circuit.
pub record IsLayoutFile (file : List ℕ) (circuit : Circuit) : Type 0 where
  pub begins : begins_network file ≡ false
  pub draws : DrawsNetwork file circuit

-- The file is of this kind, and stands for this circuit.
abbrev pub FileStandsFor : FileKind → List ℕ → Circuit → Type 0
FileStandsFor network_file file circuit = IsNetworkText file circuit
FileStandsFor pla_file file circuit = IsLayoutFile file circuit
FileStandsFor tree_file file circuit = IsLayoutFile file circuit

-- A network of the specification: it has the pads of the specification, and from all charges each output is high after t
-- clocks exactly where the first t input vectors lie in its language; so also in a ternary run, in which no output is unknown.
pub record IsNetworkOf (spec : Specification) (circuit : Circuit) : Type 0 where
  pub pads : HasPads circuit spec.lines spec.outputs
  pub recognises : Recognises circuit (length spec.lines) (Language spec)
  pub sure : ShowsSurely circuit (length spec.lines) (Language spec)

-- ---- how large what it draws is

-- The file is a CIF text, and the box of the boxes that it draws has these sides, in λ.
pub record DrawsBox (file : List ℕ) (width height : ℕ) : Type 0 where
  pub boxes : List BoxShape
  pub labels : List Label
  pub draws : DrawsCif file boxes labels
  pub box : Rect
  pub box_of : IsBoxOf boxes box
  pub width_is : box.width ≡ width
  pub height_is : box.height ≡ height

-- The box of a programmable logic array with as many terms as the specification asks for: 14 λ for each of its columns and rows.
pub record HasArraySides (spec : Specification) (file : List ℕ) : Type 0 where
  pub terms : ℕ
  pub has_terms : HasTerms spec terms
  pub drawn : DrawsBox file (14 * array_columns spec) (14 * array_rows spec terms)

-- The box of a tree's layout: neither side is more than the bound for the least square of blocks that has room for the tree, and its
-- area is within the bound by the wires and the symbols in the expressions.
pub record HasTreeSides (spec : Specification) (file : List ℕ) : Type 0 where
  pub level : ℕ
  pub is_level : IsLevel (blocks spec) level
  pub width : ℕ
  pub height : ℕ
  pub drawn : DrawsBox file width height
  pub narrow : width ≤ tree_side_bound spec level
  pub low : height ≤ tree_side_bound spec level
  pub small : width * height ≤ tree_area_bound spec

-- The file is as large as one of its kind is for the specification.
abbrev pub HasSides : FileKind → Specification → List ℕ → Type 0
HasSides network_file spec file = ⊤
HasSides pla_file spec file = HasArraySides spec file
HasSides tree_file spec file = HasTreeSides spec file

-- ---- that it keeps the lambda rules

-- The file is a CIF text, and what it draws with its labels breaks no rule: its list of findings is the empty one.
pub record DrawsByRules (file : List ℕ) : Type 0 where
  pub boxes : List BoxShape
  pub labels : List Label
  pub draws : DrawsCif file boxes labels
  pub keeps : KeepsRules (Covered boxes) labels

-- A layout keeps the rules.
abbrev pub FollowsRules : FileKind → List ℕ → Type 0
FollowsRules network_file file = ⊤
FollowsRules pla_file file = DrawsByRules file
FollowsRules tree_file file = DrawsByRules file

-- The file is of this kind, and stands for a network of the specification; the area of a PLA file is that of its formula, and the
-- sides and the area of a tree file are within their bounds. What a layout draws keeps the lambda rules.
pub record IsFileOf (kind : FileKind) (spec : Specification) (file : List ℕ) : Type 0 where
  pub circuit : Circuit
  pub stands : FileStandsFor kind file circuit
  pub compiled : IsNetworkOf spec circuit
  pub sides : HasSides kind spec file
  pub rules : FollowsRules kind file

-- What `sim` shows of a compiled network: the bits of the languages.
use Rattle.std.specs.Prelude.{◌≡◌, ◌⊎◌, ⊤, ℕ, suc, ◌≤◌, Bool, List, [], ◌∷◌, ◌++◌, Some, length, take, drop, slice_get}
use Rattle.std.specs.Fmt.{decimal}
use Rattle.geom.specs.declared.chip.Label.{Label}
use Rattle.geom.specs.Squares.{BoxShape}
use Rattle.geom.specs.CifRefusals.{DrawsCif}
use Rattle.layout_network.specs.Layouts.{most_boxes}
use Rattle.rx_lang.specs.Specification.{Specification, Language}
use Rattle.rx_syntax.specs.Accepted.{Accepted}
use Rattle.switch_net.specs.Circuit.{Circuit}
use Rattle.switch_net.specs.Recognition.{IsWordOf}
use Rattle.switch_sim.specs.TraceLines.{TraceLines}
use Rattle.switch_sim.specs.TraceTexts.{IsTrace}
use Rattle.rxc_program.specs.Files.{FileKind, IsFileOf, IsNetworkOf, most_leaves, network_file, pla_file, tree_file}
use Rattle.rxc_program.specs.Simulating.{Drives, IsSimulated, simulating}

-- The byte is `1` where this holds, and `0` where it does not.
abbrev pub Tells : ℕ → Type 0 → Type 0
Tells byte Holds = ((byte ≡ 49) × Holds) ⊎ ((byte ≡ 48) × (Holds → ⊥))

-- One byte for each output, which tells whether the word lies in its language.
pub record TellsWord (spec : Specification) (word : List (List Bool)) (bytes : List ℕ) : Type 0 where
  pub count : length bytes ≡ length spec.outputs
  pub bits : (output byte : ℕ) → slice_get bytes output ≡ Some byte → Tells byte (Language spec output word)

-- a line for each of these lists of bytes: the number of its clock, a space and the bytes
abbrev pub numbered_lines : ℕ → List (List ℕ) → List ℕ
numbered_lines clock [] = []
numbered_lines clock (bytes ∷ more) = decimal clock ++ (32 ∷ (bytes ++ 10 ∷ [])) ++ numbered_lines (suc clock) more

-- The text has one line for each clock from 0 to the number of vectors, and the line of clock t tells of the first t vectors.
pub record TellsLanguages (spec : Specification) (vectors : List (List Bool)) (text : List ℕ) : Type 0 where
  pub lines : List (List ℕ)
  pub count : length lines ≡ suc (length vectors)
  pub whole : text ≡ numbered_lines 0 lines
  pub words : (t : ℕ) (bytes : List ℕ) → slice_get lines t ≡ Some bytes → TellsWord spec (take t vectors) bytes

-- Where the chip of an input of `sim` is a network of a specification, the output tells its languages.
abbrev pub NetworksShowTheirLanguages : Type 0
NetworksShowTheirLanguages =
    (spec : Specification) (text output : List ℕ) (vectors : List (List Bool)) (circuit : Circuit)
    → IsNetworkOf spec circuit → Drives text vectors circuit → TraceLines circuit vectors output → TellsLanguages spec vectors output

-- the text draws no more boxes than are read
abbrev pub HasFewBoxes : List ℕ → Type 0
HasFewBoxes file = (boxes : List BoxShape) (labels : List Label) → DrawsCif file boxes labels → length boxes ≤ most_boxes

-- `sim` reads a file of this kind whatever its size, or where it draws no more boxes than are read.
abbrev pub IsReadable : FileKind → List ℕ → Type 0
IsReadable network_file file = ⊤
IsReadable pla_file file = HasFewBoxes file
IsReadable tree_file file = HasFewBoxes file

-- The text is a trace of these vectors, each with one bit for each line, and behind it a file of this accepted specification, as `net`,
-- `pla` and `tree` write them, that `sim` reads.
pub record DrivesFile (text : List ℕ) (spec : Specification) (vectors : List (List Bool)) : Type 0 where
  pub kind : FileKind
  pub source : List ℕ
  pub accepted : Accepted source (most_leaves kind) spec
  pub place : ℕ
  pub trace : IsTrace text vectors place
  pub file : IsFileOf kind spec (drop place text)
  pub readable : IsReadable kind (drop place text)
  pub widths : IsWordOf (length spec.lines) vectors

-- `sim` accepts such a text, and its output tells the languages.
abbrev pub FilesShowTheirLanguages : Type 0
FilesShowTheirLanguages =
    (text : List ℕ) (spec : Specification) (vectors : List (List Bool)) → DrivesFile text spec vectors
    → simulating.Accepts text × ((output : List ℕ) → IsSimulated text output → TellsLanguages spec vectors output)

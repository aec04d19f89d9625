-- The command `sim`: a trace, and behind it the chip that it drives.
use Rattle.std.specs.Prelude.{◌≡◌, ◌⊎◌, ℕ, ◌+◌, Bool, true, false, List, length, drop, Some, None}
use Rattle.rx_text.specs.declared.place.Place.{Place}
use Rattle.rx_text.specs.declared.place.Place.TheVariants.{Text, Square, Whole}
use Rattle.switch_net.specs.Circuit.{Circuit}
use Rattle.switch_sim.specs.TraceTexts.{IsTrace, TraceRefusal}
use Rattle.switch_sim.specs.TraceLines.{TraceLines, first_wrong}
use Rattle.switch_sim.specs.declared.trace_code.TraceCode.{TraceCode}
use Rattle.rxc_program.specs.Behaviour.{Behaviour}
use Rattle.rxc_program.specs.Chips.{IsChip, IsNoChip, begins_network}
use Rattle.rxc_program.specs.Codes.{trace_code}
use Rattle.rxc_program.specs.declared.status.Code.{Code}
use Rattle.rxc_program.specs.declared.status.Code.TheVariants.{V2}
use Rattle.rxc_program.specs.declared.status.Status.TheVariants.{Done}

-- ---- inputs

-- the place so many lines lower
abbrev pub lower : ℕ → Place → Place
lower lines (Text line column) = Text (line + lines) column
lower lines (Square x y) = Square x y
lower lines Whole = Whole

-- how many lines a trace has: its vectors and the line `chip`
abbrev pub trace_lines : List (List Bool) → ℕ
trace_lines vectors = length vectors + 1

-- The text is the trace of these vectors, and behind it the chip that stands for this circuit.
pub record IsDrivenBy (text : List ℕ) (vectors : List (List Bool)) (circuit : Circuit) : Type 0 where
  pub place : ℕ
  pub trace : IsTrace text vectors place
  pub chip : IsChip (drop place text) circuit

-- The chip of the text is read as a layout.
abbrev pub HasLayout : List ℕ → Type 0
HasLayout text = (vectors : List (List Bool)) × (behind : ℕ) × IsTrace text vectors behind × (begins_network (drop behind text) ≡ false)

-- Such a text in which every vector has one bit for each input pad.
pub record Drives (text : List ℕ) (vectors : List (List Bool)) (circuit : Circuit) : Type 0 where
  pub parts : IsDrivenBy text vectors circuit
  pub widths : first_wrong circuit vectors ≡ None

-- ---- refusals

-- The text begins with no trace.
abbrev pub BreaksTrace : List ℕ → Code → Place → Type 0
BreaksTrace text code place = (named : TraceCode) × (code ≡ trace_code named) × TraceRefusal text named place

-- The text of a chip, which stands behind so many lines, is no chip's.
pub record BreaksBehind (chip : List ℕ) (lines : ℕ) (code : Code) (place : Place) : Type 0 where
  pub within : Place
  pub no_chip : IsNoChip chip code within
  pub is_place : place ≡ lower lines within

-- The text begins with a trace, and what is behind it is no chip's.
abbrev pub BreaksChip : List ℕ → Code → Place → Type 0
BreaksChip text code place =
    (vectors : List (List Bool)) × (behind : ℕ) × IsTrace text vectors behind × BreaksBehind (drop behind text) (trace_lines vectors) code place

-- A vector has not one bit for each input pad; the place is the line of the first.
pub record IsWrongWidth (circuit : Circuit) (vectors : List (List Bool)) (code : Code) (place : Place) : Type 0 where
  pub number : ℕ
  pub first : first_wrong circuit vectors ≡ Some number
  pub is_code : code ≡ V2
  pub is_place : place ≡ Text (number + 1) 1

-- The text is a trace and a chip, and a vector is too narrow or too wide.
abbrev pub BreaksWidth : List ℕ → Code → Place → Type 0
BreaksWidth text code place =
    (vectors : List (List Bool)) × (circuit : Circuit) × IsDrivenBy text vectors circuit × IsWrongWidth circuit vectors code place

-- What is wrong with a text: its trace, else its chip, else the width of a vector.
abbrev pub BreaksDriven : List ℕ → Code → Place → Type 0
BreaksDriven text code place = BreaksTrace text code place ⊎ BreaksChip text code place ⊎ BreaksWidth text code place

-- ---- outputs

-- the lines are those of a run of the chip through the trace
pub record IsSimulated (text lines : List ℕ) : Type 0 where
  pub vectors : List (List Bool)
  pub circuit : Circuit
  pub drives : Drives text vectors circuit
  pub shown : TraceLines circuit vectors lines

-- What `sim` does.
abbrev pub simulating : Behaviour
simulating = record {
  reads = true;
  memory_first = false;
  Accepts = λ text. (vectors : List (List Bool)) × (circuit : Circuit) × Drives text vectors circuit;
  Breaks = BreaksDriven;
  Outputs = λ text lines status. (status ≡ Done) × IsSimulated text lines;
}

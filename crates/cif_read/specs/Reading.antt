-- What the reader of CIF texts answers.
use Rattle.std.specs.Prelude.{⊤, ◌≡◌, ℕ, ◌<◌, List, take, drop, Option, Some, None}
use Rattle.rx_text.specs.declared.place.Place.{Place}
use Rattle.geom.specs.CifDrawings.{CifState, CifStroke}
use Rattle.geom.specs.CifRefusals.{CifRefusal, FlatRefusal, CommandRead, DrawsFrom, RefusedFrom, front_with}
use Rattle.cif_read.specs.declared.faults.ReadCifFault.{ReadCifFault}
use Rattle.cif_read.specs.declared.faults.ReadCifFault.TheVariants as fault
use Rattle.cif_figures.specs.declared.fault.FigureFault.{FigureFault}
use Rattle.cif_figures.specs.declared.fault.FigureFault.TheVariants as figure
use Rattle.cif_read.specs.declared.mark.Mark.{Mark}
use Rattle.cif_read.specs.declared.reader.Reader.{Reader}
use Rattle.cif_read.specs.Marks.{IsMark}
use Rattle.cif_read.specs.States.{state_of, IsReader}

-- A fault is the refusal of the text; want of memory may come anywhere.
abbrev pub IsReadCifFault : List ℕ → ReadCifFault → Type 0
IsReadCifFault text (fault.Fault refusal) = CifRefusal text refusal.code refusal.place
IsReadCifFault text fault.NoMemory = ⊤

-- A fault names the first command outside definitions at which a code stands; want of memory may come anywhere.
abbrev pub IsFlatFault : List CifStroke → ReadCifFault → Type 0
IsFlatFault strokes (fault.Fault refusal) = FlatRefusal strokes refusal.code refusal.place
IsFlatFault strokes fault.NoMemory = ⊤

-- ---- for private contracts

-- A fault is the refusal of what stands from this place on, behind commands that leave this state.
abbrev pub IsStepFault : List ℕ → ℕ → CifState → ReadCifFault → Type 0
IsStepFault text at s (fault.Fault refusal) = RefusedFrom s (take at text) (drop at text) refusal.code refusal.place
IsStepFault text at s fault.NoMemory = ⊤

-- A command stands here, and leads to the place of the next one.
pub record StepsTo (text : List ℕ) (mark : Mark) (old new : Reader) (next : Mark) : Type 0 where
  pub is_mark : IsMark text next
  pub later : mark.at < next.at
  pub kept : IsReader new
  pub read : CommandRead (state_of old) (take mark.at text) (drop mark.at text) (state_of new)
  pub front_is : front_with (take mark.at text) (drop mark.at text) read.here ≡ take next.at text
  pub behind_is : read.here.behind ≡ drop next.at text

-- A command stands here, or the end of the text.
abbrev pub Steps : List ℕ → Mark → Reader → Reader → Option Mark → Type 0
Steps text mark old new None = DrawsFrom (state_of old) (take mark.at text) (drop mark.at text) (state_of new)
Steps text mark old new (Some next) = StepsTo text mark old new next

-- why reading stops at a command at this place
abbrev pub stop_fault : FigureFault → Place → ReadCifFault
stop_fault (figure.Meets code) place = fault.Fault (record { code = code; place = place })
stop_fault figure.NoMemory place = fault.NoMemory

-- What a command of a text does, or the least code that it meets.
use Rattle.std.specs.Prelude.{⊤, ◌≡◌, ℕ, ◌^◌, ◌≤◌, ◌<◌, List, Option, Some, None}
use Rattle.rx_text.specs.declared.place.Place.{Place}
use Rattle.geom.specs.declared.layer.Layer.{Layer}
use Rattle.geom.specs.CifCommands.{CifScale, CifCommand, Opens, CallsSymbol}
use Rattle.geom.specs.CifDrawings.{CifState, scale_of, CommandLeads}
use Rattle.cif_syntax.specs.Sentences.{IsCommandAt}
use Rattle.cif_kinds.specs.declared.kinds.CommandKind.{CommandKind}
use Rattle.cif_kinds.specs.Kinds.{kind_of}
use Rattle.cif_codes.specs.Least.{IsLeastCode}
use Rattle.cif_figures.specs.declared.fault.FigureFault.{FigureFault}
use Rattle.cif_figures.specs.declared.fault.FigureFault.TheVariants as fault

-- A command of this kind stands in the text: its first byte, and the place behind its semicolon.
pub record CommandOf (text : List ℕ) (first end : ℕ) (kind : CommandKind) : Type 0 where
  pub from : ℕ
  pub stands : IsCommandAt text from first end
  pub kind_is : kind_of stands.here.command ≡ kind

-- that command
abbrev pub command_of : (text : List ℕ) (first end : ℕ) (kind : CommandKind) → CommandOf text first end kind → CifCommand
command_of text first end kind c = c.stands.here.command

-- The command meets no code, and leads to this state by its place.
pub record Leads (s : CifState) (c : CifCommand) (next : Place → CifState) : Type 0 where
  pub clear : IsLeastCode s c None
  pub leads : (place : Place) → CommandLeads s place c (next place)

-- A definition of this scale is open, or none and the scale is 1; and this layer is set.
pub record Draws (s : CifState) (scale : CifScale) (layer : Option Layer) : Type 0 where
  pub scale_is : scale_of s.opening ≡ scale
  pub layer_is : s.layer ≡ layer

-- the number of the symbol that is defined or called
abbrev pub symbol_in : CifCommand → ℕ
symbol_in (Opens n scale) = n
symbol_in (CallsSymbol n moves) = n
symbol_in other = 0

-- The second number is the first, up to 2^40; else it is greater than that as well.
pub record IsNumberFor (n v : ℕ) : Type 0 where
  pub exact : n ≤ 2 ^ 40 → v ≡ n
  pub great : 2 ^ 40 < n → 2 ^ 40 < v

-- The fault is the least code that the command meets, or want of memory.
abbrev pub IsFaultOf : CifState → CifCommand → FigureFault → Type 0
IsFaultOf s c (fault.Meets code) = IsLeastCode s c (Some code)
IsFaultOf s c fault.NoMemory = ⊤

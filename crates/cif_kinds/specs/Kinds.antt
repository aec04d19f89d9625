-- The kinds of commands of CIF texts.
use Rattle.std.specs.Prelude.{ℕ, ◌==◌, if◌then◌else◌}
use Rattle.geom.specs.CifCommands.{CifCommand, Empty, Comment, Opens, Closes, CallsSymbol, SetsLayer, DrawsBox, DrawsPolygon, DrawsWire, Extension}
use Rattle.cif_kinds.specs.declared.kinds.CommandKind.{CommandKind}
use Rattle.cif_kinds.specs.declared.kinds.CommandKind.TheVariants as kind

abbrev pub kind_of : CifCommand → CommandKind
kind_of Empty = kind.Empty
kind_of Comment = kind.Comment
kind_of (Opens n scale) = kind.Opens
kind_of Closes = kind.Closes
kind_of (CallsSymbol n moves) = kind.Calls
kind_of (SetsLayer name) = kind.Layer
kind_of (DrawsBox along across centre direction) = kind.Box
kind_of (DrawsPolygon points) = kind.Polygon
kind_of (DrawsWire width points) = kind.Wire
kind_of (Extension text) = kind.Extension

-- It is made of parts that are numbers, or begin with capital letters.
abbrev pub IsMadeOfParts : CifCommand → Type 0
IsMadeOfParts Comment = ⊥
IsMadeOfParts (SetsLayer name) = ⊥
IsMadeOfParts (Extension text) = ⊥
IsMadeOfParts other = Unit {0}

-- ---- for private contracts

-- the kind by a first byte that is no `;`, `(` or `D`
abbrev pub letter_kind : ℕ → CommandKind
letter_kind byte =
    if byte == 67 then kind.Calls else if byte == 76 then kind.Layer else if byte == 66 then kind.Box else if byte == 80 then kind.Polygon
    else if byte == 87 then kind.Wire else kind.Extension

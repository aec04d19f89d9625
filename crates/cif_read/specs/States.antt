-- What a reader knows of the commands so far.
use Rattle.std.specs.Prelude.{⊤, ◌≡◌, ◌^◌, ◌≤◌, Bool, true, nat_le, Option, Some, None}
use Rattle.std.specs.List.{list_all}
use Rattle.rx_text.specs.declared.place.Place.{Place}
use Rattle.geom.specs.declared.layer.Layer.{Layer}
use Rattle.geom.specs.CifCommands.{CifCommand}
use Rattle.geom.specs.CifDrawings.{CifSymbol, CifOpening, CifState, CommandLeads}
use Rattle.cif_codes.specs.Scales.{ratio, IsScale}
use Rattle.cif_codes.specs.Least.{IsLeastCode}
use Rattle.cif_read.specs.declared.reader.Open.{Open}
use Rattle.cif_read.specs.declared.reader.Reader.{Reader}

-- the definition that is open, with what it draws
abbrev pub opening_of : Option CifSymbol → Option Open → Option CifOpening
opening_of (Some symbol) (Some opening) = Some (record { symbol = symbol; scale = ratio opening.scale; outer = opening.outer })
opening_of symbol opening = None

-- the state that the commands so far leave
abbrev pub state_of : Reader → CifState
state_of reader = record {
  symbols = reader.builder.symbols;
  opening = opening_of reader.builder.opening reader.opening;
  layer = reader.layer;
  drawing = reader.builder.drawing;
}

-- the layer from before the definition that is open, or that which is set
abbrev pub outer_layer : Option Open → Option Layer → Option Layer
outer_layer None layer = layer
outer_layer (Some opening) layer = opening.outer

-- The number is no greater than those of definitions may be.
abbrev pub is_few : CifSymbol → Bool
is_few symbol = nat_le symbol.number (2 ^ 40)

-- The definition has this number, which is not too great, and a scale.
pub record IsOpen (symbol : CifSymbol) (opening : Open) : Type 0 where
  pub number : symbol.number ≡ opening.number
  pub few : opening.number ≤ 2 ^ 40
  pub scale : IsScale opening.scale

abbrev pub AreOpen : Option CifSymbol → Option Open → Type 0
AreOpen None None = ⊤
AreOpen (Some symbol) (Some opening) = IsOpen symbol opening
AreOpen symbol opening = ⊥

-- What holds between commands.
pub record IsReader (reader : Reader) : Type 0 where
  pub opening : AreOpen reader.builder.opening reader.opening
  pub few : list_all is_few reader.builder.symbols ≡ true

-- The command meets no code, and leads to what is known next.
pub record IsRead (old : Reader) (place : Place) (command : CifCommand) (new : Reader) : Type 0 where
  pub clear : IsLeastCode (state_of old) command None
  pub leads : CommandLeads (state_of old) place command (state_of new)
  pub kept : IsReader new

-- Texts of chips: network texts and layouts.
use Rattle.std.specs.Prelude.{◌≡◌, ℕ, ◌==◌, Bool, true, false, List, codes}
use Rattle.std.specs.List.{starts_with}
use Rattle.rx_text.specs.declared.place.Place.{Place}
use Rattle.switch_net.specs.Circuit.{Circuit}
use Rattle.net_text.specs.NetRefusals.{NetRefusal}
use Rattle.net_text.specs.NetworkText.{IsNetworkText}
use Rattle.net_text.specs.declared.net_fault.NetCode.{NetCode}
use Rattle.layout_network.specs.Layouts.{IsLayout}
use Rattle.rxc_program.specs.Codes.{net_code}
use Rattle.rxc_program.specs.Extracting.{BreaksLayout}
use Rattle.rxc_program.specs.declared.status.Code.{Code}

-- the text begins with the first line of a network text
abbrev pub begins_network : List ℕ → Bool
begins_network text = starts_with (λ a b. a == b) text (codes "rxnet 1\n")

-- the text is refused as a network text
abbrev pub BreaksNetwork : List ℕ → Code → Place → Type 0
BreaksNetwork text code place = (named : NetCode) × (code ≡ net_code named) × NetRefusal text named place

-- What stands for circuits: a network text where that is so, else a layout.
abbrev pub IsChipBy : Bool → List ℕ → Circuit → Type 0
IsChipBy true text circuit = IsNetworkText text circuit
IsChipBy false text circuit = IsLayout text circuit

-- What is refused as no chip, in the same way.
abbrev pub IsNoChipBy : Bool → List ℕ → Code → Place → Type 0
IsNoChipBy true text code place = BreaksNetwork text code place
IsNoChipBy false text code place = BreaksLayout text code place

-- The text of a chip stands for this circuit: as a network text where it begins as one, else as a layout.
abbrev pub IsChip : List ℕ → Circuit → Type 0
IsChip text circuit = IsChipBy (begins_network text) text circuit

-- The text is no chip's: it is no network text where it begins as one, else no layout.
abbrev pub IsNoChip : List ℕ → Code → Place → Type 0
IsNoChip text code place = IsNoChipBy (begins_network text) text code place

-- Drawings that cover the same squares.
use Rattle.std.specs.Prelude.{◌↔◌, ℤ, List}
use Rattle.rx_text.specs.declared.place.Place.{Place}
use Rattle.geom.specs.declared.layer.Layer.{Layer}
use Rattle.geom.specs.declared.chip.Label.{Label}
use Rattle.geom.specs.Conduction.{Drawing}
use Rattle.switch_net.specs.Circuit.{Circuit}
use Rattle.nmos_model.specs.declared.refusal.ExtractCode.{ExtractCode}
use Rattle.nmos_model.specs.Networks.{StandsFor}
use Rattle.nmos_model.specs.Refusals.{IsRefused}

-- Each layer covers the same squares in both.
abbrev pub CoverAlike : Drawing → Drawing → Type 0
CoverAlike Drawn Other = (layer : Layer) (x y : ℤ) → Drawn layer x y ↔ Other layer x y

-- Then the one with labels stands for a network where the other does,
abbrev pub StandAlike : Drawing → Drawing → Type 0
StandAlike Drawn Other = CoverAlike Drawn Other → (labels : List Label) (circuit : Circuit) → StandsFor Drawn labels circuit → StandsFor Other labels circuit

-- and is refused where the other is.
abbrev pub RefusedAlike : Drawing → Drawing → Type 0
RefusedAlike Drawn Other = CoverAlike Drawn Other → (labels : List Label) (code : ExtractCode) (place : Place)
    → IsRefused Drawn labels code place → IsRefused Other labels code place

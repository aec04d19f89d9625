-- Small CIF texts, and what they draw or why they are refused.
use Rattle.std.specs.Prelude.{pos, negsuc, [], ◌∷◌, codes}
use Rattle.rx_text.specs.declared.place.Place.TheVariants.{Text}
use Rattle.geom.specs.declared.layer.Layer.TheVariants.{Metal}
use Rattle.geom.specs.declared.cif_code.CifCode.TheVariants.{C3, C4, C6, C7, C11}
use Rattle.geom.specs.CifRefusals.{CifRefusal, DrawsCif}

-- The scale of the definition counts, transformations act from left to right, and a wire is a box for each segment.
pub record CifTextsDraw : Type 0 where
  pub turned : DrawsCif (codes "DS 1 2 1; L NM; B 400 800 200 400; DF; C 1 M X R 0 1 T 2800 0; E")
      (record { layer = Metal; x1 = pos 6; y1 = negsuc 3; x2 = pos 14; y2 = pos 0 } ∷ []) []
  pub wire : DrawsCif (codes "L NM; W 600 300 300 2300 300; E")
      (record { layer = Metal; x1 = pos 0; y1 = pos 0; x2 = pos 13; y2 = pos 3 } ∷ []) []

-- The first code that stands is answered, at its place.
pub record CifTextsAreRefused : Type 0 where
  pub no_layer : CifRefusal (codes "B 800 800 400 400; E") C3 (Text 1 1)
  pub unknown_symbol : CifRefusal (codes "C 1; E") C4 (Text 1 1)
  pub end_within : CifRefusal (codes "DS 1; E") C6 (Text 1 7)
  pub off_grid : CifRefusal (codes "L NM; B 800 800 300 400; E") C7 (Text 1 7)
  pub behind_end : CifRefusal (codes "E L") C11 (Text 1 3)

-- Labels of pads in the first row of a block.
use Rattle.std.specs.Prelude.{◌+◌, ◌*◌, ℕ, pos}
use Rattle.geom.specs.declared.layer.Layer.TheVariants.{Poly}
use Rattle.geom.specs.declared.chip.Label.{Label}
use Rattle.switch_net.specs.declared.network.Pad.{Pad}

-- the label of a pad, in the column of its net, with so many tiles to the west of the block and to the south of its first row
abbrev pub label_at : ℕ → ℕ → Pad → Label
label_at west south pad = record {
  pad = pad.name;
  layer = Poly;
  x = pos (14 * (west + 2 + 2 * pad.net.0) + 6);
  y = pos (14 * south);
}

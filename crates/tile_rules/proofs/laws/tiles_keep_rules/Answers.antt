use Rattle.tile_rules.proofs.Kept.{tiles_keep_rules}
use Rattle.tile_rules.proofs.laws.tiles_keep_rules.Goals as goal

pub returns : goal.returns
returns g c = λ drawn. tiles_keep_rules (record {
  strips = c.tiles_have_strips.ensures.strips;
  wide = c.tiles_have_wide_boxes.ensures.boxes;
  contacts = c.tiles_have_wide_boxes.ensures.contacts;
  inside = c.tiles_keep_inside.ensures;
  shapes = c.tiles_have_one_shape.ensures.shapes;
  apart = c.tiles_have_one_shape.ensures.apart;
  whole = c.tiles_have_whole_transistors.ensures.whole;
  channels = c.tiles_have_whole_transistors.ensures.channels;
  placed = c.channels_are_transistors.ensures.placed;
  of_tiles = c.channels_are_transistors.ensures.all;
}) (g.D.Drawn.covers drawn)

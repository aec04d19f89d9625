use Rattle.std.proofs.Common.{refl}
use Rattle.channel_route.proofs.Ordered.{edges_drawn, nodes_drawn, cols_drawn, light_rows_drawn}
use Rattle.channel_route.proofs.laws.drawing_adds_one_edge.Goals as goal

pub returns : goal.returns
returns c = record {
  heavy_rows = λ s parent child. refl;
  light_rows = light_rows_drawn;
  cols = cols_drawn;
  edges = edges_drawn;
  nodes = nodes_drawn;
}

use Rattle.channel_route.proofs.Ordered.{rows_kept, cols_kept}
use Rattle.channel_route.proofs.laws.drawing_keeps_the_order_of_nodes.Goals as goal

pub returns : goal.returns
returns c = record {
  rows = rows_kept c.insertion_moves_nodes.ensures.rows c.insertion_moves_nodes.ensures.cols;
  cols = cols_kept c.insertion_moves_nodes.ensures.rows c.insertion_moves_nodes.ensures.cols;
}

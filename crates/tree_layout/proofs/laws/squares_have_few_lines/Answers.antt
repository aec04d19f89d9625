use Rattle.std.proofs.Common.{◌≤◌, subst}
use Rattle.tree_layout.specs.Squares.{square}
use Rattle.tree_layout.proofs.Recurrence.{most_is}
use Rattle.tree_layout.proofs.Sides.{DrawingLaws, few_rows, few_cols}
use Rattle.tree_layout.proofs.laws.squares_have_few_lines.Goals as goal

pub returns-clause-rows : goal.returns-clause-rows
returns-clause-rows c =
    let k : DrawingLaws = record {
      heavy_rows = c.drawing_adds_one_edge.ensures.heavy_rows;
      light_rows = c.drawing_adds_one_edge.ensures.light_rows;
      cols = c.drawing_adds_one_edge.ensures.cols;
      edges = c.drawing_adds_one_edge.ensures.edges;
      nodes = c.drawing_adds_one_edge.ensures.nodes;
    } in
    λ entries o j first. subst (λ n. (square entries j first).rows ≤ n) (most_is j) (few_rows k entries o j first)

pub returns-clause-cols : goal.returns-clause-cols
returns-clause-cols c =
    let k : DrawingLaws = record {
      heavy_rows = c.drawing_adds_one_edge.ensures.heavy_rows;
      light_rows = c.drawing_adds_one_edge.ensures.light_rows;
      cols = c.drawing_adds_one_edge.ensures.cols;
      edges = c.drawing_adds_one_edge.ensures.edges;
      nodes = c.drawing_adds_one_edge.ensures.nodes;
    } in
    λ entries o j first. subst (λ n. (square entries j first).cols ≤ n) (most_is j) (few_cols k entries o j first)

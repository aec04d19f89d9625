use Rattle.std.proofs.Common.{◌∙◌}
use Rattle.tree_layout.proofs.Sides.{DrawingLaws}
use Rattle.tree_layout.proofs.Steps.{may, apart, room_rows, room_cols, done}
use Rattle.tree_layout.proofs.squares.with_links_between.Goals as goal

pub draw_links-requires-clause-may : goal.draw_links-requires-clause-may
draw_links-requires-clause-may c =
    let k : DrawingLaws = record {
      heavy_rows = c.drawing_adds_one_edge.ensures.heavy_rows;
      light_rows = c.drawing_adds_one_edge.ensures.light_rows;
      cols = c.drawing_adds_one_edge.ensures.cols;
      edges = c.drawing_adds_one_edge.ensures.edges;
      nodes = c.drawing_adds_one_edge.ensures.nodes;
    } in
    may k c.args.entries.now c.requires.ordered c.args.below c.args.first c.args.quarter c.requires.below c.requires.quarter _ _ c.requires.blocks (c.deref.ensures.value ∙ c.in_ok-links.ensures)

pub draw_links-requires-clause-apart : goal.draw_links-requires-clause-apart
draw_links-requires-clause-apart c =
    let k : DrawingLaws = record {
      heavy_rows = c.drawing_adds_one_edge.ensures.heavy_rows;
      light_rows = c.drawing_adds_one_edge.ensures.light_rows;
      cols = c.drawing_adds_one_edge.ensures.cols;
      edges = c.drawing_adds_one_edge.ensures.edges;
      nodes = c.drawing_adds_one_edge.ensures.nodes;
    } in
    apart k c.args.entries.now c.requires.ordered c.args.below c.args.first c.args.quarter c.requires.below c.requires.quarter _ _ c.requires.blocks (c.deref.ensures.value ∙ c.in_ok-links.ensures)

pub draw_links-requires-clause-few_rows : goal.draw_links-requires-clause-few_rows
draw_links-requires-clause-few_rows c =
    let k : DrawingLaws = record {
      heavy_rows = c.drawing_adds_one_edge.ensures.heavy_rows;
      light_rows = c.drawing_adds_one_edge.ensures.light_rows;
      cols = c.drawing_adds_one_edge.ensures.cols;
      edges = c.drawing_adds_one_edge.ensures.edges;
      nodes = c.drawing_adds_one_edge.ensures.nodes;
    } in
    room_rows k c.args.entries.now c.requires.ordered c.args.below c.args.first c.args.quarter c.requires.below c.requires.quarter _ _ c.requires.blocks (c.deref.ensures.value ∙ c.in_ok-links.ensures)

pub draw_links-requires-clause-few_cols : goal.draw_links-requires-clause-few_cols
draw_links-requires-clause-few_cols c =
    let k : DrawingLaws = record {
      heavy_rows = c.drawing_adds_one_edge.ensures.heavy_rows;
      light_rows = c.drawing_adds_one_edge.ensures.light_rows;
      cols = c.drawing_adds_one_edge.ensures.cols;
      edges = c.drawing_adds_one_edge.ensures.edges;
      nodes = c.drawing_adds_one_edge.ensures.nodes;
    } in
    room_cols k c.args.entries.now c.requires.ordered c.args.below c.args.first c.args.quarter c.requires.below c.requires.quarter _ _ c.requires.blocks (c.deref.ensures.value ∙ c.in_ok-links.ensures)

pub returns : goal.returns
returns c =
    let k : DrawingLaws = record {
      heavy_rows = c.drawing_adds_one_edge.ensures.heavy_rows;
      light_rows = c.drawing_adds_one_edge.ensures.light_rows;
      cols = c.drawing_adds_one_edge.ensures.cols;
      edges = c.drawing_adds_one_edge.ensures.edges;
      nodes = c.drawing_adds_one_edge.ensures.nodes;
    } in
    done k c.args.entries.now c.requires.ordered c.args.below c.args.first c.args.quarter c.requires.below c.requires.quarter _ _ c.requires.blocks (c.deref.ensures.value ∙ c.in_ok-links.ensures) _ c.in_ok-draw_links.ensures

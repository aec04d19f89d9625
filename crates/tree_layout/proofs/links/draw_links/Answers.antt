use Rattle.std.proofs.Common.{arith}
use Rattle.tree_layout.proofs.Opened.{start, next, room_rows, room_cols, finished}
use Rattle.tree_layout.proofs.links.draw_links.Goals as goal

pub loop-link-init : goal.loop-link-init
loop-link-init c = start c.args.entries.now c.args.blocks.now c.args.links.now c.requires.may

pub draw_link-requires-clause-may : goal.draw_link-requires-clause-may
draw_link-requires-clause-may c = c.loop-link.invariant.may _ _ (omega arith) c.loop-link-test.true

pub draw_link-requires-clause-few_rows : goal.draw_link-requires-clause-few_rows
draw_link-requires-clause-few_rows c = room_rows _ _ _ _ _ c.loop-link.invariant c.loop-link-test.true c.requires.few_rows

pub draw_link-requires-clause-few_cols : goal.draw_link-requires-clause-few_cols
draw_link-requires-clause-few_cols c = room_cols _ _ _ _ _ c.loop-link.invariant c.loop-link-test.true c.requires.few_cols

pub loop-link-preserved : goal.loop-link-preserved
loop-link-preserved c = next c.drawing_adds_one_edge.ensures.edges c.drawing_adds_one_edge.ensures.nodes c.drawing_adds_one_edge.ensures.heavy_rows
    c.drawing_adds_one_edge.ensures.light_rows c.drawing_adds_one_edge.ensures.cols c.args.entries.now c.requires.ordered.once _ _ _ _ _ _
    c.loop-link-test.true c.requires.apart c.loop-link.invariant c.in_ok-draw_link.ensures

pub returns : goal.returns
returns c = finished _ _ _ _ _ c.loop-link.invariant c.loop-link-test.false

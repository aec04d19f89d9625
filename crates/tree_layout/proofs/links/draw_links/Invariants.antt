use Rattle.tree_layout.proofs.Opened.{Drawing}
use Rattle.tree_layout.proofs.links.draw_links.Given as goal

abbrev pub invariant-loop-link : goal.invariant-loop-link
invariant-loop-link l = Drawing l.entries l.fn.blocks l.blocks l.links l.link-index

use Rattle.std.proofs.Common.{◌∙◌, arith, map}
use Rattle.rx_lang.specs.Tables.{tree_at}
use Rattle.star_normal.specs.Outlines.{copied_trees}
use Rattle.star_normal.proofs.Stated.{scan_at}
use Rattle.star_normal.proofs.statements.put_scan.Goals as goal

pub returns-then-top-len : goal.returns-then-top-len
returns-then-top-len c = rw c.scanned.ensures
    (scan_at (map (tree_at (copied_trees c.args.nodes.now)) c.args.roots.now) c.args.labels.now.items c.put_union.new.labels.items c.index-node.result.now c.len-top.result
    (c.len-top.ensures ∙ c.args.labels.now.ok.0) (omega (arith, c.if-top-len.true, c.len.ensures, c.put_union.new.labels.ok.0)) c.index-node.ensures c.in_ok-put_union.ensures)

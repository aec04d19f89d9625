use Rattle.std.proofs.Common.{◌∙◌, ◌++◌, map, length, ap}
use Rattle.rx_lang.specs.Tables.{tree_at}
use Rattle.star_normal.specs.Labels.{label_of}
use Rattle.star_normal.specs.Outlines.{copied_trees}
use Rattle.star_normal.specs.Unions.{part_labels, scan_labels, top_labels}
use Rattle.star_normal.proofs.Stated.{form_is}
use Rattle.star_normal.proofs.statements.form_labels.Goals as goal

pub returns : goal.returns
returns c =
    c.in_ok-put_scan.ensures
    ∙ ap (λ l. l ++ scan_labels (map (tree_at (copied_trees c.args.nodes.now)) c.args.scans.now)) (c.in_ok-put_union.ensures
    ∙ ap (λ l. map label_of l ++ part_labels (map (tree_at (copied_trees c.args.nodes.now)) c.args.exprs.now))
    (c.in_ok-put_top.ensures ∙ ap (λ l. l ++ top_labels c.args.outlines.now c.args.exprs.now c.args.scans.now) c.new-labels.ensures.items))
    ∙ form_is (copied_trees c.args.nodes.now) (length c.args.outlines.now) c.args.outlines.now c.requires.outlines c.args.exprs.now c.args.scans.now c.requires.exprs c.requires.scans c.requires.some

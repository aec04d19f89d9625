use Rattle.std.proofs.Common.{◌∙◌, ap, sym}
use Rattle.rx_lang.specs.declared.expr_node.ExprNode.TheVariants.{Leaf}
use Rattle.rx_lang.specs.Tables.{trees}
use Rattle.rx_syntax.specs.Printed.{is_union}
use Rattle.rx_syntax.proofs.Printing.{tree_read}
use Rattle.rx_syntax.proofs.print.is_union.Goals as goal

pub returns : goal.returns
returns c =
    c.is_union_node.ensures (trees c.args.spec.now.nodes)
    ∙ ap is_union (sym (tree_read c.trees_are_made_of_their_children.ensures.made c.args.spec.now c.nodes.ensures.specification c.nodes.result.now c.nodes.ensures.nodes c.args.node (Leaf 0) c.requires))

use Rattle.std.proofs.Common.{◌≡◌, ◌+◌, ◌*◌, length, ap, arith, ◌∙◌}
use Rattle.std.specs.Int.{div_ceil}
use Rattle.star_normal.specs.Tables.{whole}
use Rattle.star_normal.specs.Trees.{leaves}
use Rattle.rxc_program.proofs.Reported.{half_rounded_up}
use Rattle.rxc_program.proofs.figures.leaf_count.Goals as goal

-- src/figures.rt
pub returns : goal.returns
returns c =
    let tree = c.args.tree.now in
    let is_tree = c.nodes.ensures.tree in
    let counted = c.tables_have_the_leaves_of_their_trees.ensures.leaves tree is_tree in
    let nodes = c.tables_have_the_leaves_of_their_trees.ensures.nodes tree is_tree in
    let twice : length tree.nodes + 1 ≡ 2 * length (leaves (whole tree)) = omega (arith, nodes, counted) in
    c.div_ceil.ensures ∙ ap (λ nodes. div_ceil (length nodes) 2) c.nodes.ensures.nodes ∙ half_rounded_up (length tree.nodes) _ twice

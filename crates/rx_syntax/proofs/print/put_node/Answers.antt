use Rattle.std.proofs.Common.{◌≡◌, ◌∙◌, ◌<◌, [], length, map, get_or, refl, sym, ap, subst, arith}
use Rattle.std.proofs.lemmas.List.{get_or-map}
use Rattle.rx_lang.specs.declared.expr_node.ExprNode.TheVariants.{Leaf, Seq, Alt, Star, Plus, Opt, Mark, Repeat}
use Rattle.rx_lang.specs.VectorWords.{node_tree}
use Rattle.rx_lang.specs.Expression.{symbol, star, plus, optional, marked, repeated}
use Rattle.rx_syntax.specs.declared.print.Piece.TheVariants as Pieces
use Rattle.rx_syntax.specs.Printed.{expr_text}
use Rattle.rx_syntax.specs.Pieces.{node_text, tree_pieces}
use Rattle.rx_syntax.proofs.Printing.{children_in, names_in, puts_sequence, puts_signed, puts_text, puts_union, tree_is}
use Rattle.rx_syntax.proofs.print.put_node.Goals as goal

pub is_compound-requires : goal.is_compound-requires
is_compound-requires c =
    children_in c.args.spec.now c.nodes.ensures.specification c.nodes.result.now c.nodes.ensures.nodes c.args.node (Leaf 0) (Seq c.in-Seq.first c.in-Seq.second) c.requires c.in-Seq.is 1 0 (omega arith)

pub is_union-requires : goal.is_union-requires
is_union-requires c =
    children_in c.args.spec.now c.nodes.ensures.specification c.nodes.result.now c.nodes.ensures.nodes c.args.node (Leaf 0) (Seq c.in-Seq.first c.in-Seq.second) c.requires c.in-Seq.is 0 0 (omega arith)

pub is_union-requires-in-Alt : goal.is_union-requires-in-Alt
is_union-requires-in-Alt c =
    children_in c.args.spec.now c.nodes.ensures.specification c.nodes.result.now c.nodes.ensures.nodes c.args.node (Leaf 0) (Alt c.in-Alt.one c.in-Alt.other) c.requires c.in-Alt.is 1 0 (omega arith)

pub put_signed-requires : goal.put_signed-requires
put_signed-requires c =
    children_in c.args.spec.now c.nodes.ensures.specification c.nodes.result.now c.nodes.ensures.nodes c.args.node (Leaf 0) (Star c.in-Star.inner) c.requires c.in-Star.is 0 0 (omega arith)

pub put_signed-requires-in-Plus : goal.put_signed-requires-in-Plus
put_signed-requires-in-Plus c =
    children_in c.args.spec.now c.nodes.ensures.specification c.nodes.result.now c.nodes.ensures.nodes c.args.node (Leaf 0) (Plus c.in-Plus.inner) c.requires c.in-Plus.is 0 0 (omega arith)

pub put_signed-requires-in-Opt : goal.put_signed-requires-in-Opt
put_signed-requires-in-Opt c =
    children_in c.args.spec.now c.nodes.ensures.specification c.nodes.result.now c.nodes.ensures.nodes c.args.node (Leaf 0) (Opt c.in-Opt.inner) c.requires c.in-Opt.is 0 0 (omega arith)

pub put_signed-requires-in-Mark : goal.put_signed-requires-in-Mark
put_signed-requires-in-Mark c =
    children_in c.args.spec.now c.nodes.ensures.specification c.nodes.result.now c.nodes.ensures.nodes c.args.node (Leaf 0) (Mark c.in-Mark.inner c.in-Mark.output) c.requires c.in-Mark.is 0 0 (omega arith)

pub returns-in_ok-extend_from_slice-in-Leaf : goal.returns-in_ok-extend_from_slice-in-Leaf
returns-in_ok-extend_from_slice-in-Leaf c =
    let tree : node_tree c.args.spec.now c.args.node ≡ symbol c.in-Leaf.symbol
    = tree_is c.args.spec.now c.nodes.ensures.specification c.nodes.result.now c.nodes.ensures.nodes c.args.node (Leaf 0) (Leaf c.in-Leaf.symbol) c.requires c.in-Leaf.is c.trees_are_made_of_their_children.ensures.made in
    let within : c.in-Leaf.symbol < length c.args.spec.now.symbols
    = names_in c.args.spec.now c.nodes.ensures.specification c.nodes.result.now c.nodes.ensures.nodes c.args.node (Leaf 0) (Leaf c.in-Leaf.symbol) c.requires c.in-Leaf.is in
    let name : node_text c.args.spec.now c.args.node ≡ c.as_bytes.result.now
    = ap (expr_text (map (λ s. s.name) c.args.spec.now.symbols) c.args.spec.now.outputs) tree
    ∙ get_or-map (λ s. s.name) c.args.spec.now.symbols c.in-Leaf.symbol c.index-symbols-symbol.result [] within
    ∙ ap (λ xs. (get_or xs c.in-Leaf.symbol c.index-symbols-symbol.result).name) (sym c.symbols.ensures.symbols)
    ∙ ap (λ s. s.name) (sym c.index-symbols-symbol.is)
    ∙ ap (λ s. s.name) (sym c.declared.view_is)
    ∙ sym c.as_bytes.ensures.bytes in
    rw c.in_ok-extend_from_slice-in-Leaf.ensures.items
    (puts_text c.args.spec.now (Pieces.Node c.args.node) c.args.text.now.items c.as_bytes.result.now c.args.stack.now.items name
    (subst (λ e. 0 < tree_pieces e) (sym tree) (omega arith)))

pub returns-in_ok-push-in-Seq-3 : goal.returns-in_ok-push-in-Seq-3
returns-in_ok-push-in-Seq-3 c =
    rw (
      c.in_ok-push-in-Seq-3.ensures.items,
      c.in_ok-push-in-Seq-2.ensures.items,
      c.in_ok-push-in-Seq.ensures.items,
      c.enclosed_if-in-Seq.ensures,
      c.is_union.ensures,
      c.enclosed_if.ensures,
      c.is_compound.ensures,
    )
    (puts_sequence c.args.spec.now c.args.node c.args.text.now.items c.args.stack.now.items c.in-Seq.first c.in-Seq.second
    (tree_is c.args.spec.now c.nodes.ensures.specification c.nodes.result.now c.nodes.ensures.nodes c.args.node (Leaf 0) (Seq c.in-Seq.first c.in-Seq.second) c.requires c.in-Seq.is c.trees_are_made_of_their_children.ensures.made)
    (children_in c.args.spec.now c.nodes.ensures.specification c.nodes.result.now c.nodes.ensures.nodes c.args.node (Leaf 0) (Seq c.in-Seq.first c.in-Seq.second) c.requires c.in-Seq.is 0 0 (omega arith))
    (children_in c.args.spec.now c.nodes.ensures.specification c.nodes.result.now c.nodes.ensures.nodes c.args.node (Leaf 0) (Seq c.in-Seq.first c.in-Seq.second) c.requires c.in-Seq.is 1 0 (omega arith)))

pub returns-in_ok-push-in-Alt-3 : goal.returns-in_ok-push-in-Alt-3
returns-in_ok-push-in-Alt-3 c =
    rw (
      c.in_ok-push-in-Alt-3.ensures.items,
      c.in_ok-push-in-Alt-2.ensures.items,
      c.in_ok-push-in-Alt.ensures.items,
      c.enclosed_if-in-Alt.ensures,
      c.is_union-in-Alt.ensures,
    )
    (puts_union c.args.spec.now c.args.node c.args.text.now.items c.args.stack.now.items c.in-Alt.one c.in-Alt.other
    (tree_is c.args.spec.now c.nodes.ensures.specification c.nodes.result.now c.nodes.ensures.nodes c.args.node (Leaf 0) (Alt c.in-Alt.one c.in-Alt.other) c.requires c.in-Alt.is c.trees_are_made_of_their_children.ensures.made)
    (children_in c.args.spec.now c.nodes.ensures.specification c.nodes.result.now c.nodes.ensures.nodes c.args.node (Leaf 0) (Alt c.in-Alt.one c.in-Alt.other) c.requires c.in-Alt.is 0 0 (omega arith))
    (children_in c.args.spec.now c.nodes.ensures.specification c.nodes.result.now c.nodes.ensures.nodes c.args.node (Leaf 0) (Alt c.in-Alt.one c.in-Alt.other) c.requires c.in-Alt.is 1 0 (omega arith)))

pub returns-in_ok-put_signed-in-Star : goal.returns-in_ok-put_signed-in-Star
returns-in_ok-put_signed-in-Star c =
    let tree : node_tree c.args.spec.now c.args.node ≡ star (node_tree c.args.spec.now c.in-Star.inner)
    = tree_is c.args.spec.now c.nodes.ensures.specification c.nodes.result.now c.nodes.ensures.nodes c.args.node (Leaf 0) (Star c.in-Star.inner) c.requires c.in-Star.is c.trees_are_made_of_their_children.ensures.made in
    rw c.in_ok-put_signed-in-Star.ensures
    (puts_signed c.args.spec.now c.args.node c.args.text.now.items c.args.stack.now.items c.in-Star.inner Pieces.Star
    (ap (expr_text (map (λ s. s.name) c.args.spec.now.symbols) c.args.spec.now.outputs) tree) (ap tree_pieces tree) refl tt
    (children_in c.args.spec.now c.nodes.ensures.specification c.nodes.result.now c.nodes.ensures.nodes c.args.node (Leaf 0) (Star c.in-Star.inner) c.requires c.in-Star.is 0 0 (omega arith)))

pub returns-in_ok-put_signed-in-Plus : goal.returns-in_ok-put_signed-in-Plus
returns-in_ok-put_signed-in-Plus c =
    let tree : node_tree c.args.spec.now c.args.node ≡ plus (node_tree c.args.spec.now c.in-Plus.inner)
    = tree_is c.args.spec.now c.nodes.ensures.specification c.nodes.result.now c.nodes.ensures.nodes c.args.node (Leaf 0) (Plus c.in-Plus.inner) c.requires c.in-Plus.is c.trees_are_made_of_their_children.ensures.made in
    rw c.in_ok-put_signed-in-Plus.ensures
    (puts_signed c.args.spec.now c.args.node c.args.text.now.items c.args.stack.now.items c.in-Plus.inner Pieces.Plus
    (ap (expr_text (map (λ s. s.name) c.args.spec.now.symbols) c.args.spec.now.outputs) tree) (ap tree_pieces tree) refl tt
    (children_in c.args.spec.now c.nodes.ensures.specification c.nodes.result.now c.nodes.ensures.nodes c.args.node (Leaf 0) (Plus c.in-Plus.inner) c.requires c.in-Plus.is 0 0 (omega arith)))

pub returns-in_ok-put_signed-in-Opt : goal.returns-in_ok-put_signed-in-Opt
returns-in_ok-put_signed-in-Opt c =
    let tree : node_tree c.args.spec.now c.args.node ≡ optional (node_tree c.args.spec.now c.in-Opt.inner)
    = tree_is c.args.spec.now c.nodes.ensures.specification c.nodes.result.now c.nodes.ensures.nodes c.args.node (Leaf 0) (Opt c.in-Opt.inner) c.requires c.in-Opt.is c.trees_are_made_of_their_children.ensures.made in
    rw c.in_ok-put_signed-in-Opt.ensures
    (puts_signed c.args.spec.now c.args.node c.args.text.now.items c.args.stack.now.items c.in-Opt.inner Pieces.Optional
    (ap (expr_text (map (λ s. s.name) c.args.spec.now.symbols) c.args.spec.now.outputs) tree) (ap tree_pieces tree) refl tt
    (children_in c.args.spec.now c.nodes.ensures.specification c.nodes.result.now c.nodes.ensures.nodes c.args.node (Leaf 0) (Opt c.in-Opt.inner) c.requires c.in-Opt.is 0 0 (omega arith)))

pub returns-in_ok-put_signed-in-Mark : goal.returns-in_ok-put_signed-in-Mark
returns-in_ok-put_signed-in-Mark c =
    let tree : node_tree c.args.spec.now c.args.node ≡ marked (node_tree c.args.spec.now c.in-Mark.inner) c.in-Mark.output
    = tree_is c.args.spec.now c.nodes.ensures.specification c.nodes.result.now c.nodes.ensures.nodes c.args.node (Leaf 0) (Mark c.in-Mark.inner c.in-Mark.output) c.requires c.in-Mark.is c.trees_are_made_of_their_children.ensures.made in
    rw c.in_ok-put_signed-in-Mark.ensures
    (puts_signed c.args.spec.now c.args.node c.args.text.now.items c.args.stack.now.items c.in-Mark.inner (Pieces.Mark c.in-Mark.output)
    (ap (expr_text (map (λ s. s.name) c.args.spec.now.symbols) c.args.spec.now.outputs) tree) (ap tree_pieces tree) refl (names_in c.args.spec.now c.nodes.ensures.specification c.nodes.result.now c.nodes.ensures.nodes c.args.node (Leaf 0) (Mark c.in-Mark.inner c.in-Mark.output) c.requires c.in-Mark.is)
    (children_in c.args.spec.now c.nodes.ensures.specification c.nodes.result.now c.nodes.ensures.nodes c.args.node (Leaf 0) (Mark c.in-Mark.inner c.in-Mark.output) c.requires c.in-Mark.is 0 0 (omega arith)))

pub put_signed-requires-in-Repeat : goal.put_signed-requires-in-Repeat
put_signed-requires-in-Repeat c =
    children_in c.args.spec.now c.nodes.ensures.specification c.nodes.result.now c.nodes.ensures.nodes c.args.node (Leaf 0)
    (Repeat c.in-Repeat.inner c.in-Repeat.least c.in-Repeat.most) c.requires c.in-Repeat.is 0 0 (omega arith)

pub returns-in_ok-put_signed-in-Repeat : goal.returns-in_ok-put_signed-in-Repeat
returns-in_ok-put_signed-in-Repeat c =
    let tree : node_tree c.args.spec.now c.args.node ≡ repeated (node_tree c.args.spec.now c.in-Repeat.inner) c.in-Repeat.least c.in-Repeat.most
    = tree_is c.args.spec.now c.nodes.ensures.specification c.nodes.result.now c.nodes.ensures.nodes c.args.node (Leaf 0)
    (Repeat c.in-Repeat.inner c.in-Repeat.least c.in-Repeat.most) c.requires c.in-Repeat.is c.trees_are_made_of_their_children.ensures.made in
    rw c.in_ok-put_signed-in-Repeat.ensures
    (puts_signed c.args.spec.now c.args.node c.args.text.now.items c.args.stack.now.items c.in-Repeat.inner (Pieces.Bounds c.in-Repeat.least c.in-Repeat.most)
    (ap (expr_text (map (λ s. s.name) c.args.spec.now.symbols) c.args.spec.now.outputs) tree) (ap tree_pieces tree) refl tt
    (children_in c.args.spec.now c.nodes.ensures.specification c.nodes.result.now c.nodes.ensures.nodes c.args.node (Leaf 0)
    (Repeat c.in-Repeat.inner c.in-Repeat.least c.in-Repeat.most) c.requires c.in-Repeat.is 0 0 (omega arith)))

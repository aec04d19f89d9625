use Rattle.std.proofs.Common.{◌≡◌, ◌↔◌, ◌<◌, length, subst, arith}
use Rattle.rx_lang.specs.declared.expr_node.ExprNode.TheVariants.{Leaf}
use Rattle.rx_lang.specs.declared.wrapped.Layer.TheVariants.{Plain, Sign, Marked}
use Rattle.rx_lang.specs.Expression.{marked}
use Rattle.rx_lang.specs.Specification.{MatchesSymbol}
use Rattle.rx_lang.specs.VectorWords.{SpellsWord, node_tree, word_bits}
use Rattle.rx_lang.specs.Wrapped.{core_tree, wrap}
use Rattle.rx_lang.proofs.Alike.{wrap_alike}
use Rattle.rx_lang.proofs.Loops.{spells_in, spells_out, unmarked_spells}
use Rattle.rx_lang.proofs.Layers.{IsBelow, layer_below, layer_made}
use Rattle.rx_lang.proofs.wrapped.unwrapped.Goals as goal

below_plain : (c : goal.In-Plain) → IsBelow c.args.spec.now c.loop-core.node (Plain c.in-Plain.core)
below_plain c =
    let lt : c.loop-core.node < length c.args.spec.now.nodes = omega (arith, c.loop-core.invariant.0) in
    layer_below c.args.spec.now c.nodes.ensures.specification c.nodes.result.now c.nodes.ensures.nodes c.loop-core.node (Leaf 0)
    (Plain c.in-Plain.core) lt c.in-Plain.ensures

below_sign : (c : goal.In-Sign) → c.in-Sign.inner < c.loop-core.node
below_sign c =
    let lt : c.loop-core.node < length c.args.spec.now.nodes = omega (arith, c.loop-core.invariant.0) in
    layer_below c.args.spec.now c.nodes.ensures.specification c.nodes.result.now c.nodes.ensures.nodes c.loop-core.node (Leaf 0)
    (Sign c.in-Sign.inner c.in-Sign.may_loop c.in-Sign.may_be_empty) lt c.in-Sign.ensures

below_mark : (c : goal.In-Marked) → c.in-Marked.inner < c.loop-core.node
below_mark c =
    let lt : c.loop-core.node < length c.args.spec.now.nodes = omega (arith, c.loop-core.invariant.0) in
    layer_below c.args.spec.now c.nodes.ensures.specification c.nodes.result.now c.nodes.ensures.nodes c.loop-core.node (Leaf 0)
    (Marked c.in-Marked.inner c.in-Marked.output) lt c.in-Marked.ensures

pub returns-in-Plain-clause-entries : goal.returns-in-Plain-clause-entries
returns-in-Plain-clause-entries c = (below_plain c).0

pub returns-in-Plain-clause-below : goal.returns-in-Plain-clause-below
returns-in-Plain-clause-below c = omega (arith, (below_plain c).1, c.loop-core.invariant.0)

pub returns-in-Plain-clause-spells : goal.returns-in-Plain-clause-spells
returns-in-Plain-clause-spells c = λ word.
    let lt : c.loop-core.node < length c.args.spec.now.nodes = omega (arith, c.loop-core.invariant.0) in
    let made : node_tree c.args.spec.now c.loop-core.node ≡ core_tree c.args.spec.now c.in-Plain.core
    = layer_made c.args.spec.now c.nodes.ensures.specification c.nodes.result.now c.nodes.ensures.nodes c.loop-core.node (Leaf 0)
    (Plain c.in-Plain.core) lt c.in-Plain.ensures in
    subst (λ e. SpellsWord c.args.spec.now (node_tree c.args.spec.now c.args.expr) word ↔ SpellsWord c.args.spec.now (wrap c.loop-core.loops c.loop-core.empty e) word)
    made (c.loop-core.invariant.1 word)

pub loop-core-smaller-in-Sign : goal.loop-core-smaller-in-Sign
loop-core-smaller-in-Sign c = below_sign c

pub loop-core-preserved-in-Sign : goal.loop-core-preserved-in-Sign
loop-core-preserved-in-Sign c = (
  omega (arith, below_sign c, c.loop-core.invariant.0),
  λ word.
      let lt : c.loop-core.node < length c.args.spec.now.nodes = omega (arith, c.loop-core.invariant.0) in
      let same = wrap_alike (MatchesSymbol c.args.spec.now.symbols) c.loop-core.loops c.loop-core.empty (node_tree c.args.spec.now c.loop-core.node)
      (wrap c.in-Sign.may_loop c.in-Sign.may_be_empty (node_tree c.args.spec.now c.in-Sign.inner))
      (layer_made c.args.spec.now c.nodes.ensures.specification c.nodes.result.now c.nodes.ensures.nodes c.loop-core.node (Leaf 0)
      (Sign c.in-Sign.inner c.in-Sign.may_loop c.in-Sign.may_be_empty) lt c.in-Sign.ensures) (word_bits c.args.spec.now word) in
      let h = c.loop-core.invariant.1 word in (
        λ s. spells_out (MatchesSymbol c.args.spec.now.symbols) c.loop-core.loops c.loop-core.empty c.in-Sign.may_loop c.in-Sign.may_be_empty
            (node_tree c.args.spec.now c.in-Sign.inner) (word_bits c.args.spec.now word) (same.0 (h.0 s)),
        λ s. h.1 (same.1 (spells_in (MatchesSymbol c.args.spec.now.symbols) c.loop-core.loops c.loop-core.empty c.in-Sign.may_loop c.in-Sign.may_be_empty
            (node_tree c.args.spec.now c.in-Sign.inner) (word_bits c.args.spec.now word) s)),
      ),
)

pub loop-core-smaller : goal.loop-core-smaller
loop-core-smaller c = below_mark c

pub loop-core-preserved : goal.loop-core-preserved
loop-core-preserved c = (
  omega (arith, below_mark c, c.loop-core.invariant.0),
  λ word.
      let lt : c.loop-core.node < length c.args.spec.now.nodes = omega (arith, c.loop-core.invariant.0) in
      let made : node_tree c.args.spec.now c.loop-core.node ≡ marked (node_tree c.args.spec.now c.in-Marked.inner) c.in-Marked.output
      = layer_made c.args.spec.now c.nodes.ensures.specification c.nodes.result.now c.nodes.ensures.nodes c.loop-core.node (Leaf 0)
      (Marked c.in-Marked.inner c.in-Marked.output) lt c.in-Marked.ensures in
      let h = subst (λ e. SpellsWord c.args.spec.now (node_tree c.args.spec.now c.args.expr) word ↔ SpellsWord c.args.spec.now (wrap c.loop-core.loops c.loop-core.empty e) word)
      made (c.loop-core.invariant.1 word) in
      let same = unmarked_spells (MatchesSymbol c.args.spec.now.symbols) c.loop-core.loops c.loop-core.empty
      (node_tree c.args.spec.now c.in-Marked.inner) c.in-Marked.output (word_bits c.args.spec.now word) in
      (λ s. same.0 (h.0 s), λ s. h.1 (same.1 s)),
)

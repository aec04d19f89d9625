use Rattle.std.proofs.Common.{◌≡◌, ◌↔◌, ◌<◌, ◌&&◌, true, length, subst, sym, arith}
use Rattle.rx_lang.specs.declared.expr_node.ExprNode.TheVariants.{Leaf}
use Rattle.rx_lang.specs.declared.wrapped.Layer.TheVariants.{Plain, Sign, Marked}
use Rattle.rx_lang.specs.Expression.{marked}
use Rattle.rx_lang.specs.Specification.{MatchesSymbol}
use Rattle.rx_lang.specs.VectorWords.{MarksWord, node_tree, word_bits}
use Rattle.rx_lang.specs.Wrapped.{MarksBelow, core_tree, wrap}
use Rattle.rx_lang.proofs.Alike.{below_alike}
use Rattle.rx_lang.proofs.Loops.{below_other, below_own, below_sign}
use Rattle.rx_lang.proofs.Layers.{layer_below, layer_made}
use Rattle.rx_lang.proofs.wrapped.marked_below.Goals as goal

pub returns-in-Plain-clause-entries : goal.returns-in-Plain-clause-entries
returns-in-Plain-clause-entries c =
    let lt : c.loop-core.node < length c.args.spec.now.nodes = omega (arith, c.loop-core.invariant.0) in
    (layer_below c.args.spec.now c.nodes.ensures.specification c.nodes.result.now c.nodes.ensures.nodes c.loop-core.node (Leaf 0)
    (Plain c.in-Plain.core) lt c.in-Plain.ensures).0

pub returns-in-Plain-clause-below : goal.returns-in-Plain-clause-below
returns-in-Plain-clause-below c =
    let lt : c.loop-core.node < length c.args.spec.now.nodes = omega (arith, c.loop-core.invariant.0) in
    omega (
      arith,
      (layer_below c.args.spec.now c.nodes.ensures.specification c.nodes.result.now c.nodes.ensures.nodes c.loop-core.node (Leaf 0)
          (Plain c.in-Plain.core) lt c.in-Plain.ensures).1,
      c.loop-core.invariant.0,
    )

pub returns-in-Plain-clause-marks : goal.returns-in-Plain-clause-marks
returns-in-Plain-clause-marks c = λ word.
    let lt : c.loop-core.node < length c.args.spec.now.nodes = omega (arith, c.loop-core.invariant.0) in
    let made : node_tree c.args.spec.now c.loop-core.node ≡ core_tree c.args.spec.now c.in-Plain.core
    = layer_made c.args.spec.now c.nodes.ensures.specification c.nodes.result.now c.nodes.ensures.nodes c.loop-core.node (Leaf 0)
    (Plain c.in-Plain.core) lt c.in-Plain.ensures in
    subst (λ e. MarksWord c.args.spec.now (node_tree c.args.spec.now c.args.expr) c.args.output word
    ↔ MarksBelow c.args.spec.now c.loop-core.marked c.loop-core.loops c.loop-core.empty e c.args.output word)
    made (c.loop-core.invariant.1 word)

pub loop-core-smaller-in-Sign : goal.loop-core-smaller-in-Sign
loop-core-smaller-in-Sign c =
    let lt : c.loop-core.node < length c.args.spec.now.nodes = omega (arith, c.loop-core.invariant.0) in
    layer_below c.args.spec.now c.nodes.ensures.specification c.nodes.result.now c.nodes.ensures.nodes c.loop-core.node (Leaf 0)
    (Sign c.in-Sign.inner c.in-Sign.may_loop c.in-Sign.may_be_empty) lt c.in-Sign.ensures

pub loop-core-preserved-in-Sign : goal.loop-core-preserved-in-Sign
loop-core-preserved-in-Sign c =
    let lt : c.loop-core.node < length c.args.spec.now.nodes = omega (arith, c.loop-core.invariant.0) in
    let below : c.in-Sign.inner < c.loop-core.node = layer_below c.args.spec.now c.nodes.ensures.specification c.nodes.result.now c.nodes.ensures.nodes c.loop-core.node (Leaf 0)
    (Sign c.in-Sign.inner c.in-Sign.may_loop c.in-Sign.may_be_empty) lt c.in-Sign.ensures in (
      omega arith,
      λ word.
          let h = c.loop-core.invariant.1 word in
          let same = below_alike (MatchesSymbol c.args.spec.now.symbols) c.loop-core.marked c.loop-core.loops c.loop-core.empty
          (node_tree c.args.spec.now c.loop-core.node) (wrap c.in-Sign.may_loop c.in-Sign.may_be_empty (node_tree c.args.spec.now c.in-Sign.inner))
          c.args.output
          (layer_made c.args.spec.now c.nodes.ensures.specification c.nodes.result.now c.nodes.ensures.nodes c.loop-core.node (Leaf 0)
          (Sign c.in-Sign.inner c.in-Sign.may_loop c.in-Sign.may_be_empty) lt c.in-Sign.ensures) (word_bits c.args.spec.now word) in
          let step = below_sign (MatchesSymbol c.args.spec.now.symbols) c.loop-core.marked c.loop-core.loops c.loop-core.empty c.in-Sign.may_loop
          c.in-Sign.may_be_empty (node_tree c.args.spec.now c.in-Sign.inner) c.args.output (word_bits c.args.spec.now word) in
          (λ s. step.0 (same.0 (h.0 s)), λ s. h.1 (same.1 (step.1 s))),
    )

pub loop-core-smaller-then-named-output : goal.loop-core-smaller-then-named-output
loop-core-smaller-then-named-output c =
    let lt : c.loop-core.node < length c.args.spec.now.nodes = omega (arith, c.loop-core.invariant.0) in
    layer_below c.args.spec.now c.nodes.ensures.specification c.nodes.result.now c.nodes.ensures.nodes c.loop-core.node (Leaf 0)
    (Marked c.in-Marked.inner c.in-Marked.named) lt c.in-Marked.ensures

pub loop-core-preserved-then-named-output : goal.loop-core-preserved-then-named-output
loop-core-preserved-then-named-output c =
    let lt : c.loop-core.node < length c.args.spec.now.nodes = omega (arith, c.loop-core.invariant.0) in
    let below : c.in-Marked.inner < c.loop-core.node = layer_below c.args.spec.now c.nodes.ensures.specification c.nodes.result.now c.nodes.ensures.nodes c.loop-core.node (Leaf 0)
    (Marked c.in-Marked.inner c.in-Marked.named) lt c.in-Marked.ensures in
    let made : node_tree c.args.spec.now c.loop-core.node ≡ marked (node_tree c.args.spec.now c.in-Marked.inner) c.in-Marked.named
    = layer_made c.args.spec.now c.nodes.ensures.specification c.nodes.result.now c.nodes.ensures.nodes c.loop-core.node (Leaf 0)
    (Marked c.in-Marked.inner c.in-Marked.named) lt c.in-Marked.ensures in (
      omega arith,
      λ word.
          let h = subst (λ e. MarksWord c.args.spec.now (node_tree c.args.spec.now c.args.expr) c.args.output word
          ↔ MarksBelow c.args.spec.now c.loop-core.marked c.loop-core.loops c.loop-core.empty e c.args.output word)
          made (c.loop-core.invariant.1 word) in
          let own = below_own (MatchesSymbol c.args.spec.now.symbols) c.loop-core.marked c.loop-core.loops c.loop-core.empty
          (node_tree c.args.spec.now c.in-Marked.inner) c.args.output (word_bits c.args.spec.now word) in
          let step = subst (λ y. MarksBelow c.args.spec.now c.loop-core.marked c.loop-core.loops c.loop-core.empty
          (marked (node_tree c.args.spec.now c.in-Marked.inner) y) c.args.output word
          ↔ MarksBelow c.args.spec.now true c.loop-core.loops (c.loop-core.empty && c.loop-core.marked)
          (node_tree c.args.spec.now c.in-Marked.inner) c.args.output word) (sym c.if-named-output.true) own in
          (λ s. step.0 (h.0 s), λ s. h.1 (step.1 s)),
    )

pub loop-core-smaller : goal.loop-core-smaller
loop-core-smaller c =
    let lt : c.loop-core.node < length c.args.spec.now.nodes = omega (arith, c.loop-core.invariant.0) in
    layer_below c.args.spec.now c.nodes.ensures.specification c.nodes.result.now c.nodes.ensures.nodes c.loop-core.node (Leaf 0)
    (Marked c.in-Marked.inner c.in-Marked.named) lt c.in-Marked.ensures

pub loop-core-preserved : goal.loop-core-preserved
loop-core-preserved c =
    let lt : c.loop-core.node < length c.args.spec.now.nodes = omega (arith, c.loop-core.invariant.0) in
    let below : c.in-Marked.inner < c.loop-core.node = layer_below c.args.spec.now c.nodes.ensures.specification c.nodes.result.now c.nodes.ensures.nodes c.loop-core.node (Leaf 0)
    (Marked c.in-Marked.inner c.in-Marked.named) lt c.in-Marked.ensures in
    let made : node_tree c.args.spec.now c.loop-core.node ≡ marked (node_tree c.args.spec.now c.in-Marked.inner) c.in-Marked.named
    = layer_made c.args.spec.now c.nodes.ensures.specification c.nodes.result.now c.nodes.ensures.nodes c.loop-core.node (Leaf 0)
    (Marked c.in-Marked.inner c.in-Marked.named) lt c.in-Marked.ensures in (
      omega arith,
      λ word.
          let h = subst (λ e. MarksWord c.args.spec.now (node_tree c.args.spec.now c.args.expr) c.args.output word
          ↔ MarksBelow c.args.spec.now c.loop-core.marked c.loop-core.loops c.loop-core.empty e c.args.output word)
          made (c.loop-core.invariant.1 word) in
          let step = below_other (MatchesSymbol c.args.spec.now.symbols) c.loop-core.marked c.loop-core.loops c.loop-core.empty
          (node_tree c.args.spec.now c.in-Marked.inner) c.args.output c.in-Marked.named (word_bits c.args.spec.now word) c.if-named-output.false in
          (λ s. step.0 (h.0 s), λ s. h.1 (step.1 s)),
    )

-- One more node has its number and its signature.
use Rattle.std.proofs.Common.{◌≡◌, ℕ, ◌+◌, Option, Some, List, [], ◌∷◌, ◌++◌, length, slice_get, sym, ap, subst, arith}
use Rattle.std.specs.Prelude.{IfSome}
use Rattle.tree_chip.specs.declared.signature.Signature.{Signature}
use Rattle.tree_chip.specs.KindNumbers.{AreCellNumbers}
use Rattle.tree_chip.proofs.Signed.{AreSigned, signed_more, signed_earlier}
use Rattle.tree_chip.proofs.kind_numbers.cell_numbers.Goals as goal

pub cell_number-requires-clause-earlier : goal.cell_number-requires-clause-earlier
cell_number-requires-clause-earlier c =
    signed_earlier c.args.tree.now c.loop-node.signatures.items c.loop-node.node c.loop-node.invariant.1 c.signature_of-signature.result
    c.signature_of-signature.ensures c.find-earlier.result
    (subst (λ (l : List Signature). IfSome c.find-earlier.result (λ at. slice_get l at ≡ Some c.signature_of-signature.result))
    c.deref-in-loop-node.ensures.value c.find-earlier.ensures)

pub loop-node-preserved : goal.loop-node-preserved
loop-node-preserved c =
    let tree = c.args.tree.now in
    let tables = c.args.spec.now in
    let n = c.loop-node.node in
    let number = c.in_ok-number.number in
    let kinds = c.cell_number.new.kinds.items in
    let numbered =
    subst (λ (l : List (Option ℕ)). AreCellNumbers tree tables kinds (l ++ number ∷ []) (n + 1)) c.deref-in-loop-node-2.ensures.value
    c.in_ok-number.ensures in (
      subst (λ (l : List (Option ℕ)). AreCellNumbers tree tables kinds l (n + 1)) (sym c.in_ok-push-2.ensures.items) numbered,
      subst (λ (l : List Signature). AreSigned tree l (n + 1)) (sym c.in_ok-push.ensures.items)
          (signed_more tree c.loop-node.signatures.items n c.loop-node.invariant.1 c.signature_of-signature.result c.signature_of-signature.ensures),
    )

pub returns : goal.returns
returns c =
    let long = ap length c.nodes.ensures.nodes in
    let few = c.nodes.ensures.few in
    let last : c.loop-node.node ≡ length c.args.tree.now.nodes + 1 = omega (arith, long, few) in
    subst (λ (n : ℕ). AreCellNumbers c.args.tree.now c.args.spec.now c.loop-node.kinds.items c.loop-node.numbers.items n) last c.loop-node.invariant.0

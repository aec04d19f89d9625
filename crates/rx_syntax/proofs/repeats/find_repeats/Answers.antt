use Rattle.std.proofs.Common.{◌≡◌, ◌∙◌, ◌<◌, length, map, refl, ap, subst, arith}
use Rattle.std.proofs.lemmas.List.{take_all}
use Rattle.std.proofs.lemmas.Option.{slice_get-get_or}
use Rattle.rx_lang.specs.Tables.{trees}
use Rattle.rx_syntax.specs.Printed.{has_repeat}
use Rattle.rx_syntax.proofs.RepeatTests.{tests_more, tests_size}
use Rattle.rx_syntax.proofs.repeats.find_repeats.Goals as goal

pub node_repeats-requires : goal.node_repeats-requires
node_repeats-requires c = λ k d lt.
    let within : c.loop-node.node-index < length c.args.spec.now.nodes
    = subst (λ ns. c.loop-node.node-index < length ns) c.nodes-node-items.ensures.nodes c.loop-node-test.true in
    let size : length c.loop-node.tests.items ≡ c.loop-node.node-index
    = tests_size c.nodes-node-items.result.now c.loop-node.node-index c.loop-node.tests.items (omega arith) c.loop-node.invariant in
    let same : length c.deref.result.now ≡ length c.loop-node.tests.items = ap length c.deref.ensures.value in
    let before = c.nodes-node-items.ensures.specification.children_before c.loop-node.node-index _
    (rw (← c.nodes-node-items.ensures.nodes) (slice_get-get_or c.nodes-node-items.result.now c.loop-node.node-index _ c.loop-node-test.true)) k d lt in
    omega arith

pub loop-node-preserved : goal.loop-node-preserved
loop-node-preserved c =
    rw c.in_ok-push.ensures.items
    (tests_more c.nodes-node-items.result.now c.loop-node.node-index _ _ c.loop-node.tests.items c.node_repeats.result c.loop-node-test.true refl
    c.loop-node.invariant (c.node_repeats.ensures _ (c.deref.ensures.value ∙ c.loop-node.invariant)))

pub returns : goal.returns
returns c =
    c.loop-node.invariant
    ∙ ap (λ ns. map has_repeat (trees ns)) (take_all c.loop-node.node-index c.nodes-node-items.result.now c.loop-node-test.false ∙ c.nodes-node-items.ensures.nodes)

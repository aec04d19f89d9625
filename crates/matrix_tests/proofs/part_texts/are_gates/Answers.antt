-- One gate more is of the part.
use Rattle.std.proofs.Common.{◌≢◌, ◌<◌, All, AllPairs, refl, subst, arith}
use Rattle.std.proofs.lemmas.List.{take_all}
use Rattle.std.proofs.lemmas.List.Elements.{All-more}
use Rattle.nor_net.specs.Part.{IsPartGate}
use Rattle.matrix_tests.proofs.part_texts.are_gates.Goals as goal

pub loop-gate-preserved : goal.loop-gate-preserved
loop-gate-preserved c =
    let here = c.if-out-count.false in
    let out = c.out.ensures in
    let gate : IsPartGate c.args.count c.gate-item.result = record {
      out_below = omega (arith, here, out);
      inputs_below = subst (All (λ input. input < c.args.count)) c.inputs.ensures (c.if-not-are_below.ensures refl);
      distinct = subst (AllPairs (λ a b. a ≢ b)) c.inputs-else-not-are_below.ensures (c.if-not-differ.ensures refl);
    } in
    All-more (IsPartGate c.args.count) c.args.gates.now c.loop-gate.gate-index c.gate-item.result c.loop-gate-test.true c.loop-gate.invariant
    (subst (IsPartGate c.args.count) c.gate-item.is gate)

pub returns : goal.returns
returns c = λ e. subst (All (IsPartGate c.args.count)) (take_all c.loop-gate.gate-index c.args.gates.now c.loop-gate-test.false) c.loop-gate.invariant

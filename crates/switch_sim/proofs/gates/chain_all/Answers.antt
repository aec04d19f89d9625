use Rattle.std.proofs.Common.{◌≡◌, length, get_or, arith, sym, subst}
use Rattle.switch_net.specs.ClockedLogic.{NamesBelow}
use Rattle.switch_sim.specs.Gating.{AreEarlierGated, AreLastGated}
use Rattle.switch_sim.proofs.Chains.{nowhere}
use Rattle.switch_sim.proofs.GateChains.{gate_below, none_last, last_more, earlier_more}
use Rattle.switch_sim.proofs.gates.chain_all.Goals as goal

pub loop-at-init : goal.loop-at-init
loop-at-init c = record {
  last = none_last c.args.devices.now c.args.last.now c.requires.begun;
  earlier = λ d x net lt. absurd (omega arith);
}

pub chain-requires : goal.chain-requires
chain-requires c =
    subst (λ n. NamesBelow n (get_or c.args.devices.now c.loop-at.at nowhere)) (sym c.loop-at.auto.last) (c.requires.below c.loop-at.at nowhere c.loop-at-test.true)

pub loop-at-preserved : goal.loop-at-preserved
loop-at-preserved c =
    let lt = c.loop-at-test.true in
    let before = c.loop-at.invariant in
    let below = subst (λ n. NamesBelow n (get_or c.args.devices.now c.loop-at.at nowhere)) (sym c.loop-at.auto.last) (c.requires.below c.loop-at.at nowhere lt) in
    record {
      last = last_more c.args.devices.now c.loop-at.at nowhere lt c.loop-at.last before.last c.chain.new.last c.chain.ensures.here c.chain.ensures.rest c.chain.ensures.size;
      earlier = earlier_more c.args.devices.now c.loop-at.at nowhere lt c.loop-at.last before.last c.loop-at.earlier c.chain.result (omega arith)
          (gate_below (length c.loop-at.last) (get_or c.args.devices.now c.loop-at.at nowhere) below) c.chain.ensures.earlier before.earlier;
    }

pub returns-clause-last : goal.returns-clause-last
returns-clause-last c =
    let all : c.loop-at.at ≡ length c.args.devices.now = omega arith in
    subst (λ n. AreLastGated c.args.devices.now n c.loop-at.last) all c.loop-at.invariant.last

pub returns-clause-earlier : goal.returns-clause-earlier
returns-clause-earlier c =
    let all : c.loop-at.at ≡ length c.args.devices.now = omega arith in
    subst (λ n. AreEarlierGated c.args.devices.now n c.loop-at.earlier) all c.loop-at.invariant.earlier

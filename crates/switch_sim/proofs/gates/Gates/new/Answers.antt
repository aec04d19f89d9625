use Rattle.std.proofs.Common.{◌≡◌, length, ap, sym, subst, ◌∙◌, arith}
use Rattle.std.proofs.lemmas.List.{with_items_is}
use Rattle.switch_sim.specs.Gating.{AreEarlierGated, AreLastGated}
use Rattle.switch_sim.proofs.gates.Gates.new.Goals as goal

pub returns-clause-chains : goal.returns-clause-chains
returns-clause-chains c =
    let chained = c.chain_all.ensures in
    let last_size : length c.chain_all.new.last ≡ c.in_ok-last.last.len =
    omega (arith, chained.last_size, ap length c.deref_mut.ensures.value, c.deref_mut.ensures.len) in
    let earlier_size : length c.chain_all.new.earlier ≡ c.in_ok-earlier.earlier.len =
    omega (arith, chained.earlier_size, ap length c.deref_mut-2.ensures.value, c.deref_mut-2.ensures.len) in
    let last_is = with_items_is c.in_ok-last.last c.chain_all.new.last last_size in
    let earlier_is = with_items_is c.in_ok-earlier.earlier c.chain_all.new.earlier earlier_size in
    record {
      size = ap length earlier_is ∙ earlier_size ∙ c.in_ok-earlier.ensures.len;
      last = subst (AreLastGated c.args.devices.now (length c.args.devices.now)) (sym last_is) chained.last;
      earlier = subst (AreEarlierGated c.args.devices.now (length c.args.devices.now)) (sym earlier_is) chained.earlier;
    }

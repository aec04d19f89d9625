use Rattle.std.proofs.Common.{◌≡◌, ap, ◌∙◌}
use Rattle.std.specs.Ordering.{nat_cmp}
use Rattle.std.specs.BTreeMap.{get}
use Rattle.sim_probe.specs.Tallies.{next_tally}
use Rattle.sim_probe.proofs.Tallies.{has_tallies_more}
use Rattle.sim_probe.proofs.toggles.count_sample.Goals as goal

pub returns : goal.returns
returns c samples has =
    let sample = c.args.sample in
    let updates = c.in_ok-insert.ensures.updates in
    let before : c.copied-before.result ≡ get nat_cmp c.args.tallies.now sample.pad = c.copied-before.ensures ∙ c.get.ensures.value in
    has_tallies_more c.args.tallies.now c.insert.new.self samples sample c.next_tally.result has
    (c.next_tally.ensures ∙ ap (λ o. next_tally o sample.value) before) updates.1 updates.2 c.in_ok-insert.ensures.entries

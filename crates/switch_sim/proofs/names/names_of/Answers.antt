use Rattle.std.proofs.Common.{◌≡◌, ◌++◌, map, flat_map, ap₂, ◌∙◌}
use Rattle.std.proofs.lemmas.List.Filters.{dedup_is}
use Rattle.switch_net.specs.Circuit.{device_nets, touched}
use Rattle.switch_sim.proofs.Naming.{names_are}
use Rattle.switch_sim.proofs.names.names_of.Goals as goal

pub returns : goal.returns
returns c =
    let all : c.push_devices.new.nets.items ≡ touched c.args.network.now =
    c.in_ok-push_devices.ensures
    ∙ ap₂ (λ xs ds. xs ++ flat_map device_nets ds)
    (c.in_ok-push_pads.ensures ∙ ap₂ (λ xs ps. xs ++ map (λ pad. pad.net.0) ps) c.new-all.ensures.items c.pads.ensures.pads) c.devices.ensures in
    names_are c.args.network.now c.push_devices.new.nets.items c.sort_unstable.new.self.items c.dedup.new.self.items all
    c.sort_unstable.ensures.permutation c.sort_unstable.ensures.sorted (dedup_is _ _ _ c.dedup.ensures.filtered)

use Rattle.std.proofs.Common.{subst}
use Rattle.nmos_model.specs.declared.refusal.ReadChipFault.TheVariants as ReadChipFault
use Rattle.nmos_model.specs.Unsound.{IsUnsoundBy}
use Rattle.nmos_model.proofs.ChannelLists.{channels_even}
use Rattle.nmos_model.proofs.Loads.{on_nets}
use Rattle.nmos_model.proofs.Standing.{some_refusal}
use Rattle.stick_grid.specs.NetMaps.{net_of, net_count}
use Rattle.stick_grid.specs.Plans.{Covers, plan_of}
use Rattle.stick_grid.proofs.network.grid_network.Goals as goal

pub network_of-requires-clause-on_nets : goal.network_of-requires-clause-on_nets
network_of-requires-clause-on_nets c = λ channel among.
    let Drawn = Covers (plan_of c.args.grid.now) in
    on_nets Drawn (net_count c.in_ok-nets.nets) (net_of c.in_ok-nets.nets) c.in_ok-nets.ensures.nets channel
    (c.in_ok-channels.ensures.channels.each channel (rw c.deref.ensures.value at among))

pub unreachable-requires : goal.unreachable-requires
unreachable-requires c =
    let Drawn = Covers (plan_of c.args.grid.now) in
    let channels = c.in_ok-channels.channels.items in
    let regions = c.in_ok-channels.ensures.channels in
    let net = net_of c.in_ok-nets.nets in
    let told = rw c.in-Err-Fault.field-0-is at c.in-Err-Fault.ensures.fault in
    let unsound = subst (λ cs. IsUnsoundBy net cs c.args.labels.now (ReadChipFault.Fault c.in-Err-Fault.field-0-0)) c.deref.ensures.value told in
    let refused = some_refusal Drawn (net_count c.in_ok-nets.nets) net c.in_ok-nets.ensures.nets c.args.labels.now channels regions
    (channels_even Drawn channels regions) c.in-Err-Fault.field-0-0.code c.in-Err-Fault.field-0-0.place unsound in
    c.requires refused.0 refused.1 refused.2

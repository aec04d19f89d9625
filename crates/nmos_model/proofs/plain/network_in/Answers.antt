use Rattle.std.proofs.Common.{rules, arith, length, ap, sym}
use Rattle.geom.specs.Squares.{Covered}
use Rattle.nmos_model.specs.NetMaps.{net_of, net_count}
use Rattle.nmos_model.specs.Rasters.{Shows}
use Rattle.nmos_model.specs.Networks.{Connects}
use Rattle.nmos_model.specs.Unsound.{IsUnsoundBy}
use Rattle.nmos_model.proofs.Labels.{below}
use Rattle.nmos_model.proofs.Loads.{on_nets}
use Rattle.nmos_model.proofs.NearChannels.{near_channel}
use Rattle.nmos_model.proofs.Standing.{standing, odd_refused, unsound_refused, if_ok, if_err}
use Rattle.nmos_model.proofs.plain.network_in.Goals as goal

pub channels_of-requires-clause-few : goal.channels_of-requires-clause-few
channels_of-requires-clause-few c =
    let size = ap length c.deref.ensures.value in
    let few = c.requires.few in
    omega (arith, size, few)

pub channels_of-requires-clause-shows : goal.channels_of-requires-clause-shows
channels_of-requires-clause-shows c =
    let shows = c.requires.shows in
    (shows.0, rw c.deref.ensures.value shows.1)

pub returns-in_err-channels-clause-fault : goal.returns-in_err-channels-clause-fault
returns-in_err-channels-clause-fault c = λ boxes shows.
    let odd = odd_refused (Covered boxes) c.args.labels.now c.in_err-channels.field-0.0 (c.in_err-channels.ensures.fault boxes (rw c.deref.ensures.value shows)) in
    let from = c.from_residual.ensures in
    search rules

pub network_of-requires-clause-below : goal.network_of-requires-clause-below
network_of-requires-clause-below c =
    let shows = c.requires.shows in
    rw c.count.ensures (below (Covered shows.0) (net_count c.in_ok-nets.nets) (net_of c.in_ok-nets.nets) (c.in_ok-nets.ensures shows.0 shows.1))

pub network_of-requires-clause-near : goal.network_of-requires-clause-near
network_of-requires-clause-near c = λ channel among.
    let shows = c.requires.shows in
    let channels = c.in_ok-channels.ensures.channels shows.0 (rw c.deref.ensures.value shows.1) in
    near_channel c.args.frame c.args.squares.items (Covered shows.0) shows.1 c.requires.near channel (channels.each channel (rw c.deref-2.ensures.value at among))

pub network_of-requires-clause-on_nets : goal.network_of-requires-clause-on_nets
network_of-requires-clause-on_nets c = λ channel among.
    let shows = c.requires.shows in
    let channels = c.in_ok-channels.ensures.channels shows.0 (rw c.deref.ensures.value shows.1) in
    let nets = c.in_ok-nets.ensures shows.0 shows.1 in
    on_nets (Covered shows.0) (net_count c.in_ok-nets.nets) (net_of c.in_ok-nets.nets) nets channel
    (channels.each channel (rw c.deref-2.ensures.value at among))

pub returns-clause-network : goal.returns-clause-network
returns-clause-network c = λ boxes shows.
    let drawn : Shows c.args.frame c.deref.result.now (Covered boxes) = rw c.deref.ensures.value shows in
    let channels = c.in_ok-channels.ensures.channels boxes drawn in
    let nets = c.in_ok-nets.ensures boxes shows in
    if_ok _ _ _ c.network_of.result c.network_of.ensures.sound c.network_of.ensures.network
    (λ sound circuit connects.
    let there : Connects (net_count c.in_ok-nets.nets) (net_of c.in_ok-nets.nets) c.in_ok-channels.channels.items c.args.labels.now circuit =
    rw (sym c.count.ensures, sym c.deref-2.ensures.value) connects in
    standing (Covered boxes) (net_count c.in_ok-nets.nets) (net_of c.in_ok-nets.nets) nets c.args.labels.now c.in_ok-channels.channels.items channels circuit sound there)

pub returns-clause-fault : goal.returns-clause-fault
returns-clause-fault c = λ boxes shows.
    let drawn : Shows c.args.frame c.deref.result.now (Covered boxes) = rw c.deref.ensures.value shows in
    let channels = c.in_ok-channels.ensures.channels boxes drawn in
    let nets = c.in_ok-nets.ensures boxes shows in
    if_err _ _ c.network_of.result c.network_of.ensures.fault
    (λ fault unsound.
    let there : IsUnsoundBy (net_of c.in_ok-nets.nets) c.in_ok-channels.channels.items c.args.labels.now fault = rw (sym c.deref-2.ensures.value) unsound in
    unsound_refused (Covered boxes) (net_count c.in_ok-nets.nets) (net_of c.in_ok-nets.nets) nets c.args.labels.now c.in_ok-channels.channels.items channels
    (c.in_ok-channels.ensures.even boxes drawn) (c.in_ok-channels.ensures.order boxes drawn) fault there)

use Rattle.std.proofs.Common.{◌≡◌, length, sym, subst, IfOk, OnOk, IfErr, IsErrAnd, Result, Ok, Err}
use Rattle.geom.specs.Rows.{Among}
use Rattle.geom.specs.Squares.{Covered}
use Rattle.nmos_model.specs.Classes.{IsClassing}
use Rattle.nmos_model.specs.Rasters.{cover_at}
use Rattle.nmos_model.specs.Refusals.{IsOddBy}
use Rattle.nmos_model.specs.Regions.{IsRegion, Raster, channel_links, is_channel}
use Rattle.nmos_model.proofs.ChannelLists.{are_channels, channels_even, in_order, odd_ends, odd_first}
use Rattle.nmos_model.proofs.ChannelPlaces.{is_channel_graph, margin}
use Rattle.nmos_model.proofs.FirstSquares.{first_channel}
use Rattle.nmos_model.proofs.Matching.{source_of}
use Rattle.nmos_model.proofs.regions.channels_of.Goals as goal

pub classify-requires : goal.classify-requires
classify-requires c =
    rw c.new-squares.ensures (is_channel_graph c.args.frame c.args.squares.now (Covered c.requires.shows.0) c.requires.shows.1)

pub regions_of-requires-clause-margin : goal.regions_of-requires-clause-margin
regions_of-requires-clause-margin c =
    rw c.new-squares.ensures (margin c.args.frame c.args.squares.now (Covered c.requires.shows.0) c.requires.shows.1)

pub regions_of-requires-clause-channel : goal.regions_of-requires-clause-channel
regions_of-requires-clause-channel c = λ first h.
    let classes = c.in_ok-classes.classes in
    let classing = subst (λ (s : Raster). IsClassing (length s.covers) (λ n. is_channel (cover_at s.covers n)) (channel_links s) classes) c.new-squares.ensures c.in_ok-classes.ensures in
    rw c.new-squares.ensures
    (first_channel c.args.frame c.args.squares.now (Covered c.requires.shows.0) c.requires.shows.1 classes classing first
    (subst (λ l. Among l first) c.firsts.ensures h))

pub returns-in_err-regions-clause-fault : goal.returns-in_err-regions-clause-fault
returns-in_err-regions-clause-fault c = λ boxes shows.
    let classes = c.in_ok-classes.classes in
    let classing = subst (λ (s : Raster). IsClassing (length s.covers) (λ n. is_channel (cover_at s.covers n)) (channel_links s) classes) c.new-squares.ensures c.in_ok-classes.ensures in
    let fault = rw (c.new-squares.ensures, c.firsts.ensures) at c.in_err-regions.ensures.fault in
    let odd = odd_first c.args.frame c.args.squares.now (Covered boxes) shows c.requires.few classes classing _ fault in
    err_is c.from_residual-in_err-regions.result c.in_err-regions.field-0.0 (IsOddBy (Covered boxes)) c.from_residual-in_err-regions.ensures.1 odd
  where
    err_is : {X E : Type 0} (r : Result X E) (e : E) (P : E → Type 0) → IsErrAnd r (λ f. f ≡ e) → P e → IfErr r P
    err_is (Ok x) e P h p = tt
    err_is (Err f) e P h p = subst P (sym h) p

pub with_terminals-requires-clause-inner : goal.with_terminals-requires-clause-inner
with_terminals-requires-clause-inner c = λ region h.
    let among = subst (λ l. Among l region) c.deref.ensures.value h in
    (source_of (IsRegion c.new-squares.result) c.firsts.result.now c.in_ok-regions.regions.items region c.in_ok-regions.ensures.regions among).2.inner

ok_then : {X E : Type 0} (r : Result X E) (P Q : X → Type 0) → ((x : X) → P x → Q x) → IfOk r P → IfOk r Q
ok_then (Ok x) P Q f h = f x h
ok_then (Err e) P Q f h = h

ok_so : {X E : Type 0} (r : Result X E) (P : X → Type 0) (Q : Type 0) → ((x : X) → P x → Q) → IfOk r P → OnOk r Q
ok_so (Ok x) P Q f h = f x h
ok_so (Err e) P Q f h = h

err_then : {X E : Type 0} (r : Result X E) (P Q : E → Type 0) → ((e : E) → P e → Q e) → IfErr r P → IfErr r Q
err_then (Ok x) P Q f h = h
err_then (Err e) P Q f h = f e h

pub returns : goal.returns
returns c =
    let classes = c.in_ok-classes.classes in
    let classing = subst (λ (s : Raster). IsClassing (length s.covers) (λ n. is_channel (cover_at s.covers n)) (channel_links s) classes) c.new-squares.ensures c.in_ok-classes.ensures in
    let regions = c.in_ok-regions.regions.items in
    let matched = rw (c.new-squares.ensures, c.firsts.ensures) at c.in_ok-regions.ensures.regions in
    record {
      channels = λ boxes shows.
          ok_then c.with_terminals.result _ _
          (λ channels m.
          are_channels c.args.frame c.args.squares.now (Covered boxes) shows c.requires.few classes classing regions matched channels.items
          (rw (c.new-squares.ensures, c.deref.ensures.value) at m))
          c.with_terminals.ensures.channels;
      order = λ boxes shows.
          ok_then c.with_terminals.result _ _
          (λ channels m.
          in_order c.args.frame c.args.squares.now (Covered boxes) shows c.requires.few classes classing regions matched channels.items
          (rw (c.new-squares.ensures, c.deref.ensures.value) at m))
          c.with_terminals.ensures.channels;
      even = λ boxes shows.
          ok_so c.with_terminals.result _ _
          (λ channels m.
          channels_even (Covered boxes) channels.items
          (are_channels c.args.frame c.args.squares.now (Covered boxes) shows c.requires.few classes classing regions matched channels.items
          (rw (c.new-squares.ensures, c.deref.ensures.value) at m)))
          c.with_terminals.ensures.channels;
      fault = λ boxes shows.
          err_then c.with_terminals.result _ _
          (λ fault h.
          odd_ends c.args.frame c.args.squares.now (Covered boxes) shows c.requires.few classes classing regions matched fault
          (rw (c.new-squares.ensures, c.deref.ensures.value) at h))
          c.with_terminals.ensures.fault;
    }

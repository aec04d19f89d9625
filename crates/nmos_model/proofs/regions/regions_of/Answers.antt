use Rattle.std.proofs.Common.{suc, arith, refl, take, drop, get_or}
use Rattle.std.proofs.lemmas.List.{take_more}
use Rattle.nmos_model.specs.Regions.{IsRegion}
use Rattle.nmos_model.proofs.ChannelPlaces.{channel_within}
use Rattle.nmos_model.proofs.Cuts.{cut_at}
use Rattle.nmos_model.proofs.Matching.{among_get, match_of, matched_more}
use Rattle.nmos_model.proofs.regions.regions_of.Goals as goal

pub region_at-requires-clause-channel : goal.region_at-requires-clause-channel
region_at-requires-clause-channel c =
    c.requires.channel _ (among_get c.args.firsts.now c.loop-first.first-index 0 c.loop-first-test.true)

pub odd_channel-requires-clause-within : goal.odd_channel-requires-clause-within
odd_channel-requires-clause-within c =
    let among = among_get c.args.firsts.now c.loop-first.first-index 0 c.loop-first-test.true in
    let within = channel_within c.args.squares.now _ (c.requires.channel _ among) in
    omega (arith, within, c.frame.ensures.size)

pub returns-in-None-clause-fault : goal.returns-in-None-clause-fault
returns-in-None-clause-fault c =
    let firsts = c.args.firsts.now in
    let at = c.loop-first.first-index in
    rw (c.odd_channel.ensures, c.frame.ensures.frame) (
      get_or firsts at 0,
      record {
        earlier = take at firsts;
        later = drop (suc at) firsts;
        whole = cut_at firsts at 0 c.loop-first-test.true;
        before = λ one h.
            let m = match_of (IsRegion c.args.squares.now) (take at firsts) c.loop-first.regions.items one c.loop-first.invariant h in
            (m.0, m.2);
        fails = λ found. c.in-None.ensures.none found.0 found.1;
      },
      refl,
    )

pub loop-first-preserved : goal.loop-first-preserved
loop-first-preserved c =
    rw (take_more c.args.firsts.now c.loop-first.first-index 0 c.loop-first-test.true, c.in_ok-push-in-Some.ensures.items)
    (matched_more (IsRegion c.args.squares.now) _ _ _ _ c.loop-first.invariant c.in-Some.ensures.some)

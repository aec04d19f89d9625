use Rattle.std.proofs.Common.{suc, false, refl, take, drop, get_or}
use Rattle.std.proofs.lemmas.List.{take_more}
use Rattle.nmos_model.specs.declared.block.Region.{Region}
use Rattle.nmos_model.specs.Regions.{IsChannelOf}
use Rattle.nmos_model.proofs.Cuts.{cut_at}
use Rattle.nmos_model.proofs.Matching.{among_get, match_of, matched_more}
use Rattle.nmos_model.proofs.terminals.with_terminals.Goals as goal

-- what stands in place of a region that is none of the list
abbrev nothing : Region
nothing = record {
  block = record { columns = record { from = 0; to = 0 }; rows = record { from = 0; to = 0 } };
  depletion = false;
}

pub channel_of-requires-clause-inner : goal.channel_of-requires-clause-inner
channel_of-requires-clause-inner c =
    c.requires.inner _ (among_get c.args.regions.now c.loop-region.region-index nothing c.loop-region-test.true)

pub odd_terminals-requires-clause-inner : goal.odd_terminals-requires-clause-inner
odd_terminals-requires-clause-inner c =
    rw c.frame.ensures.frame (c.requires.inner _ (among_get c.args.regions.now c.loop-region.region-index nothing c.loop-region-test.true))

pub returns-in-None-clause-fault : goal.returns-in-None-clause-fault
returns-in-None-clause-fault c =
    let regions = c.args.regions.now in
    let at = c.loop-region.region-index in
    rw (c.odd_terminals.ensures, c.frame.ensures.frame) (
      get_or regions at nothing,
      record {
        earlier = take at regions;
        later = drop (suc at) regions;
        whole = cut_at regions at nothing c.loop-region-test.true;
        before = λ one h.
            let m = match_of (IsChannelOf c.args.squares.now) (take at regions) c.loop-region.channels.items one c.loop-region.invariant h in
            (m.2.0, m.2.1);
        fails = λ found. c.in-None.ensures.none found.0 found.1;
      },
      refl,
    )

pub loop-region-preserved : goal.loop-region-preserved
loop-region-preserved c =
    rw (take_more c.args.regions.now c.loop-region.region-index nothing c.loop-region-test.true, c.in_ok-push-in-Some.ensures.items)
    (matched_more (IsChannelOf c.args.squares.now) _ _ _ _ c.loop-region.invariant c.in-Some.ensures.some)

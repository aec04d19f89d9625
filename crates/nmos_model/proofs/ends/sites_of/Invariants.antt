-- The sites of the channels so far.
use Rattle.std.proofs.Common.{◌≡◌, map, take}
use Rattle.nmos_model.specs.Sites.{first_site, gate_site, second_site}
use Rattle.nmos_model.proofs.ends.sites_of.Given as goal

abbrev pub invariant-loop-channel : goal.invariant-loop-channel
invariant-loop-channel l = record {
  gates : l.gates.items ≡ map gate_site (take l.channel-index l.channels);
  firsts : l.firsts.items ≡ map first_site (take l.channel-index l.channels);
  seconds : l.seconds.items ≡ map second_site (take l.channel-index l.channels);
}

use Rattle.std.proofs.Common.{take}
use Rattle.nmos_model.specs.Lists.{Matched}
use Rattle.nmos_model.specs.Pads.{AreNamed, IsPadOf}
use Rattle.nmos_model.proofs.pads.pad_of_each.Given as goal

abbrev pub invariant-loop-at : goal.invariant-loop-at
invariant-loop-at g l = record {
  pads : Matched (IsPadOf (g.N.SiteNets.net l.nets)) (take l.at l.labels) l.pads.items;
  named : AreNamed (take l.at l.labels);
}

-- Each link is added twice.
use Rattle.std.proofs.Common.{List, take, get_or, sym, subst}
use Rattle.std.proofs.lemmas.List.{take_more}
use Rattle.nmos_extract.specs.declared.links.Link.{Link}
use Rattle.nmos_extract.specs.Graphs.{AreBothWays}
use Rattle.nmos_extract.proofs.Adding.{two_ways}
use Rattle.nmos_extract.proofs.graph.both_ways.Goals as goal

pub loop-l-preserved : goal.loop-l-preserved
loop-l-preserved c =
    let blank : Link = record { from = 0; to = 0 } in
    let links = c.args.links.now in
    let i = c.loop-l.l-index in
    let P : List Link → Type 0 = λ ls. AreBothWays ls c.push-in-loop-l.new.self.items in
    subst P (sym (take_more links i blank c.loop-l-test.true))
    (two_ways (take i links) (get_or links i blank) c.loop-l.both.items c.push.new.self.items c.push-in-loop-l.new.self.items
    c.in_ok-push.ensures.items c.in_ok-push-2.ensures.items c.loop-l.invariant)

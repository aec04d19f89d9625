use Rattle.std.proofs.Common.{◌==◌, ◌&&◌, ap, sym, subst, ◌∙◌}
use Rattle.switch_sim.specs.Grouping.{IsFollowed, IsOf}
use Rattle.switch_sim.proofs.Grouping.{load_true, load_of, pass_followed, pass_joins, pass_joins_back, then_true}
use Rattle.switch_sim.proofs.group.follow.Goals as goal

pub returns-in-Load-clause-sound : goal.returns-in-Load-clause-sound
returns-in-Load-clause-sound c =
    load_true c.args.sight.now c.args.conduct c.args.net _ _ _ _ c.add_load.ensures.low c.add_load.ensures.high c.add_load.ensures.not_low
    c.add_load.ensures.not_high (load_of c.args.sight.now c.args.device c.in-Load.at c.args.net c.requires.of c.in-Load.is)

pub returns-in-Pass-clause-followed : goal.returns-in-Pass-clause-followed
returns-in-Pass-clause-followed c =
    let at_a = c.both-at_a.ensures ∙ ap (λ on. on && c.in-Pass.a.0 == c.args.net) c.is_on-on.ensures in
    let at_b = c.both-at_b.ensures ∙ ap (λ on. on && c.in-Pass.b.0 == c.args.net) c.is_on-on.ensures in
    subst (IsFollowed c.args.sight.now c.args.conduct c.args.net _ _) (sym c.in-Pass.is)
    (pass_followed c.args.sight.now c.args.conduct c.args.net c.in-Pass.gate c.in-Pass.a c.in-Pass.b _ _ _ _ c.meet-in-Pass.ensures.more _ _ at_a at_b
    c.meet.ensures.met c.meet-in-Pass.ensures.met)

pub returns-in-Pass-clause-sound : goal.returns-in-Pass-clause-sound
returns-in-Pass-clause-sound c =
    let of = subst (IsOf c.args.sight.now) c.in-Pass.is c.requires.of in
    let at_a = c.both-at_a.ensures ∙ ap (λ on. on && c.in-Pass.a.0 == c.args.net) c.is_on-on.ensures in
    let at_b = c.both-at_b.ensures ∙ ap (λ on. on && c.in-Pass.b.0 == c.args.net) c.is_on-on.ensures in
    then_true c.args.sight.now c.args.conduct c.args.net _ _ _ _ _ _ c.meet.ensures.more
    (c.meet.ensures.sound c.args.conduct c.args.net
    (pass_joins c.args.sight.now c.args.conduct c.args.net c.in-Pass.gate c.in-Pass.a c.in-Pass.b of _ at_a))
    (c.meet-in-Pass.ensures.sound c.args.conduct c.args.net
    (pass_joins_back c.args.sight.now c.args.conduct c.args.net c.in-Pass.gate c.in-Pass.a c.in-Pass.b of _ at_b))

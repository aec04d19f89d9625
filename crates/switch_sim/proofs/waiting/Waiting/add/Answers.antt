use Rattle.std.proofs.Common.{rules, arith, ◌≡◌, ◌<◌, false, length, get_or, sym, ap, subst, ◌∙◌, inr, ◌++◌, ◌∷◌, []}
use Rattle.std.proofs.lemmas.List.{get_or_default}
use Rattle.switch_sim.specs.Waiting.{Waits}
use Rattle.switch_sim.proofs.WaitingNets.{has_room, longer, added, waits_before, waits_last}
use Rattle.switch_sim.proofs.waiting.Waiting.add.Goals as goal

-- src/waiting.rt:56:13
pub index_mut-requires-then-not-index : goal.index_mut-requires-then-not-index
index_mut-requires-then-not-index c =
    let flags = c.self.inside.flags.items in
    let within : c.args.net.0 < length flags = search rules in
    let free : get_or flags c.args.net.0 false ≡ false =
    get_or_default flags c.args.net.0 false c.index.result.now within ∙ sym c.index.ensures ∙ c.if-not-index.true in
    let room = has_room _ _ _ c.self.invariant c.args.net.0 within free in
    omega (arith, room)

-- src/waiting.rt:57:13
pub invariant_of-self : goal.invariant_of-self
invariant_of-self c =
    let flags = c.self.inside.flags.items in
    let within : c.args.net.0 < length flags = search rules in
    let free : get_or flags c.args.net.0 false ≡ false =
    get_or_default flags c.args.net.0 false c.index.result.now within ∙ sym c.index.ensures ∙ c.if-not-index.true in
    added _ _ _ c.self.invariant c.args.net.0 within free

-- src/waiting.rt:47:5
pub returns-then-not-index-clause-waits : goal.returns-then-not-index-clause-waits
returns-then-not-index-clause-waits c =
    let flags = c.self.inside.flags.items in
    let within : c.args.net.0 < length flags = search rules in
    let free : get_or flags c.args.net.0 false ≡ false =
    get_or_default flags c.args.net.0 false c.index.result.now within ∙ sym c.index.ensures ∙ c.if-not-index.true in
    subst (λ ws. Waits ws c.args.net.0) (sym (longer _ _ _ c.self.invariant c.args.net.0 within free)) (waits_last _ c.args.net.0)

-- src/waiting.rt:47:5
pub returns-then-not-index-clause-kept : goal.returns-then-not-index-clause-kept
returns-then-not-index-clause-kept c =
    let flags = c.self.inside.flags.items in
    let within : c.args.net.0 < length flags = search rules in
    let free : get_or flags c.args.net.0 false ≡ false =
    get_or_default flags c.args.net.0 false c.index.result.now within ∙ sym c.index.ensures ∙ c.if-not-index.true in
    λ other w. subst (λ ws. Waits ws other) (sym (longer _ _ _ c.self.invariant c.args.net.0 within free))
    (waits_before _ c.args.net.0 other (subst (λ ws. Waits ws other) (sym (ap (λ q. q.nets) c.self.view_is)) w))

-- src/waiting.rt
pub returns-then-not-index-clause-behind : goal.returns-then-not-index-clause-behind
returns-then-not-index-clause-behind c =
    let flags = c.self.inside.flags.items in
    let within : c.args.net.0 < length flags = search rules in
    let free : get_or flags c.args.net.0 false ≡ false =
    get_or_default flags c.args.net.0 false c.index.result.now within ∙ sym c.index.ensures ∙ c.if-not-index.true in
    inr (longer _ _ _ c.self.invariant c.args.net.0 within free ∙ ap (λ q. q.nets ++ c.args.net.0 ∷ []) c.self.view_is)

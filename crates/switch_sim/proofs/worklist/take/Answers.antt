use Rattle.std.proofs.Common.{◌≡◌, ◌+◌, ◌<◌, ◌∷◌, [], ◌++◌, length}
use Rattle.switch_sim.specs.DueNets.{Remain}
use Rattle.switch_sim.proofs.DueNets.{none_left, remain, fewer_wait, each_some}
use Rattle.switch_sim.proofs.worklist.take.Goals as goal

pub returns-clause-none : goal.returns-clause-none
returns-clause-none c = λ e. none_left _ _ _ _ c.turn.ensures.kept (c.pop.ensures.none e) (c.turn.ensures.none (c.pop.ensures.none e))

pub returns-clause-some : goal.returns-clause-some
returns-clause-some c =
    let first = c.args.now.now.nets in
    let later = c.args.next.now.nets in
    let now = c.turn.new.now.nets in
    let next = c.turn.new.next.nets in
    let left = c.pop.new.self.nets in
    each_some (λ net. now ≡ left ++ net ∷ []) (Remain first later left next) c.pop.result (remain first later now next left c.turn.ensures.kept) c.pop.ensures.some

pub returns-clause-less : goal.returns-clause-less
returns-clause-less c =
    let first = c.args.now.now.nets in
    let later = c.args.next.now.nets in
    let now = c.turn.new.now.nets in
    let next = c.turn.new.next.nets in
    let left = c.pop.new.self.nets in
    each_some (λ net. now ≡ left ++ net ∷ []) (λ net. length left + length next < length first + length later) c.pop.result
    (fewer_wait first later now next left c.turn.ensures.most) c.pop.ensures.some

-- The next turn also turns the first move.
use Rattle.std.proofs.Common.{ℤ, ◌+ℤ◌, ◌∙◌, ap}
use Rattle.cif_drawing.proofs.Extents.{then_placed}
use Rattle.cif_drawing.proofs.placement.Placement.then.Goals as goal

pub returns-clause-placed : goal.returns-clause-placed
returns-clause-placed c = λ b.
    then_placed c.args.self c.args.next (record { turn = c.then.result; by = c.plus.result }) (record { across = c.then.ensures.across; upward = c.then.ensures.upward })
    (c.plus.ensures.across ∙ ap (λ (v : ℤ). v +ℤ c.args.next.by.x) c.turned.ensures.across)
    (c.plus.ensures.upward ∙ ap (λ (v : ℤ). v +ℤ c.args.next.by.y) c.turned.ensures.upward) b

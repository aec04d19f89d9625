-- Both sides passed their tests.
use Rattle.std.proofs.Common.{rules, refl}
use Rattle.geom.specs.Squares.{IsSide}
use Rattle.geom.proofs.layer_box.Box2.new.Goals as goal

pub returns-then-is_side-2-clause-made : goal.returns-then-is_side-2-clause-made
returns-then-is_side-2-clause-made c =
    let across : IsSide c.args.x1 c.args.x2 = search rules in
    let upward : IsSide c.args.y1 c.args.y2 = search rules in
    (λ _. record { across = across; upward = upward }, λ _. refl)

-- The steps by the kinds of transformations.
use Rattle.std.proofs.Common.{subst}
use Rattle.cif_values.specs.declared.moves.Move.{Move}
use Rattle.cif_values.specs.Values.{MoveStands}
use Rattle.cif_codes.specs.Scales.{ratio}
use Rattle.cif_figures.proofs.Stepping.{step_translates, step_mirrors_x, step_mirrors_y, step_rotates}
use Rattle.cif_figures.proofs.calls.step_of.Goals as goal

pub returns-in-Translates-clause-step : goal.returns-in-Translates-clause-step
returns-in-Translates-clause-step c = λ divisor move s n.
    let M : Move → Type 0 = λ v. MoveStands divisor move v in
    step_translates c.args.scale divisor move c.in-Translates.x c.in-Translates.y c.scaled_point.result c.shifted.result
    c.scaled_point.ensures c.shifted.ensures.shift (subst M c.in-Translates.is s) n

pub returns-in-MirrorsX-clause-step : goal.returns-in-MirrorsX-clause-step
returns-in-MirrorsX-clause-step c = λ divisor move s n.
    let M : Move → Type 0 = λ v. MoveStands divisor move v in
    step_mirrors_x (ratio c.args.scale) divisor move c.turned.result c.turned.ensures.turn (subst M c.in-MirrorsX.is s)

pub returns-in-MirrorsY-clause-step : goal.returns-in-MirrorsY-clause-step
returns-in-MirrorsY-clause-step c = λ divisor move s n.
    let M : Move → Type 0 = λ v. MoveStands divisor move v in
    step_mirrors_y (ratio c.args.scale) divisor move c.turned-in-MirrorsY.result c.turned-in-MirrorsY.ensures.turn (subst M c.in-MirrorsY.is s)

pub returns-in-Rotates-clause-step : goal.returns-in-Rotates-clause-step
returns-in-Rotates-clause-step c = λ divisor move s n.
    let M : Move → Type 0 = λ v. MoveStands divisor move v in
    step_rotates (ratio c.args.scale) divisor move c.in-Rotates.a c.in-Rotates.b c.rotation.result c.turned-in-Rotates.result
    c.rotation.ensures c.turned-in-Rotates.ensures.turn (subst M c.in-Rotates.is s) n

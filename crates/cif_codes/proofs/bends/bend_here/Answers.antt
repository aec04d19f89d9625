-- Two coordinates.
use Rattle.std.proofs.Common.{ℕ, ◌≡◌, ◌∷◌, refl, subst}
use Rattle.geom.specs.CifCommands.{Signed}
use Rattle.cif_values.specs.Numbers.{StandsFor}
use Rattle.cif_codes.proofs.Checking.{stands_word}
use Rattle.cif_codes.proofs.bends.bend_here.Goals as goal

pub returns-clause-parts : goal.returns-clause-parts
returns-clause-parts c = λ stop point parts h.
    let x = c.number_here-x.ensures.parts stop (Signed point.x) (Signed point.y ∷ parts) refl h in
    let y = c.number_here-y.ensures.parts stop (Signed point.y) parts refl x.1 in
    let P : ℕ → Type 0 = λ m. StandsFor m point.x c.number_here-x.result.0 in
    let Q : ℕ → Type 0 = λ m. StandsFor m point.y c.number_here-y.result.0 in (
      (
        record { stop = stop; behind = Signed point.y ∷ parts; parts = h; stands = stands_word _ point.x c.number_here-x.result.0 (subst P c.grid.ensures x.0) },
        record { stop = stop; behind = parts; parts = x.1; stands = stands_word _ point.y c.number_here-y.result.0 (subst Q c.grid-2.ensures y.0) },
      ),
      y.1,
    )

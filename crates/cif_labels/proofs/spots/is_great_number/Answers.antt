-- No number.
use Rattle.std.proofs.Common.{Option, ℤ, subst}
use Rattle.cif_labels.specs.Spots.{Reads}
use Rattle.cif_labels.proofs.spots.is_great_number.Goals as goal

pub returns-in-None : goal.returns-in-None
returns-in-None c = λ written h.
    let P : Option ℤ → Type 0 = λ v. Reads written v in
    let none = subst P c.in-None.is h in
    (λ e. absurd cc, λ g. absurd (none g.0 g.1))

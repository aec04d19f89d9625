use Rattle.std.proofs.Common.{◌∙◌, subst}
use Rattle.geom.specs.CifCommands.{CifCommand, SpellsCommand}
use Rattle.cif_kinds.proofs.Standing.{bytes_at}
use Rattle.cif_kinds.proofs.laws.extensions_stand.Goals as goal

pub returns : goal.returns
returns c = λ text from first end h written e.
    let P : CifCommand → Type 0 = λ d. SpellsCommand d h.here.bytes in
    (bytes_at text first end h.here.bytes h.order h.within h.bytes_are).bytes_are ∙ (subst P e h.here.spelled).0

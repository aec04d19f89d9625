-- The number of the definition.
use Rattle.std.proofs.Common.{ℕ, ◌-◌, pos, sym, ◌∙◌, ap, subst}
use Rattle.std.specs.Int.RustNames.{unsigned_abs}
use Rattle.geom.specs.CifCommands.{Opens}
use Rattle.cif_kinds.specs.declared.kinds.CommandKind.TheVariants as kind
use Rattle.cif_figures.specs.Figures.{symbol_in, IsNumberFor}
use Rattle.cif_figures.proofs.ByKind.{is_opening, parts_of}
use Rattle.cif_figures.proofs.Defining.{stands_word, number_for}
use Rattle.cif_figures.proofs.definitions.opened_number.Goals as goal

pub returns : goal.returns
returns c = λ end k.
    let o = is_opening k.stands.here.command k.kind_is in
    let p = parts_of c.args.text.now c.args.first end kind.Opens k (Opens o.0 o.1) o.2 tt c.parts_stand.ensures in
    let s = c.opening_here.ensures (end - 1) o.0 o.1 p in
    let P : ℕ → Type 0 = λ n. IsNumberFor n c.unsigned_abs.result in
    let Q : ℕ → Type 0 = λ v. IsNumberFor o.0 v in
    subst P (sym (ap symbol_in o.2))
    (subst Q (sym (c.unsigned_abs.ensures.value ∙ ap unsigned_abs (stands_word 400 (pos o.0) c.opening_here.result.number s.number_is)))
    (number_for 400 o.0 c.opening_here.result.number s.number_is))

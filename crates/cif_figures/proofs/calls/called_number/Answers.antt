-- The number of the symbol.
use Rattle.std.proofs.Common.{ℕ, ◌-◌, ◌∷◌, flat_map, codes, pos, refl, sym, ap, subst}
use Rattle.geom.specs.CifCommands.{CallsSymbol, Unsigned, move_parts}
use Rattle.cif_kinds.specs.declared.kinds.CommandKind.TheVariants as kind
use Rattle.cif_figures.specs.Figures.{symbol_in, IsNumberFor}
use Rattle.cif_figures.proofs.ByKind.{is_call, parts_of}
use Rattle.cif_figures.proofs.Defining.{number_for}
use Rattle.cif_figures.proofs.Stepping.{word_stands}
use Rattle.cif_figures.proofs.Places.{first_within}
use Rattle.cif_figures.proofs.calls.called_number.Goals as goal

pub behind_letters-requires-clause-place : goal.behind_letters-requires-clause-place
behind_letters-requires-clause-place c = first_within c.args.text.now c.args.first c.requires.0 kind.Calls c.requires.1

pub returns : goal.returns
returns c = λ end k.
    let o = is_call k.stands.here.command k.kind_is in
    let p = parts_of c.args.text.now c.args.first end kind.Calls k (CallsSymbol o.0 o.1) o.2 tt c.parts_stand.ensures in
    let s = c.number_here-number.ensures.parts (end - 1) (Unsigned o.0) (flat_map move_parts o.1) refl
    (c.behind_letters.ensures.parts (end - 1) (codes "C") (Unsigned o.0 ∷ flat_map move_parts o.1) refl p) in
    let P : ℕ → Type 0 = λ n. IsNumberFor n c.unsigned_abs.result in
    let Q : ℕ → Type 0 = λ v. IsNumberFor o.0 v in
    let w = word_stands 400 (pos o.0) c.number_here-number.result.0 s.0 in
    subst P (sym (ap symbol_in o.2)) (subst Q (sym c.unsigned_abs.ensures.value) (number_for 400 o.0 _ w))

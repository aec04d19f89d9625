-- The definition, or its code.
use Rattle.std.proofs.Common.{ℕ, ◌≡◌, ◌-◌, ◌^◌, ◌≤◌, true, Some, sym, ◌∙◌, ap, subst}
use Rattle.std.specs.Bool.{Decides}
use Rattle.geom.specs.CifCommands.{Opens}
use Rattle.geom.specs.CifCodes.{is_defined}
use Rattle.cif_kinds.specs.declared.kinds.CommandKind.TheVariants as kind
use Rattle.cif_figures.specs.Figures.{symbol_in}
use Rattle.cif_figures.proofs.ByKind.{is_opening, parts_of}
use Rattle.cif_figures.proofs.Simple.{least_there}
use Rattle.cif_figures.proofs.Defining.{opened_by, opening_leads}
use Rattle.cif_figures.proofs.definitions.definition_opened.Goals as goal

pub returns-in-Some-clause-fault : goal.returns-in-Some-clause-fault
returns-in-Some-clause-fault c = λ s end k a n.
    let o = is_opening k.stands.here.command k.kind_is in
    let p = parts_of c.args.text.now c.args.first end kind.Opens k (Opens o.0 o.1) o.2 tt c.parts_stand.ensures in
    let h = c.opening_here-opening.ensures (end - 1) o.0 o.1 p in
    let P : ℕ → Type 0 = λ v. Decides c.args.again (is_defined s v ≡ true) in
    least_there s k.stands.here.command (Opens o.0 o.1) c.opening_code.result (Some c.in-Some.code) o.2 c.in-Some.is
    (c.opening_code.ensures s 400 o.0 o.1 h (subst P (ap symbol_in o.2) a) n)

pub returns-in-None-clause-number : goal.returns-in-None-clause-number
returns-in-None-clause-number c = λ end k.
    let o = is_opening k.stands.here.command k.kind_is in
    let d = opened_by c.args.text.now c.args.first end k c.opening_here-opening.result c.scale_of.result c.args.again c.args.nested
    c.opening_code.result c.parts_stand.ensures
    c.opening_here-opening.ensures c.opening_code.ensures c.in-None.is c.scale_of.ensures in
    ap symbol_in o.2 ∙ (sym d.number_is ∙ sym c.unsigned_abs.ensures.value)

pub returns-in-None-clause-few : goal.returns-in-None-clause-few
returns-in-None-clause-few c =
    let k = c.requires in
    let d = opened_by c.args.text.now c.args.first k.0 k.1 c.opening_here-opening.result c.scale_of.result c.args.again c.args.nested
    c.opening_code.result
    c.parts_stand.ensures c.opening_here-opening.ensures c.opening_code.ensures c.in-None.is c.scale_of.ensures in
    let P : ℕ → Type 0 = λ v. v ≤ 2 ^ 40 in subst P (sym (c.unsigned_abs.ensures.value ∙ d.number_is)) d.few

pub returns-in-None-clause-scale : goal.returns-in-None-clause-scale
returns-in-None-clause-scale c =
    let k = c.requires in
    let d = opened_by c.args.text.now c.args.first k.0 k.1 c.opening_here-opening.result c.scale_of.result c.args.again c.args.nested
    c.opening_code.result
    c.parts_stand.ensures c.opening_here-opening.ensures c.opening_code.ensures c.in-None.is c.scale_of.ensures in
    d.in_range

pub returns-in-None-clause-definition : goal.returns-in-None-clause-definition
returns-in-None-clause-definition c = λ s end k a n.
    let o = is_opening k.stands.here.command k.kind_is in
    let p = parts_of c.args.text.now c.args.first end kind.Opens k (Opens o.0 o.1) o.2 tt c.parts_stand.ensures in
    let h = c.opening_here-opening.ensures (end - 1) o.0 o.1 p in
    let d = opened_by c.args.text.now c.args.first end k c.opening_here-opening.result c.scale_of.result c.args.again c.args.nested
    c.opening_code.result c.parts_stand.ensures
    c.opening_here-opening.ensures c.opening_code.ensures c.in-None.is c.scale_of.ensures in
    let P : ℕ → Type 0 = λ v. Decides c.args.again (is_defined s v ≡ true) in
    opening_leads s k.stands.here.command o.0 c.unsigned_abs.result o.1 _ c.opening_code.result o.2 c.in-None.is
    (c.opening_code.ensures s 400 o.0 o.1 h (subst P (ap symbol_in o.2) a) n) (c.unsigned_abs.ensures.value ∙ d.number_is) d.scale_is

-- A definition of a new number opens outside definitions.
use Rattle.std.proofs.Common.{◌≡◌, ℕ, true, None, ◌∙◌, subst}
use Rattle.std.specs.Bool.{Decides}
use Rattle.std.proofs.lemmas.Result.{err_from_is_err_and}
use Rattle.geom.specs.CifCodes.{is_defined}
use Rattle.cif_drawing.specs.Parts.{part_of}
use Rattle.cif_kinds.specs.declared.kinds.CommandKind.TheVariants as kind
use Rattle.cif_figures.specs.Figures.{command_of, symbol_in}
use Rattle.cif_read.specs.States.{state_of}
use Rattle.cif_read.proofs.States.{same_defined, decided_by}
use Rattle.cif_read.proofs.Drawn.{opened, opens_new, may_open}
use Rattle.cif_read.proofs.reader.Reader.open.Goals as goal

pub returns-clause-read : goal.returns-clause-read
returns-clause-read c end k place =
    let old = c.args.self.now in
    let n = symbol_in (command_of c.args.text.now c.args.first end kind.Opens k) in
    let again : Decides c.is_defined-again.result (is_defined (state_of old) n ≡ true) =
    decided_by c.is_defined-again.result (is_defined (state_of old) n)
    (c.is_defined-again.ensures ∙ same_defined old n c.opened_number.result c.requires.reader (c.opened_number.ensures end k)) in
    opened old c.open.new.self place (command_of c.args.text.now c.args.first end kind.Opens k) c.in_ok-found.found.number
    c.in_ok-found.found.scale c.requires.reader
    c.in_ok-found.ensures.few c.in_ok-found.ensures.scale (c.in_ok-found.ensures.definition
    (state_of old) end k again c.is_open.ensures) c.open.ensures

pub returns-in_err-found-clause-fault : goal.returns-in_err-found-clause-fault
returns-in_err-found-clause-fault c =
    let old = c.args.self.now in
    let p = err_from_is_err_and c.from_residual.result c.from_residual.ensures.1 in
    rw (p.1, p.2) (λ end k.
    let n = symbol_in (command_of c.args.text.now c.args.first end kind.Opens k) in
    let again : Decides c.is_defined-again.result (is_defined (state_of old) n ≡ true) =
    decided_by c.is_defined-again.result (is_defined (state_of old) n)
    (c.is_defined-again.ensures ∙ same_defined old n c.opened_number.result c.requires.reader (c.opened_number.ensures end k)) in
    c.in_err-found.ensures.fault (state_of old) end k again c.is_open.ensures)

pub open-requires-clause-closed : goal.open-requires-clause-closed
open-requires-clause-closed c =
    let old = c.args.self.now in
    let end = c.requires.command.0 in
    let k = c.requires.command.1 in
    let n = symbol_in (command_of c.args.text.now c.args.first end kind.Opens k) in
    let again : Decides c.is_defined-again.result (is_defined (state_of old) n ≡ true) =
    decided_by c.is_defined-again.result (is_defined (state_of old) n)
    (c.is_defined-again.ensures ∙ same_defined old n c.opened_number.result c.requires.reader (c.opened_number.ensures end k)) in
    let leads = c.in_ok-found.ensures.definition (state_of old) end k again c.is_open.ensures in
    let o = opens_new (state_of old) (command_of c.args.text.now c.args.first end kind.Opens k) k.kind_is leads.clear in
    (may_open old n c.requires.reader o.0 o.1).0

pub open-requires-clause-undefined : goal.open-requires-clause-undefined
open-requires-clause-undefined c =
    let old = c.args.self.now in
    let end = c.requires.command.0 in
    let k = c.requires.command.1 in
    let n = symbol_in (command_of c.args.text.now c.args.first end kind.Opens k) in
    let again : Decides c.is_defined-again.result (is_defined (state_of old) n ≡ true) =
    decided_by c.is_defined-again.result (is_defined (state_of old) n)
    (c.is_defined-again.ensures ∙ same_defined old n c.opened_number.result c.requires.reader (c.opened_number.ensures end k)) in
    let leads = c.in_ok-found.ensures.definition (state_of old) end k again c.is_open.ensures in
    let o = opens_new (state_of old) (command_of c.args.text.now c.args.first end kind.Opens k) k.kind_is leads.clear in
    let P : ℕ → Type 0 = λ v. part_of old.builder v ≡ None in
    subst P (c.in_ok-found.ensures.number end k) (may_open old n c.requires.reader o.0 o.1).1

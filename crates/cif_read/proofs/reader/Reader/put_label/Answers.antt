-- A label is put, or nothing.
use Rattle.std.proofs.Common.{Option, subst}
use Rattle.geom.specs.declared.chip.Label.{Label}
use Rattle.cif_kinds.specs.declared.kinds.CommandKind.TheVariants as kind
use Rattle.cif_labels.specs.Labelled.{state_with}
use Rattle.cif_figures.specs.Figures.{command_of, Leads}
use Rattle.cif_read.specs.States.{state_of}
use Rattle.cif_read.proofs.Drawn.{kept, labelled}
use Rattle.cif_read.proofs.reader.Reader.put_label.Goals as goal

pub returns-in_ok-add_label-clause-read : goal.returns-in_ok-add_label-clause-read
returns-in_ok-add_label-clause-read c k place =
    let old = c.args.self.now in
    let it = command_of c.args.text.now c.args.first c.args.end kind.Extension k in
    let P : Option Label → Type 0 = λ o. Leads (state_of old) it (λ p. state_with (state_of old) o) in
    labelled old c.add_label.new.self place it c.in-Some.label c.requires.reader
    (subst P c.in-Some.is (c.in_ok-label.ensures.label (state_of old) k c.is_open.ensures)) c.in_ok-add_label.ensures

pub returns-in_default-clause-read : goal.returns-in_default-clause-read
returns-in_default-clause-read c k place =
    let old = c.args.self.now in
    let it = command_of c.args.text.now c.args.first c.args.end kind.Extension k in
    let P : Option Label → Type 0 = λ o. Leads (state_of old) it (λ p. state_with (state_of old) o) in
    kept old place it c.requires.reader (subst P c.in_default.is (c.in_ok-label.ensures.label (state_of old) k c.is_open.ensures))

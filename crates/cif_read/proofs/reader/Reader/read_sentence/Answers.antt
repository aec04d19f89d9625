-- A command, or a code.
use Rattle.std.proofs.Common.{sym, subst}
use Rattle.rx_text.specs.declared.place.Place.{Place}
use Rattle.cif_syntax.specs.declared.next.Sentence.{Sentence}
use Rattle.cif_syntax.specs.Sentences.{IsCommandAt, Stands}
use Rattle.cif_read.specs.declared.faults.ReadCifFault.{ReadCifFault}
use Rattle.cif_read.specs.States.{state_of, IsRead}
use Rattle.cif_read.specs.Reading.{IsStepFault}
use Rattle.cif_read.proofs.Stepping.{stepped, command_refused, syntax_refused}
use Rattle.cif_read.proofs.reader.Reader.read_sentence.Goals as goal

pub returns-in-Ok-clause-step : goal.returns-in-Ok-clause-step
returns-in-Ok-clause-step c =
    let S : Sentence → Type 0 = λ v. Stands c.args.text.now c.args.mark.at v in
    let h : IsCommandAt c.args.text.now c.args.mark.at c.in-Ok-Command.first c.in-Ok-Command.end =
    subst S c.in-Ok-Command.field-0-is c.in-Ok-Command.ensures.sentence in
    let P : Place → Type 0 = λ v. IsRead c.args.self.now v h.here.command c.read_command.new.self in
    stepped c.args.text.now c.args.mark c.forward-here.result c.forward.result c.in-Ok-Command.first c.in-Ok-Command.end c.args.self.now
    c.read_command.new.self h c.forward-here.ensures.mark c.forward-here.ensures.at (subst P c.place.ensures (c.in-Ok.ensures.read c.args.mark.at h))
    c.forward.ensures.mark c.forward.ensures.at

pub returns-in-Err-read_command-clause-fault : goal.returns-in-Err-read_command-clause-fault
returns-in-Err-read_command-clause-fault c =
    let S : Sentence → Type 0 = λ v. Stands c.args.text.now c.args.mark.at v in
    let h : IsCommandAt c.args.text.now c.args.mark.at c.in-Ok-Command.first c.in-Ok-Command.end =
    subst S c.in-Ok-Command.field-0-is c.in-Ok-Command.ensures.sentence in
    let P : ReadCifFault → Type 0 = λ v. IsStepFault c.args.text.now c.args.mark.at (state_of c.args.self.now) v in
    subst P (sym c.stopped.ensures)
    (command_refused c.args.text.now c.args.mark.at c.in-Ok-Command.first c.in-Ok-Command.end c.forward-here.result c.args.self.now
    c.in-Err-read_command.fault h c.forward-here.ensures.mark c.forward-here.ensures.at (c.in-Err-read_command.ensures.fault c.args.mark.at h))

pub returns-in-Err-clause-fault : goal.returns-in-Err-clause-fault
returns-in-Err-clause-fault c =
    let s = state_of c.args.self.now in
    let P : ReadCifFault → Type 0 = λ v. IsStepFault c.args.text.now c.args.mark.at s v in
    subst P (sym c.fault_at.ensures)
    (syntax_refused c.args.text.now c.args.mark.at c.in-Err.fault.at s c.in-Err.fault.code (c.in-Err.ensures.fault s))

-- A code stands at the end.
use Rattle.std.proofs.Common.{sym, subst}
use Rattle.cif_read.specs.declared.faults.ReadCifFault.{ReadCifFault}
use Rattle.cif_read.specs.States.{state_of}
use Rattle.cif_read.specs.Reading.{IsStepFault}
use Rattle.cif_read.proofs.Stepping.{syntax_refused}
use Rattle.cif_read.proofs.reader.Reader.end.Goals as goal

pub returns-in-Err-clause-fault : goal.returns-in-Err-clause-fault
returns-in-Err-clause-fault c =
    let s = state_of c.args.self.now in
    let P : ReadCifFault → Type 0 = λ v. IsStepFault c.args.text.now c.args.from s v in
    subst P (sym c.fault_at.ensures)
    (syntax_refused c.args.text.now c.args.from c.in-Err.wrong.at s c.in-Err.wrong.code
    (c.in-Err.ensures.fault s c.args.from c.is_open.ensures c.requires.stands))

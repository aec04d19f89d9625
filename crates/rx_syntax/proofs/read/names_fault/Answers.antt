use Rattle.std.proofs.Common.{refl, sym, subst, inr}
use Rattle.rx_syntax.specs.NameSteps.{IsNamesFault}
use Rattle.rx_syntax.specs.SpecRefusal.{IsReadFault}
use Rattle.rx_syntax.proofs.RefusedWithin.{refused_within}
use Rattle.rx_syntax.proofs.read.names_fault.Goals as goal

pub fault_at-requires-clause-within : goal.fault_at-requires-clause-within
fault_at-requires-clause-within c =
    let h = c.requires.fault in
    refused_within c.args.text.now h.0 c.in-Fault.code c.in-Fault.at (inr (subst (IsNamesFault c.args.text.now h.0) c.in-Fault.is h.1))

pub returns-in-Fault : goal.returns-in-Fault
returns-in-Fault c = λ limit h.
    subst (IsReadFault c.args.text.now limit) (sym c.fault_at.ensures)
    (record { byte = c.in-Fault.at; refused = inr (subst (IsNamesFault c.args.text.now limit) c.in-Fault.is h); is = refl })

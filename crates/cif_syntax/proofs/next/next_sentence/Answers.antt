-- Blanks, and the sentence behind them.
use Rattle.std.proofs.Common.{◌≡◌, Result, IfOk, IfErr, sym, subst}
use Rattle.cif_syntax.specs.declared.next.Sentence.{Sentence}
use Rattle.cif_syntax.specs.declared.next.SyntaxFault.{SyntaxFault}
use Rattle.cif_syntax.specs.Sentences.{Stands, StandsSyntax}
use Rattle.cif_syntax.proofs.Sorting.{Gap, sorted_stands, breaks_at, cuts_at}
use Rattle.cif_syntax.proofs.next.next_sentence.Goals as goal

pub returns-in-Ok-clause-sentence : goal.returns-in-Ok-clause-sentence
returns-in-Ok-clause-sentence c =
    let first = c.skip_blanks-first in
    let g : Gap c.args.text.now c.args.from first.result = record {
      order = first.ensures.order;
      within = first.ensures.within;
      blanks = first.ensures.blanks;
      stop = first.ensures.stop;
    } in
    let P : Result Sentence SyntaxFault → Type 0 = λ r. IfOk r (λ sentence. Stands c.args.text.now c.args.from sentence) in
    subst P (sym c.sort.ensures.sorted) (sorted_stands c.args.text.now c.args.from first.result c.in-Ok.end g c.in-Ok.ensures.end).0

pub returns-in-Ok-clause-fault : goal.returns-in-Ok-clause-fault
returns-in-Ok-clause-fault c =
    let first = c.skip_blanks-first in
    let g : Gap c.args.text.now c.args.from first.result = record {
      order = first.ensures.order;
      within = first.ensures.within;
      blanks = first.ensures.blanks;
      stop = first.ensures.stop;
    } in
    let P : Result Sentence SyntaxFault → Type 0 = λ r. IfErr r (λ fault. StandsSyntax c.args.text.now c.args.from fault.code fault.at) in
    subst P (sym c.sort.ensures.sorted) (sorted_stands c.args.text.now c.args.from first.result c.in-Ok.end g c.in-Ok.ensures.end).1

pub returns-then-fault-text-clause-fault : goal.returns-then-fault-text-clause-fault
returns-then-fault-text-clause-fault c =
    let first = c.skip_blanks-first in
    let g : Gap c.args.text.now c.args.from first.result = record {
      order = first.ensures.order;
      within = first.ensures.within;
      blanks = first.ensures.blanks;
      stop = first.ensures.stop;
    } in
    breaks_at c.args.text.now c.args.from first.result c.in-Err.fault.at g c.in-Err.ensures.fault c.if-fault-text.true

pub returns-else-fault-text-clause-fault : goal.returns-else-fault-text-clause-fault
returns-else-fault-text-clause-fault c =
    let first = c.skip_blanks-first in
    let g : Gap c.args.text.now c.args.from first.result = record {
      order = first.ensures.order;
      within = first.ensures.within;
      blanks = first.ensures.blanks;
      stop = first.ensures.stop;
    } in
    cuts_at c.args.text.now c.args.from first.result c.in-Err.fault.at g c.in-Err.ensures.fault c.if-fault-text.false

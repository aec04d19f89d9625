-- One sentence after another.
use Rattle.std.proofs.Common.{Option, subst}
use Rattle.cif_read.specs.declared.mark.Mark.{Mark}
use Rattle.cif_read.specs.Reading.{StepsTo, Steps}
use Rattle.cif_read.proofs.Stepping.{behind_more}
use Rattle.cif_read.proofs.reading.read_cif.Goals as goal

pub loop-reader-preserved : goal.loop-reader-preserved
loop-reader-preserved c =
    let P : Option Mark → Type 0 = λ o. Steps c.args.text.now c.loop-reader.mark c.loop-reader.reader c.read_sentence.new.self o in
    let step : StepsTo c.args.text.now c.loop-reader.mark c.loop-reader.reader c.read_sentence.new.self c.in-Some.next =
    subst P c.in-Some.is c.in_ok-next.ensures.step in
    let more = behind_more c.args.text.now c.loop-reader.mark c.in-Some.next c.loop-reader.reader c.read_sentence.new.self
    c.loop-reader.invariant.2 step in
    (step.is_mark, step.kept, more)

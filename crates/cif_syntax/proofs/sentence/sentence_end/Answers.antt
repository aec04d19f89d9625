-- One byte after another.
use Rattle.std.proofs.Common.{◌≡◌, ◌<◌, Some, None, length, get_or, sym, ◌∙◌, ap, subst, arith}
use Rattle.cif_syntax.specs.declared.sentence.Run.{Run}
use Rattle.cif_syntax.specs.declared.sentence.SentenceFault.{SentenceFault}
use Rattle.cif_syntax.specs.Kinds.{kind_of}
use Rattle.cif_syntax.specs.Machine.{step}
use Rattle.cif_syntax.specs.Ends.{BreaksAt}
use Rattle.cif_syntax.proofs.Following.{Followed, follow_start, follow_more, follow_end, depth_bound, whole_due, not_whole}
use Rattle.cif_syntax.proofs.Breaking.{byte_breaks, end_breaks}
use Rattle.cif_syntax.proofs.sentence.sentence_end.Goals as goal

pub loop-run-init : goal.loop-run-init
loop-run-init c = follow_start c.args.text.now c.args.from c.requires

pub returns-then-run-text-clause-fault : goal.returns-then-run-text-clause-fault
returns-then-run-text-clause-fault c =
    let P : SentenceFault → Type 0 = λ v. BreaksAt c.args.text.now c.args.from v.at in
    subst P (sym c.fault.ensures)
    (end_breaks c.args.text.now c.args.from c.loop-run.run c.if-run-text.true (not_whole c.loop-run.run.due (sym c.is_whole.ensures ∙ c.loop-run-test.true)) c.loop-run.invariant)

pub returns-in_default-clause-fault : goal.returns-in_default-clause-fault
returns-in_default-clause-fault c =
    let P : SentenceFault → Type 0 = λ v. BreaksAt c.args.text.now c.args.from v.at in
    let short : c.loop-run.run.at < length c.args.text.now = omega (arith, c.loop-run.invariant.within) in
    let stop : step c.loop-run.run.due (kind_of (get_or c.args.text.now c.loop-run.run.at 0)) ≡ None =
    ap (step c.loop-run.run.due) (sym c.kind_of.ensures) ∙ (sym c.step.ensures ∙ c.in_default.is) in
    subst P (sym c.fault-in_default.ensures)
    (byte_breaks c.args.text.now c.args.from c.loop-run.run short (not_whole c.loop-run.run.due (sym c.is_whole.ensures ∙ c.loop-run-test.true)) stop c.loop-run.invariant)

pub step-requires : goal.step-requires
step-requires c = omega (arith, depth_bound c.args.text.now c.args.from c.loop-run.run c.loop-run.invariant, c.loop-run.invariant.within)

pub loop-run-preserved : goal.loop-run-preserved
loop-run-preserved c =
    let P : Run → Type 0 = λ v. Followed c.args.text.now c.args.from v in
    let short : c.loop-run.run.at < length c.args.text.now = omega (arith, c.loop-run.invariant.within) in
    let goes : step c.loop-run.run.due (kind_of (get_or c.args.text.now c.loop-run.run.at 0)) ≡ Some c.in-Some.next =
    ap (step c.loop-run.run.due) (sym c.kind_of.ensures) ∙ (sym c.step.ensures ∙ c.in-Some.is) in
    subst P (sym c.then-run.ensures) (follow_more c.args.text.now c.args.from c.loop-run.run c.in-Some.next short goes c.loop-run.invariant)

pub returns-clause-end : goal.returns-clause-end
returns-clause-end c = follow_end c.args.text.now c.args.from c.loop-run.run c.loop-run.invariant (whole_due c.loop-run.run.due (sym c.is_whole.ensures ∙ c.loop-run-test.false))

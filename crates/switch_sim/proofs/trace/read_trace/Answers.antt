use Rattle.std.proofs.Common.{◌≡◌, ◌+◌, ℕ, List, length, drop, take, sym, ap, ◌∙◌, subst, arith, length-drop}
use Rattle.std.proofs.lemmas.List.{drop-drop}
use Rattle.switch_sim.specs.TraceCuts.{cut}
use Rattle.switch_sim.specs.TraceReading.{TakesVector}
use Rattle.switch_sim.specs.TraceTexts.{first_fault, lines_of}
use Rattle.switch_sim.specs.TraceReading.{bits_in, LineAt, IsVectorLine}
use Rattle.switch_sim.specs.declared.trace.Line.{Line}
use Rattle.switch_sim.specs.declared.trace.Line.TheVariants.{Chip, Vector}
use Rattle.switch_sim.proofs.Cuts.{length_cut}
use Rattle.switch_sim.proofs.Reading.{goes_on, ends, SoFar}
use Rattle.switch_sim.proofs.trace.read_trace.Goals as goal

line_of : (line same : Line) (rest other : List ℕ) (at count : ℕ) → line ≡ same → rest ≡ other → LineAt rest at count line → LineAt other at count same
line_of line same rest other at count e f h = subst (λ l. LineAt other at count l) e (subst (λ r. LineAt r at count line) f h)

pub returns-in-Ok-Chip-clause-read : goal.returns-in-Ok-Chip-clause-read
returns-in-Ok-Chip-clause-read c =
    let size = length_cut 0 c.loop-spot.ends.items c.loop-spot.bits.items in
    let few = c.loop-spot.invariant.few in
    ends c.args.text.now c.loop-spot.at (cut 0 c.loop-spot.ends.items c.loop-spot.bits.items) c.loop-spot.invariant.read c.count_of.result (omega arith)
    (line_of c.in-Ok-Chip.field-0 Chip _ _ c.loop-spot.at c.count_of.result c.in-Ok-Chip.field-0-is c.split_at.ensures.back c.in-Ok-Chip.ensures.line)

pub loop-spot-preserved : goal.loop-spot-preserved
loop-spot-preserved c =
    let width = c.in-Ok-Vector.width in
    let line : IsVectorLine (drop c.loop-spot.at c.args.text.now) c.loop-spot.at c.count_of.result width =
    line_of c.in-Ok-Vector.field-0 (Vector width) _ _ c.loop-spot.at c.count_of.result c.in-Ok-Vector.field-0-is c.split_at.ensures.back c.in-Ok-Vector.ensures.line in
    let new : TakesVector c.loop-spot.ends.items c.loop-spot.bits.items c.push_vector.new.ends.items c.push_vector.new.bits.items
    (bits_in (take width (drop c.loop-spot.at c.args.text.now))) =
    subst (λ r. TakesVector c.loop-spot.ends.items c.loop-spot.bits.items c.push_vector.new.ends.items c.push_vector.new.bits.items (bits_in (take width r)))
    c.split_at.ensures.back c.in_ok-push_vector-in-Ok-Vector.ensures in
    let count : c.count_of.result ≡ length c.loop-spot.ends.items = c.count_of.ensures ∙ ap length c.deref.ensures.value in
    let more : c.count_of.result + 1 ≡ length c.push_vector.new.ends.items = let e = new.count in omega arith in
    let few = line.few in
    let below = line.below in
    let size = length-drop c.loop-spot.at c.args.text.now in
    let sum : c.loop-spot.at + width + 1 ≡ c.loop-spot.at + (width + 1) = omega arith in
    record {
      read = subst (SoFar c.args.text.now (c.loop-spot.at + (width + 1))) (sym new.vectors)
          (goes_on c.args.text.now c.loop-spot.at _ c.loop-spot.invariant.read c.count_of.result width line);
      cuts = new.cuts;
      few = omega arith;
      faults = c.loop-spot.invariant.faults
          ∙ ap (λ n. first_fault n c.loop-spot.at (lines_of (drop c.loop-spot.at c.args.text.now))) (sym count) ∙ line.later
          ∙ ap (λ t. first_fault (c.count_of.result + 1) (c.loop-spot.at + width + 1) (lines_of t)) (drop-drop (width + 1) c.loop-spot.at c.args.text.now)
          ∙ ap (λ n. first_fault n (c.loop-spot.at + width + 1) (lines_of (drop (c.loop-spot.at + (width + 1)) c.args.text.now))) more
          ∙ ap (λ n. first_fault (length c.push_vector.new.ends.items) n (lines_of (drop (c.loop-spot.at + (width + 1)) c.args.text.now))) sum;
      within = omega arith;
    }

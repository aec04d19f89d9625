use Rattle.std.proofs.Common.{◌∙◌, arith, length-drop, rules}
use Rattle.std.proofs.lemmas.List.{take_rest}
use Rattle.rx_io.proofs.Fronts.{Appends-take_more, AppendsFront-take}
use Rattle.rx_io.proofs.writing.put_all.Goals as goal

pub loop-taken-preserved : goal.loop-taken-preserved
loop-taken-preserved g c = record {
  within =
      let bound = rw take_rest at c.in_ok-taken.ensures.bound in
      omega (arith, bound, length-drop c.loop-taken.taken c.args.piece.now);
  appended = Appends-take_more _ _ _ _ _ _ c.loop-taken.invariant.appended (rw take_rest at c.in_ok-taken.ensures.bytes);
  count = c.in_ok-taken.ensures.steady ∙ c.loop-taken.invariant.count;
}

pub returns-in_err-taken-clause-err : goal.returns-in_err-taken-clause-err
returns-in_err-taken-clause-err g c =
    let kept = AppendsFront-take _ _ _ _ _ c.loop-taken.invariant.appended c.in_err-taken.ensures.bytes in
    search (rules, kept)

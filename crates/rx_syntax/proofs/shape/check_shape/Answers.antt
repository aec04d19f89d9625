use Rattle.std.proofs.Common.{◌≤◌, length, sym, ◌∙◌, arith}
use Rattle.rx_syntax.proofs.Following.{begins, over_piece, fault_piece, good_text, fault_at_end}
use Rattle.rx_syntax.proofs.shape.check_shape.Goals as goal

pub loop-at-init : goal.loop-at-init
loop-at-init c = begins c.version_of-version.result.0 c.args.text.now c.version_of-version.result.1 c.version_of-version.ensures.is_of c.version_of-version.ensures.within

pub over-requires : goal.over-requires
over-requires c = c.loop-at.invariant.low

pub returns-in-Err-clause-fault : goal.returns-in-Err-clause-fault
returns-in-Err-clause-fault c =
    fault_piece c.version_of-version.result.0 c.args.text.now c.loop-at.at c.loop-at.state c.in-Err.code c.piece_at-kind.result.0 c.loop-at-test.true
    c.piece_at-kind.ensures.kind (sym c.over.ensures ∙ c.in-Err.is) c.loop-at.invariant

pub loop-at-preserved : goal.loop-at-preserved
loop-at-preserved c =
    over_piece c.version_of-version.result.0 c.args.text.now c.loop-at.at c.loop-at.state c.in-Ok.next c.piece_at-kind.result.0 c.piece_at-kind.result.1 c.loop-at-test.true
    c.piece_at-kind.ensures.kind c.piece_at-kind.ensures.behind (sym c.over.ensures ∙ c.in-Ok.is) c.loop-at.invariant

pub returns-in-None-clause-shaped : goal.returns-in-None-clause-shaped
returns-in-None-clause-shaped c =
    let past : length c.args.text.now ≤ c.loop-at.at = grind (arith, c.loop-at-test.false) in
    good_text c.version_of-version.result.0 c.args.text.now c.loop-at.at c.loop-at.state past (sym c.end_code.ensures ∙ c.in-None.is) c.loop-at.invariant

pub returns-in-Some-clause-fault : goal.returns-in-Some-clause-fault
returns-in-Some-clause-fault c =
    let past : length c.args.text.now ≤ c.loop-at.at = grind (arith, c.loop-at-test.false) in
    fault_at_end c.version_of-version.result.0 c.args.text.now c.loop-at.at c.loop-at.state c.in-Some.code past (sym c.end_code.ensures ∙ c.in-Some.is) c.loop-at.invariant

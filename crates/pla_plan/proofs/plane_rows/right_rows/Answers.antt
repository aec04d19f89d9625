use Rattle.std.proofs.Common.{sym, subst}
use Rattle.std.proofs.lemmas.List.Elements.{All-get_or, All-same}
use Rattle.pla_plan.specs.Fits.{IsPlaneGate}
use Rattle.pla_plan.proofs.plane_rows.right_rows.Goals as goal

pub add_sum-requires : goal.add_sum-requires
add_sum-requires c =
    let all = All-same (IsPlaneGate _ _) _ _ c.sums-sums.ensures.gates c.sums-sums.ensures.array.sums in
    subst (IsPlaneGate _ _) (sym c.index-sums-number.is) (All-get_or (IsPlaneGate _ _) _ _ _ c.loop-number-test.true all)

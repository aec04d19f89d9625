use Rattle.std.proofs.Common.{◌≡◌, ◌-◌, ◌∙◌, inl, inr, ap, arith, subst, sym}
use Rattle.std.proofs.lemmas.Bool.{cases_eq}
use Rattle.stick_grid.specs.Tilings.{tile_at, MeetsEast}
use Rattle.tile_tests.proofs.laid.meets_right.Goals as goal

pub loop-row-preserved : goal.loop-row-preserved
loop-row-preserved c = λ row less.
    let left = c.args.left.now in
    let right = c.args.right.now in
    let west : c.tile_at.result ≡ tile_at left c.loop-row.row (left.cols - 1) =
    c.tile_at.ensures ∙ ap (λ cols. tile_at left c.loop-row.row (cols - 1)) c.cols-in-loop-row.ensures.number in
    let met : MeetsEast (tile_at left c.loop-row.row (left.cols - 1)) (tile_at right c.loop-row.row 0) =
    subst (λ tile. MeetsEast tile (tile_at right c.loop-row.row 0)) west
    (subst (λ tile. MeetsEast c.tile_at.result tile) c.tile_at-in-loop-row.ensures (c.meets_east.ensures c.if-not-meets_east.false)) in
    elim (cases_eq row c.loop-row.row) [
      | inl same ↦ subst (λ r. MeetsEast (tile_at left r (left.cols - 1)) (tile_at right r 0)) (sym same) met
      | inr other ↦ c.loop-row.invariant row (omega arith)
    ]

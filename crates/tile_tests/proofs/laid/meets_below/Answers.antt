use Rattle.std.proofs.Common.{◌≡◌, ◌-◌, ◌∙◌, inl, inr, ap, arith, subst, sym}
use Rattle.std.proofs.lemmas.Bool.{cases_eq}
use Rattle.stick_grid.specs.Tilings.{tile_at, MeetsSouth}
use Rattle.tile_tests.proofs.laid.meets_below.Goals as goal

pub loop-col-preserved : goal.loop-col-preserved
loop-col-preserved c = λ col less.
    let upper = c.args.upper.now in
    let lower = c.args.lower.now in
    let north : c.tile_at.result ≡ tile_at upper (upper.rows - 1) c.loop-col.col =
    c.tile_at.ensures ∙ ap (λ rows. tile_at upper (rows - 1) c.loop-col.col) c.rows-in-loop-col.ensures.number in
    let met : MeetsSouth (tile_at upper (upper.rows - 1) c.loop-col.col) (tile_at lower 0 c.loop-col.col) =
    subst (λ tile. MeetsSouth tile (tile_at lower 0 c.loop-col.col)) north
    (subst (λ tile. MeetsSouth c.tile_at.result tile) c.tile_at-in-loop-col.ensures (c.meets_south.ensures c.if-not-meets_south.false)) in
    elim (cases_eq col c.loop-col.col) [
      | inl same ↦ subst (λ k. MeetsSouth (tile_at upper (upper.rows - 1) k) (tile_at lower 0 k)) (sym same) met
      | inr other ↦ c.loop-col.invariant col (omega arith)
    ]

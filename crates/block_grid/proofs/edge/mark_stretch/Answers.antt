-- One border more.
use Rattle.std.proofs.Common.{ℕ, ◌+◌, ◌*◌, ◌≤◌, min, Bool, ◌||◌, ◌&&◌, ◌==◌, Some, length, sym, ap, subst, ◌∙◌, arith}
use Rattle.block_grid.proofs.Marks.{between, mark_more, met_here, index_in, higher}
use Rattle.block_grid.proofs.edge.mark_stretch.Goals as goal

pub loop-row-preserved : goal.loop-row-preserved
loop-row-preserved c =
    let cols = c.args.cols in
    let row = c.loop-row.row in
    let long = c.loop-row.auto.marks in
    let most = higher cols (length c.args.marks.now) c.args.from.0 c.args.to.0 c.requires.from.1 c.requires.to.1 in
    let fits = subst (λ (n : ℕ). (n + 1) * cols ≤ length c.args.marks.now) (sym c.max-high.ensures) most in
    let within = index_in cols (length c.args.marks.now) row c.max-high.result c.args.from.1 (omega arith) fits c.requires.from.0 in (
      omega (arith, c.loop-row.invariant.0),
      mark_more cols c.args.marks.now c.loop-row.marks c.args.from.1 c.min-low.result row c.requires.from.0 c.loop-row.invariant.0 (omega (arith, within, long))
          c.loop-row.invariant.1,
    )

pub returns-after-loop-row : goal.returns-after-loop-row
returns-after-loop-row c line at b below is =
    let met = met_here c.args.from c.args.to line at c.if-from-to.true in
    c.loop-row.invariant.1 line at b below is
    ∙ ap (λ (n : ℕ). Some (b || ((c.args.from.1 == at) && between c.min-low.result n line))) (omega arith)
    ∙ ap (λ (n : ℕ). Some (b || ((c.args.from.1 == at) && between n c.max-high.result line))) c.min-low.ensures
    ∙ ap (λ (n : ℕ). Some (b || ((c.args.from.1 == at) && between (min c.args.from.0 c.args.to.0) n line))) c.max-high.ensures
    ∙ ap (λ (t : Bool). Some (b || t)) (sym met)

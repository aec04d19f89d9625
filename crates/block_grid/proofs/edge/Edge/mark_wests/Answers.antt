-- One stretch more.
use Rattle.std.proofs.Common.{◌≡◌, ◌+◌, ◌<◌, ◌≤◌, nat_lt, [], ◌∷◌, ◌++◌, length, get_or, drop, sym, ap, subst, ◌∙◌, arith}
use Rattle.block_grid.specs.Lines.{BlockPlace, row_of, col_of, wests}
use Rattle.block_grid.specs.Raster.{AddsMarks, IsMarkable, is_met, flipped}
use Rattle.block_grid.specs.Sheets.{DrawnEdge, west_of}
use Rattle.block_grid.proofs.Marks.{one_less, none_left, next_stretch, end_stretch}
use Rattle.block_grid.proofs.edge.Edge.mark_wests.Goals as goal

pub mark_stretch-requires-clause-from : goal.mark_stretch-requires-clause-from
mark_stretch-requires-clause-from c =
    let long = c.loop-there.auto.marks in
    let fits = c.loop-there.invariant.0.1 in
    (c.loop-there.invariant.0.0, omega (arith, long, fits))

pub loop-there-preserved : goal.loop-there-preserved
loop-there-preserved c =
    let items = c.deref-there-items.result.now in
    let i = c.loop-there.there-index in
    let here = c.loop-there.here in
    let there = get_or items i (0, 0) in
    let rest = c.args.self.now.finish ∷ [] in
    let are : items ≡ c.args.self.now.turns = c.deref-there-items.ensures.value ∙ ap (λ (e : DrawnEdge). e.turns) c.self.view_is in
    let long = ap length are in
    let below : i < length items = omega arith in (
      subst (λ l. IsMarkable c.args.rows (length c.args.marks.now) (flipped (get_or l i (0, 0)))) (sym are) (c.requires.turns i (0, 0) (omega (arith, long, below))),
      one_less c.args.rows c.args.marks.now c.loop-there.marks c.mark_stretch.new.marks (is_met (flipped here) (flipped there))
          (λ col row. nat_lt 0 (wests there (drop (i + 1) items ++ rest) row col))
          (λ col row. nat_lt 0 (wests here (drop i items ++ rest) row col)) (λ col row. nat_lt 0 (west_of c.args.self.now row col))
          c.loop-there.invariant.1 (λ line at. next_stretch col_of row_of here items rest i (0, 0) below line at) c.mark_stretch.ensures,
    )

pub mark_stretch-requires-2-clause-from : goal.mark_stretch-requires-2-clause-from
mark_stretch-requires-2-clause-from c =
    let long = c.loop-there.auto.marks in
    let fits = c.loop-there.invariant.0.1 in
    (c.loop-there.invariant.0.0, omega (arith, long, fits))

pub returns : goal.returns
returns c =
    let items = c.deref-there-items.result.now in
    let i = c.loop-there.there-index in
    let here = c.loop-there.here in
    let end = ap (λ (e : DrawnEdge). e.finish) c.self.view_is in
    let low : length items ≤ i = omega arith in
    none_left c.args.rows c.args.marks.now c.loop-there.marks c.mark_stretch-2.new.marks (is_met (flipped here) (flipped c.args.self.now.finish))
    (λ col row. nat_lt 0 (wests here (drop i items ++ c.args.self.now.finish ∷ []) row col)) (λ col row. nat_lt 0 (west_of c.args.self.now row col))
    c.loop-there.invariant.1 (λ line at. end_stretch col_of row_of here items c.args.self.now.finish i low line at)
    (subst (λ (p : BlockPlace). AddsMarks c.args.rows c.loop-there.marks c.mark_stretch-2.new.marks (is_met (flipped here) (flipped p))) end c.mark_stretch-2.ensures)

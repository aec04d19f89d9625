-- Each box joins the stacks in turn.
use Rattle.std.proofs.Common.{List, length, ◌≤◌, arith, subst}
use Rattle.geom.specs.Squares.{BoxShape, IsBox}
use Rattle.geom.specs.Rows.{Pairwise, Among}
use Rattle.geom.specs.Columns.{IsBefore, AreStacks}
use Rattle.geom.proofs.Lists.{item_among}
use Rattle.geom.proofs.Columns.{stacking_start, stacking_at, stacking_end, stacks_again}
use Rattle.geom.proofs.stacking.stacked.Goals as goal

pub loop-b-init : goal.loop-b-init
loop-b-init c =
    let sorted : Pairwise IsBefore c.deref-b-items.result.now = rw c.deref-b-items.ensures.value c.in_ok-sort_by_column.ensures.sorted in
    rw c.new-stacks.ensures.items (stacking_start c.deref-b-items.result.now sorted)

pub loop-b-preserved : goal.loop-b-preserved
loop-b-preserved c =
    let P : List BoxShape → Type 0 = λ l. Among l c.b-item.result in
    let among : Among c.sort_by_column.new.boxes.items c.b-item.result =
    subst P c.deref-b-items.ensures.value (item_among c.deref-b-items.result.now c.loop-b.b-index c.b-item.result c.loop-b-test.true c.b-item.is) in
    let box : IsBox c.b-item.result = c.requires c.b-item.result ((c.in_ok-sort_by_column.ensures.same c.b-item.result).0 among) in
    stacking_at c.deref-b-items.result.now c.loop-b.b-index c.b-item.result c.loop-b.stacks.items c.stack.new.stacks.items c.loop-b-test.true c.b-item.is box
    c.in_ok-stack.ensures c.loop-b.invariant

pub returns : goal.returns
returns c =
    let past : length c.deref-b-items.result.now ≤ c.loop-b.b-index = omega arith in
    let P : List BoxShape → Type 0 = λ l. AreStacks l c.loop-b.stacks.items in
    stacks_again c.args.boxes.items c.sort_by_column.new.boxes.items c.loop-b.stacks.items
    (λ b i. (c.in_ok-sort_by_column.ensures.same b).0 i)
    (λ b i. (c.in_ok-sort_by_column.ensures.same b).1 i)
    (subst P c.deref-b-items.ensures.value (stacking_end c.deref-b-items.result.now c.loop-b.b-index c.loop-b.stacks.items past c.loop-b.invariant))

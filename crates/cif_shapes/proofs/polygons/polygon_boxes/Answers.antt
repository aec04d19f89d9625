-- One strip after another.
use Rattle.std.proofs.Common.{◌≡◌, ◌+◌, ◌-◌, ◌++◌, ℕ, ℤ, List, take, sym, subst, to_z, of_z, w64, arith}
use Rattle.geom.specs.declared.point.Point.{Point}
use Rattle.geom.specs.Squares.{IsSide}
use Rattle.geom.specs.Rows.{Among}
use Rattle.cif_shapes.specs.Changes.{AreChanges, ReachRow, run_boxes}
use Rattle.cif_shapes.proofs.RunBoxes.{low_same, high_same}
use Rattle.cif_shapes.proofs.Strips.{IsSwept, next_at, strip_side, near_columns, swept_more, swept_all}
use Rattle.cif_shapes.proofs.polygons.polygon_boxes.Goals as goal

pub add_runs-requires-clause-side : goal.add_runs-requires-clause-side
add_runs-requires-clause-side c =
    let low : ℤ = c.index-low.result.now in
    let high : ℤ = c.index.result.now in
    let n = next_at c.in_ok-heights.heights.items c.loop-upper.upper low high (omega arith) (omega arith) c.index-low.ensures c.index.ensures in
    let s = strip_side c.args.points.now c.in_ok-heights.heights.items (c.loop-upper.upper - 1) low high c.requires c.in_ok-heights.ensures n in
    let P : ℤ → Type 0 = λ v. IsSide v (to_z w64 (of_z w64 high)) in
    let Q : ℤ → Type 0 = λ v. IsSide low v in
    subst P (sym (low_same low high s)) (subst Q (sym (high_same low high s)) s)

pub add_runs-requires-clause-near : goal.add_runs-requires-clause-near
add_runs-requires-clause-near c = λ x i.
    let P : List Point → Type 0 = λ l. AreChanges (take c.in_ok-changes.reached l) c.in_ok-changes.changes.items in
    let Q : List ℤ → Type 0 = λ l. Among l x in
    let changes : AreChanges (take c.in_ok-changes.reached c.in_ok-corners.corners.items) c.in_ok-changes.changes.items =
    subst P c.deref.ensures.value c.in_ok-changes.ensures.changes in
    near_columns c.args.points.now c.in_ok-corners.corners.items c.in_ok-changes.reached c.in_ok-changes.changes.items c.requires c.in_ok-corners.ensures
    changes.have x (subst Q c.deref-in-loop-upper.ensures.value i)

pub loop-upper-preserved : goal.loop-upper-preserved
loop-upper-preserved c =
    let heights : List ℤ = c.in_ok-heights.heights.items in
    let corners : List Point = c.in_ok-corners.corners.items in
    let changes : List ℤ = c.in_ok-changes.changes.items in
    let low : ℤ = c.index-low.result.now in
    let high : ℤ = c.index.result.now in
    let n = next_at heights c.loop-upper.upper low high (omega arith) (omega arith) c.index-low.ensures c.index.ensures in
    let s = strip_side c.args.points.now heights (c.loop-upper.upper - 1) low high c.requires c.in_ok-heights.ensures n in
    let P : List Point → Type 0 = λ l. AreChanges (take c.in_ok-changes.reached l) changes in
    let Q : List Point → Type 0 = λ l. ReachRow l c.in_ok-changes.reached low in
    let R : ℤ → Type 0 = λ v. ReachRow c.deref.result.now c.in_ok-changes.reached v in
    let S : ℤ → Type 0 = λ v. c.add_runs.new.boxes.items ≡ c.loop-upper.boxes.items ++ run_boxes c.args.layer v high changes in
    let T : ℤ → Type 0 = λ v. c.add_runs.new.boxes.items ≡ c.loop-upper.boxes.items ++ run_boxes c.args.layer (to_z w64 (of_z w64 low)) v changes in
    let U : List ℤ → Type 0 =
    λ l. c.add_runs.new.boxes.items ≡ c.loop-upper.boxes.items ++ run_boxes c.args.layer (to_z w64 (of_z w64 low)) (to_z w64 (of_z w64 high)) l in
    let boxes : c.add_runs.new.boxes.items ≡ c.loop-upper.boxes.items ++ run_boxes c.args.layer low high changes =
    subst S (low_same low high s) (subst T (high_same low high s) (subst U c.deref-in-loop-upper.ensures.value c.in_ok-add_runs.ensures)) in
    let more = swept_more c.args.layer c.args.points.now heights corners (c.loop-upper.upper - 1) c.loop-upper.count c.in_ok-changes.reached c.loop-upper.columns.items
    changes c.loop-upper.boxes.items c.add_runs.new.boxes.items low high c.requires c.in_ok-heights.ensures c.in_ok-corners.ensures n
    (subst Q c.deref.ensures.value (subst R (low_same low high s) c.in_ok-changes.ensures.reach)) (subst P c.deref.ensures.value c.in_ok-changes.ensures.changes) boxes
    c.loop-upper.invariant in
    let e : c.loop-upper.upper - 1 + 1 ≡ c.loop-upper.upper + 1 - 1 = omega arith in
    let W : ℕ → Type 0 =
    λ k. IsSwept c.args.layer c.args.points.now heights corners k c.in_ok-changes.reached changes c.add_runs.new.boxes.items in
    subst W e more

pub returns : goal.returns
returns c =
    swept_all c.args.layer c.args.points.now c.in_ok-heights.heights.items c.in_ok-corners.corners.items (c.loop-upper.upper - 1) c.loop-upper.count
    c.loop-upper.columns.items c.loop-upper.boxes.items c.in_ok-heights.ensures (omega arith) c.loop-upper.invariant

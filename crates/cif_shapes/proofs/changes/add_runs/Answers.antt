-- Two columns more give a box more.
use Rattle.std.proofs.Common.{◌≡◌, ◌++◌, ℤ, pos, subst, to_z, of_z, w64}
use Rattle.std.proofs.lemmas.Int.{to_z-of_z}
use Rattle.cif_shapes.specs.Changes.{run_boxes}
use Rattle.cif_shapes.proofs.RunBoxes.{column_side, runs_more, runs_all}
use Rattle.cif_shapes.proofs.changes.add_runs.Goals as goal

pub run-requires-clause-across : goal.run-requires-clause-across
run-requires-clause-across c = column_side c.args.columns.now c.loop-at.at (pos 0) c.loop-at-test.true c.requires.rising c.requires.near

pub loop-at-preserved : goal.loop-at-preserved
loop-at-preserved c =
    runs_more c.args.layer (to_z w64 (of_z w64 c.args.low)) (to_z w64 (of_z w64 c.args.high)) c.args.columns.now c.loop-at.at (pos 0) c.loop-at.boxes.items
    c.push.new.self.items _ c.run.result c.loop-at-test.true c.requires.near c.in_ok-push.ensures.items c.run.ensures c.loop-at.invariant

pub returns : goal.returns
returns c =
    let P : ℤ → Type 0 = λ v. c.loop-at.boxes.items ≡ c.args.boxes.now.items ++ run_boxes c.args.layer v c.args.high c.args.columns.now in
    let Q : ℤ → Type 0 = λ v. c.loop-at.boxes.items ≡ c.args.boxes.now.items ++ run_boxes c.args.layer (to_z w64 (of_z w64 c.args.low)) v c.args.columns.now in
    subst P (to_z-of_z w64 c.args.low c.ranges.low) (subst Q (to_z-of_z w64 c.args.high c.ranges.high)
    (runs_all c.args.layer (to_z w64 (of_z w64 c.args.low)) (to_z w64 (of_z w64 c.args.high)) c.args.columns.now c.loop-at.at c.loop-at.boxes.items _
    c.loop-at-test.false c.loop-at.invariant))

-- The cuts change no column.
use Rattle.std.proofs.Common.{rules, ◌≡◌, ℤ, Some, ◌∙◌, w64, to_z, of_z}
use Rattle.std.specs.Int.{int_max}
use Rattle.geom.specs.Spans.{InRows}
use Rattle.geom.specs.RowTrees.{column_at}
use Rattle.geom.proofs.Reaches.{raised_rows}
use Rattle.geom.proofs.reach.Reach.raise.Goals as goal

pub returns : goal.returns
returns c =
    let f : to_z w64 (of_z w64 c.args.from) ≡ c.args.from = search rules in
    let t : to_z w64 (of_z w64 c.args.to) ≡ c.args.to = search rules in
    let x : to_z w64 (of_z w64 c.args.column) ≡ c.args.column = search rules in
    let same : (y : ℤ) → column_at c.cut-2.new.self y ≡ column_at c.args.self.now y = λ y. c.cut-2.ensures.same y ∙ (rw (← c.self.view_is) (c.cut.ensures.same y)) in
    let inside : (y : ℤ) → InRows (Some (record { from = Some c.args.from; to = Some c.args.to })) y → column_at c.raise.new.self y ≡ int_max (column_at c.cut-2.new.self y) c.args.column =
    rw (← f, ← t, ← x) c.raise.ensures.inside in
    let outside : (y : ℤ) → (InRows (Some (record { from = Some c.args.from; to = Some c.args.to })) y → ⊥) → column_at c.raise.new.self y ≡ column_at c.cut-2.new.self y =
    rw (← f, ← t) c.raise.ensures.outside in
    raised_rows c.args.self.now c.cut-2.new.self c.raise.new.self c.args.from c.args.to c.args.column same inside outside

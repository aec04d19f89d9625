-- The rows whose columns are not less and not greater have the same.
use Rattle.std.proofs.Common.{rules, ◌≡◌, w64, to_z, of_z}
use Rattle.geom.specs.RowTrees.{column_at, Leaves}
use Rattle.geom.proofs.Reaches.{level_of}
use Rattle.geom.proofs.reach.Reach.level.Goals as goal

pub returns-clause-level : goal.returns-clause-level
returns-clause-level c =
    let y : to_z w64 (of_z w64 c.args.row) ≡ c.args.row = search rules in
    let l : to_z w64 (of_z w64 c.args.limit) ≡ c.args.limit = search rules in
    let v : to_z w64 (of_z w64 c.column-value.result) ≡ c.column-value.result = search rules in
    let e : to_z w64 (of_z w64 c.leaving.result) ≡ c.leaving.result = search rules in
    let is : c.column-value.result ≡ column_at c.args.self.now c.args.row = rw (← c.self.view_is, ← y) c.column-value.ensures in
    let leaves : Leaves (column_at c.args.self.now) (record { least = c.column-value.result; greatest = c.column-value.result }) c.args.row c.args.limit c.leaving.result =
    rw (← c.self.view_is, ← y, ← l, ← v) c.leaving.ensures in
    rw (v, e) (level_of c.args.self.now c.args.row c.args.limit c.column-value.result c.leaving.result c.requires is leaves)

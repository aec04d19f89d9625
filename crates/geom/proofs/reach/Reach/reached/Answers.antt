-- The rows whose columns are not less reach it.
use Rattle.std.proofs.Common.{rules, ◌≡◌, w64, to_z, of_z}
use Rattle.geom.specs.RowTrees.{column_at, greatest_of, IsSound, Leaves}
use Rattle.geom.proofs.Reaches.{reached_of}
use Rattle.geom.proofs.reach.Reach.reached.Goals as goal

pub returns : goal.returns
returns c =
    let x : to_z w64 (of_z w64 c.args.column) ≡ c.args.column = search rules in
    let y : to_z w64 (of_z w64 c.args.row) ≡ c.args.row = search rules in
    let l : to_z w64 (of_z w64 c.args.limit) ≡ c.args.limit = search rules in
    let g : to_z w64 (of_z w64 c.greatest.result) ≡ greatest_of c.args.self.now = rw (← c.self.view_is) (search rules) in
    let e : to_z w64 (of_z w64 c.leaving.result) ≡ c.leaving.result = search rules in
    let sound : IsSound c.args.self.now = rw (← c.self.view_is) c.self.invariant in
    let leaves : Leaves (column_at c.args.self.now) (record { least = c.args.column; greatest = greatest_of c.args.self.now }) c.args.row c.args.limit c.leaving.result =
    rw (← g, ← c.self.view_is, ← y, ← l, ← x) c.leaving.ensures in
    rw e (reached_of c.args.self.now c.args.column c.args.row c.args.limit c.leaving.result sound c.requires.order c.requires.reached leaves)

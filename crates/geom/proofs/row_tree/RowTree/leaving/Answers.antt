-- The least column raises none.
use Rattle.std.proofs.Common.{rules, ◌≡◌, w64, to_z, of_z}
use Rattle.geom.specs.RowTrees.{Leaves, least_of}
use Rattle.geom.proofs.RowTrees.{raised, left_bare}
use Rattle.geom.proofs.row_tree.RowTree.leaving.Goals as goal

pub returns : goal.returns
returns c =
    let y : to_z w64 (of_z w64 c.args.row) ≡ c.args.row = search rules in
    let l : to_z w64 (of_z w64 c.args.limit) ≡ c.args.limit = search rules in
    let f : to_z w64 (of_z w64 c.least.result) ≡ least_of c.args.self.now = search rules in
    let r : to_z w64 (of_z w64 c.leaving_above.result) ≡ c.leaving_above.result = search rules in
    let h : Leaves (raised c.args.self.now (least_of c.args.self.now)) c.args.band c.args.row c.args.limit c.leaving_above.result = rw (← f, ← y, ← l) c.leaving_above.ensures in
    rw r (left_bare c.args.self.now c.args.band c.args.row c.args.limit c.leaving_above.result c.requires.sound h)

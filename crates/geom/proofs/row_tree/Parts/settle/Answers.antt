-- The floor raises the least and the greatest column of both trees.
use Rattle.std.proofs.Common.{rules, ◌≡◌, refl, w64, to_z, of_z}
use Rattle.std.specs.Int.{int_max, int_min}
use Rattle.std.proofs.lemmas.Int.{ints, to_z-of_z}
use Rattle.geom.specs.RowTrees.{least_of, greatest_of}
use Rattle.geom.proofs.row_tree.Parts.settle.Goals as goal

pub returns : goal.returns
returns c =
    let l : to_z w64 (of_z w64 c.max-self.result) ≡ int_max (int_min (least_of c.args.self.now.low) (least_of c.args.self.now.high)) c.args.self.now.floor = search (rules, ints, to_z-of_z) in
    let g : to_z w64 (of_z w64 c.max-self-2.result) ≡ int_max (int_max (greatest_of c.args.self.now.low) (greatest_of c.args.self.now.high)) c.args.self.now.floor = search (rules, ints, to_z-of_z) in
    rw (l, g) refl

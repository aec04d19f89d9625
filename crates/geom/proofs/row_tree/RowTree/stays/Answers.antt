-- Both columns passed their tests.
use Rattle.std.proofs.Common.{rules, ◌≡◌, ◌↔◌, IsTrue, w64, to_z, of_z}
use Rattle.std.specs.Int.{int_max}
use Rattle.std.proofs.lemmas.Int.{ints, to_z-of_z}
use Rattle.geom.specs.RowTrees.{InBand, least_of, greatest_of}
use Rattle.geom.proofs.row_tree.RowTree.stays.Goals as goal

pub returns-then-holds : goal.returns-then-holds
returns-then-holds c =
    let low : to_z w64 (of_z w64 c.max.result) ≡ int_max (least_of c.args.self.now) c.args.floor = search (rules, ints, to_z-of_z) in
    let high : to_z w64 (of_z w64 c.max-then-holds.result) ≡ int_max (greatest_of c.args.self.now) c.args.floor = search (rules, ints, to_z-of_z) in
    let l : IsTrue c.holds.result ↔ InBand c.args.band (int_max (least_of c.args.self.now) c.args.floor) = rw (← low) c.holds.ensures in
    let h : IsTrue c.holds-then-holds.result ↔ InBand c.args.band (int_max (greatest_of c.args.self.now) c.args.floor) = rw (← high) c.holds-then-holds.ensures in
    (λ t. (l.0 c.if-holds.true, h.0 t), λ k. h.1 k.1)

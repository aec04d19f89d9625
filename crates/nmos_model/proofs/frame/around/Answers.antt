use Rattle.std.proofs.Common.{rules, ◌≡◌, refl, w64, to_z, of_z}
use Rattle.std.specs.Int.{int_min, int_max}
use Rattle.std.proofs.lemmas.Int.{ints, to_z-of_z}
use Rattle.nmos_model.proofs.frame.around.Goals as goal

pub returns : goal.returns
returns c =
    let x1 : to_z w64 (of_z w64 c.min.result) ≡ int_min c.args.one.x1 c.args.other.x1 = search (rules, ints, to_z-of_z) in
    let y1 : to_z w64 (of_z w64 c.min-2.result) ≡ int_min c.args.one.y1 c.args.other.y1 = search (rules, ints, to_z-of_z) in
    let x2 : to_z w64 (of_z w64 c.max.result) ≡ int_max c.args.one.x2 c.args.other.x2 = search (rules, ints, to_z-of_z) in
    let y2 : to_z w64 (of_z w64 c.max-2.result) ≡ int_max c.args.one.y2 c.args.other.y2 = search (rules, ints, to_z-of_z) in
    rw (x1, y1, x2, y2) refl

use Rattle.std.proofs.Common.{rules, ◌≡◌, pos, ◌+ℤ◌, refl, w64, to_z, of_z}
use Rattle.std.proofs.lemmas.Int.{ints, to_z-of_z}
use Rattle.nmos_model.proofs.frame.framed.Goals as goal

pub returns-clause-framed : goal.returns-clause-framed
returns-clause-framed c =
    let across : c.args.e.x2 ≡ c.args.e.x1 +ℤ pos c.side-width.result = search (rules, ints, to_z-of_z) in
    let upward : c.args.e.y2 ≡ c.args.e.y1 +ℤ pos c.side-height.result = search (rules, ints, to_z-of_z) in
    let left : c.args.e.x1 ≡ to_z w64 (of_z w64 c.before-2.result) +ℤ pos 1 = search (rules, ints, to_z-of_z) in
    let bottom : c.args.e.y1 ≡ to_z w64 (of_z w64 c.before-3.result) +ℤ pos 1 = search (rules, ints, to_z-of_z) in
    record {
      width = c.side-width.result;
      height = c.side-height.result;
      across = across;
      upward = upward;
      left = left;
      bottom = bottom;
      columns = refl;
      rows = refl;
      few = search (rules, ints, to_z-of_z);
    }

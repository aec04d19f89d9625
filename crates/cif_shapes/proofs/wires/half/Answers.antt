-- An even number has no rest.
use Rattle.std.proofs.Common.{◌≡◌, pos, ◌*ℤ◌, arith}
use Rattle.std.specs.Int.RustNames.{int_div}
use Rattle.std.proofs.lemmas.Int.{ints}
use Rattle.cif_shapes.proofs.WireSegments.{halved}
use Rattle.cif_shapes.proofs.wires.half.Goals as goal

pub returns : goal.returns
returns c =
    let h : pos 2 *ℤ int_div c.args.even (pos 2) ≡ c.args.even = halved c.args.even c.requires.0 c.requires.1 in
    omega (arith, ints, h)

-- The remainder is taken away.
use Rattle.std.proofs.Common.{rules, ◌-ℤ◌, arith}
use Rattle.std.proofs.lemmas.Int.{ints, to_z-of_z}
use mir.Val.{SFits}
use mir.Syntax.{w64}
use Rattle.chip_box.proofs.TileEdges.{rem_edge}
use Rattle.chip_box.proofs.extent.edge_before.Goals as goal

pub returns : goal.returns
returns c =
    let v : SFits w64 c.args.edge = search rules in
    let r : SFits w64 c.rem_euclid.result = search rules in
    let d : SFits w64 (c.args.edge -ℤ c.rem_euclid.result) = search (arith, ints, c.requires, c.rem_euclid.ensures) in
    simp to_z-of_z (rem_edge c.args.edge c.rem_euclid.result (simp to_z-of_z at c.rem_euclid.ensures.value))

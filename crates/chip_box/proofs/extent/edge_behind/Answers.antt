-- The edge, turned round.
use Rattle.std.proofs.Common.{rules, pos, ◌-ℤ◌, arith}
use Rattle.std.proofs.lemmas.Int.{ints, to_z-of_z}
use mir.Val.{SFits}
use mir.Syntax.{w64}
use Rattle.chip_box.proofs.TileEdges.{turned_edge}
use Rattle.chip_box.proofs.extent.edge_behind.Goals as goal

pub returns : goal.returns
returns c =
    let v : SFits w64 c.args.edge = search rules in
    let r : SFits w64 c.edge_before.result = search rules in
    let m : SFits w64 (pos 0 -ℤ c.args.edge) = search (arith, ints, c.requires) in
    let d : SFits w64 (pos 0 -ℤ c.edge_before.result) = search (arith, ints, c.requires, c.edge_before.ensures.low, c.edge_before.ensures.high) in
    simp to_z-of_z (turned_edge c.args.edge c.edge_before.result (simp to_z-of_z at c.edge_before.ensures))

-- The width reaches to the east edge, and the height to the north edge.
use Rattle.std.proofs.Common.{rules, sym, subst}
use Rattle.std.proofs.lemmas.Int.{to_z-of_z}
use mir.Val.{SFits}
use mir.Syntax.{w64}
use Rattle.chip_box.specs.Extents.{IsEdgeBehind}
use Rattle.chip_box.proofs.extent.tiles_round.Goals as goal

pub returns-clause-east : goal.returns-clause-east
returns-clause-east c =
    let x : SFits w64 c.edge_before-x.result = search rules in
    let e : SFits w64 c.edge_behind.result = search rules in
    let f : SFits w64 c.args.extent.east = search rules in
    simp to_z-of_z
    (subst (IsEdgeBehind c.args.extent.east) (sym (simp to_z-of_z at c.distance.ensures)) (simp to_z-of_z at c.edge_behind.ensures))

pub returns-clause-north : goal.returns-clause-north
returns-clause-north c =
    let y : SFits w64 c.edge_before-y.result = search rules in
    let e : SFits w64 c.edge_behind-2.result = search rules in
    let f : SFits w64 c.args.extent.north = search rules in
    simp to_z-of_z
    (subst (IsEdgeBehind c.args.extent.north) (sym (simp to_z-of_z at c.distance-2.ensures)) (simp to_z-of_z at c.edge_behind-2.ensures))

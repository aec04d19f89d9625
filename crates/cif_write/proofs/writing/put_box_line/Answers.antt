use Rattle.std.proofs.Common.{rules, ◌≡◌, w64, to_z, of_z}
use Rattle.cif_write.proofs.Gathering.{Gathers-nil, Puts-failed, Puts-last}
use Rattle.cif_write.proofs.writing.put_box_line.Goals as goal

pub returns-in_err-put_pair-clause-bytes : goal.returns-in_err-put_pair-clause-bytes
returns-in_err-put_pair-clause-bytes g c =
    let x1 : to_z w64 (of_z w64 c.b.inside.x1) ≡ c.b.inside.x1 = search rules in
    let x2 : to_z w64 (of_z w64 c.b.inside.x2) ≡ c.b.inside.x2 = search rules in
    let y1 : to_z w64 (of_z w64 c.b.inside.y1) ≡ c.b.inside.y1 = search rules in
    let y2 : to_z w64 (of_z w64 c.b.inside.y2) ≡ c.b.inside.y2 = search rules in
    let sides = rw (c.side.ensures, c.side-2.ensures, x1, x2, y1, y2) at c.in_err-put_pair.ensures.bytes in
    rw (← c.b.view_is) (Puts-failed _ _ _ _ _ c.from_residual.ensures.0 (Gathers-nil _ _) sides)

pub returns-clause-bytes : goal.returns-clause-bytes
returns-clause-bytes g c =
    let x1 : to_z w64 (of_z w64 c.b.inside.x1) ≡ c.b.inside.x1 = search rules in
    let x2 : to_z w64 (of_z w64 c.b.inside.x2) ≡ c.b.inside.x2 = search rules in
    let y1 : to_z w64 (of_z w64 c.b.inside.y1) ≡ c.b.inside.y1 = search rules in
    let y2 : to_z w64 (of_z w64 c.b.inside.y2) ≡ c.b.inside.y2 = search rules in
    let sides = rw (c.side.ensures, c.side-2.ensures, x1, x2, y1, y2) at c.in_ok-put_pair.ensures.bytes in
    let centre = rw (c.middle.ensures, c.middle-2.ensures, x1, x2, y1, y2) at c.put_pair-2.ensures.bytes in
    rw (← c.b.view_is) (Puts-last _ _ _ _ sides centre)

-- A point more.
use Rattle.std.proofs.Common.{ℕ, ◌+◌, pos, ◌*ℤ◌, [], ◌∷◌, ◌++◌, flat_map, Some, sym, ◌∙◌, ap}
use Rattle.std.proofs.lemmas.List.{length_push}
use Rattle.geom.specs.CifCodes.{point_distances}
use Rattle.cif_codes.specs.Scales.{ratio, grid_of}
use Rattle.cif_codes.proofs.Checking.{stands_word}
use Rattle.cif_codes.proofs.MoveCodes.{two_more, two_distances}
use Rattle.cif_codes.proofs.PointCodes.{point_numbers, corners_push}
use Rattle.cif_codes.proofs.points.Corners.with_point.Goals as goal

pub returns-clause-checked : goal.returns-clause-checked
returns-clause-checked c = λ points p h s.
    let q = c.args.point in
    let m = grid_of c.args.scale in
    let numbers = point_numbers points in
    let distances = flat_map point_distances points in
    let j = c.joined-oblique.ensures h.standing h.found.ends h.found.oblique in
    let one = c.with_coordinate-first.ensures numbers distances p.x h.checked (stands_word m p.x q.x s.0) in
    let two = c.with_coordinate-checks.ensures (numbers ++ p.x ∷ []) (distances ++ (pos 2 *ℤ p.x) ∷ []) p.y one (stands_word m p.y q.y s.1) in
    corners_push m (ratio c.args.scale) points p q c.args.self
    (record { checks = c.with_coordinate-checks.result; count = c.args.self.count + 1; ends = Some c.joined-oblique.result.0; oblique = c.joined-oblique.result.1 }) h s
    (record { count = ap (λ (n : ℕ). n + 1) h.found.count ∙ sym (length_push h.standing q); ends = j.0; oblique = j.1 })
    (two_distances (ratio c.args.scale) (numbers ++ p.x ∷ p.y ∷ []) distances (pos 2 *ℤ p.x) (pos 2 *ℤ p.y) c.with_coordinate-checks.result
    (two_more (ratio c.args.scale) numbers ((distances ++ (pos 2 *ℤ p.x) ∷ []) ++ (pos 2 *ℤ p.y) ∷ []) p.x p.y c.with_coordinate-checks.result two))

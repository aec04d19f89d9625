-- One edge after another.
use Rattle.std.proofs.Common.{pos, ◌+ℤ◌, ◌-ℤ◌, ◌*ℤ◌, [], ◌∷◌, ap}
use Rattle.geom.specs.declared.point.Point.{Point}
use Rattle.geom.specs.CifCodes.{SomeIs, IsTooGreat}
use Rattle.cif_codes.specs.Scales.{grid_of}
use Rattle.cif_codes.proofs.BoxCodes.{lower_stands, upper_stands}
use Rattle.cif_codes.proofs.boxes.edge_checks.Goals as goal

pub returns : goal.returns
returns c = λ numbers p w h k s t u e.
    let m = grid_of c.args.scale in
    let near = c.requires.centre in
    let left = lower_stands (grid_of c.args.scale) p.x (pos w) c.args.centre.x c.args.wide (SomeIs IsTooGreat numbers → ⊥) near.0 c.requires.wide s.0 t
    (λ n. (ap (λ (q : Point). q.x) (e n).0, (e n).1)) in
    let bottom = lower_stands (grid_of c.args.scale) p.y (pos h) c.args.centre.y c.args.high (SomeIs IsTooGreat numbers → ⊥) near.1 c.requires.high s.1 u
    (λ n. (ap (λ (q : Point). q.y) (e n).0, (e n).2)) in
    let right = upper_stands (grid_of c.args.scale) p.x (pos w) c.args.centre.x c.args.wide (SomeIs IsTooGreat numbers → ⊥) near.0 c.requires.wide s.0 t
    (λ n. (ap (λ (q : Point). q.x) (e n).0, (e n).1)) in
    let top = upper_stands (grid_of c.args.scale) p.y (pos h) c.args.centre.y c.args.high (SomeIs IsTooGreat numbers → ⊥) near.1 c.requires.high s.1 u
    (λ n. (ap (λ (q : Point). q.y) (e n).0, (e n).2)) in
    let x1 = pos 2 *ℤ p.x -ℤ pos w in
    let y1 = pos 2 *ℤ p.y -ℤ pos h in
    let x2 = pos 2 *ℤ p.x +ℤ pos w in
    let y2 = pos 2 *ℤ p.y +ℤ pos h in
    c.with_distance.ensures numbers (x1 ∷ y1 ∷ x2 ∷ []) y2
    (c.with_distance-right.ensures numbers (x1 ∷ y1 ∷ []) x2
    (c.with_distance-bottom.ensures numbers (x1 ∷ []) y1 (c.with_distance-left.ensures numbers [] x1 k left.0 left.1) bottom.0 bottom.1) right.0 right.1)
    top.0 top.1

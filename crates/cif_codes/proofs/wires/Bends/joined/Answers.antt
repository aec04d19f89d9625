-- The segment to a point more.
use Rattle.std.proofs.Common.{◌≡◌, Bool, pos, Option, [], ◌∷◌, ◌++◌, sym, subst}
use Rattle.cif_codes.proofs.Checking.{stands_word}
use Rattle.cif_codes.specs.declared.bends.Bend.{Bend}
use Rattle.cif_codes.specs.Scales.{ratio, grid_of}
use Rattle.cif_codes.specs.Bends.{IsLast, IsOblique, wire_numbers, between_points}
use Rattle.cif_codes.proofs.Bending.{joined_last, joined_first}
use Rattle.cif_codes.proofs.wires.Bends.joined.Goals as goal

pub returns-in-Some : goal.returns-in-Some
returns-in-Some c = λ w points p st l o at1 k.
    let m = grid_of c.args.scale in
    let text = c.args.text.now in
    let L : Option Bend → Type 0 = λ v. IsLast text m points v in
    let O : Bool → Type 0 = λ v. IsOblique w (points ++ p ∷ []) v in
    let j = joined_last text m (ratio c.args.scale) w points p c.in-Some.last c.args.bend c.args.self.oblique c.is_straight-straight.result c.segment_edges-edges.result
    c.with_edges.result (subst L c.in-Some.is l) o at1 c.is_straight-straight.ensures (λ q h. c.segment_edges-edges.ensures.stand m w q p (stands_word m (pos w) c.args.width st) h at1)
    (λ out e. c.with_edges.ensures (wire_numbers w (points ++ p ∷ [])) (between_points w points) out k e) in
    (j.0, subst O (sym c.either.ensures) j.1)

pub returns-in-None : goal.returns-in-None
returns-in-None c = λ w points p st l o at1 k.
    let m = grid_of c.args.scale in
    let text = c.args.text.now in
    let L : Option Bend → Type 0 = λ v. IsLast text m points v in
    joined_first text m (ratio c.args.scale) w points p c.args.self.oblique c.args.checks (subst L c.in-None.is l) o k

-- The square of one point.
use Rattle.std.proofs.Common.{pos, Option, subst}
use Rattle.cif_codes.proofs.Checking.{stands_word}
use Rattle.cif_codes.specs.declared.bends.Bend.{Bend}
use Rattle.cif_codes.specs.Scales.{ratio, grid_of}
use Rattle.cif_codes.specs.Bends.{IsLast, wire_numbers, between_points}
use Rattle.cif_codes.proofs.Bending.{closed_single, closed_more, closed_none}
use Rattle.cif_codes.proofs.wires.Bends.closed.Goals as goal

pub returns-then-self-eq1 : goal.returns-then-self-eq1
returns-then-self-eq1 c = λ w points st h.
    let m = grid_of c.args.scale in
    let text = c.args.text.now in
    let L : Option Bend → Type 0 = λ v. IsLast text m points v in
    closed_single text m (ratio c.args.scale) w points c.in-Some.last c.args.self c.segment_edges-edges.result c.with_edges.result h (subst L c.in-Some.is h.last)
    c.if-self-eq1.true (λ p at1. c.segment_edges-edges.ensures.stand m w p p (stands_word m (pos w) c.args.width st) at1 at1)
    (λ out e. c.with_edges.ensures (wire_numbers w points) (between_points w points) out h.checked e)

pub returns-else-self-eq1 : goal.returns-else-self-eq1
returns-else-self-eq1 c = λ w points st h.
    let L : Option Bend → Type 0 = λ v. IsLast c.args.text.now (grid_of c.args.scale) points v in
    closed_more c.args.text.now (grid_of c.args.scale) (ratio c.args.scale) w points c.in-Some.last c.args.self h (subst L c.in-Some.is h.last) c.if-self-eq1.false

pub returns-in-None : goal.returns-in-None
returns-in-None c = λ w points st h.
    let L : Option Bend → Type 0 = λ v. IsLast c.args.text.now (grid_of c.args.scale) points v in
    closed_none c.args.text.now (grid_of c.args.scale) (ratio c.args.scale) w points c.args.self h (subst L c.in-None.is h.last)

use Rattle.std.proofs.Common.{arith, subst}
use Rattle.std.proofs.Math.Nat.{le-mul_of_pos_right}
use Rattle.geom.specs.Rows.{Among}
use Rattle.geom.specs.Squares.{Covered}
use Rattle.nmos_model.specs.Rasters.{Shows}
use Rattle.nmos_model.proofs.Merged.{holds_merged, shows_drawn}
use Rattle.nmos_model.proofs.Standing.{told_fault}
use Rattle.nmos_model.proofs.plain.extract_plain.Goals as goal

pub painted-requires : goal.painted-requires
painted-requires c = λ b h.
    holds_merged c.args.boxes.now c.in-Ok.merged.items c.in-Ok.ensures c.in-Some.frame c.in-Some.ensures.frame.holds b
    (subst (λ bs. Among bs b) c.deref.ensures.value h)

pub network_in-requires-clause-near : goal.network_in-requires-clause-near
network_in-requires-clause-near c = c.in-Some.ensures.frame.near

pub network_in-requires-clause-few : goal.network_in-requires-clause-few
network_in-requires-clause-few c =
    let size = c.in_ok-squares.ensures.size in
    let few = c.in-Some.ensures.frame.few in
    let wide = le-mul_of_pos_right c.in-Some.frame.width c.in-Some.ensures.frame.some in
    omega (arith, size, few, wide)

pub network_in-requires-clause-shows : goal.network_in-requires-clause-shows
network_in-requires-clause-shows c =
    let frame = c.in-Some.frame in
    let squares = c.in_ok-squares.squares.items in
    let drawn = subst (λ bs. Shows frame squares (Covered bs)) c.deref.ensures.value c.in_ok-squares.ensures in
    (c.args.boxes.now, shows_drawn c.args.boxes.now c.in-Ok.merged.items c.in-Ok.ensures frame c.in-Some.ensures.frame.holds squares drawn)

pub returns-in_err-network_in-clause-fault : goal.returns-in_err-network_in-clause-fault
returns-in_err-network_in-clause-fault c = λ fault is.
    let frame = c.in-Some.frame in
    let squares = c.in_ok-squares.squares.items in
    let drawn = subst (λ bs. Shows frame squares (Covered bs)) c.deref.ensures.value c.in_ok-squares.ensures in
    let shows = shows_drawn c.args.boxes.now c.in-Ok.merged.items c.in-Ok.ensures frame c.in-Some.ensures.frame.holds squares drawn in
    let refused = c.in_err-network_in.ensures.fault c.args.boxes.now shows in
    told_fault (Covered c.args.boxes.now) c.args.labels.now c.from_residual-in_err-network_in.result c.in_err-network_in.field-0.0 fault
    c.from_residual-in_err-network_in.ensures.1 is refused

pub returns-clause-network : goal.returns-clause-network
returns-clause-network c =
    let frame = c.in-Some.frame in
    let squares = c.in_ok-squares.squares.items in
    let drawn = subst (λ bs. Shows frame squares (Covered bs)) c.deref.ensures.value c.in_ok-squares.ensures in
    let shows = shows_drawn c.args.boxes.now c.in-Ok.merged.items c.in-Ok.ensures frame c.in-Some.ensures.frame.holds squares drawn in
    c.in_ok-network_in.ensures.network c.args.boxes.now shows

use Rattle.std.proofs.Common.{subst}
use Rattle.geom.specs.Squares.{Covered}
use Rattle.nmos_model.specs.Networks.{StandsFor}
use Rattle.stick_grid.specs.Plans.{Covers, plan_of}
use Rattle.tile_tests.proofs.SameSquares.{Same, refused_alike}
use Rattle.tile_tests.proofs.grids.outcome.Goals as goal

pub grid_network-requires : goal.grid_network-requires
grid_network-requires c = λ code place refused.
    let Plan = Covers (plan_of c.args.grid.now) in
    let boxes = c.in_ok-boxes.boxes.items in
    let labels = c.args.labels.now in
    let circuit = c.in-Ok.network in
    let same : Same Plan (Covered boxes) = record { is = λ layer x y. ((c.in_ok-boxes.ensures.squares layer x y).1, (c.in_ok-boxes.ensures.squares layer x y).0) } in
    let stands : StandsFor (Covered boxes) labels circuit = subst (λ drawn. StandsFor (Covered drawn) labels circuit) c.deref.ensures.value c.in-Ok.ensures.network in
    c.drawings_are_networks_or_refused.ensures.apart c.in_ok-boxes.boxes labels circuit code place c.see_names.ensures stands
    (refused_alike Plan (Covered boxes) same labels code place refused)

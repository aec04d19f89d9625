use Rattle.std.proofs.Common.{◌*◌, length, subst}
use Rattle.geom.specs.Squares.{Covered}
use Rattle.nmos_model.specs.Classes.{IsClassing}
use Rattle.nmos_model.specs.Conductors.{Squares, is_node, links}
use Rattle.nmos_model.proofs.Conducting.{is_graph}
use Rattle.nmos_model.proofs.Found.{are_nets}
use Rattle.nmos_model.proofs.nets.nets_of.Goals as goal

pub classify-requires : goal.classify-requires
classify-requires c =
    let shows = c.requires.shows in
    rw c.new.ensures (is_graph c.args.frame c.args.squares.items (Covered shows.0) shows.1)

pub returns : goal.returns
returns c = λ boxes shows.
    let classing = subst (λ (s : Squares). IsClassing (3 * length s.covers) (is_node s) (links s) c.in_ok-classes.classes) c.new.ensures c.in_ok-classes.ensures in
    are_nets c.args.frame c.args.squares.items (Covered boxes) shows c.in_ok-classes.classes classing

-- The box is moved only.
use Rattle.std.proofs.Common.{rules, ◌≡◌, ◌*◌, ◌∙◌, pos}
use Rattle.std.proofs.lemmas.Int.{ints, to_z-of_z}
use Rattle.geom.specs.Turns.{moved}
use Rattle.stick_grid.proofs.Moves.{straight, moved_is}
use Rattle.stick_grid.proofs.boxes.moved.Goals as goal

pub returns : goal.returns
returns c =
    let e : c.unwrap.result ≡ moved c.args.b straight (pos (14 * c.args.east)) (pos (14 * c.args.north)) = search (rules, ints, to_z-of_z) in
    e ∙ moved_is c.args.b c.args.east c.args.north c.requires.within

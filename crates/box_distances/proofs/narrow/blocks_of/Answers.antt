-- What corners of blocks reach are their squares.
use Rattle.std.proofs.Common.{pos}
use Rattle.box_distances.proofs.Blocks.{blocks_are}
use Rattle.box_distances.proofs.narrow.blocks_of.Goals as goal

pub returns : goal.returns
returns c = blocks_are (pos c.args.last) c.args.set.now c.in_ok-corners.corners c.in_ok-blocks.blocks c.in_ok-corners.ensures.plane c.in_ok-corners.ensures.corners
    c.in_ok-blocks.ensures

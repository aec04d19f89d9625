-- The columns are filled net by net.
use Rattle.std.proofs.Common.{◌+◌, refl, arith, slice_index_or}
use Rattle.gate_matrix.proofs.FilledColumns.{room, few_nets, within, filled_more, filled_all}
use Rattle.gate_matrix.proofs.column.columns_of.Goals as goal

pub load_columns-requires : goal.load_columns-requires
load_columns-requires c = room c.args.at.now c.args.cols 2 c.requires

pub overflow_cast-net : goal.overflow_cast-net
overflow_cast-net c =
    let few = few_nets c.args.at.now c.args.cols 2 c.requires in
    let test = c.loop-net-test.true in
    let fits = c.ranges.cols.fits in
    omega arith

pub place_wire-requires : goal.place_wire-requires
place_wire-requires c =
    let inner = within c.args.at.now c.args.cols 2 c.loop-net.net c.requires c.loop-net-test.true in
    let high = inner.1 in
    let long = c.loop-net.invariant.0 in
    omega arith

pub loop-net-preserved : goal.loop-net-preserved
loop-net-preserved c =
    rw c.place_wire.ensures
    (filled_more c.args.at.now c.args.cols c.loop-net.net (c.loop-net.net + 1) (slice_index_or c.args.at.now c.loop-net.net 0) c.loop-net.columns.items
    c.requires c.loop-net-test.true (omega arith) refl c.loop-net.invariant)

pub returns : goal.returns
returns c = filled_all c.args.at.now c.args.cols c.loop-net.net c.loop-net.columns.items c.loop-net-test.false c.loop-net.invariant

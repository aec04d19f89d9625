use Rattle.cell_network.specs.Whole.{cell_transfers}
use Rattle.cell_network.proofs.Adding.{extends, pieces_more}
use Rattle.cell_network.proofs.whole.whole_transfers.Goals as goal

pub loop-v-preserved : goal.loop-v-preserved
loop-v-preserved c =
    extends _ c.loop-v.transfers.items _ _ (cell_transfers c.args.counts c.nodes-nodes.result.now c.loop-v.v) _ c.loop-v.invariant
    c.in_ok-add_cell_transfers.ensures (pieces_more (cell_transfers c.args.counts c.nodes-nodes.result.now) c.loop-v.v)

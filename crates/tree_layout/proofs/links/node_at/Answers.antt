use Rattle.tree_layout.proofs.Entries.{node_is}
use Rattle.tree_layout.proofs.links.node_at.Goals as goal

pub returns : goal.returns
returns c = node_is c.args.entries.now c.args.number _ c.requires

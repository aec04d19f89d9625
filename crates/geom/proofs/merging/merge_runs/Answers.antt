-- All five layers are added in turn.
use Rattle.geom.proofs.Layers.{all_layers}
use Rattle.geom.proofs.merging.merge_runs.Goals as goal

pub returns : goal.returns
returns c = all_layers c.args.boxes.now c.add_layer-5.new.merged.items c.in_ok-add_layer-5.ensures

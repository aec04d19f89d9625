use Rattle.geom.specs.Squares.{Covered}
use Rattle.layout_network.proofs.Networks.{stands_for_network}
use Rattle.layout_network.proofs.laws.layouts_stand_for_networks.Goals as goal

-- src/laws.rt
pub returns : goal.returns
returns c = λ text circuit draws. stands_for_network (Covered draws.boxes) draws.labels circuit draws.stands

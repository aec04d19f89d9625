use Rattle.nor_net.proofs.SameAssemblies.{assemblies_are_same}
use Rattle.nor_net.proofs.laws.assemblies_are_the_same.Goals as goal

pub returns : goal.returns
returns c = assemblies_are_same

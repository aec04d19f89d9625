use Rattle.rx_syntax.proofs.PrintedTables.{tables_back}
use Rattle.rx_syntax.proofs.laws.printed_specifications_are_accepted.Goals as goal

pub returns : goal.returns
returns c limit tables h = tables_back tables limit c.trees_are_made_of_their_children.ensures.made h

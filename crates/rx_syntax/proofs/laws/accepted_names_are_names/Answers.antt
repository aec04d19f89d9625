use Rattle.rx_syntax.proofs.DeclaredNames.{lines_are_names, outputs_are_names}
use Rattle.rx_syntax.proofs.laws.accepted_names_are_names.Goals as goal

pub returns : goal.returns
returns c = record { lines = lines_are_names; outputs = outputs_are_names }

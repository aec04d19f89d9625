use Rattle.std.proofs.Common.{rules}
use Rattle.cell_network.proofs.laws.runs_written_out.Goals as goal

pub returns-clause-sequence : goal.returns-clause-sequence
returns-clause-sequence c = (search rules, (search rules, (search rules, tt)))

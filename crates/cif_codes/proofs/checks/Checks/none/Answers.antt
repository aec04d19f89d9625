-- Of nothing, nothing is wrong.
use Rattle.cif_codes.proofs.Checking.{checked_none}
use Rattle.cif_codes.proofs.checks.Checks.none.Goals as goal

pub returns : goal.returns
returns c = λ scale. checked_none scale

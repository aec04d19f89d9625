-- More calls than 64, where their number is known.
use Rattle.cif_figures.proofs.Calling.{deep_symbol, no_calls}
use Rattle.cif_figures.proofs.calls.is_deep.Goals as goal

pub returns-in-Some : goal.returns-in-Some
returns-in-Some c = λ symbol e. deep_symbol c.args.chain c.in-Some.calls symbol c.in-Some.is e

pub returns-in-None : goal.returns-in-None
returns-in-None c = λ symbol e. (λ f. absurd cc, λ l. absurd (no_calls c.args.chain symbol c.in-None.is e l))

-- No symbol, where no number of calls is known.
use Rattle.std.proofs.Common.{refl}
use Rattle.cif_figures.proofs.Calling.{known_symbol, unknown_symbol}
use Rattle.cif_figures.proofs.calls.is_unknown.Goals as goal

pub returns-in-Some : goal.returns-in-Some
returns-in-Some c = λ symbol e. (λ f. absurd cc, λ g. absurd (known_symbol c.args.chain _ symbol c.in-Some.is e g))

pub returns-in-None : goal.returns-in-None
returns-in-None c = λ symbol e. (λ f. unknown_symbol c.args.chain symbol c.in-None.is e, λ g. refl)

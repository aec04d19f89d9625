use Rattle.std.proofs.Common.{length, ap, arith}
use Rattle.pla_plan.proofs.array_laws.arrays_have_sizes.Goals as goal

pub returns : goal.returns
returns c nfa tables known = let many = ap length known.symbols in record { rows = omega arith; cols = omega arith }

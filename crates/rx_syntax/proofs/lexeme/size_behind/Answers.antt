use Rattle.std.proofs.Common.{rules}
use Rattle.std.proofs.lemmas.List.Sums.{prefix_len-le-length}
use Rattle.rx_syntax.proofs.lexeme.size_behind.Goals as goal

pub returns-then-byte-eq35-clause-within : goal.returns-then-byte-eq35-clause-within
returns-then-byte-eq35-clause-within c = search (rules, prefix_len-le-length)

pub returns-then-starts_name-clause-within : goal.returns-then-starts_name-clause-within
returns-then-starts_name-clause-within c = search (rules, prefix_len-le-length)

pub returns-then-is_run_byte-clause-within : goal.returns-then-is_run_byte-clause-within
returns-then-is_run_byte-clause-within c = search (rules, prefix_len-le-length)

use Rattle.std.proofs.Common.{false}
use Rattle.rx_lang.specs.Specification.{MatchesSymbol}
use Rattle.std.proofs.Common.{false}
use Rattle.rx_lang.specs.Copies.{IsItself, copied}
use Rattle.star_normal.proofs.Copied.{no_repeat}
use Rattle.star_normal.proofs.Exact.{exact_normal}
use Rattle.star_normal.proofs.laws.flags_of_the_empty_word_are_exact.Goals as goal

pub returns : goal.returns
returns c = record {
  vectors = λ symbols e. exact_normal (MatchesSymbol symbols) false (copied e) (no_repeat e);
  occurrences = λ e. exact_normal IsItself false (copied e) (no_repeat e);
}

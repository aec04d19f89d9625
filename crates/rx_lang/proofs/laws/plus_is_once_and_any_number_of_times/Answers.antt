use Rattle.std.proofs.Common.{◌≡◌, ℕ}
use Rattle.rx_lang.specs.Specification.{MatchesSymbol}
use Rattle.rx_lang.proofs.Words.{plus_spells}
use Rattle.rx_lang.proofs.laws.plus_is_once_and_any_number_of_times.Goals as goal

pub returns : goal.returns
returns c = record {
  vectors = λ symbols. plus_spells (MatchesSymbol symbols);
  occurrences = plus_spells {X = ℕ} (λ s x. s ≡ x);
}

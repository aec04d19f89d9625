use Rattle.std.proofs.Common.{◌≡◌, ℕ}
use Rattle.rx_lang.specs.Meaning.{Spells}
use Rattle.rx_lang.specs.Specification.{MatchesSymbol}
use Rattle.rx_lang.proofs.Words.{many_joins}
use Rattle.rx_lang.proofs.laws.loops_take_further_words.Goals as goal

pub returns : goal.returns
returns c = record {
  vectors = λ symbols e. many_joins (Spells (MatchesSymbol symbols) e);
  occurrences = λ e. many_joins (Spells {X = ℕ} (λ s x. s ≡ x) e);
}

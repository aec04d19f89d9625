use Rattle.std.proofs.Common.{◌≡◌, ℕ}
use Rattle.rx_lang.specs.Specification.{MatchesSymbol}
use Rattle.rx_lang.proofs.Words.{sequence_marks}
use Rattle.rx_lang.proofs.laws.sequences_mark_in_both_parts.Goals as goal

pub returns : goal.returns
returns c = record {
  vectors = λ symbols. sequence_marks (MatchesSymbol symbols);
  occurrences = sequence_marks {X = ℕ} (λ s x. s ≡ x);
}

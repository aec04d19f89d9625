use Rattle.std.proofs.Common.{◌≡◌, ℕ}
use Rattle.rx_lang.specs.Specification.{MatchesSymbol}
use Rattle.rx_lang.proofs.Words.{star_marks_empty}
use Rattle.rx_lang.proofs.laws.loops_mark_the_empty_word_of_their_expression.Goals as goal

pub returns : goal.returns
returns c = record {
  vectors = λ symbols. star_marks_empty (MatchesSymbol symbols);
  occurrences = star_marks_empty {X = ℕ} (λ s x. s ≡ x);
}

use Rattle.std.proofs.Common.{◌≡◌, ℕ}
use Rattle.rx_lang.specs.Specification.{MatchesSymbol}
use Rattle.rx_lang.proofs.Copying.{copies_mean, copies_have_occurrences}
use Rattle.rx_lang.proofs.laws.copies_mean_their_repeats.Goals as goal

pub returns : goal.returns
returns c = record {
  vectors = λ symbols e h. copies_mean (MatchesSymbol symbols) e h;
  occurrences = λ e h. copies_mean {X = ℕ} (λ s x. s ≡ x) e h;
  same = copies_have_occurrences;
}

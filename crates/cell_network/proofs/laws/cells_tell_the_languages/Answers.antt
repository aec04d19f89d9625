use Rattle.std.proofs.Common.{◌≡◌, true}
use Rattle.rx_lang.specs.Specification.{MatchesSymbol}
use Rattle.cell_network.specs.Laws.{Passes}
use Rattle.cell_network.proofs.Prefixes.{iff_refl}
use Rattle.cell_network.proofs.Runs.{root_words, pull_marks}
use Rattle.cell_network.proofs.laws.cells_tell_the_languages.Goals as goal

pub returns : goal.returns
returns c = record {
  words = λ symbols is tests. root_words is (MatchesSymbol symbols) tests;
  marks = λ symbols is tests. pull_marks is (MatchesSymbol symbols) tests;
  words_of_tests = λ is. root_words is (Passes is) (λ s x. iff_refl (is s x ≡ true));
  marks_of_tests = λ is. pull_marks is (Passes is) (λ s x. iff_refl (is s x ≡ true));
}

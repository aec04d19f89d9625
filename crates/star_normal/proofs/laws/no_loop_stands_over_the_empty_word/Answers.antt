use Rattle.std.proofs.Common.{false}
use Rattle.rx_lang.specs.Specification.{MatchesSymbol}
use Rattle.rx_lang.specs.Copies.{IsItself, copied}
use Rattle.star_normal.proofs.Copied.{no_repeat}
use Rattle.star_normal.proofs.Forms.{nullable_holds}
use Rattle.star_normal.proofs.OwnStrip.{are_stripped, own_full}
use Rattle.star_normal.proofs.laws.no_loop_stands_over_the_empty_word.Goals as goal

pub returns : goal.returns
returns c = record {
  stripped = λ e. are_stripped false (copied e) (no_repeat e);
  full = own_full;
  vectors = λ symbols e. let h = nullable_holds (MatchesSymbol symbols) (copied e) (no_repeat e) in (h.yes, h.no);
  occurrences = λ e. let h = nullable_holds IsItself (copied e) (no_repeat e) in (h.yes, h.no);
}

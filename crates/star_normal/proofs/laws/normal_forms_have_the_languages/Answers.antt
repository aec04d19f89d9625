use Rattle.std.proofs.Common.{map}
use Rattle.rx_lang.specs.Copies.{copied}
use Rattle.rx_lang.specs.Specification.{MatchesSymbol}
use Rattle.star_normal.proofs.Copied.{no_repeats}
use Rattle.star_normal.proofs.Unions.{form_languages, form_letters, form_scan_letters, copied_some}
use Rattle.star_normal.proofs.laws.normal_forms_have_the_languages.Goals as goal

pub returns : goal.returns
returns c = record {
  vectors = λ symbols es scans some. form_languages (MatchesSymbol symbols) (map copied es) (map copied scans) (no_repeats es) (no_repeats scans) (copied_some es scans some);
  occurrences = λ es scans some. form_letters (map copied es) (map copied scans) (no_repeats es) (no_repeats scans) (copied_some es scans some);
  scan_occurrences = λ es scans some. form_scan_letters (map copied es) (map copied scans) (no_repeats es) (no_repeats scans) (copied_some es scans some);
}

use Rattle.std.proofs.Common.{◌∙◌, map, sym}
use Rattle.std.proofs.lemmas.List.Concat.{flat_map-append}
use Rattle.rx_lang.specs.Copies.{copied, occurrences}
use Rattle.star_normal.proofs.Copied.{no_repeats}
use Rattle.star_normal.proofs.Numbered.{size_leaves}
use Rattle.star_normal.proofs.Unions.{form_leaves, copied_some}
use Rattle.star_normal.proofs.laws.leaves_are_the_occurrences.Goals as goal

pub returns : goal.returns
returns c = record {
  leaves = λ es scans some.
      form_leaves (map copied es) (map copied scans) (no_repeats es) (no_repeats scans) (copied_some es scans some)
      ∙ sym (flat_map-append occurrences (map copied es) (map copied scans));
  nodes = size_leaves;
}

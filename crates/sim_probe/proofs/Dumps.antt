-- The pieces of a value change dump, one behind another.
use Rattle.std.proofs.Common.{◌≡◌, ℕ, false, List, [], ◌++◌, ap, ap₂, ◌∙◌, append_assoc}
use Rattle.std.specs.Prelude.{codes}
use Rattle.std.specs.List.{flat_map}
use Rattle.std.specs.BTreeMap.{keys}
use Rattle.sim_probe.specs.declared.sample.Sample.{Sample}
use Rattle.sim_probe.specs.declared.waves.Changes.{Changes}
use Rattle.sim_probe.specs.WavesText.{pad_line, change_lines, end_line, waves_text}
use Rattle.sim_probe.specs.Changing.{Follows}

-- two pieces, two more, and a last one
pub five_pieces : (old a b c d e x y z : List ℕ) → x ≡ old ++ a ++ b → y ≡ x ++ c ++ d → z ≡ y ++ e → z ≡ old ++ (a ++ b ++ c ++ d ++ e)
five_pieces old a b c d e x y z p q r = r ∙ ap (λ l. l ++ e) q ∙ ap (λ l. l ++ c ++ d ++ e) p ∙ simp append_assoc

pub text_is : (changes : Changes) (samples : List Sample) → Follows changes samples → changes.lines.items ≡ change_lines [] false samples
    → flat_map pad_line (keys changes.lasts) ++ codes "$enddefinitions $end\n" ++ changes.lines.items ++ end_line changes.clock ≡ waves_text samples
text_is changes samples follows lines =
    ap₂ (λ (a b : List ℕ). a ++ b)
    (ap₂ (λ (pads written : List ℕ). flat_map pad_line pads ++ codes "$enddefinitions $end\n" ++ written) follows.lasts.pads lines)
    (ap end_line follows.clock)

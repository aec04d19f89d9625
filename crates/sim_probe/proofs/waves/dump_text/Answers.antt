use Rattle.std.proofs.Common.{ℕ, List, ◌++◌, ◌∙◌, ap, ap₂}
use Rattle.std.specs.Prelude.{codes}
use Rattle.sim_probe.specs.WavesText.{end_line}
use Rattle.sim_probe.proofs.waves.dump_text.Goals as goal

pub returns : goal.returns
returns c =
    c.in_ok-push_end.ensures
    ∙ ap (λ l. l ++ end_line c.args.changes.now.clock)
    (c.in_ok-extend_from_slice-2.ensures.items
    ∙ ap₂ (λ (x y : List ℕ). x ++ y)
    (c.in_ok-extend_from_slice.ensures.items ∙ ap (λ l. l ++ codes "$enddefinitions $end\n") c.in_ok-text.ensures) c.deref.ensures.value)

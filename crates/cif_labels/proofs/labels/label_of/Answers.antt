-- Labels, and their codes.
use Rattle.std.proofs.Common.{inl, refl, drop}
use Rattle.geom.specs.CifLabels.{label_words}
use Rattle.cif_labels.proofs.labels.label_of.Goals as goal

pub returns-in-Ok-clause-clear : goal.returns-in-Ok-clause-clear
returns-in-Ok-clause-clear c = λ s o.
    (c.in-Ok.ensures.label c.args.text.now (label_words (drop c.in-Some.found.behind c.args.text.now)) s c.in-Some.ensures.some c.spot_here.ensures.spot o).0

pub returns-in-Ok-clause-leads : goal.returns-in-Ok-clause-leads
returns-in-Ok-clause-leads c = λ s place o.
    inl (
      c.in-Ok.label,
      (c.in-Ok.ensures.label c.args.text.now (label_words (drop c.in-Some.found.behind c.args.text.now)) s c.in-Some.ensures.some c.spot_here.ensures.spot o).1,
      refl,
    )

pub returns-in-Err-clause-fault : goal.returns-in-Err-clause-fault
returns-in-Err-clause-fault c = λ s o.
    c.in-Err.ensures.fault c.args.text.now (label_words (drop c.in-Some.found.behind c.args.text.now)) s c.in-Some.ensures.some c.spot_here.ensures.spot o

use Rattle.std.proofs.Common.{◌≡◌, is_some, inl, inr, take, subst}
use Rattle.std.proofs.lemmas.List.{take_more, take_all}
use Rattle.rx_text.specs.Role.{bears_name}
use Rattle.geom.specs.declared.chip.Label.{Label}
use Rattle.nmos_model.specs.Pads.{AreNamed}
use Rattle.tile_tests.proofs.SameSquares.{among_push}
use Rattle.tile_tests.proofs.grids.see_names.Goals as goal

pub loop-label-preserved : goal.loop-label-preserved
loop-label-preserved c =
    let last = take_more c.args.labels.now c.loop-label.label-index c.label-item.result c.loop-label-test.true in
    λ label h.
    elim (among_push (take c.loop-label.label-index c.args.labels.now) c.label-item.result label (rw (last, ← c.label-item.is) at h)) [
      | inl i ↦ c.loop-label.invariant label i
      | inr same ↦ subst (λ (l : Label). bears_name l.pad.role ≡ is_some l.pad.name) same c.see_name.ensures
    ]

pub returns : goal.returns
returns c = subst AreNamed (take_all c.loop-label.label-index c.args.labels.now c.loop-label-test.false) c.loop-label.invariant

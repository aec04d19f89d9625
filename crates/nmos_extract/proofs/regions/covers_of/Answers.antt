-- What lies wholly in the squares under implant, or in the others.
use Rattle.std.proofs.Common.{List, map, subst, ap, ◌∙◌, true, false}
use Rattle.canonical_boxes.specs.declared.holding.Area.{Area}
use Rattle.canonical_boxes.specs.Held.{AreHeld}
use Rattle.nmos_extract.specs.Areas.{area_of}
use Rattle.nmos_extract.specs.Regions.{IsCovered}
use Rattle.nmos_extract.proofs.Freed.{under_is, beside_is, each_held, held_size}
use Rattle.nmos_extract.proofs.regions.covers_of.Goals as goal

pub returns : goal.returns
returns c =
    let m = c.args.squares.now in
    let implant = c.args.implant.now in
    let areas = c.in_ok-areas.ensures ∙ ap (map area_of) c.boxes-boxes.ensures.list in
    let under = subst (λ (l : List Area). AreHeld c.in_ok-implanted.implanted l c.in_ok-under.under.items) (c.deref.ensures.value ∙ areas) c.in_ok-under.ensures in
    let beside = subst (λ (l : List Area). AreHeld c.in_ok-other.other l c.in_ok-beside.beside.items) (c.deref-2.ensures.value ∙ areas) c.in_ok-beside.ensures in
    record {
      under_size = held_size m c.in_ok-implanted.implanted c.in_ok-under.under.items under;
      beside_size = held_size m c.in_ok-other.other c.in_ok-beside.beside.items beside;
      under = each_held m c.in_ok-implanted.implanted c.in_ok-under.under.items (IsCovered implant true) under
          (under_is m implant c.in_ok-implanted.implanted c.in_ok-implanted.ensures);
      beside = each_held m c.in_ok-other.other c.in_ok-beside.beside.items (IsCovered implant false) beside
          (beside_is m implant c.in_ok-other.other c.in_ok-other.ensures);
    }

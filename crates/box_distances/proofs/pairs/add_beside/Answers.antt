-- What lies over the squares, one by one.
use Rattle.std.proofs.Common.{◌≡◌, ◌<◌, ℕ, pos, List, length, map, Option, None, get_or, sym, ◌∙◌, ap, subst, arith}
use Rattle.std.proofs.lemmas.List.{get_or_default}
use Rattle.geom.specs.declared.point.Point.{Point}
use Rattle.canonical_boxes.specs.Located.{AreLocated}
use Rattle.box_distances.specs.declared.pairs.BesideSquare.{BesideSquare}
use Rattle.box_distances.proofs.Besides.{found_are, found_step}
use Rattle.box_distances.proofs.Lists.{map_size}
use Rattle.box_distances.proofs.pairs.add_beside.Goals as goal

-- an entry within a list, whatever stands for none
entry : (over : List (Option ℕ)) (k : ℕ) (o : Option ℕ) → k < length over → o ≡ get_or over k o → get_or over k None ≡ o
entry over k o l e = get_or_default over k None o l ∙ sym e

pub loop-at-preserved : goal.loop-at-preserved
loop-at-preserved c =
    let squares : List BesideSquare = c.in_ok-beside.beside.items in
    let over : List (Option ℕ) = c.in_ok-over.over.items in
    let s : BesideSquare = c.index.result.now in
    let k = c.loop-at.at in
    let within : k < length squares = omega (arith, c.len-at-end.ensures, c.loop-at-test.true) in
    let points = c.in_ok-squares.ensures ∙ ap (map (λ (v : BesideSquare). v.square)) c.deref.ensures.value in
    let located : AreLocated c.args.other.now (map (λ (v : BesideSquare). v.square) squares) over =
    subst (λ (ps : List Point). AreLocated c.args.other.now ps over) (c.deref-2.ensures.value ∙ points) c.in_ok-over.ensures in
    let size : length over ≡ length squares = located.size ∙ map_size (λ (v : BesideSquare). v.square) squares in
    found_step squares over k s c.index-in-loop-at.result.now c.args.found.now.items c.loop-at.found.items c.add_over.new.found.items
    (record { within = within; is = sym c.index.ensures }) (entry over k c.index-in-loop-at.result.now (omega arith) c.index-in-loop-at.ensures)
    c.in_ok-add_over.ensures c.loop-at.invariant

pub returns : goal.returns
returns c =
    let squares : List BesideSquare = c.in_ok-beside.beside.items in
    let over : List (Option ℕ) = c.in_ok-over.over.items in
    let points = c.in_ok-squares.ensures ∙ ap (map (λ (v : BesideSquare). v.square)) c.deref.ensures.value in
    let located : AreLocated c.args.other.now (map (λ (v : BesideSquare). v.square) squares) over =
    subst (λ (ps : List Point). AreLocated c.args.other.now ps over) (c.deref-2.ensures.value ∙ points) c.in_ok-over.ensures in
    found_are c.boxes_are_numbered.ensures (pos c.args.reach) c.args.ones.now c.args.other.now c.requires.canonical squares over c.loop-at.at
    c.args.found.now.items c.loop-at.found.items c.in_ok-beside.ensures located (omega (arith, c.len-at-end.ensures, c.loop-at-test.false)) c.loop-at.invariant

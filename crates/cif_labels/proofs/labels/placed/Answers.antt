-- By what is wrong with the words.
use Rattle.std.proofs.Common.{inl, inr, sym, ◌∙◌}
use Rattle.cif_labels.proofs.Deciding.{near_point, near_div, quot_word}
use Rattle.cif_labels.proofs.Placing.{off_label, great_label, bad_label, good_label, lost_label}
use Rattle.cif_labels.proofs.labels.placed.Goals as goal

pub returns-then-is_off_grid-clause-fault : goal.returns-then-is_off_grid-clause-fault
returns-then-is_off_grid-clause-fault c = λ text behind s n h o.
    off_label s text c.args.pad behind c.args.spot c.is_off-off.result c.args.is_open c.is_off_grid.result n h c.is_off-off.ensures o c.is_off_grid.ensures
    c.if-is_off_grid.true

pub returns-then-is_great-clause-fault : goal.returns-then-is_great-clause-fault
returns-then-is_great-clause-fault c = λ text behind s n h o.
    great_label s text c.args.pad behind c.args.spot c.is_off-off.result c.args.is_open c.is_off_grid.result c.is_great.result n h c.is_off-off.ensures o
    c.is_off_grid.ensures c.if-is_off_grid.false (c.is_great.ensures behind h) c.if-is_great.true

pub returns-then-is_bad-clause-fault : goal.returns-then-is_bad-clause-fault
returns-then-is_bad-clause-fault c = λ text behind s n h o.
    bad_label s text c.args.pad behind c.args.spot c.is_off-off.result c.args.is_open c.is_off_grid.result c.is_great.result c.is_bad.result n h c.is_off-off.ensures o
    c.is_off_grid.ensures c.if-is_off_grid.false (c.is_great.ensures behind h) c.if-is_great.false c.is_bad.ensures c.if-is_bad.true

pub returns-in-Some-layer-clause-label : goal.returns-in-Some-layer-clause-label
returns-in-Some-layer-clause-label c = λ text behind s n h o.
    let p = c.in-Some.point in
    let u = sym c.point.ensures ∙ c.in-Some.is in
    let near = near_point c.args.spot.x c.args.spot.y p u c.requires.0 c.requires.1 in
    good_label s text c.args.pad behind c.args.spot p c.in-Some-layer.layer _ _ c.is_off-off.result c.args.is_open
    c.is_off_grid.result c.is_great.result c.is_bad.result n h c.is_off-off.ensures o c.is_off_grid.ensures c.if-is_off_grid.false (c.is_great.ensures behind h)
    c.if-is_great.false c.is_bad.ensures c.if-is_bad.false u c.in-Some-layer.is (quot_word p.x c.lambdas.result near.0 (near_div p.x c.lambdas.result near.0 c.lambdas.ensures))
    (quot_word p.y c.lambdas-in-Some-layer.result near.1 (near_div p.y c.lambdas-in-Some-layer.result near.1 c.lambdas-in-Some-layer.ensures))

pub returns-in-None-layer-clause-fault : goal.returns-in-None-layer-clause-fault
returns-in-None-layer-clause-fault c = λ text behind s n h o.
    lost_label s text c.args.pad behind c.args.spot c.is_off-off.result c.args.is_open c.is_off_grid.result c.is_great.result n h c.is_off-off.ensures o
    c.is_off_grid.ensures c.if-is_off_grid.false (c.is_great.ensures behind h) c.if-is_great.false (inr c.in-None-layer.is)

pub returns-in-None-clause-fault : goal.returns-in-None-clause-fault
returns-in-None-clause-fault c = λ text behind s n h o.
    lost_label s text c.args.pad behind c.args.spot c.is_off-off.result c.args.is_open c.is_off_grid.result c.is_great.result n h c.is_off-off.ensures o
    c.is_off_grid.ensures c.if-is_off_grid.false (c.is_great.ensures behind h) c.if-is_great.false (inl (sym c.point.ensures ∙ c.in-None.is))

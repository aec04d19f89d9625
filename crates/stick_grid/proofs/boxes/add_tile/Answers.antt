-- The boxes are added one by one.
use Rattle.std.proofs.Common.{◌≤◌, ◌++◌, [], ◌∷◌, length, map, take, ap, ◌∙◌}
use Rattle.std.proofs.lemmas.List.{take_all}
use Rattle.geom.specs.Squares.{BoxShape}
use Rattle.micro_tiles.specs.Table.{boxes}
use Rattle.stick_grid.specs.PlanBoxes.{tile_box}
use Rattle.stick_grid.proofs.Moves.{map_next}
use Rattle.stick_grid.proofs.boxes.add_tile.Goals as goal

pub loop-index-preserved : goal.loop-index-preserved
loop-index-preserved c =
    let place = tile_box c.args.east c.args.north in
    let bs = boxes c.args.tile in
    let i = c.loop-index.index in
    let old = c.args.drawn.now.items in
    c.in_ok-push.ensures.items ∙ ap (λ l. l ++ c.moved.result ∷ []) c.loop-index.invariant
    ∙ ap (λ (b : BoxShape). (old ++ map place (take i bs)) ++ b ∷ []) c.moved.ensures
    ∙ map_next place old bs i c.box_at.result c.box_at.ensures.drawn

pub returns : goal.returns
returns c =
    let past : length (boxes c.args.tile) ≤ c.loop-index.index = rw (← c.box_count-index-end.ensures) c.loop-index-test.false in
    c.loop-index.invariant ∙ ap (λ bs. c.args.drawn.now.items ++ map (tile_box c.args.east c.args.north) bs) (take_all c.loop-index.index (boxes c.args.tile) past)

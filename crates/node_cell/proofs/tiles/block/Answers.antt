-- The tiles are those of the plan, which has a tiling.
use Rattle.std.proofs.Common.{sym, ap, subst, ◌∙◌, arith}
use Rattle.std.specs.Prelude.{IfOk}
use Rattle.stick_grid.specs.Plans.{plan_of}
use Rattle.stick_grid.specs.Tilings.{Tiling, IsTiling}
use Rattle.stick_grid.specs.Windows.{HaveSameTiles, tiling_of}
use Rattle.node_cell.specs.Blocks.{block_side}
use Rattle.node_cell.specs.BlockTiles.{block_plan}
use Rattle.node_cell.proofs.Tilings.{block_tiling, tiling_is}
use Rattle.node_cell.proofs.tiles.block.Goals as goal

pub new-requires-2 : goal.new-requires-2
new-requires-2 c =
    let plan = block_plan c.args.tree.now c.args.spec.now c.args.kind in
    let side = c.block_side-side.ensures.side ∙ ap block_side c.of-counts.ensures.counts in
    let tiles = c.in_ok-tiles.ensures ∙ ap (λ p. (tiling_of p).tiles) c.in_ok-block.ensures in
    let module_of = c.blocks_are_modules.ensures c.args.tree.now c.args.spec.now c.args.kind c.of-counts.ensures.tree c.of-counts.ensures.specification
    c.requires.symbols c.requires.kind in
    subst IsTiling (sym (tiling_is plan c.block_side-side.result c.block_side-side.result c.in_ok-tiles.tiles.items side side tiles))
    (block_tiling c.same_tiles_agree.ensures.tilings plan module_of.is_module.is_plan c.block_side-side.result side side
    (omega (arith, c.block_side-side.ensures.side)) c.block_side-side.ensures.few).0

pub returns-clause-same : goal.returns-clause-same
returns-clause-same c =
    let plan = block_plan c.args.tree.now c.args.spec.now c.args.kind in
    let side = c.block_side-side.ensures.side ∙ ap block_side c.of-counts.ensures.counts in
    let tiles = c.in_ok-tiles.ensures ∙ ap (λ p. (tiling_of p).tiles) c.in_ok-block.ensures in
    let module_of = c.blocks_are_modules.ensures c.args.tree.now c.args.spec.now c.args.kind c.of-counts.ensures.tree c.of-counts.ensures.specification
    c.requires.symbols c.requires.kind in
    subst (λ r. IfOk r (λ grid. HaveSameTiles plan (plan_of grid))) (sym c.new-2.ensures)
    (subst (λ (g : Tiling). HaveSameTiles plan (plan_of g)) (sym (tiling_is plan c.block_side-side.result c.block_side-side.result c.in_ok-tiles.tiles.items side side tiles))
    (block_tiling c.same_tiles_agree.ensures.tilings plan module_of.is_module.is_plan c.block_side-side.result side side
    (omega (arith, c.block_side-side.ensures.side)) c.block_side-side.ensures.few).1)

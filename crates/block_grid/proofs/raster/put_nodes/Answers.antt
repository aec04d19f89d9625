-- One node more.
use Rattle.std.proofs.Common.{◌≡◌, ℕ, ◌+◌, ◌-◌, ◌*◌, ◌<◌, Some, false, length, get_or, drop, sym, ap, ◌∙◌, arith}
use Rattle.std.specs.Prelude.{slice_get, slice_set}
use Rattle.block_grid.specs.declared.standing.Standing.{Standing}
use Rattle.block_grid.proofs.Marks.{put_at, put_one, nodes_next}
use Rattle.block_grid.proofs.raster.put_nodes.Goals as goal

pub loop-put-preserved : goal.loop-put-preserved
loop-put-preserved c r col k is_col is =
    let nodes = c.args.nodes.now in
    let none : Standing = record { node = 0; frame = false; row = 0; col = 0 } in
    let i = length nodes - 1 - c.loop-put.put in
    let node = get_or nodes i none in
    let below : i < length nodes = omega arith in
    let next : length nodes - (c.loop-put.put + 1) ≡ i = omega arith in
    let after : length nodes - c.loop-put.put ≡ i + 1 = omega arith in
    let inside = c.requires i none below in
    let inner = inside.0 in
    let fits = inside.1 in
    let long = c.loop-put.auto.kinds in
    let split : (node.row + 1) * c.args.cols ≡ node.row * c.args.cols + c.args.cols = grind arith in
    let rest = ap (λ (n : ℕ). drop n nodes) after in
    let all = ap (λ (n : ℕ). drop n nodes) next ∙ nodes_next nodes i none below in
    let step = put_one c.args.cols c.args.kinds.now c.loop-put.kinds node (drop (i + 1) nodes) inner (omega (arith, inner, fits, split, long))
    (λ a b t less e. c.loop-put.invariant a b t less e ∙ ap (λ l. Some (put_at l a b t)) rest) r col k is_col is in
    ap (λ t. slice_get (slice_set c.loop-put.kinds (node.row * c.args.cols + node.col) t) (r * c.args.cols + col)) c.kind.ensures
    ∙ step ∙ ap (λ l. Some (put_at l r col k)) (sym all)

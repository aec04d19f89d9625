-- The marks tell the wire blocks, into which the nodes are put.
use Rattle.std.proofs.Common.{◌≡◌, ℕ, ◌+◌, ◌*◌, Bool, List, ◌++◌, length, map, refl, sym, ap, subst, ◌∙◌, arith}
use Rattle.std.specs.Prelude.{flat_map}
use Rattle.std.specs.List.{range_with_len}
use Rattle.std.proofs.lemmas.Nat.{mul-le}
use Rattle.block_grid.specs.declared.kind.BlockKind.{BlockKind}
use Rattle.block_grid.specs.Raster.{AreKinds, wire_at}
use Rattle.block_grid.specs.Sheets.{Sheet}
use Rattle.block_grid.proofs.Inside.{written_back}
use Rattle.block_grid.proofs.Rastered.{edges_lie, nodes_lie, kinds_are}
use Rattle.block_grid.proofs.Marks.{row_more, rows_long}
use Rattle.block_grid.proofs.raster.kinds.Goals as goal

pub norths-requires-clause-inside : goal.norths-requires-clause-inside
norths-requires-clause-inside c = edges_lie (record { rows = c.args.rows; cols = c.args.cols; nodes = c.args.nodes.now; edges = c.args.edges.now }) c.requires

pub wests-requires-clause-inside : goal.wests-requires-clause-inside
wests-requires-clause-inside c = edges_lie (record { rows = c.args.rows; cols = c.args.cols; nodes = c.args.nodes.now; edges = c.args.edges.now }) c.requires

pub add_row-requires-clause-norths : goal.add_row-requires-clause-norths
add_row-requires-clause-norths c =
    let most = mul-le (c.loop-row.row + 2) c.args.cols (c.args.rows + 1) c.args.cols (omega arith) (omega arith) in
    omega (arith, most, c.in_ok-norths.ensures.size)

pub add_row-requires-clause-wests : goal.add_row-requires-clause-wests
add_row-requires-clause-wests c = omega (arith, c.in_ok-wests.ensures.size)

pub loop-row-preserved : goal.loop-row-preserved
loop-row-preserved c =
    let norths = c.in_ok-norths.norths.items in
    let wests = c.in_ok-wests.wests.items in
    let f = wire_at norths wests c.args.rows c.args.cols in
    let row = c.loop-row.row in
    let tiles : List Bool → List Bool → List BlockKind =
    λ n w. c.loop-row.kinds.items ++ map (wire_at n w c.args.rows c.args.cols row) (range_with_len 0 c.args.cols) in
    c.in_ok-add_row.ensures ∙ ap (λ n. tiles n c.deref-in-loop-row.result.now) c.deref.ensures.value ∙ ap (λ w. tiles norths w) c.deref-in-loop-row.ensures.value
    ∙ ap (λ l. l ++ map (f row) (range_with_len 0 c.args.cols)) c.loop-row.invariant ∙ sym (row_more f c.args.cols row)

pub put_nodes-requires : goal.put_nodes-requires
put_nodes-requires c =
    let f = wire_at c.in_ok-norths.norths.items c.in_ok-wests.wests.items c.args.rows c.args.cols in
    let last : c.loop-row.row ≡ c.args.rows = omega arith in
    let long = ap length c.deref_mut.ensures.value ∙ ap length c.loop-row.invariant ∙ rows_long f c.args.cols 0 c.loop-row.row ∙ ap (λ (n : ℕ). n * c.args.cols) last in
    nodes_lie (record { rows = c.args.rows; cols = c.args.cols; nodes = c.args.nodes.now; edges = c.args.edges.now }) c.requires
    (length c.deref_mut.result.now) (omega (arith, long))

pub returns : goal.returns
returns c =
    let f = wire_at c.in_ok-norths.norths.items c.in_ok-wests.wests.items c.args.rows c.args.cols in
    let last : c.loop-row.row ≡ c.args.rows = omega arith in
    let sheet : Sheet = record { rows = c.args.rows; cols = c.args.cols; nodes = c.args.nodes.now; edges = c.args.edges.now } in
    let new = c.put_nodes.new.kinds in
    let long : length new ≡ c.loop-row.kinds.len =
    c.put_nodes.ensures.size ∙ ap length c.deref_mut.ensures.value ∙ sym c.loop-row.kinds.ok.0 in
    subst (AreKinds sheet) (sym (written_back c.loop-row.kinds.len new c.loop-row.kinds.items new refl long))
    (kinds_are sheet c.requires c.in_ok-norths.norths.items c.in_ok-wests.wests.items c.in_ok-norths.ensures.tells c.in_ok-wests.ensures.tells
    c.deref_mut.result.now new
    (c.deref_mut.ensures.value ∙ c.loop-row.invariant
    ∙ ap (λ (n : ℕ). flat_map (λ row. map (f row) (range_with_len 0 c.args.cols)) (range_with_len 0 n)) last) c.put_nodes.ensures.size
    c.put_nodes.ensures.nodes)

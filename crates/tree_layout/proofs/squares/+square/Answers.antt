use Rattle.std.proofs.Common.{◌≡◌, ◌+◌, ◌-◌, ◌≤◌, IfOk, subst, arith}
use Rattle.tree_layout.specs.Squares.{square}
use Rattle.tree_layout.proofs.Sides.{DrawingLaws}
use Rattle.tree_layout.proofs.Steps.{four_quarters, north, south, differ, north_cols, south_cols, rows, joined}
use Rattle.tree_layout.proofs.squares.+square.Goals as goal

pub square-requires : goal.square-requires
square-requires t c =
    let e = four_quarters c.args.level c.if-level-eq0.false in
    let h = c.requires.first in
    (grind (arith, c.if-level-eq0.false, c.decreases), (c.requires.ordered, (omega (arith, c.requires.level), omega (arith, e, c.four_to-quarter.ensures))))

pub square-requires-2 : goal.square-requires-2
square-requires-2 t c =
    let e = four_quarters c.args.level c.if-level-eq0.false in
    let h = c.requires.first in
    (grind (arith, c.if-level-eq0.false, c.decreases), (c.requires.ordered, (omega (arith, c.requires.level), omega (arith, e, c.four_to-quarter.ensures))))

pub square-requires-3 : goal.square-requires-3
square-requires-3 t c =
    let e = four_quarters c.args.level c.if-level-eq0.false in
    let h = c.requires.first in
    (grind (arith, c.if-level-eq0.false, c.decreases), (c.requires.ordered, (omega (arith, c.requires.level), omega (arith, e, c.four_to-quarter.ensures))))

pub square-requires-4 : goal.square-requires-4
square-requires-4 t c =
    let e = four_quarters c.args.level c.if-level-eq0.false in
    let h = c.requires.first in
    (grind (arith, c.if-level-eq0.false, c.decreases), (c.requires.ordered, (omega (arith, c.requires.level), omega (arith, e, c.four_to-quarter.ensures))))

pub overflow_add-first : goal.overflow_add-first
overflow_add-first t c =
    let e = four_quarters c.args.level c.if-level-eq0.false in
    let h = c.requires.first in
    omega (arith, e, c.four_to-quarter.ensures)

pub overflow_mul-quarter : goal.overflow_mul-quarter
overflow_mul-quarter t c =
    let e = four_quarters c.args.level c.if-level-eq0.false in
    let h = c.requires.first in
    omega (arith, e, c.four_to-quarter.ensures)

pub overflow_add-first-2 : goal.overflow_add-first-2
overflow_add-first-2 t c =
    let e = four_quarters c.args.level c.if-level-eq0.false in
    let h = c.requires.first in
    omega (arith, e, c.four_to-quarter.ensures)

pub overflow_mul-quarter-2 : goal.overflow_mul-quarter-2
overflow_mul-quarter-2 t c =
    let e = four_quarters c.args.level c.if-level-eq0.false in
    let h = c.requires.first in
    omega (arith, e, c.four_to-quarter.ensures)

pub overflow_add-first-3 : goal.overflow_add-first-3
overflow_add-first-3 t c =
    let e = four_quarters c.args.level c.if-level-eq0.false in
    let h = c.requires.first in
    omega (arith, e, c.four_to-quarter.ensures)

pub with_links_between-requires-clause-first : goal.with_links_between-requires-clause-first
with_links_between-requires-clause-first t c =
    let e = four_quarters c.args.level c.if-level-eq0.false in
    let h = c.requires.first in
    omega (arith, e, c.four_to-quarter.ensures)

pub four-requires-clause-north : goal.four-requires-clause-north
four-requires-clause-north t c =
    let k : DrawingLaws = record {
      heavy_rows = c.drawing_adds_one_edge.ensures.heavy_rows;
      light_rows = c.drawing_adds_one_edge.ensures.light_rows;
      cols = c.drawing_adds_one_edge.ensures.cols;
      edges = c.drawing_adds_one_edge.ensures.edges;
      nodes = c.drawing_adds_one_edge.ensures.nodes;
    } in
    let few : c.args.level - 1 ≤ 6 = let h = c.requires.level in omega arith in
    north k c.args.entries.now c.requires.ordered (c.args.level - 1) c.args.first c.four_to-quarter.result few c.four_to-quarter.ensures _ _ _ _
    c.in_ok-north_west.ensures c.in_ok-north_east.ensures c.in_ok-south_west.ensures c.in_ok-south_east.ensures

pub four-requires-clause-south : goal.four-requires-clause-south
four-requires-clause-south t c =
    let k : DrawingLaws = record {
      heavy_rows = c.drawing_adds_one_edge.ensures.heavy_rows;
      light_rows = c.drawing_adds_one_edge.ensures.light_rows;
      cols = c.drawing_adds_one_edge.ensures.cols;
      edges = c.drawing_adds_one_edge.ensures.edges;
      nodes = c.drawing_adds_one_edge.ensures.nodes;
    } in
    let few : c.args.level - 1 ≤ 6 = let h = c.requires.level in omega arith in
    south k c.args.entries.now c.requires.ordered (c.args.level - 1) c.args.first c.four_to-quarter.result few c.four_to-quarter.ensures _ _ _ _
    c.in_ok-north_west.ensures c.in_ok-north_east.ensures c.in_ok-south_west.ensures c.in_ok-south_east.ensures

pub four-requires-clause-differ : goal.four-requires-clause-differ
four-requires-clause-differ t c =
    let k : DrawingLaws = record {
      heavy_rows = c.drawing_adds_one_edge.ensures.heavy_rows;
      light_rows = c.drawing_adds_one_edge.ensures.light_rows;
      cols = c.drawing_adds_one_edge.ensures.cols;
      edges = c.drawing_adds_one_edge.ensures.edges;
      nodes = c.drawing_adds_one_edge.ensures.nodes;
    } in
    let few : c.args.level - 1 ≤ 6 = let h = c.requires.level in omega arith in
    differ k c.args.entries.now c.requires.ordered (c.args.level - 1) c.args.first c.four_to-quarter.result few c.four_to-quarter.ensures _ _ _ _
    c.in_ok-north_west.ensures c.in_ok-north_east.ensures c.in_ok-south_west.ensures c.in_ok-south_east.ensures

pub four-requires-clause-north_cols : goal.four-requires-clause-north_cols
four-requires-clause-north_cols t c =
    let k : DrawingLaws = record {
      heavy_rows = c.drawing_adds_one_edge.ensures.heavy_rows;
      light_rows = c.drawing_adds_one_edge.ensures.light_rows;
      cols = c.drawing_adds_one_edge.ensures.cols;
      edges = c.drawing_adds_one_edge.ensures.edges;
      nodes = c.drawing_adds_one_edge.ensures.nodes;
    } in
    let few : c.args.level - 1 ≤ 6 = let h = c.requires.level in omega arith in
    north_cols k c.args.entries.now c.requires.ordered (c.args.level - 1) c.args.first c.four_to-quarter.result few c.four_to-quarter.ensures _ _ _ _
    c.in_ok-north_west.ensures c.in_ok-north_east.ensures c.in_ok-south_west.ensures c.in_ok-south_east.ensures

pub four-requires-clause-south_cols : goal.four-requires-clause-south_cols
four-requires-clause-south_cols t c =
    let k : DrawingLaws = record {
      heavy_rows = c.drawing_adds_one_edge.ensures.heavy_rows;
      light_rows = c.drawing_adds_one_edge.ensures.light_rows;
      cols = c.drawing_adds_one_edge.ensures.cols;
      edges = c.drawing_adds_one_edge.ensures.edges;
      nodes = c.drawing_adds_one_edge.ensures.nodes;
    } in
    let few : c.args.level - 1 ≤ 6 = let h = c.requires.level in omega arith in
    south_cols k c.args.entries.now c.requires.ordered (c.args.level - 1) c.args.first c.four_to-quarter.result few c.four_to-quarter.ensures _ _ _ _
    c.in_ok-north_west.ensures c.in_ok-north_east.ensures c.in_ok-south_west.ensures c.in_ok-south_east.ensures

pub four-requires-clause-few_rows : goal.four-requires-clause-few_rows
four-requires-clause-few_rows t c =
    let k : DrawingLaws = record {
      heavy_rows = c.drawing_adds_one_edge.ensures.heavy_rows;
      light_rows = c.drawing_adds_one_edge.ensures.light_rows;
      cols = c.drawing_adds_one_edge.ensures.cols;
      edges = c.drawing_adds_one_edge.ensures.edges;
      nodes = c.drawing_adds_one_edge.ensures.nodes;
    } in
    let few : c.args.level - 1 ≤ 6 = let h = c.requires.level in omega arith in
    rows k c.args.entries.now c.requires.ordered (c.args.level - 1) c.args.first c.four_to-quarter.result few c.four_to-quarter.ensures _ _ _ _
    c.in_ok-north_west.ensures c.in_ok-north_east.ensures c.in_ok-south_west.ensures c.in_ok-south_east.ensures

pub with_links_between-requires-clause-below : goal.with_links_between-requires-clause-below
with_links_between-requires-clause-below t c = let h = c.requires.level in omega arith

pub with_links_between-requires-clause-blocks : goal.with_links_between-requires-clause-blocks
with_links_between-requires-clause-blocks t c =
    let k : DrawingLaws = record {
      heavy_rows = c.drawing_adds_one_edge.ensures.heavy_rows;
      light_rows = c.drawing_adds_one_edge.ensures.light_rows;
      cols = c.drawing_adds_one_edge.ensures.cols;
      edges = c.drawing_adds_one_edge.ensures.edges;
      nodes = c.drawing_adds_one_edge.ensures.nodes;
    } in
    let few : c.args.level - 1 ≤ 6 = let h = c.requires.level in omega arith in
    joined k c.args.entries.now c.requires.ordered (c.args.level - 1) c.args.first c.four_to-quarter.result few c.four_to-quarter.ensures _ _ _ _
    c.in_ok-north_west.ensures c.in_ok-north_east.ensures c.in_ok-south_west.ensures c.in_ok-south_east.ensures _ c.in_ok-blocks.ensures

pub returns : goal.returns
returns t c =
    let e : c.args.level - 1 + 1 ≡ c.args.level = grind (arith, c.if-level-eq0.false) in
    subst (λ n. IfOk c.with_links_between.result (λ blocks. blocks ≡ square c.args.entries.now n c.args.first)) e c.with_links_between.ensures

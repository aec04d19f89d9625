-- Squares of four squares, and the edges between them.
use Rattle.std.specs.Prelude.{ℕ, zero, suc, ◌+◌, ◌-◌, ◌*◌, ◌^◌, Bool, true, false, ◌&&◌, ◌==◌, nat_lt, nat_le, cond, Option, Some, None, List, [], ◌∷◌, ◌++◌, fold, flat_map, slice_get}
use Rattle.std.specs.List.{range_with_len}
use Rattle.std.specs.Option.{option_map_or}
use Rattle.block_grid.specs.declared.kind.BlockKind.{BlockKind}
use Rattle.block_grid.specs.declared.kind.BlockKind.TheVariants.{Empty, Node, Frame}
use Rattle.block_grid.specs.Sheets.{Sheet}
use Rattle.block_grid.specs.Changes.{side_by_side, single, stacked}
use Rattle.channel_route.specs.Drawing.{drawn}
use Rattle.tree_layout.specs.declared.numbered.Entry.{Entry}
use Rattle.tree_layout.specs.declared.links.Link.{Link}
use Rattle.tree_layout.specs.Numbered.{node_at, child_at}

-- the edge to a child whose number is from `border` up to, not with, `end`
abbrev pub link_to : ℕ → ℕ → ℕ → Bool → Option ℕ → List Link
link_to border end i heavy None = []
link_to border end i heavy (Some c) = cond (nat_le border c && nat_lt c end) (record { parent = i; child = c; heavy = heavy } ∷ []) []

abbrev pub links_from : List Entry → ℕ → ℕ → ℕ → List Link
links_from entries border end i = link_to border end i false (child_at entries false i) ++ link_to border end i true (child_at entries true i)

-- the edges from the nodes with numbers from `from` up to `border` to those from there up to `end`
abbrev pub links_out : List Entry → ℕ → ℕ → ℕ → List Link
links_out entries from border end = flat_map (links_from entries border end) (range_with_len from (border - from))

-- the sheet with edges drawn one after another
abbrev pub with_link : List Entry → Sheet → Link → Sheet
with_link entries s l = drawn s (node_at entries l.parent) (node_at entries l.child) l.heavy

abbrev pub with_links : List Entry → Sheet → List Link → Sheet
with_links entries s links = fold (with_link entries) s links

-- the block with a number, which is empty behind the last node; number 0 is the frame
abbrev pub kind_of : List Entry → ℕ → BlockKind
kind_of entries i = option_map_or (λ e. cond (i == 0) (Frame e.node) (Node e.node)) (slice_get entries i) Empty

-- two sheets above two others
abbrev pub four : Sheet → Sheet → Sheet → Sheet → Sheet
four a b c d = stacked (side_by_side a b) (side_by_side c d)

-- the edges between the quarters of a square, those from the first quarter first
abbrev pub links_between : List Entry → ℕ → ℕ → List Link
links_between entries first quarter =
    let end = first + 4 * quarter in
    links_out entries first (first + quarter) end ++ (links_out entries (first + quarter) (first + 2 * quarter) end
    ++ links_out entries (first + 2 * quarter) (first + 3 * quarter) end)

-- A square of 4^j blocks from a number on is four squares, two above two in order, in which the edges between them are drawn.
abbrev pub square : List Entry → ℕ → ℕ → Sheet
square entries zero first = single (kind_of entries first)
square entries (suc j) first =
    with_links entries (four (square entries j first) (square entries j (first + 4 ^ j)) (square entries j (first + 2 * 4 ^ j)) (square entries j (first + 3 * 4 ^ j)))
    (links_between entries first (4 ^ j))

-- its four squares, before these edges are drawn
abbrev pub four_squares : List Entry → ℕ → ℕ → Sheet
four_squares entries j first = four (square entries j first) (square entries j (first + 4 ^ j)) (square entries j (first + 2 * 4 ^ j)) (square entries j (first + 3 * 4 ^ j))

-- the edges of a square, in the order in which they are drawn
abbrev pub links : List Entry → ℕ → ℕ → List Link
links entries zero first = []
links entries (suc j) first =
    links entries j first ++ (links entries j (first + 4 ^ j) ++ (links entries j (first + 2 * 4 ^ j) ++ (links entries j (first + 3 * 4 ^ j)
    ++ links_between entries first (4 ^ j))))

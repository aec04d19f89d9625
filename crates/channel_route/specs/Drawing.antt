-- What a drawn edge leaves: rows and columns of its own, and one line along them.
use Rattle.std.specs.Prelude.{ℕ, ◌+◌, ◌-◌, Bool, true, false, List, [], ◌∷◌, unwrap_or}
use Rattle.block_grid.specs.declared.standing.Standing.{Standing}
use Rattle.block_grid.specs.Lines.{BlockPlace, row_of, col_of}
use Rattle.block_grid.specs.Sheets.{DrawnEdge, Sheet, stands_at}
use Rattle.block_grid.specs.Changes.{with_rows, with_cols}
use Rattle.block_grid.specs.Laying.{with_edge, edge_over}
use Rattle.channel_route.specs.declared.role.EdgeRole.{EdgeRole}
use Rattle.channel_route.specs.declared.role.EdgeRole.TheVariants.{Light, Heavy}

abbrev pub is_heavy : EdgeRole → Bool
is_heavy Light = false
is_heavy Heavy = true

-- where a node stands
abbrev pub place_in : Sheet → ℕ → BlockPlace
place_in s v = unwrap_or (stands_at s.nodes v) (0, 0)

-- the sheet with a column right of a node, a row below it, a row above it, or a column at the east rim
abbrev pub with_col_right_of : Sheet → ℕ → Sheet
with_col_right_of s v = with_cols s (col_of (place_in s v) + 1) 1

abbrev pub with_row_below : Sheet → ℕ → Sheet
with_row_below s v = with_rows s (row_of (place_in s v) + 1) 1

abbrev pub with_row_above : Sheet → ℕ → Sheet
with_row_above s v = with_rows s (row_of (place_in s v)) 1

abbrev pub with_last_col : Sheet → Sheet
with_last_col s = with_cols s s.cols 1

-- Room for an edge: a heavy one has a column right of the parent and a row above the child, a light one a row below the
-- parent, a row above the child, and a column at the east rim.
abbrev pub with_room : Bool → Sheet → ℕ → ℕ → Sheet
with_room true s parent child = with_row_above (with_col_right_of s parent) child
with_room false s parent child = with_last_col (with_row_above (with_row_below s parent) child)

-- Where the edge turns in its room, from the places of its nodes there: a heavy one goes east, along its column and its row, and
-- south; a light one goes south, along its first row, its column and its second row, and south.
abbrev pub turns_along : Bool → BlockPlace → BlockPlace → ℕ → List BlockPlace
turns_along true p q last = (row_of p, col_of p + 1) ∷ (row_of q - 1, col_of p + 1) ∷ (row_of q - 1, col_of q) ∷ []
turns_along false p q last = (row_of p + 1, col_of p) ∷ (row_of p + 1, last) ∷ (row_of q - 1, last) ∷ (row_of q - 1, col_of q) ∷ []

abbrev pub turns_in : Bool → Sheet → ℕ → ℕ → List BlockPlace
turns_in heavy t parent child = turns_along heavy (place_in t parent) (place_in t child) (t.cols - 1)

-- the sheet with the edge drawn
abbrev pub drawn : Sheet → ℕ → ℕ → Bool → Sheet
drawn s parent child heavy =
    let t = with_room heavy s parent child in
    with_edge t (edge_over t parent child heavy (turns_in heavy t parent child))

-- an edge by its ends and its role, and a node by its number and whether it is the frame
abbrev pub ends_of : DrawnEdge → ℕ × ℕ × Bool
ends_of e = (e.parent, e.child, e.heavy)

abbrev pub name_of : Standing → ℕ × Bool
name_of node = (node.node, node.frame)

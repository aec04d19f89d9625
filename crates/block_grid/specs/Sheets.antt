-- Sheets of blocks: where nodes stand, and how edges are drawn between them.
use Rattle.std.specs.Prelude.{◌≡◌, ◌≢◌, ℕ, ◌+◌, ◌<◌, ◌≤◌, ◌^◌, Bool, true, false, not, IsTrue, ◌&&◌, ◌==◌, nat_lt, cond, Option, Some, List, [], ◌∷◌, ◌++◌, All, AllPairs, find}
use Rattle.std.specs.List.{list_any}
use Rattle.std.specs.Option.{option_map, option_map_or, ForSome, ForNone}
use Rattle.block_grid.specs.declared.kind.Turn.TheVariants.{NorthEast, NorthWest, SouthEast, SouthWest}
use Rattle.block_grid.specs.declared.kind.BlockKind.{BlockKind}
use Rattle.block_grid.specs.declared.kind.BlockKind.TheVariants.{Empty, Horizontal, Vertical, Cross, Corner, Node, Frame}
use Rattle.block_grid.specs.declared.standing.Standing.{Standing}
use Rattle.block_grid.specs.Lines.{BlockPlace, row_of, col_of, norths, wests, is_straight}

-- a drawn edge: its nodes, whether it is heavy, and its line from the one's place over turning points to the other's
pub record DrawnEdge : Type 0 where
  pub parent : ℕ
  pub child : ℕ
  pub heavy : Bool
  pub start : BlockPlace
  pub turns : List BlockPlace
  pub finish : BlockPlace

-- the line behind its start
abbrev pub line_of : DrawnEdge → List BlockPlace
line_of e = e.turns ++ e.finish ∷ []

-- how often the edge crosses the four borders of a place
abbrev pub north_of : DrawnEdge → ℕ → ℕ → ℕ
north_of e r c = norths e.start (line_of e) r c

abbrev pub south_of : DrawnEdge → ℕ → ℕ → ℕ
south_of e r c = norths e.start (line_of e) (r + 1) c

abbrev pub west_of : DrawnEdge → ℕ → ℕ → ℕ
west_of e r c = wests e.start (line_of e) r c

abbrev pub east_of : DrawnEdge → ℕ → ℕ → ℕ
east_of e r c = wests e.start (line_of e) r (c + 1)

abbrev pub sides_of : DrawnEdge → ℕ → ℕ → ℕ
sides_of e r c = north_of e r c + south_of e r c + west_of e r c + east_of e r c

-- rows and columns of blocks, the nodes that stand there, and the edges that are drawn
pub record Sheet : Type 0 where
  pub rows : ℕ
  pub cols : ℕ
  pub nodes : List Standing
  pub edges : List DrawnEdge

-- the node that stands at a place
abbrev pub node_on : List Standing → ℕ → ℕ → Option Standing
node_on nodes r c = find (λ node. node.row == r && node.col == c) nodes

-- where a node stands
abbrev pub stands_at : List Standing → ℕ → Option BlockPlace
stands_at nodes v = option_map (λ node. (node.row, node.col)) (find (λ node. node.node == v) nodes)

-- some edge crosses the north border of the place, or its west border
abbrev pub is_crossed_north : Sheet → ℕ → ℕ → Bool
is_crossed_north s r c = list_any (λ e. nat_lt 0 (north_of e r c)) s.edges

abbrev pub is_crossed_west : Sheet → ℕ → ℕ → Bool
is_crossed_west s r c = list_any (λ e. nat_lt 0 (west_of e r c)) s.edges

-- The wire block whose north, south, west and east borders are crossed, where this is so. One or three never are.
abbrev pub wire_kind : Bool → Bool → Bool → Bool → BlockKind
wire_kind false false false false = Empty
wire_kind false false true true = Horizontal
wire_kind true true false false = Vertical
wire_kind true false false true = Corner NorthEast
wire_kind true false true false = Corner NorthWest
wire_kind false true false true = Corner SouthEast
wire_kind false true true false = Corner SouthWest
wire_kind n s w e = Cross

abbrev pub node_kind : Standing → BlockKind
node_kind node = cond node.frame (Frame node.node) (Node node.node)

-- the block at a place: its node, or the bundles that cross its borders
abbrev pub block_at : Sheet → ℕ → ℕ → BlockKind
block_at s r c =
    option_map_or node_kind (node_on s.nodes r c) (wire_kind (is_crossed_north s r c) (is_crossed_north s (r + 1) c) (is_crossed_west s r c)
    (is_crossed_west s r (c + 1)))

-- No drawn edge leaves the node by its east port, or by its south port; none enters it.
abbrev pub IsOutOpen : Sheet → ℕ → Bool → Type 0
IsOutOpen s v heavy = All (λ e. e.parent ≡ v → e.heavy ≢ heavy) s.edges

abbrev pub IsInOpen : Sheet → ℕ → Type 0
IsInOpen s v = All (λ e. e.child ≢ v) s.edges

-- An edge that comes to a place leaves it again, by another side.
pub record GoesThrough (e : DrawnEdge) (r c : ℕ) : Type 0 where
  pub north : north_of e r c ≤ 1
  pub south : south_of e r c ≤ 1
  pub west : west_of e r c ≤ 1
  pub east : east_of e r c ≤ 1
  pub leaves : 0 < sides_of e r c → sides_of e r c ≡ 2

-- At a node an edge has an end at the port of its role, and no other edge comes there.
pub record EndsOn (v : ℕ) (e : DrawnEdge) (r c : ℕ) : Type 0 where
  pub north : north_of e r c ≡ cond (e.child == v) 1 0
  pub south : south_of e r c ≡ cond (e.parent == v && not e.heavy) 1 0
  pub west : west_of e r c ≡ 0
  pub east : east_of e r c ≡ cond (e.parent == v && e.heavy) 1 0

-- Two edges share no border, and where they share a block both go straight on.
pub record AreClear (e f : DrawnEdge) : Type 0 where
  pub north : (r c : ℕ) → 0 < north_of e r c → north_of f r c ≡ 0
  pub west : (r c : ℕ) → 0 < west_of e r c → west_of f r c ≡ 0
  pub crossing : (r c : ℕ) → 2 ≤ sides_of e r c → 2 ≤ sides_of f r c → north_of e r c ≡ south_of e r c

-- the place is on the sheet
abbrev pub IsOnSheet : Sheet → BlockPlace → Type 0
IsOnSheet s p = (row_of p < s.rows) × (col_of p < s.cols)

-- The edge runs straight from its parent's place to its child's, from place to place of the sheet.
pub record IsDrawn (s : Sheet) (e : DrawnEdge) : Type 0 where
  pub ends_differ : e.parent ≢ e.child
  pub starts : stands_at s.nodes e.parent ≡ Some e.start
  pub finishes : stands_at s.nodes e.child ≡ Some e.finish
  pub inside : All (IsOnSheet s) e.turns
  pub straight : IsTrue (is_straight e.start (line_of e))
  pub passes : (r c : ℕ) → ForNone (node_on s.nodes r c) (GoesThrough e r c)
  pub ends : (r c : ℕ) → ForSome (node_on s.nodes r c) (λ node. EndsOn node.node e r c)

-- Nodes stand at places of their own, each once, and each drawn edge is one path between its nodes' ports.
pub record IsSheet (s : Sheet) : Type 0 where
  pub some_rows : 1 ≤ s.rows
  pub some_cols : 1 ≤ s.cols
  pub few_rows : s.rows ≤ 2 ^ 20
  pub few_cols : s.cols ≤ 2 ^ 20
  pub nodes_inside : All (λ node. (node.row < s.rows) × (node.col < s.cols)) s.nodes
  pub nodes_once : AllPairs (λ m n. m.node ≢ n.node) s.nodes
  pub places_once : AllPairs (λ m n. m.row ≡ n.row → m.col ≢ n.col) s.nodes
  pub drawn : All (IsDrawn s) s.edges
  pub clear : AllPairs AreClear s.edges

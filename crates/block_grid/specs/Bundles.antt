-- How drawn edges go through the blocks of a sheet, and how each leads from place to place to its child.
use Rattle.std.specs.Prelude.{◌≡◌, ◌≢◌, ◌⊎◌, ℕ, ◌+◌, ◌<◌, not, ◌&&◌, ◌==◌, nat_lt, true, false, Option, Some, None, Contains, find}
use Rattle.block_grid.specs.declared.kind.Turn.TheVariants.{NorthEast, NorthWest, SouthEast, SouthWest}
use Rattle.block_grid.specs.declared.kind.BlockKind.{BlockKind}
use Rattle.block_grid.specs.declared.kind.BlockKind.TheVariants.{Empty, Horizontal, Vertical, Cross, Corner}
use Rattle.block_grid.specs.declared.standing.Standing.{Standing}
use Rattle.block_grid.specs.Lines.{BlockPlace, row_of, col_of}
use Rattle.block_grid.specs.Sheets.{DrawnEdge, Sheet, IsSheet, north_of, west_of, node_on, stands_at, block_at}

-- the edge that crosses the north border of a place, and its west border
abbrev pub edge_north : Sheet → ℕ → ℕ → Option DrawnEdge
edge_north s r c = find (λ e. nat_lt 0 (north_of e r c)) s.edges

abbrev pub edge_west : Sheet → ℕ → ℕ → Option DrawnEdge
edge_west s r c = find (λ e. nat_lt 0 (west_of e r c)) s.edges

-- A block without a node, and the edges that cross its north, south, west and east borders: each that comes goes on.
pub data GoOn : BlockKind → Option DrawnEdge → Option DrawnEdge → Option DrawnEdge → Option DrawnEdge → Type 0 where
  nothing : GoOn Empty None None None None
  level : (e : DrawnEdge) → GoOn Horizontal None None (Some e) (Some e)
  upright : (e : DrawnEdge) → GoOn Vertical (Some e) (Some e) None None
  across : (e f : DrawnEdge) → e ≢ f → GoOn Cross (Some e) (Some e) (Some f) (Some f)
  north_east : (e : DrawnEdge) → GoOn (Corner NorthEast) (Some e) None None (Some e)
  north_west : (e : DrawnEdge) → GoOn (Corner NorthWest) (Some e) None (Some e) None
  south_east : (e : DrawnEdge) → GoOn (Corner SouthEast) None (Some e) None (Some e)
  south_west : (e : DrawnEdge) → GoOn (Corner SouthWest) None (Some e) (Some e) None

abbrev pub BundlesGoOn : Type 0
BundlesGoOn = (s : Sheet) (r c : ℕ) → IsSheet s → node_on s.nodes r c ≡ None
    → GoOn (block_at s r c) (edge_north s r c) (edge_north s (r + 1) c) (edge_west s r c) (edge_west s r (c + 1))

-- The edges that cross the borders of a node's place are those of its ports: the edge to it, and those from it, by their roles.
pub record CrossAtPorts (s : Sheet) (v r c : ℕ) : Type 0 where
  pub north : edge_north s r c ≡ find (λ e. e.child == v) s.edges
  pub south : edge_north s (r + 1) c ≡ find (λ e. e.parent == v && not e.heavy) s.edges
  pub west : edge_west s r c ≡ None
  pub east : edge_west s r (c + 1) ≡ find (λ e. e.parent == v && e.heavy) s.edges

abbrev pub BundlesEndAtPorts : Type 0
BundlesEndAtPorts = (s : Sheet) (r c : ℕ) (node : Standing) → IsSheet s → node_on s.nodes r c ≡ Some node → CrossAtPorts s node.node r c

-- The edge crosses the border between the place and the one to its south, or to its east; both are on the sheet.
pub record CrossesSouth (s : Sheet) (e : DrawnEdge) (r c : ℕ) : Type 0 where
  pub row : r + 1 < s.rows
  pub col : c < s.cols
  pub crosses : edge_north s (r + 1) c ≡ Some e

pub record CrossesEast (s : Sheet) (e : DrawnEdge) (r c : ℕ) : Type 0 where
  pub row : r < s.rows
  pub col : c + 1 < s.cols
  pub crosses : edge_west s r (c + 1) ≡ Some e

-- Over borders that the edge crosses, one comes from the place in row r and column c to the one in row t and column d.
pub data Leads (s : Sheet) (e : DrawnEdge) (t d : ℕ) : ℕ → ℕ → Type 0 where
  there : Leads s e t d t d
  south : (r c : ℕ) → CrossesSouth s e r c → Leads s e t d (r + 1) c → Leads s e t d r c
  north : (r c : ℕ) → CrossesSouth s e r c → Leads s e t d r c → Leads s e t d (r + 1) c
  east : (r c : ℕ) → CrossesEast s e r c → Leads s e t d r (c + 1) → Leads s e t d r c
  west : (r c : ℕ) → CrossesEast s e r c → Leads s e t d r c → Leads s e t d r (c + 1)

-- The edge crosses a border of the place.
abbrev pub ComesTo : Sheet → DrawnEdge → ℕ → ℕ → Type 0
ComesTo s e r c =
    (edge_north s r c ≡ Some e) ⊎ (edge_north s (r + 1) c ≡ Some e) ⊎ (edge_west s r c ≡ Some e) ⊎ (edge_west s r (c + 1) ≡ Some e)

-- From each place that it comes to, an edge leads to its child.
abbrev pub EdgesLead : Type 0
EdgesLead = (s : Sheet) (e : DrawnEdge) (r c : ℕ) → IsSheet s → ComesTo s e r c → Leads s e (row_of e.finish) (col_of e.finish) r c

-- An edge comes to its child from the north, and leaves its parent by the port of its role.
pub record HasEnds (s : Sheet) (e : DrawnEdge) : Type 0 where
  pub enters : edge_north s (row_of e.finish) (col_of e.finish) ≡ Some e
  pub leaves_light : e.heavy ≡ false → edge_north s (row_of e.start + 1) (col_of e.start) ≡ Some e
  pub leaves_heavy : e.heavy ≡ true → edge_west s (row_of e.start) (col_of e.start + 1) ≡ Some e

abbrev pub EdgesHaveEnds : Type 0
EdgesHaveEnds = (s : Sheet) (e : DrawnEdge) → IsSheet s → Contains s.edges e → HasEnds s e

-- A node stands at the place on which it is found, and is found on the place at which it stands.
abbrev pub FoundNodesStand : Type 0
FoundNodesStand = (s : Sheet) (r c : ℕ) (node : Standing) → IsSheet s → node_on s.nodes r c ≡ Some node → stands_at s.nodes node.node ≡ Some (r, c)

abbrev pub StandingNodesAreFound : Type 0
StandingNodesAreFound = (s : Sheet) (v : ℕ) (p : BlockPlace) → IsSheet s → stands_at s.nodes v ≡ Some p
    → (node : Standing) × (node_on s.nodes (row_of p) (col_of p) ≡ Some node) × (node.node ≡ v)

-- Sheets whose nodes and edges move: where the borders of each place came from.
use Rattle.std.proofs.Common.{◌≡◌, ℕ, ◌<◌, ◌≤◌, Bool, true, false, nat_eq, cond, ◌&&◌, Some, None, List, [], ◌∷◌, map, refl, sym, ◌∙◌, arith}
use Rattle.std.specs.List.{find}
use Rattle.std.specs.Option.{option_map}
use Rattle.std.proofs.lemmas.List.{map-append}
use Rattle.block_grid.specs.declared.standing.Standing.{Standing}
use Rattle.block_grid.specs.Lines.{BlockPlace, row_of, col_of}
use Rattle.block_grid.specs.Sheets.{DrawnEdge, line_of, north_of, south_of, west_of, east_of, sides_of, Sheet, node_on, stands_at, GoesThrough, EndsOn, AreClear, IsDrawn}
use Rattle.block_grid.specs.Changes.{node_moved, edge_moved}
use Rattle.block_grid.proofs.Found.{find-map, find-none}

-- the edge e' crosses the borders of a place as e does those of another place
pub record SameSides (e' e : DrawnEdge) (r c r0 c0 : ℕ) : Type 0 where
  pub north : north_of e' r c ≡ north_of e r0 c0
  pub south : south_of e' r c ≡ south_of e r0 c0
  pub west : west_of e' r c ≡ west_of e r0 c0
  pub east : east_of e' r c ≡ east_of e r0 c0

-- the edge crosses the place k times from north to south, or from west to east, and not otherwise
pub record IsUpright (e : DrawnEdge) (r c k : ℕ) : Type 0 where
  pub north : north_of e r c ≡ k
  pub south : south_of e r c ≡ k
  pub west : west_of e r c ≡ 0
  pub east : east_of e r c ≡ 0

pub record IsLevelled (e : DrawnEdge) (r c k : ℕ) : Type 0 where
  pub north : north_of e r c ≡ 0
  pub south : south_of e r c ≡ 0
  pub west : west_of e r c ≡ k
  pub east : east_of e r c ≡ k

-- a place is the image of the place in row r0 and column c0 and of no other, or the image of none
abbrev pub IsImage : (BlockPlace → BlockPlace) → ℕ → ℕ → ℕ → ℕ → Type 0
IsImage h r c r0 c0 = (p : BlockPlace) → (nat_eq (row_of (h p)) r && nat_eq (col_of (h p)) c) ≡ (nat_eq (row_of p) r0 && nat_eq (col_of p) c0)

abbrev pub IsNoImage : (BlockPlace → BlockPlace) → ℕ → ℕ → Type 0
IsNoImage h r c = (p : BlockPlace) → (nat_eq (row_of (h p)) r && nat_eq (col_of (h p)) c) ≡ false

-- where a place of the moved sheet comes from
pub data Origin (h : BlockPlace → BlockPlace) (r c : ℕ) : Type 0 where
  kept : (r0 c0 : ℕ) → IsImage h r c r0 c0 → ((e : DrawnEdge) → SameSides (edge_moved h e) e r c r0 c0) → Origin h r c
  upright : (r0 c0 : ℕ) → IsNoImage h r c → ((e : DrawnEdge) → IsUpright (edge_moved h e) r c (north_of e r0 c0)) → Origin h r c
  level : (r0 c0 : ℕ) → IsNoImage h r c → ((e : DrawnEdge) → IsLevelled (edge_moved h e) r c (west_of e r0 c0)) → Origin h r c

pub line_moved : (h : BlockPlace → BlockPlace) (e : DrawnEdge) → line_of (edge_moved h e) ≡ map h (line_of e)
line_moved h e = sym (map-append h e.turns (e.finish ∷ []))

pub stands_moved : (h : BlockPlace → BlockPlace) (nodes : List Standing) (v : ℕ) →
    stands_at (map (node_moved h) nodes) v ≡ option_map h (stands_at nodes v)
stands_moved h [] v = refl
stands_moved h (n ∷ nodes) v =
    elim (nat_eq n.node v) as (λ b. option_map (λ (m : Standing). (
      m.row,
      m.col,
    )) (cond b (Some (node_moved h n)) (find (λ m. nat_eq m.node v) (map (node_moved h) nodes))) ≡ option_map h (option_map (λ
    (m : Standing). (m.row, m.col)) (cond b (Some n) (find (λ m. nat_eq m.node v) nodes)))) [ true ↦ refl | false ↦ stands_moved h nodes v ]

pub node_on_moved : (h : BlockPlace → BlockPlace) (nodes : List Standing) (r c r0 c0 : ℕ) → IsImage h r c r0 c0 →
    node_on (map (node_moved h) nodes) r c ≡ option_map (node_moved h) (node_on nodes r0 c0)
node_on_moved h nodes r c r0 c0 image = find-map (node_moved h) (λ m. nat_eq m.row r && nat_eq m.col c)
    (λ m. nat_eq m.row r0 && nat_eq m.col c0) (λ m. image (m.row, m.col)) nodes

pub node_on_none : (h : BlockPlace → BlockPlace) (nodes : List Standing) (r c : ℕ) → IsNoImage h r c → node_on (map (node_moved h) nodes) r c ≡ None
node_on_none h nodes r c none = find-none (node_moved h) (λ m. nat_eq m.row r && nat_eq m.col c) (λ m. none (m.row, m.col)) nodes

-- An edge of a sheet crosses each border at most once.
pub crossed_once : (s : Sheet) (e : DrawnEdge) → IsDrawn s e → (r c : ℕ) → (north_of e r c ≤ 1) × (west_of e r c ≤ 1)
crossed_once s e d r c =
    elim (node_on s.nodes r c) as (λ o. node_on s.nodes r c ≡ o → (north_of e r c ≤ 1) × (west_of e r c ≤ 1)) [
      | None ↦ λ is. ((d.passes r c is).north, (d.passes r c is).west)
      | Some n ↦ λ is. (
        let on = d.ends r c n is in let north : north_of e r c ≡ cond (nat_eq e.child n.node) 1 0 = on.north in
            small (nat_eq e.child n.node) _ north,
        let west : west_of e r c ≡ 0 = (d.ends r c n is).west in omega arith,
      )
    ] refl
  where
    small : (b : Bool) (k : ℕ) → k ≡ cond b 1 0 → k ≤ 1
    small true k h = omega arith
    small false k h = omega arith

pub passes_kept : (e' e : DrawnEdge) (r c r0 c0 : ℕ) → SameSides e' e r c r0 c0 → GoesThrough e r0 c0 → GoesThrough e' r c
passes_kept e' e r c r0 c0 s p = record {
  north = rw s.north p.north;
  south = rw s.south p.south;
  west = rw s.west p.west;
  east = rw s.east p.east;
  leaves = rw (s.north, s.south, s.west, s.east) p.leaves;
}

pub ends_kept : (h : BlockPlace → BlockPlace) (v : ℕ) (e : DrawnEdge) (r c r0 c0 : ℕ) → SameSides (edge_moved h e) e r c r0 c0 →
    EndsOn v e r0 c0 → EndsOn v (edge_moved h e) r c
ends_kept h v e r c r0 c0 s p = record {
  north = s.north ∙ p.north;
  south = s.south ∙ p.south;
  west = s.west ∙ p.west;
  east = s.east ∙ p.east;
}

pub passes_upright : (e : DrawnEdge) (r c k : ℕ) → k ≤ 1 → IsUpright e r c k → GoesThrough e r c
passes_upright e r c k one s = record {
  north = rw s.north one;
  south = rw s.south one;
  west = rw s.west (omega arith);
  east = rw s.east (omega arith);
  leaves = rw (s.north, s.south, s.west, s.east) (λ h. omega arith);
}

pub passes_level : (e : DrawnEdge) (r c k : ℕ) → k ≤ 1 → IsLevelled e r c k → GoesThrough e r c
passes_level e r c k one s = record {
  north = rw s.north (omega arith);
  south = rw s.south (omega arith);
  west = rw s.west one;
  east = rw s.east one;
  leaves = rw (s.north, s.south, s.west, s.east) (λ h. omega arith);
}

pub clear_kept : (e' e f' f : DrawnEdge) (r c r0 c0 : ℕ) → SameSides e' e r c r0 c0 → SameSides f' f r c r0 c0 → AreClear e f
    → (0 < north_of e' r c → north_of f' r c ≡ 0) × (0 < west_of e' r c → west_of f' r c ≡ 0) × (2 ≤ sides_of e' r c → 2 ≤ sides_of f' r c →
    north_of e' r c ≡ south_of e' r c)
clear_kept e' e f' f r c r0 c0 s t clear = (
  rw (s.north, t.north) (clear.north r0 c0),
  rw (s.west, t.west) (clear.west r0 c0),
  rw (
    s.north,
    s.south,
    s.west,
    s.east,
    t.north,
    t.south,
    t.west,
    t.east,
  ) (clear.crossing r0 c0),
)

pub clear_upright : (e' e f' f : DrawnEdge) (r c r0 c0 : ℕ) → IsUpright e' r c (north_of e r0 c0) → IsUpright f' r c (north_of f r0 c0) →
    AreClear e f
    → (0 < north_of e' r c → north_of f' r c ≡ 0) × (0 < west_of e' r c → west_of f' r c ≡ 0) × (2 ≤ sides_of e' r c → 2 ≤ sides_of f' r c →
    north_of e' r c ≡ south_of e' r c)
clear_upright e' e f' f r c r0 c0 s t clear =
    (rw (s.north, t.north) (clear.north r0 c0), rw (s.west, t.west) (λ h. refl), λ h k. s.north ∙ sym s.south)

pub clear_level : (e' e f' f : DrawnEdge) (r c r0 c0 : ℕ) → IsLevelled e' r c (west_of e r0 c0) → IsLevelled f' r c (west_of f r0 c0) → AreClear e f
    → (0 < north_of e' r c → north_of f' r c ≡ 0) × (0 < west_of e' r c → west_of f' r c ≡ 0) × (2 ≤ sides_of e' r c → 2 ≤ sides_of f' r c →
    north_of e' r c ≡ south_of e' r c)
clear_level e' e f' f r c r0 c0 s t clear =
    (rw (s.north, t.north) (λ h. refl), rw (s.west, t.west) (clear.west r0 c0), λ h k. s.north ∙ sym s.south)

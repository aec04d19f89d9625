-- When an edge may be drawn along a line.
use Rattle.std.specs.Prelude.{◌≡◌, ◌≢◌, ◌⊎◌, ℕ, ◌+◌, ◌<◌, Bool, true, false, IsTrue, Some, List, [], ◌∷◌, ◌++◌, All, AllPairs, unwrap_or}
use Rattle.block_grid.specs.declared.kind.BlockKind.{BlockKind}
use Rattle.block_grid.specs.declared.kind.BlockKind.TheVariants.{Empty, Horizontal, Vertical}
use Rattle.block_grid.specs.Lines.{BlockPlace, row_of, col_of, is_straight, IsOnStretch}
use Rattle.block_grid.specs.Sheets.{DrawnEdge, Sheet, stands_at, block_at, IsOutOpen, IsInOpen, IsOnSheet}

-- the place lies on the line from p
abbrev pub IsOnLine : BlockPlace → List BlockPlace → ℕ → ℕ → Type 0
IsOnLine p [] r c = (r ≡ row_of p) × (c ≡ col_of p)
IsOnLine p (q ∷ rest) r c = IsOnStretch p q r c ⊎ IsOnLine q rest r c

-- Each stretch leads to another place, and what follows it meets it in its end alone.
abbrev pub NeverReturns : BlockPlace → List BlockPlace → Type 0
NeverReturns p [] = Unit {0}
NeverReturns p (q ∷ rest) =
    (row_of p ≡ row_of q → col_of p ≢ col_of q)
    × ((r c : ℕ) → IsOnStretch p q r c → IsOnLine q rest r c → (r ≡ row_of q) × (c ≡ col_of q))
    × NeverReturns q rest

-- a line that comes from p may go over a block of this kind at q on to t: it is empty, or a bundle that it crosses straight
abbrev pub MayPass : BlockKind → BlockPlace → BlockPlace → BlockPlace → Type 0
MayPass kind p q t =
    (kind ≡ Empty)
    ⊎ ((kind ≡ Horizontal) × (col_of p ≡ col_of q) × (col_of q ≡ col_of t))
    ⊎ ((kind ≡ Vertical) × (row_of p ≡ row_of q) × (row_of q ≡ row_of t))

-- the places between p and q are free for a stretch from p to q
abbrev pub IsFreeBetween : Sheet → BlockPlace → BlockPlace → Type 0
IsFreeBetween s p q =
    (r c : ℕ) → IsOnStretch p q r c → (r ≡ row_of p → c ≢ col_of p) → (r ≡ row_of q → c ≢ col_of q) → MayPass (block_at s r c) p q q

-- the places between the ends of a line from p are free for it
abbrev pub IsFreeLine : Sheet → BlockPlace → List BlockPlace → Type 0
IsFreeLine s p [] = Unit {0}
IsFreeLine s p (q ∷ []) = IsFreeBetween s p q
IsFreeLine s p (q ∷ (t ∷ rest)) = IsFreeBetween s p q × MayPass (block_at s (row_of q) (col_of q)) p q t × IsFreeLine s q (t ∷ rest)

-- The line leaves p straight to the east, or straight to the south.
abbrev pub LeavesBy : Bool → BlockPlace → List BlockPlace → Type 0
LeavesBy heavy p [] = ⊥
LeavesBy true p (q ∷ rest) = (row_of p ≡ row_of q) × (col_of p < col_of q)
LeavesBy false p (q ∷ rest) = (col_of p ≡ col_of q) × (row_of p < row_of q)

-- The line comes to its last place straight from the north.
abbrev pub EntersFromNorth : BlockPlace → List BlockPlace → Type 0
EntersFromNorth p [] = ⊥
EntersFromNorth p (q ∷ []) = (col_of p ≡ col_of q) × (row_of p < row_of q)
EntersFromNorth p (q ∷ (t ∷ rest)) = EntersFromNorth q (t ∷ rest)

-- The edge may be drawn: its nodes stand at its ends and differ, their ports are open, and its line is straight, never
-- returns to itself, and is free.
pub record MayDraw (s : Sheet) (e : DrawnEdge) : Type 0 where
  pub ends_differ : e.parent ≢ e.child
  pub starts : stands_at s.nodes e.parent ≡ Some e.start
  pub finishes : stands_at s.nodes e.child ≡ Some e.finish
  pub out_open : IsOutOpen s e.parent e.heavy
  pub in_open : IsInOpen s e.child
  pub inside : All (IsOnSheet s) e.turns
  pub straight : IsTrue (is_straight e.start (e.turns ++ e.finish ∷ []))
  pub leaves : LeavesBy e.heavy e.start (e.turns ++ e.finish ∷ [])
  pub enters : EntersFromNorth e.start (e.turns ++ e.finish ∷ [])
  pub never_returns : NeverReturns e.start (e.turns ++ e.finish ∷ [])
  pub free : IsFreeLine s e.start (e.turns ++ e.finish ∷ [])

-- the sheet with one more edge
abbrev pub with_edge : Sheet → DrawnEdge → Sheet
with_edge s e = record { rows = s.rows; cols = s.cols; nodes = s.nodes; edges = s.edges ++ e ∷ [] }

-- the edge between two nodes that stand there, over these turning points
abbrev pub edge_over : Sheet → ℕ → ℕ → Bool → List BlockPlace → DrawnEdge
edge_over s parent child heavy turns = record {
  parent = parent;
  child = child;
  heavy = heavy;
  start = unwrap_or (stands_at s.nodes parent) (0, 0);
  turns = turns;
  finish = unwrap_or (stands_at s.nodes child) (0, 0);
}

-- the places share a side
abbrev pub AreNeighbours : BlockPlace → BlockPlace → Type 0
AreNeighbours p q =
    ((row_of p ≡ row_of q) × ((col_of p + 1 ≡ col_of q) ⊎ (col_of q + 1 ≡ col_of p)))
    ⊎ ((col_of p ≡ col_of q) × ((row_of p + 1 ≡ row_of q) ⊎ (row_of q + 1 ≡ row_of p)))

-- each place shares a side with the one before
abbrev pub IsWalk : BlockPlace → List BlockPlace → Type 0
IsWalk p [] = Unit {0}
IsWalk p (q ∷ rest) = AreNeighbours p q × IsWalk q rest

-- each place between the ends of a walk may be passed
abbrev pub ArePassed : Sheet → BlockPlace → List BlockPlace → Type 0
ArePassed s p [] = Unit {0}
ArePassed s p (q ∷ []) = Unit {0}
ArePassed s p (q ∷ (t ∷ rest)) = MayPass (block_at s (row_of q) (col_of q)) p q t × ArePassed s q (t ∷ rest)

-- The edge may be drawn over these very places: its nodes stand at its ends and differ, their ports are open, the places are
-- some, share sides one after another, from the parent's port to the child's, occur once, and may be passed.
pub record MayLay (s : Sheet) (e : DrawnEdge) : Type 0 where
  pub ends_differ : e.parent ≢ e.child
  pub starts : stands_at s.nodes e.parent ≡ Some e.start
  pub finishes : stands_at s.nodes e.child ≡ Some e.finish
  pub out_open : IsOutOpen s e.parent e.heavy
  pub in_open : IsInOpen s e.child
  pub some : e.turns ≢ []
  pub inside : All (IsOnSheet s) e.turns
  pub once : AllPairs (λ p q. row_of p ≡ row_of q → col_of p ≢ col_of q) e.turns
  pub walk : IsWalk e.start (e.turns ++ e.finish ∷ [])
  pub leaves : LeavesBy e.heavy e.start (e.turns ++ e.finish ∷ [])
  pub enters : EntersFromNorth e.start (e.turns ++ e.finish ∷ [])
  pub passed : ArePassed s e.start (e.turns ++ e.finish ∷ [])

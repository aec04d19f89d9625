-- The cells of a tree: where its nodes begin, end and pull, from where its leaves ended.
use Rattle.std.proofs.Common.{◌≡◌, ◌⊎◌, ◌↔◌, ℕ, Bool, true, false, ◌&&◌, ◌||◌, List, [], ◌∷◌, ◌++◌, refl, ap}
use Rattle.rx_lang.specs.Meaning.{Cut}
use Rattle.star_normal.specs.declared.node.Node.{Node}
use Rattle.star_normal.specs.Trees.{Letter, TreeSpells, TreeMarks}
use Rattle.star_normal.specs.Shapes.{IsExact, NeverScans, ScansAtTop}
use Rattle.star_normal.specs.Tables.{TreeTable, flags_of}
use Rattle.cell_network.specs.Cells.{CellValues, AreCells, SequenceCells, AlternativeCells, NextCells, begins_at, eps_at, pulls}
use Rattle.cell_network.proofs.Prefixes.{iff_refl, iff_sym, iff_trans, iff_or, or_tells, and_tells, same_tells, Full, Begins, cut_or, passed, sequence_ends, alternative_ends}
use Rattle.cell_network.proofs.NodeWords.{node_ends, node_begins, node_marks, leaf_marks, sequence_marks, letter_ends}
use Rattle.cell_network.proofs.EmptyWords.{exact_top}
use Rattle.cell_network.proofs.Pulling.{Pulls}
use Rattle.cell_network.proofs.Placed.{Placed, leaf_at, seq_at, alt_at, number, node_of, form, IsPlaced, eps_top}

module _ {X : Type 0} (Is : ℕ → X → Type 0) where
  abbrev pub Spells : Placed → List X → Type 0
  Spells p = TreeSpells Is (form p)

  -- the words of the base of the top node
  abbrev pub Base : Placed → List X → Type 0
  Base (leaf_at k n s) = Letter Is s
  Base (seq_at k n l r) = Cut (Spells l) (Spells r)
  Base (alt_at k n l r) = λ w. Spells l w ⊎ Spells r w

  -- the prefixes after which the tree, or a further turn of it, begins
  abbrev pub Started : (List X → Type 0) → Placed → List X → Type 0
  Started P p = Begins (node_of p).loops P (Base p)

  -- Each leaf tells by OUT whether its letter has just been read behind a prefix that leads to it.
  abbrev pub Stored : CellValues → Placed → (List X → Type 0) → List X → Type 0
  Stored v (leaf_at k n s) P u = (v.out k ≡ true) ↔ Cut (Started P (leaf_at k n s)) (Full (Letter Is s)) u
  Stored v (seq_at k n l r) P u = Stored v l (Started P (seq_at k n l r)) u × Stored v r (Cut (Started P (seq_at k n l r)) (Spells l)) u
  Stored v (alt_at k n l r) P u = Stored v l (Started P (alt_at k n l r)) u × Stored v r (Started P (alt_at k n l r)) u

  -- The prefixes with P lead to the tree; to a scan node all do.
  abbrev pub Led : CellValues → Placed → (List X → Type 0) → List X → Type 0
  Led v p P u = (((node_of p).scan || v.inn (number p)) ≡ true) ↔ P u

  top_flag : (p : Placed) → NeverScans (form p) → (node_of p).scan ≡ false
  top_flag (leaf_at k n s) h = h
  top_flag (seq_at k n l r) h = h.0
  top_flag (alt_at k n l r) h = h.0

  pub never_at_top : (p : Placed) → NeverScans (form p) → ScansAtTop (form p)
  never_at_top (leaf_at k n s) h = tt
  never_at_top (seq_at k n l r) h = (h.1, h.2)
  never_at_top (alt_at k n l r) h = (h.1, h.2)

  -- to a node that does not scan IN leads
  pub led : (v : CellValues) (p : Placed) (P : List X → Type 0) (u : List X) → NeverScans (form p) → (v.inn (number p) ≡ true) ↔ P u → Led v p P u
  led v p P u h inn = same_tells (ap (λ b. b || v.inn (number p)) (top_flag p h)) inn

  -- the top node ends where a turn of it does
  top_ends : (P : List X → Type 0) (p : Placed) (u : List X) → Cut (Started P p) (Full (Base p)) u ↔ Cut P (Full (Spells p)) u
  top_ends P (leaf_at k n s) u = node_ends (flags_of n) P (Base (leaf_at k n s)) u
  top_ends P (seq_at k n l r) u = node_ends (flags_of n) P (Base (seq_at k n l r)) u
  top_ends P (alt_at k n l r) u = node_ends (flags_of n) P (Base (alt_at k n l r)) u

  module _ (table : TreeTable) (v : CellValues) (cells : AreCells table v) where
    eps_tells : (p : Placed) → IsPlaced table.nodes p → IsExact Is (form p) → (eps_at table.nodes (number p) ≡ true) ↔ Spells p []
    eps_tells p h e = same_tells (eps_top table.nodes p h) (exact_top Is (form p) e)

    -- OUT tells where a turn has ended
    turn_tells : (p : Placed) → IsPlaced table.nodes p → IsExact Is (form p) → (P : List X → Type 0) (u : List X) → Stored v p P u
        → (v.out (number p) ≡ true) ↔ Cut (Started P p) (Full (Base p)) u
    turn_tells (leaf_at k n s) h e P u stored = stored
    turn_tells (seq_at k n l r) h e P u stored =
        let Q = Started P (seq_at k n l r) in
        let here : SequenceCells table.nodes v k n (number l) (number r) = cells.sequence k (number l) (number r) n h.0.here h.0.is in
        let left : (v.out (number l) ≡ true) ↔ Cut Q (Full (Spells l)) u = iff_trans (turn_tells l h.1 e.1 Q u stored.0) (top_ends Q l u) in
        let right : (v.out (number r) ≡ true) ↔ Cut (Cut Q (Spells l)) (Full (Spells r)) u =
        iff_trans (turn_tells r h.2 e.2 (Cut Q (Spells l)) u stored.1) (top_ends (Cut Q (Spells l)) r u) in
        same_tells here.out (iff_trans
        (or_tells (v.out (number r)) (eps_at table.nodes (number r) && v.out (number l)) right
        (and_tells (eps_at table.nodes (number r)) (v.out (number l)) (eps_tells r h.2 e.2) left))
        (sequence_ends Q (Spells l) (Spells r) u))
    turn_tells (alt_at k n l r) h e P u stored =
        let Q = Started P (alt_at k n l r) in
        let here : AlternativeCells v k n (number l) (number r) = cells.alternative k (number l) (number r) n h.0.here h.0.is in
        let left : (v.out (number l) ≡ true) ↔ Cut Q (Full (Spells l)) u = iff_trans (turn_tells l h.1 e.1 Q u stored.0) (top_ends Q l u) in
        let right : (v.out (number r) ≡ true) ↔ Cut Q (Full (Spells r)) u = iff_trans (turn_tells r h.2 e.2 Q u stored.1) (top_ends Q r u) in
        same_tells here.out (iff_trans (or_tells (v.out (number r)) (v.out (number l)) right left) (alternative_ends Q (Spells l) (Spells r) u))

    -- OUT tells where a word has ended
    pub out_tells : (p : Placed) → IsPlaced table.nodes p → IsExact Is (form p) → (P : List X → Type 0) (u : List X) → Stored v p P u
        → (v.out (number p) ≡ true) ↔ Cut P (Full (Spells p)) u
    out_tells p h e P u stored = iff_trans (turn_tells p h e P u stored) (top_ends P p u)

    or_moves : (a b d : Bool) → (a || (b || d)) ≡ ((a || b) || d)
    or_moves true b d = refl
    or_moves false b d = refl

    -- IN' tells where the node, or a further turn of it, begins
    begins_tells : (p : Placed) → IsPlaced table.nodes p → IsExact Is (form p) → (P : List X → Type 0) (u : List X) → Stored v p P u
        → Led v p P u → (begins_at v (number p) (node_of p) ≡ true) ↔ Started P p u
    begins_tells p h e P u stored inn =
        same_tells (or_moves (node_of p).scan (v.inn (number p)) ((node_of p).loops && v.out (number p))) (iff_trans
        (or_tells ((node_of p).scan || v.inn (number p)) ((node_of p).loops && v.out (number p)) inn
        (and_tells (node_of p).loops (v.out (number p)) (iff_refl ((node_of p).loops ≡ true)) (turn_tells p h e P u stored)))
        (node_begins (node_of p).loops P (Base p) u))

    -- where the parts of a sequence begin
    second_tells : (k : ℕ) (n : Node) (l r : Placed) → IsPlaced table.nodes (seq_at k n l r) → IsExact Is (form (seq_at k n l r))
        → (P : List X → Type 0) (u : List X) → Stored v (seq_at k n l r) P u → Led v (seq_at k n l r) P u
        → (v.inn (number r) ≡ true) ↔ Cut (Started P (seq_at k n l r)) (Spells l) u
    second_tells k n l r h e P u stored inn =
        let Q = Started P (seq_at k n l r) in
        let here : SequenceCells table.nodes v k n (number l) (number r) = cells.sequence k (number l) (number r) n h.0.here h.0.is in
        same_tells here.right (iff_trans
        (or_tells (v.out (number l)) (eps_at table.nodes (number l) && begins_at v k n) (out_tells l h.1 e.1 Q u stored.0)
        (and_tells (eps_at table.nodes (number l)) (begins_at v k n) (eps_tells l h.1 e.1) (begins_tells (seq_at k n l r) h e P u stored inn)))
        (passed Q (Spells l) u))

    first_tells : (k : ℕ) (n : Node) (l r : Placed) → IsPlaced table.nodes (seq_at k n l r) → IsExact Is (form (seq_at k n l r))
        → (P : List X → Type 0) (u : List X) → Stored v (seq_at k n l r) P u → Led v (seq_at k n l r) P u
        → (v.inn (number l) ≡ true) ↔ Started P (seq_at k n l r) u
    first_tells k n l r h e P u stored inn =
        same_tells (cells.sequence k (number l) (number r) n h.0.here h.0.is).left (begins_tells (seq_at k n l r) h e P u stored inn)

    -- where the parts of an alternative begin
    left_tells : (k : ℕ) (n : Node) (l r : Placed) → IsPlaced table.nodes (alt_at k n l r) → IsExact Is (form (alt_at k n l r))
        → (P : List X → Type 0) (u : List X) → Stored v (alt_at k n l r) P u → Led v (alt_at k n l r) P u
        → (v.inn (number l) ≡ true) ↔ Started P (alt_at k n l r) u
    left_tells k n l r h e P u stored inn =
        same_tells (cells.alternative k (number l) (number r) n h.0.here h.0.is).left (begins_tells (alt_at k n l r) h e P u stored inn)

    right_tells : (k : ℕ) (n : Node) (l r : Placed) → IsPlaced table.nodes (alt_at k n l r) → IsExact Is (form (alt_at k n l r))
        → (P : List X → Type 0) (u : List X) → Stored v (alt_at k n l r) P u → Led v (alt_at k n l r) P u
        → (v.inn (number r) ≡ true) ↔ Started P (alt_at k n l r) u
    right_tells k n l r h e P u stored inn =
        same_tells (cells.alternative k (number l) (number r) n h.0.here h.0.is).right (begins_tells (alt_at k n l r) h e P u stored inn)

    -- One letter later each leaf has stored what it should.
    pub next_stored : (is : ℕ → X → Bool) → ((s : ℕ) (x : X) → (is s x ≡ true) ↔ Is s x) → (x : X) (after : CellValues) → NextCells is table x v after → (p : Placed) → IsPlaced table.nodes p → IsExact Is (form p) → ScansAtTop (form p)
        → (P : List X → Type 0) (u : List X) → Stored v p P u → Led v p P u → Stored after p P (u ++ x ∷ [])
    next_stored is tests x after next (leaf_at k n s) h e at_top P u stored inn =
        same_tells (next.stored k s n h.here h.is) (iff_trans
        (and_tells (begins_at v k n) (is s x) (begins_tells (leaf_at k n s) h e P u stored inn) (tests s x))
        (letter_ends Is s (Started P (leaf_at k n s)) u x))
    next_stored is tests x after next (seq_at k n l r) h e s P u stored inn = (
      next_stored is tests x after next l h.1 e.1 (never_at_top l s.0) (Started P (seq_at k n l r)) u stored.0 (led v l (Started P (seq_at k n l r)) u s.0 (first_tells k n l r h e P u stored inn)),
      next_stored is tests x after next r h.2 e.2 (never_at_top r s.1) (Cut (Started P (seq_at k n l r)) (Spells l)) u stored.1 (led v r (Cut (Started P (seq_at k n l r)) (Spells l)) u s.1 (second_tells k n l r h e P u stored inn)),
    )
    next_stored is tests x after next (alt_at k n l r) h e s P u stored inn = (
      next_stored is tests x after next l h.1 e.1 (never_at_top l s.0) (Started P (alt_at k n l r)) u stored.0 (led v l (Started P (alt_at k n l r)) u s.0 (left_tells k n l r h e P u stored inn)),
      next_stored is tests x after next r h.2 e.2 (never_at_top r s.1) (Started P (alt_at k n l r)) u stored.1 (led v r (Started P (alt_at k n l r)) u s.1 (right_tells k n l r h e P u stored inn)),
    )

    -- the node itself pulls at its own marks
    own_tells : (y : ℕ) (p : Placed) → IsPlaced table.nodes p → IsExact Is (form p) → (P : List X → Type 0) (u : List X) → Stored v p P u
        → Led v p P u → (pulls (node_of p) y (v.inn (number p)) (v.out (number p)) ≡ true)
        ↔ ((((flags_of (node_of p)).marks y ≡ true) × Cut P (Full (Spells p)) u) ⊎ (((flags_of (node_of p)).eps_marks y ≡ true) × Started P p u))
    own_tells y p h e P u stored inn = or_tells ((flags_of (node_of p)).marks y && v.out (number p))
        ((flags_of (node_of p)).eps_marks y && begins_at v (number p) (node_of p))
        (and_tells ((flags_of (node_of p)).marks y) (v.out (number p)) (iff_refl ((flags_of (node_of p)).marks y ≡ true)) (out_tells p h e P u stored))
        (and_tells ((flags_of (node_of p)).eps_marks y) (begins_at v (number p) (node_of p)) (iff_refl ((flags_of (node_of p)).eps_marks y ≡ true))
        (begins_tells p h e P u stored inn))

    -- The nodes pull where the tree is marked behind a prefix that leads to it.
    pub pulls_tell : (y : ℕ) (p : Placed) → IsPlaced table.nodes p → IsExact Is (form p) → ScansAtTop (form p) → (P : List X → Type 0) (u : List X) → Stored v p P u
        → Led v p P u → Pulls v y p ↔ Cut P (TreeMarks Is (form p) y) u
    pulls_tell y (leaf_at k n s) h e at_top P u stored inn =
        iff_trans (own_tells y (leaf_at k n s) h e P u stored inn) (iff_trans
        (leaf_marks ((((flags_of n).marks y ≡ true) × Cut P (Full (Spells (leaf_at k n s))) u) ⊎ (((flags_of n).eps_marks y ≡ true) × Started P (leaf_at k n s) u))
        (Started P (leaf_at k n s)) u)
        (node_marks (flags_of n) P (Base (leaf_at k n s)) (λ w. ⊥) y u))
    pulls_tell y (seq_at k n l r) h e s P u stored inn =
        let Q = Started P (seq_at k n l r) in
        iff_trans (iff_or (own_tells y (seq_at k n l r) h e P u stored inn) (iff_trans
        (iff_or (pulls_tell y l h.1 e.1 (never_at_top l s.0) Q u stored.0 (led v l Q u s.0 (first_tells k n l r h e P u stored inn)))
        (pulls_tell y r h.2 e.2 (never_at_top r s.1) (Cut Q (Spells l)) u stored.1 (led v r (Cut Q (Spells l)) u s.1 (second_tells k n l r h e P u stored inn))))
        (sequence_marks Q (Spells l) (TreeMarks Is (form l) y) (TreeMarks Is (form r) y) u)))
        (node_marks (flags_of n) P (Base (seq_at k n l r)) (λ w. TreeMarks Is (form l) y w ⊎ Cut (Spells l) (TreeMarks Is (form r) y) w) y u)
    pulls_tell y (alt_at k n l r) h e s P u stored inn =
        let Q = Started P (alt_at k n l r) in
        iff_trans (iff_or (own_tells y (alt_at k n l r) h e P u stored inn) (iff_trans
        (iff_or (pulls_tell y l h.1 e.1 (never_at_top l s.0) Q u stored.0 (led v l Q u s.0 (left_tells k n l r h e P u stored inn)))
        (pulls_tell y r h.2 e.2 (never_at_top r s.1) Q u stored.1 (led v r Q u s.1 (right_tells k n l r h e P u stored inn))))
        (iff_sym (cut_or Q (TreeMarks Is (form l) y) (TreeMarks Is (form r) y) u))))
        (node_marks (flags_of n) P (Base (alt_at k n l r)) (λ w. TreeMarks Is (form l) y w ⊎ TreeMarks Is (form r) y w) y u)

-- What becomes of the leaves of a tree, whose letters are positions. Each node is told what may come behind it, and tells its
-- parts (after Berry and Sethi, 1986): so each list is made once, and given away to a leaf.
use Rattle.std.specs.Prelude.{ℕ, Bool, false, ◌&&◌, ◌||◌, if◌then◌else◌, List, [], ◌∷◌, ◌++◌}
use Rattle.star_normal.specs.Trees.{Flags, FlaggedTree, leaf, seq, alt, flags}

-- the positions with which a word begins
abbrev pub firsts : FlaggedTree → List ℕ
firsts (leaf f p) = p ∷ []
firsts (seq f l r) = firsts l ++ (if (flags l).eps then firsts r else [])
firsts (alt f l r) = firsts l ++ firsts r

-- the output is marked for the empty word at the beginning
abbrev pub empties : FlaggedTree → ℕ → Bool
empties (leaf f p) y = f.eps_marks y
empties (seq f l r) y = (empties l y || ((flags l).eps && empties r y)) || f.eps_marks y
empties (alt f l r) y = (empties l y || empties r y) || f.eps_marks y

-- of a leaf: its position, the positions that may follow it, and the outputs that are marked at it
pub record LeafRow : Type 0 where
  pub position : ℕ
  pub follow : List ℕ
  pub marks : ℕ → Bool

-- what may come behind a turn of a node, from what may come behind the node: a further turn begins with these
abbrev pub behind_turn : Flags → List ℕ → List ℕ → List ℕ
behind_turn f again next = if f.loops then next ++ again else next

-- the outputs that are marked where a turn of a node ends, from those that are marked where the node ends: a further turn marks
-- these for the empty word
abbrev pub marked_turn : Flags → (ℕ → Bool) → (ℕ → Bool) → ℕ → Bool
marked_turn f again ends y = (ends y || f.marks y) || (f.loops && again y)

-- The leaves from left to right, where these positions may come behind the tree, and these outputs are marked where it ends.
abbrev pub leaf_rows : FlaggedTree → List ℕ → (ℕ → Bool) → List LeafRow
leaf_rows (leaf f p) next ends =
    record { position = p; follow = behind_turn f (p ∷ []) next; marks = marked_turn f f.eps_marks ends } ∷ []
leaf_rows (seq f l r) next ends =
    let behind = behind_turn f (firsts (seq f l r)) next in
    let marked = marked_turn f (empties (seq f l r)) ends in
    leaf_rows l (firsts r ++ (if (flags r).eps then behind else [])) (λ y. empties r y || ((flags r).eps && marked y)) ++ leaf_rows r behind marked
leaf_rows (alt f l r) next ends =
    let behind = behind_turn f (firsts (alt f l r)) next in
    let marked = marked_turn f (empties (alt f l r)) ends in
    leaf_rows l behind marked ++ leaf_rows r behind marked

-- the rows of a whole tree
abbrev pub tree_rows : FlaggedTree → List LeafRow
tree_rows t = leaf_rows t [] (λ y. false)

-- The rows of a tree of positions have exactly the positions that may follow.
use Rattle.std.proofs.Common.{◌≡◌, ◌⊎◌, ◌↔◌, ℕ, Bool, true, false, ◌&&◌, ◌||◌, if◌then◌else◌, List, [], ◌∷◌, ◌++◌, refl, sym, ap, ◌∙◌, subst, inl, inr}
use Rattle.rx_lang.specs.Meaning.{Cut}
use Rattle.rx_lang.specs.Copies.{IsItself}
use Rattle.rx_lang.specs.Positions.{BeginsWith, EndsWith, HasPair}
use Rattle.star_normal.specs.Trees.{Flags, FlaggedTree, leaf, seq, alt, flags, leaves, Words, Letter}
use Rattle.star_normal.specs.Shapes.{IsExact}
use Rattle.position_nfa.specs.LeafRows.{LeafRow, firsts, empties, behind_turn, marked_turn, leaf_rows}
use Rattle.position_nfa.proofs.Lists.{In, in_left, in_right, in_cases, Distinct, distinct_left, distinct_right, distinct_apart}
use Rattle.position_nfa.proofs.Letters.{HasWord, PairInCut, PairInTurns, ends_cut, ends_first, ends_second, pair_cut, pair_first, pair_between, pair_second, node_begins, begins_node, node_ends, ends_node, node_pair, pair_node}
use Rattle.position_nfa.proofs.FirstLetters.{Spelled, in_if, if_in, top_exact, has_word, ends_leaf, pair_leaf, firsts_begin, begins_firsts}

-- what may come behind a turn

again : (loops : Bool) (own next : List ℕ) (q : ℕ) → In (if loops then next ++ own else next) q → In next q ⊎ ((loops ≡ true) × In own q)
again true own next q h = two (in_cases next own q h) where
  two : In next q ⊎ In own q → In next q ⊎ ((true ≡ true) × In own q)
  two (inl k) = inl k
  two (inr k) = inr (refl, k)
again false own next q h = inl h

pub behind_cases : (f : Flags) (own next : List ℕ) (q : ℕ) → In (behind_turn f own next) q → In next q ⊎ ((f.loops ≡ true) × In own q)
behind_cases f own next q h = again f.loops own next q h

kept_next : (loops : Bool) (own next : List ℕ) (q : ℕ) → In next q → In (if loops then next ++ own else next) q
kept_next true own next q h = in_left next own q h
kept_next false own next q h = h

pub behind_next : (f : Flags) (own next : List ℕ) (q : ℕ) → In next q → In (behind_turn f own next) q
behind_next f own next q h = kept_next f.loops own next q h

kept_own : (loops : Bool) (own next : List ℕ) (q : ℕ) → loops ≡ true → In own q → In (if loops then next ++ own else next) q
kept_own true own next q e h = in_right next own q h
kept_own false own next q e h = cc

pub behind_own : (f : Flags) (own next : List ℕ) (q : ℕ) → f.loops ≡ true → In own q → In (behind_turn f own next) q
behind_own f own next q e h = kept_own f.loops own next q e h

-- A position has exactly these positions in its row: those that follow it in a word of P, and, where it ends one, the next ones.
pub record Tells (P : List ℕ → Type 0) (next : List ℕ) (row : LeafRow) : Type 0 where
  pub to : (q : ℕ) → In row.follow q → HasPair P row.position q ⊎ (EndsWith P row.position × In next q)
  pub from : (q : ℕ) → HasPair P row.position q ⊎ (EndsWith P row.position × In next q) → In row.follow q

-- from the base of a node to the node
module _ (f : Flags) (B : List ℕ → Type 0) (own next : List ℕ) (row : LeafRow) (to_begin : (q : ℕ) → In own q → BeginsWith B q) (from_begin : (q : ℕ) → BeginsWith B q → In own q) where
  node_to_next : (q : ℕ) → EndsWith B row.position → In next q ⊎ ((f.loops ≡ true) × In own q)
      → HasPair (Words f B) row.position q ⊎ (EndsWith (Words f B) row.position × In next q)
  node_to_next q e (inl k) = inr (ends_node B f row.position e, k)
  node_to_next q e (inr k) = inl (pair_node B f row.position q (inr (k.0, e, to_begin q k.1)))

  node_to : (q : ℕ) → HasPair B row.position q ⊎ (EndsWith B row.position × In (behind_turn f own next) q)
      → HasPair (Words f B) row.position q ⊎ (EndsWith (Words f B) row.position × In next q)
  node_to q (inl k) = inl (pair_node B f row.position q (inl k))
  node_to q (inr k) = node_to_next q k.0 (behind_cases f own next q k.1)

  node_from_pair : (q : ℕ) → PairInTurns B f.loops row.position q → HasPair B row.position q ⊎ (EndsWith B row.position × In (behind_turn f own next) q)
  node_from_pair q (inl k) = inl k
  node_from_pair q (inr k) = inr (k.1, behind_own f own next q k.0 (from_begin q k.2))

  node_from : (q : ℕ) → HasPair (Words f B) row.position q ⊎ (EndsWith (Words f B) row.position × In next q)
      → HasPair B row.position q ⊎ (EndsWith B row.position × In (behind_turn f own next) q)
  node_from q (inl k) = node_from_pair q (node_pair B f row.position q k)
  node_from q (inr k) = inr (node_ends B f row.position k.0, behind_next f own next q k.1)

  pub node_tells : Tells B (behind_turn f own next) row → Tells (Words f B) next row
  node_tells t = record { to = λ q h. node_to q (t.to q h); from = λ q h. t.from q (node_from q h) }

-- a position of the left part of a sequence, which is none of the right one
module _ (L R : List ℕ → Type 0) (own next : List ℕ) (empty : Bool) (row : LeafRow) (some : HasWord R) (null : (empty ≡ true → R []) × (R [] → empty ≡ true))
    (to_begin : (q : ℕ) → In own q → BeginsWith R q) (from_begin : (q : ℕ) → BeginsWith R q → In own q)
    (no_pair : (q : ℕ) → HasPair R row.position q → ⊥) (no_end : EndsWith R row.position → ⊥) where
  abbrev pub LeftTold : ℕ → Type 0
  LeftTold q = HasPair L row.position q ⊎ (EndsWith L row.position × In (own ++ (if empty then next else [])) q)

  abbrev pub LeftWhole : ℕ → Type 0
  LeftWhole q = HasPair (Cut L R) row.position q ⊎ (EndsWith (Cut L R) row.position × In next q)

  left_passed : (q : ℕ) → EndsWith L row.position → (empty ≡ true) × In next q → LeftWhole q
  left_passed q e h = inr (ends_first L R row.position (null.0 h.0) e, h.1)

  left_to_next : (q : ℕ) → EndsWith L row.position → In own q ⊎ In (if empty then next else []) q → LeftWhole q
  left_to_next q e (inl k) = inl (pair_between L R row.position q e (to_begin q k))
  left_to_next q e (inr k) = left_passed q e (in_if empty next q k)

  left_to : (q : ℕ) → LeftTold q → LeftWhole q
  left_to q (inl k) = inl (pair_first L R row.position q some k)
  left_to q (inr k) = left_to_next q k.0 (in_cases own (if empty then next else []) q k.1)

  left_from_pair : (q : ℕ) → PairInCut L R row.position q → LeftTold q
  left_from_pair q (inl k) = inl k
  left_from_pair q (inr (inl k)) = inr (k.0, in_left own (if empty then next else []) q (from_begin q k.1))
  left_from_pair q (inr (inr k)) = absurd (no_pair q k)

  left_from_end : (q : ℕ) → In next q → (EndsWith L row.position × R []) ⊎ EndsWith R row.position → LeftTold q
  left_from_end q i (inl k) = inr (k.0, in_right own (if empty then next else []) q (if_in empty next q (null.1 k.1) i))
  left_from_end q i (inr k) = absurd (no_end k)

  left_from : (q : ℕ) → LeftWhole q → LeftTold q
  left_from q (inl k) = left_from_pair q (pair_cut L R row.position q k)
  left_from q (inr k) = left_from_end q k.1 (ends_cut L R row.position k.0)

  pub left_tells : Tells L (own ++ (if empty then next else [])) row → Tells (Cut L R) next row
  left_tells t = record { to = λ q h. left_to q (t.to q h); from = λ q h. t.from q (left_from q h) }

-- a position of the right part, which is none of the left one
module _ (L R : List ℕ → Type 0) (next : List ℕ) (row : LeafRow) (some : HasWord L)
    (no_pair : (q : ℕ) → HasPair L row.position q → ⊥) (no_end : EndsWith L row.position → ⊥) where
  abbrev pub RightTold : ℕ → Type 0
  RightTold q = HasPair R row.position q ⊎ (EndsWith R row.position × In next q)

  abbrev pub RightWhole : ℕ → Type 0
  RightWhole q = HasPair (Cut L R) row.position q ⊎ (EndsWith (Cut L R) row.position × In next q)

  right_to : (q : ℕ) → RightTold q → RightWhole q
  right_to q (inl k) = inl (pair_second L R row.position q some k)
  right_to q (inr k) = inr (ends_second L R row.position some k.0, k.1)

  right_from_pair : (q : ℕ) → PairInCut L R row.position q → RightTold q
  right_from_pair q (inl k) = absurd (no_pair q k)
  right_from_pair q (inr (inl k)) = absurd (no_end k.0)
  right_from_pair q (inr (inr k)) = inl k

  right_from_end : (q : ℕ) → In next q → (EndsWith L row.position × R []) ⊎ EndsWith R row.position → RightTold q
  right_from_end q i (inl k) = absurd (no_end k.0)
  right_from_end q i (inr k) = inr (k, i)

  right_from : (q : ℕ) → RightWhole q → RightTold q
  right_from q (inl k) = right_from_pair q (pair_cut L R row.position q k)
  right_from q (inr k) = right_from_end q k.1 (ends_cut L R row.position k.0)

  pub right_tells : Tells R next row → Tells (Cut L R) next row
  right_tells t = record { to = λ q h. right_to q (t.to q h); from = λ q h. t.from q (right_from q h) }

-- a position of one of two parts
module _ (P Q : List ℕ → Type 0) (next : List ℕ) (row : LeafRow) (into : (u : List ℕ) → P u → Q u)
    (pair_back : (q : ℕ) → HasPair Q row.position q → HasPair P row.position q) (end_back : EndsWith Q row.position → EndsWith P row.position) where
  part_to : (q : ℕ) → HasPair P row.position q ⊎ (EndsWith P row.position × In next q) → HasPair Q row.position q ⊎ (EndsWith Q row.position × In next q)
  part_to q (inl k) = inl (k.0, k.1, into (k.0 ++ row.position ∷ q ∷ k.1) k.2)
  part_to q (inr k) = inr ((k.0.0, into (k.0.0 ++ row.position ∷ []) k.0.1), k.1)

  part_from : (q : ℕ) → HasPair Q row.position q ⊎ (EndsWith Q row.position × In next q) → HasPair P row.position q ⊎ (EndsWith P row.position × In next q)
  part_from q (inl k) = inl (pair_back q k)
  part_from q (inr k) = inr (end_back k.0, k.1)

  pub part_tells : Tells P next row → Tells Q next row
  part_tells t = record { to = λ q h. part_to q (t.to q h); from = λ q h. t.from q (part_from q h) }

-- a single letter
module _ (p : ℕ) (next : List ℕ) (marks : ℕ → Bool) where
  abbrev pub leaf_row : LeafRow
  leaf_row = record { position = p; follow = next; marks = marks }

  pair_in_letter : (front rest : List ℕ) (x y z : ℕ) → front ++ x ∷ y ∷ rest ≡ z ∷ [] → ⊥
  pair_in_letter [] rest x y z e = cc
  pair_in_letter (w ∷ []) rest x y z e = cc
  pair_in_letter (w ∷ v ∷ front) rest x y z e = cc

  letter_from : (q : ℕ) → HasPair (Letter IsItself p) p q ⊎ (EndsWith (Letter IsItself p) p × In next q) → In next q
  letter_from q (inl k) = absurd (pair_in_letter k.0 k.1 p q k.2.0 k.2.1)
  letter_from q (inr k) = k.1

  pub letter_tells : Tells (Letter IsItself p) next leaf_row
  letter_tells = record { to = λ q h. inr (([], (p, refl, refl)), h); from = letter_from }

pub row_leaf : (t : FlaggedTree) (next : List ℕ) (ends : ℕ → Bool) (row : LeafRow) → In (leaf_rows t next ends) row → In (leaves t) row.position
row_leaf (leaf f p) next ends row (inl e) = inl (ap (λ r. r.position) e)
row_leaf (leaf f p) next ends row (inr h) = absurd h
row_leaf (seq f l r) next ends row h =
    let behind : List ℕ = behind_turn f (firsts (seq f l r)) next in
    let marked : ℕ → Bool = marked_turn f (empties (seq f l r)) ends in
    elim (in_cases (leaf_rows l (firsts r ++ (if (flags r).eps then behind else [])) (λ y. empties r y || ((flags r).eps && marked y))) (leaf_rows r behind marked) row h) [
      | inl k ↦ in_left (leaves l) (leaves r) row.position (row_leaf l (firsts r ++ (if (flags r).eps then behind else [])) (λ y. empties r y || ((flags r).eps && marked y)) row k)
      | inr k ↦ in_right (leaves l) (leaves r) row.position (row_leaf r behind marked row k)
    ]
row_leaf (alt f l r) next ends row h =
    let behind : List ℕ = behind_turn f (firsts (alt f l r)) next in
    let marked : ℕ → Bool = marked_turn f (empties (alt f l r)) ends in
    elim (in_cases (leaf_rows l behind marked) (leaf_rows r behind marked) row h) [
      | inl k ↦ in_left (leaves l) (leaves r) row.position (row_leaf l behind marked row k)
      | inr k ↦ in_right (leaves l) (leaves r) row.position (row_leaf r behind marked row k)
    ]

-- a position of one part is none of the other one
module _ (l r : FlaggedTree) (apart : Distinct (leaves l ++ leaves r)) (p : ℕ) where
  pub left_alone : In (leaves l) p → In (leaves r) p → ⊥
  left_alone i j = distinct_apart (leaves l) (leaves r) apart p i j

  in_left_pair : (i : In (leaves l) p) (front rest : List ℕ) (q : ℕ) → Spelled l (front ++ p ∷ q ∷ rest) ⊎ Spelled r (front ++ p ∷ q ∷ rest) → HasPair (Spelled l) p q
  in_left_pair i front rest q (inl k) = (front, rest, k)
  in_left_pair i front rest q (inr k) = absurd (left_alone i (pair_leaf r p q (front, rest, k)))

  in_left_end : (i : In (leaves l) p) (front : List ℕ) → Spelled l (front ++ p ∷ []) ⊎ Spelled r (front ++ p ∷ []) → EndsWith (Spelled l) p
  in_left_end i front (inl k) = (front, k)
  in_left_end i front (inr k) = absurd (left_alone i (ends_leaf r p (front, k)))

  in_right_pair : (i : In (leaves r) p) (front rest : List ℕ) (q : ℕ) → Spelled l (front ++ p ∷ q ∷ rest) ⊎ Spelled r (front ++ p ∷ q ∷ rest) → HasPair (Spelled r) p q
  in_right_pair i front rest q (inr k) = (front, rest, k)
  in_right_pair i front rest q (inl k) = absurd (left_alone (pair_leaf l p q (front, rest, k)) i)

  in_right_end : (i : In (leaves r) p) (front : List ℕ) → Spelled l (front ++ p ∷ []) ⊎ Spelled r (front ++ p ∷ []) → EndsWith (Spelled r) p
  in_right_end i front (inr k) = (front, k)
  in_right_end i front (inl k) = absurd (left_alone (ends_leaf l p (front, k)) i)

abbrev pub Both : FlaggedTree → FlaggedTree → List ℕ → Type 0
Both l r = Cut (Spelled l) (Spelled r)

abbrev pub Either : FlaggedTree → FlaggedTree → List ℕ → Type 0
Either l r w = Spelled l w ⊎ Spelled r w

-- from the base of a tree to the tree

leaf_whole : (f : Flags) (p : ℕ) → IsExact IsItself (leaf f p) → (next : List ℕ) (row : LeafRow) → Tells (Letter IsItself p) (behind_turn f (p ∷ []) next) row
    → Tells (Spelled (leaf f p)) next row
leaf_whole f p exact next row = node_tells f (Letter IsItself p) (firsts (leaf f p)) next row
    (λ q h. node_begins (Letter IsItself p) f q (firsts_begin (leaf f p) exact q h))
    (λ q h. begins_firsts (leaf f p) exact q (begins_node (Letter IsItself p) f q h))

seq_whole : (f : Flags) (l r : FlaggedTree) → IsExact IsItself (seq f l r) → (next : List ℕ) (row : LeafRow) → Tells (Both l r) (behind_turn f (firsts (seq f l r)) next) row
    → Tells (Spelled (seq f l r)) next row
seq_whole f l r exact next row = node_tells f (Both l r) (firsts (seq f l r)) next row
    (λ q h. node_begins (Both l r) f q (firsts_begin (seq f l r) exact q h))
    (λ q h. begins_firsts (seq f l r) exact q (begins_node (Both l r) f q h))

alt_whole : (f : Flags) (l r : FlaggedTree) → IsExact IsItself (alt f l r) → (next : List ℕ) (row : LeafRow) → Tells (Either l r) (behind_turn f (firsts (alt f l r)) next) row
    → Tells (Spelled (alt f l r)) next row
alt_whole f l r exact next row = node_tells f (Either l r) (firsts (alt f l r)) next row
    (λ q h. node_begins (Either l r) f q (firsts_begin (alt f l r) exact q h))
    (λ q h. begins_firsts (alt f l r) exact q (begins_node (Either l r) f q h))

-- from a part to the base

module _ (l r : FlaggedTree) (apart : Distinct (leaves l ++ leaves r)) (next : List ℕ) (row : LeafRow) where
  seq_left : IsExact IsItself r → In (leaves l) row.position → Tells (Spelled l) (firsts r ++ (if (flags r).eps then next else [])) row → Tells (Both l r) next row
  seq_left exact i = left_tells (Spelled l) (Spelled r) (firsts r) next (flags r).eps row (has_word r) (top_exact r exact)
      (firsts_begin r exact) (begins_firsts r exact)
      (λ q k. left_alone l r apart row.position i (pair_leaf r row.position q k)) (λ k. left_alone l r apart row.position i (ends_leaf r row.position k))

  seq_right : In (leaves r) row.position → Tells (Spelled r) next row → Tells (Both l r) next row
  seq_right i = right_tells (Spelled l) (Spelled r) next row (has_word l)
      (λ q k. left_alone l r apart row.position (pair_leaf l row.position q k) i) (λ k. left_alone l r apart row.position (ends_leaf l row.position k) i)

  alt_left : In (leaves l) row.position → Tells (Spelled l) next row → Tells (Either l r) next row
  alt_left i = part_tells (Spelled l) (Either l r) next row (λ u k. inl k)
      (λ q k. in_left_pair l r apart row.position i k.0 k.1 q k.2) (λ k. in_left_end l r apart row.position i k.0 k.1)

  alt_right : In (leaves r) row.position → Tells (Spelled r) next row → Tells (Either l r) next row
  alt_right i = part_tells (Spelled r) (Either l r) next row (λ u k. inr k)
      (λ q k. in_right_pair l r apart row.position i k.0 k.1 q k.2) (λ k. in_right_end l r apart row.position i k.0 k.1)

-- Each row tells which positions may follow its position.
pub rows_tell : (t : FlaggedTree) → IsExact IsItself t → Distinct (leaves t) → (next : List ℕ) (ends : ℕ → Bool) (row : LeafRow)
    → In (leaf_rows t next ends) row → Tells (Spelled t) next row
rows_tell (leaf f p) exact once next ends row (inr h) = absurd h
rows_tell (leaf f p) exact once next ends row (inl e) =
    leaf_whole f p exact next row (subst (Tells (Letter IsItself p) (behind_turn f (p ∷ []) next)) e (letter_tells p (behind_turn f (p ∷ []) next) (marked_turn f f.eps_marks ends)))
rows_tell (seq f l r) exact once next ends row h =
    let behind : List ℕ = behind_turn f (firsts (seq f l r)) next in
    let marked : ℕ → Bool = marked_turn f (empties (seq f l r)) ends in
    let left_next : List ℕ = firsts r ++ (if (flags r).eps then behind else []) in
    let left_ends : ℕ → Bool = λ y. empties r y || ((flags r).eps && marked y) in
    seq_whole f l r exact next row (elim (in_cases (leaf_rows l left_next left_ends) (leaf_rows r behind marked) row h) [
      | inl k ↦ seq_left l r once behind row exact.2 (row_leaf l left_next left_ends row k)
          (rows_tell l exact.1 (distinct_left (leaves l) (leaves r) once) left_next left_ends row k)
      | inr k ↦ seq_right l r once behind row (row_leaf r behind marked row k)
          (rows_tell r exact.2 (distinct_right (leaves l) (leaves r) once) behind marked row k)
    ])
rows_tell (alt f l r) exact once next ends row h =
    let behind : List ℕ = behind_turn f (firsts (alt f l r)) next in
    let marked : ℕ → Bool = marked_turn f (empties (alt f l r)) ends in
    alt_whole f l r exact next row (elim (in_cases (leaf_rows l behind marked) (leaf_rows r behind marked) row h) [
      | inl k ↦ alt_left l r once behind row (row_leaf l behind marked row k)
          (rows_tell l exact.1 (distinct_left (leaves l) (leaves r) once) behind marked row k)
      | inr k ↦ alt_right l r once behind row (row_leaf r behind marked row k)
          (rows_tell r exact.2 (distinct_right (leaves l) (leaves r) once) behind marked row k)
    ])

-- No row of a tree of positions repeats a position.
use Rattle.std.proofs.Common.{◌≡◌, ◌⊎◌, ℕ, Bool, true, false, ◌&&◌, ◌||◌, if◌then◌else◌, List, [], ◌∷◌, ◌++◌, refl, sym, ap, ◌∙◌, subst, inl, inr}
use Rattle.rx_lang.specs.Copies.{IsItself}
use Rattle.star_normal.specs.Trees.{Flags, FlaggedTree, leaf, seq, alt, flags, leaves}
use Rattle.star_normal.specs.Shapes.{IsExact}
use Rattle.position_nfa.specs.LeafRows.{LeafRow, firsts, empties, behind_turn, marked_turn, leaf_rows}
use Rattle.position_nfa.proofs.Lists.{In, in_left, in_right, in_cases, Distinct, Apart, distinct_append, distinct_left, distinct_right, distinct_apart}
use Rattle.position_nfa.proofs.FirstLetters.{in_if, if_distinct, first_leaf, firsts_distinct}
use Rattle.position_nfa.proofs.Followed.{behind_cases}
use Rattle.position_nfa.proofs.OwnParts.{IsOwn, HasOwnBase, LoopsAreOwn, own_has_base, own_no_loop}

-- of positions behind a tree: those that are its leaves are its first positions
abbrev pub AreFirst : FlaggedTree → List ℕ → Type 0
AreFirst t next = (q : ℕ) → In next q → In (leaves t) q → In (firsts t) q

-- The positions may come behind the tree: none is a leaf of it, or it does not loop and those that are begin it.
abbrev pub Fits : FlaggedTree → List ℕ → Type 0
Fits t next = Apart next (leaves t) ⊎ (IsOwn t × AreFirst t next)

-- the same behind a turn of its top node
abbrev pub FitsTurn : FlaggedTree → List ℕ → Type 0
FitsTurn t next = Apart next (leaves t) ⊎ (HasOwnBase t × AreFirst t next)

-- ---- a turn

behind_distinct : (loops : Bool) (own next : List ℕ) → Distinct own → Distinct next → (loops ≡ true → Apart next own) → Distinct (if loops then next ++ own else next)
behind_distinct true own next a b apart = distinct_append next own b a (apart refl)
behind_distinct false own next a b apart = b

-- a tree, its flags, and what it has of its loop
module _ (t : FlaggedTree) (exact : IsExact IsItself t) (once : Distinct (leaves t)) (own_loop : (flags t).loops ≡ true → HasOwnBase t) (next : List ℕ) where
  apart_first : Apart next (leaves t) → Apart next (firsts t)
  apart_first a q i j = a q i (first_leaf t exact q j)

  loop_apart : Fits t next → (flags t).loops ≡ true → Apart next (firsts t)
  loop_apart (inl a) e = apart_first a
  loop_apart (inr h) e = let n : (flags t).loops ≡ false = own_no_loop t h.0 in cc

  pub turn_distinct : Distinct next → Fits t next → Distinct (behind_turn (flags t) (firsts t) next)
  turn_distinct d fits = behind_distinct (flags t).loops (firsts t) next (firsts_distinct t exact once) d (loop_apart fits)

  first_of : Apart next (leaves t) → (q : ℕ) → In (leaves t) q → In next q ⊎ (((flags t).loops ≡ true) × In (firsts t) q) → In (firsts t) q
  first_of a q leaf_q (inl i) = absurd (a q i leaf_q)
  first_of a q leaf_q (inr h) = h.1

  apart_by : (loops : Bool) → (flags t).loops ≡ loops → Apart next (leaves t) → FitsTurn t (behind_turn (flags t) (firsts t) next)
  apart_by true e a = inr (own_loop e, λ q i j. first_of a q j (behind_cases (flags t) (firsts t) next q i))
  apart_by false e a = inl (λ q i j. no_turn q j (behind_cases (flags t) (firsts t) next q i)) where
    no_turn : (q : ℕ) → In (leaves t) q → In next q ⊎ (((flags t).loops ≡ true) × In (firsts t) q) → ⊥
    no_turn q j (inl i) = a q i j
    no_turn q j (inr h) = let n = h.0 in cc

  own_first : IsOwn t → AreFirst t next → (q : ℕ) → In (leaves t) q → In next q ⊎ (((flags t).loops ≡ true) × In (firsts t) q) → In (firsts t) q
  own_first o first q j (inl i) = first q i j
  own_first o first q j (inr h) = h.1

  pub turn_fits : Fits t next → FitsTurn t (behind_turn (flags t) (firsts t) next)
  turn_fits (inl a) = apart_by (flags t).loops refl a
  turn_fits (inr h) = inr (own_has_base t h.0, λ q i j. own_first h.0 h.1 q j (behind_cases (flags t) (firsts t) next q i))

-- ---- the parts of a sequence

module _ (f : Flags) (l r : FlaggedTree) (el : IsExact IsItself l) (er : IsExact IsItself r) (once : Distinct (leaves l ++ leaves r)) (next : List ℕ) where
  apart : Apart (leaves l) (leaves r)
  apart = distinct_apart (leaves l) (leaves r) once

  apart_right : Apart next (leaves l ++ leaves r) → Apart next (leaves r)
  apart_right a q i j = a q i (in_right (leaves l) (leaves r) q j)

  apart_left : Apart next (leaves l ++ leaves r) → Apart next (leaves l)
  apart_left a q i j = a q i (in_left (leaves l) (leaves r) q j)

  -- a first position that is a leaf of the right part
  from_right : (q : ℕ) → In (leaves r) q → In (firsts l) q ⊎ In (if (flags l).eps then firsts r else []) q → ((flags l).eps ≡ true) × In (firsts r) q
  from_right q j (inl i) = absurd (apart q (first_leaf l el q i) j)
  from_right q j (inr i) = in_if (flags l).eps (firsts r) q i

  from_left : (q : ℕ) → In (leaves l) q → In (firsts l) q ⊎ In (if (flags l).eps then firsts r else []) q → In (firsts l) q
  from_left q j (inl i) = i
  from_left q j (inr i) = absurd (apart q j (first_leaf r er q (in_if (flags l).eps (firsts r) q i).1))

  right_first : AreFirst (seq f l r) next → (q : ℕ) → In next q → In (leaves r) q → ((flags l).eps ≡ true) × In (firsts r) q
  right_first first q i j =
      from_right q j (in_cases (firsts l) (if (flags l).eps then firsts r else []) q (first q i (in_right (leaves l) (leaves r) q j)))

  right_by : (empty : Bool) → (flags l).eps ≡ empty → HasOwnBase (seq f l r) → AreFirst (seq f l r) next → Fits r next
  right_by true e own first = inr (own.right e, λ q i j. (right_first first q i j).1)
  right_by false e own first = inl (λ q i j. let k = (right_first first q i j).0 in cc)

  pub right_fits : FitsTurn (seq f l r) next → Fits r next
  right_fits (inl a) = inl (apart_right a)
  right_fits (inr h) = right_by (flags l).eps refl h.0 h.1

  -- what comes behind the left part
  abbrev pub behind_left : List ℕ
  behind_left = firsts r ++ (if (flags r).eps then next else [])

  no_first : (flags r).eps ≡ true → FitsTurn (seq f l r) next → (q : ℕ) → In next q → In (leaves r) q → ⊥
  no_first e (inl a) q i j = apart_right a q i j
  no_first e (inr h) q i j =
      let k : (flags l).eps ≡ true = (right_first h.1 q i j).0 in
      let n : (flags r).eps ≡ false = h.0.one k in cc

  pub left_distinct : Distinct next → FitsTurn (seq f l r) next → Distinct behind_left
  left_distinct d fits = distinct_append (firsts r) (if (flags r).eps then next else [])
      (firsts_distinct r er (distinct_right (leaves l) (leaves r) once))
      (if_distinct (flags r).eps next d)
      (λ q i j. let k : ((flags r).eps ≡ true) × In next q = in_if (flags r).eps next q j in no_first k.0 fits q k.1 (first_leaf r er q i))

  behind_cases_left : (q : ℕ) → In (leaves l) q → In (firsts r) q ⊎ In (if (flags r).eps then next else []) q → ((flags r).eps ≡ true) × In next q
  behind_cases_left q j (inl i) = absurd (apart q j (first_leaf r er q i))
  behind_cases_left q j (inr i) = in_if (flags r).eps next q i

  behind_is_next : (q : ℕ) → In behind_left q → In (leaves l) q → ((flags r).eps ≡ true) × In next q
  behind_is_next q i j = behind_cases_left q j (in_cases (firsts r) (if (flags r).eps then next else []) q i)

  left_by : (empty : Bool) → (flags r).eps ≡ empty → FitsTurn (seq f l r) next → Fits l behind_left
  left_by true e (inl a) = inl (λ q i j. apart_left a q (behind_is_next q i j).1 j)
  left_by true e (inr h) = inr (
    h.0.left e,
    λ q i j.
        from_left q j (in_cases (firsts l) (if (flags l).eps then firsts r else []) q (h.1 q (behind_is_next q i j).1 (in_left (leaves l) (leaves r) q j))),
  )
  left_by false e fits = inl (λ q i j. let k = (behind_is_next q i j).0 in cc)

  pub left_fits : FitsTurn (seq f l r) next → Fits l behind_left
  left_fits fits = left_by (flags r).eps refl fits

-- ---- alternatives

module _ (f : Flags) (l r : FlaggedTree) (el : IsExact IsItself l) (er : IsExact IsItself r) (once : Distinct (leaves l ++ leaves r)) (next : List ℕ) where
  of_first : (q : ℕ) → In (leaves l) q → In (firsts l) q ⊎ In (firsts r) q → In (firsts l) q
  of_first q j (inl i) = i
  of_first q j (inr i) = absurd (distinct_apart (leaves l) (leaves r) once q j (first_leaf r er q i))

  of_second : (q : ℕ) → In (leaves r) q → In (firsts l) q ⊎ In (firsts r) q → In (firsts r) q
  of_second q j (inl i) = absurd (distinct_apart (leaves l) (leaves r) once q (first_leaf l el q i) j)
  of_second q j (inr i) = i

  pub first_fits : FitsTurn (alt f l r) next → Fits l next
  first_fits (inl a) = inl (λ q i j. a q i (in_left (leaves l) (leaves r) q j))
  first_fits (inr h) = inr (h.0.0, λ q i j. of_first q j (in_cases (firsts l) (firsts r) q (h.1 q i (in_left (leaves l) (leaves r) q j))))

  pub second_fits : FitsTurn (alt f l r) next → Fits r next
  second_fits (inl a) = inl (λ q i j. a q i (in_right (leaves l) (leaves r) q j))
  second_fits (inr h) = inr (h.0.1, λ q i j. of_second q j (in_cases (firsts l) (firsts r) q (h.1 q i (in_right (leaves l) (leaves r) q j))))

-- ---- rows

pub rows_distinct : (t : FlaggedTree) → IsExact IsItself t → LoopsAreOwn t → Distinct (leaves t) → (next : List ℕ) (ends : ℕ → Bool) → Distinct next → Fits t next
    → (row : LeafRow) → In (leaf_rows t next ends) row → Distinct row.follow
rows_distinct (leaf f p) exact own once next ends d fits row (inr h) = absurd h
rows_distinct (leaf f p) exact own once next ends d fits row (inl e) =
    subst (λ (r : LeafRow). Distinct r.follow) e (turn_distinct (leaf f p) exact once (λ e. tt) next d fits)
rows_distinct (seq f l r) exact own once next ends d fits row h =
    let behind : List ℕ = behind_turn f (firsts (seq f l r)) next in
    let marked : ℕ → Bool = marked_turn f (empties (seq f l r)) ends in
    let left_next : List ℕ = firsts r ++ (if (flags r).eps then behind else []) in
    let left_ends : ℕ → Bool = λ y. empties r y || ((flags r).eps && marked y) in
    let turn : FitsTurn (seq f l r) behind = turn_fits (seq f l r) exact once own.0 next fits in
    let distinct : Distinct behind = turn_distinct (seq f l r) exact once own.0 next d fits in
    elim (in_cases (leaf_rows l left_next left_ends) (leaf_rows r behind marked) row h) [
      | inl k ↦ rows_distinct l exact.1 own.1 (distinct_left (leaves l) (leaves r) once) left_next left_ends
          (left_distinct f l r exact.1 exact.2 once behind distinct turn) (left_fits f l r exact.1 exact.2 once behind turn) row k
      | inr k ↦ rows_distinct r exact.2 own.2 (distinct_right (leaves l) (leaves r) once) behind marked distinct
          (right_fits f l r exact.1 exact.2 once behind turn) row k
    ]
rows_distinct (alt f l r) exact own once next ends d fits row h =
    let behind : List ℕ = behind_turn f (firsts (alt f l r)) next in
    let marked : ℕ → Bool = marked_turn f (empties (alt f l r)) ends in
    let turn : FitsTurn (alt f l r) behind = turn_fits (alt f l r) exact once own.0 next fits in
    let distinct : Distinct behind = turn_distinct (alt f l r) exact once own.0 next d fits in
    elim (in_cases (leaf_rows l behind marked) (leaf_rows r behind marked) row h) [
      | inl k ↦ rows_distinct l exact.1 own.1 (distinct_left (leaves l) (leaves r) once) behind marked distinct
          (first_fits f l r exact.1 exact.2 once behind turn) row k
      | inr k ↦ rows_distinct r exact.2 own.2 (distinct_right (leaves l) (leaves r) once) behind marked distinct
          (second_fits f l r exact.1 exact.2 once behind turn) row k
    ]

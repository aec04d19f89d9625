-- The rows of a tree of positions show exactly the outputs that are marked.
use Rattle.std.proofs.Common.{◌≡◌, ◌≢◌, ◌⊎◌, ◌↔◌, ℕ, Bool, true, false, ◌&&◌, ◌||◌, if◌then◌else◌, IsTrue, List, [], ◌∷◌, ◌++◌, refl, sym, ap, ◌∙◌, subst, inl, inr, append-nil}
use Rattle.std.proofs.lemmas.Bool.{or_cases, or_left, or_right, and_parts, and_from}
use Rattle.rx_lang.specs.Meaning.{Cut, Many, none, more}
use Rattle.rx_lang.specs.Copies.{IsItself}
use Rattle.rx_lang.specs.Positions.{BeginsWith, EndsWith, HasPair}
use Rattle.star_normal.specs.Trees.{Flags, FlaggedTree, leaf, seq, alt, flags, leaves, Words, Starts, Inside, Ends, Letter, TreeSpells, TreeMarks}
use Rattle.star_normal.specs.Shapes.{IsExact}
use Rattle.position_nfa.specs.LeafRows.{LeafRow, firsts, empties, behind_turn, marked_turn, leaf_rows}
use Rattle.position_nfa.proofs.Lists.{In, in_left, in_right, in_cases, Distinct, distinct_left, distinct_right, distinct_apart}
use Rattle.position_nfa.proofs.Letters.{HasWord, none_left, full_end, one_turn, ends_cut, ends_first, ends_second, ends_many, node_ends, ends_node}
use Rattle.position_nfa.proofs.FirstLetters.{Spelled, top_exact, has_word, ends_leaf, word_letters, many_letters, node_letters, cut_letters, either_letters}
use Rattle.position_nfa.proofs.Followed.{Both, Either, row_leaf, left_alone}

-- the words that a tree of positions marks
abbrev pub Marked : FlaggedTree → ℕ → List ℕ → Type 0
Marked t y = TreeMarks IsItself t y

-- ---- all letters of marked words are leaves

module _ (S : ℕ → Type 0) (B M : List ℕ → Type 0) (f : Flags) (y : ℕ)
    (each : (u : List ℕ) (x : ℕ) → B u → In u x → S x) (mark : (u : List ℕ) (x : ℕ) → M u → In u x → S x) where
  inside_letters : (loops : Bool) (u : List ℕ) (x : ℕ) → Inside loops B M u → In u x → S x
  inside_letters true u x c i =
      elim (in_cases c.front c.rest x (subst (λ z. In z x) c.whole i)) [ inl j ↦ many_letters S B each c.front x c.first j | inr j ↦ mark c.rest x c.second j ]
  inside_letters false u x m i = mark u x m i

  starts_letters : (loops : Bool) (u : List ℕ) (x : ℕ) → Starts loops B u → In u x → S x
  starts_letters true u x m i = many_letters S B each u x m i
  starts_letters false u x e i = absurd (subst (λ w. In w x) e i)

  ends_letters : (u : List ℕ) (x : ℕ) → Ends f B M y u → In u x → S x
  ends_letters u x (inl h) i = inside_letters f.loops u x h i
  ends_letters u x (inr (inl h)) i = node_letters S B each f u x h.2 i
  ends_letters u x (inr (inr h)) i = starts_letters f.loops u x h.1 i

letter_leaf : (s : ℕ) (u : List ℕ) (x : ℕ) → Letter IsItself s u → In u x → In (s ∷ []) x
letter_leaf s u x h i = letter_one h.0 h.2 (subst (λ z. In z x) h.1 i) where
  letter_one : (z : ℕ) → s ≡ z → In (z ∷ []) x → In (s ∷ []) x
  letter_one z e (inl k) = inl (e ∙ k)
  letter_one z e (inr k) = absurd k

marks_in_cut : (L ML MR : List ℕ → Type 0) (ls rs : List ℕ) → ((u : List ℕ) (x : ℕ) → L u → In u x → In ls x)
    → ((u : List ℕ) (x : ℕ) → ML u → In u x → In ls x) → ((u : List ℕ) (x : ℕ) → MR u → In u x → In rs x)
    → (u : List ℕ) (x : ℕ) → ML u ⊎ Cut L MR u → In u x → In (ls ++ rs) x
marks_in_cut L ML MR ls rs a b c u x (inl h) i = in_left ls rs x (b u x h i)
marks_in_cut L ML MR ls rs a b c u x (inr h) i = cut_letters ls rs L MR a c u x h i

pub mark_letters : (t : FlaggedTree) (y : ℕ) (u : List ℕ) (x : ℕ) → Marked t y u → In u x → In (leaves t) x
mark_letters (leaf f s) y u x h i = ends_letters (λ z. In (s ∷ []) z) (Letter IsItself s) (λ w. ⊥) f y (letter_leaf s) (λ v z m j. absurd m) u x h i
mark_letters (seq f l r) y u x h i = ends_letters (λ z. In (leaves l ++ leaves r) z) (Both l r) (λ w. Marked l y w ⊎ Cut (Spelled l) (Marked r y) w) f y
    (cut_letters (leaves l) (leaves r) (Spelled l) (Spelled r) (word_letters l) (word_letters r))
    (marks_in_cut (Spelled l) (Marked l y) (Marked r y) (leaves l) (leaves r) (word_letters l) (λ v z m j. mark_letters l y v z m j) (λ v z m j. mark_letters r y v z m j))
    u x h i
mark_letters (alt f l r) y u x h i = ends_letters (λ z. In (leaves l ++ leaves r) z) (Either l r) (λ w. Marked l y w ⊎ Marked r y w) f y
    (either_letters (Spelled l) (Spelled r) (leaves l) (leaves r) (word_letters l) (word_letters r))
    (either_letters (Marked l y) (Marked r y) (leaves l) (leaves r) (λ v z m j. mark_letters l y v z m j) (λ v z m j. mark_letters r y v z m j))
    u x h i

pub mark_leaf : (t : FlaggedTree) (y p : ℕ) → EndsWith (Marked t y) p → In (leaves t) p
mark_leaf t y p h = mark_letters t y (h.0 ++ p ∷ []) p h.1 (in_right h.0 (p ∷ []) p (inl refl))

-- ---- the empty word

abbrev pub Says : Bool → Type 0 → Type 0
Says b P = (b ≡ true → P) × (P → b ≡ true)

module _ (B M : List ℕ → Type 0) where
  inside_now : (loops : Bool) (u : List ℕ) → M u → Inside loops B M u
  inside_now true u m = record { front = []; rest = u; whole = refl; first = none [] refl; second = m }
  inside_now false u m = m

  inside_empty : (loops : Bool) → Inside loops B M [] → M []
  inside_empty true c = subst M (none_left c.front c.rest c.whole).1 c.second
  inside_empty false m = m

  starts_now : (loops : Bool) → Starts loops B []
  starts_now true = none [] refl
  starts_now false = refl

  module _ (f : Flags) (y : ℕ) (within : Bool) (says : Says within (M [])) where
    empty_to : (within ≡ true) ⊎ (f.eps_marks y ≡ true) → Ends f B M y []
    empty_to (inl e) = inl (inside_now f.loops [] (says.0 e))
    empty_to (inr e) = inr (inr (e, starts_now f.loops))

    empty_from : Ends f B M y [] → (within || f.eps_marks y) ≡ true
    empty_from (inl h) = or_left within (f.eps_marks y) (says.1 (inside_empty f.loops h))
    empty_from (inr (inl h)) = absurd (h.1 refl)
    empty_from (inr (inr h)) = or_right within (f.eps_marks y) h.0

    node_empty : Says (within || f.eps_marks y) (Ends f B M y [])
    node_empty = (λ e. empty_to (or_cases within (f.eps_marks y) e), empty_from)

cut_empty : (L ML MR : List ℕ → Type 0) (a e b : Bool) → Says a (ML []) → Says e (L []) → Says b (MR []) → Says (a || (e && b)) (ML [] ⊎ Cut L MR [])
cut_empty L ML MR a e b sa se sb = (λ h. to (or_cases a (e && b) h), from) where
  both : (e ≡ true) × (b ≡ true) → Cut L MR []
  both h = record { front = []; rest = []; whole = refl; first = se.0 h.0; second = sb.0 h.1 }

  to : (a ≡ true) ⊎ ((e && b) ≡ true) → ML [] ⊎ Cut L MR []
  to (inl h) = inl (sa.0 h)
  to (inr h) = inr (both (and_parts e b h))

  from : ML [] ⊎ Cut L MR [] → (a || (e && b)) ≡ true
  from (inl h) = or_left a (e && b) (sa.1 h)
  from (inr c) = or_right a (e && b) (and_from e b (se.1 (subst L (none_left c.front c.rest c.whole).0 c.first)) (sb.1 (subst MR (none_left c.front c.rest c.whole).1 c.second)))

either_empty : (P Q : Type 0) (a b : Bool) → Says a P → Says b Q → Says (a || b) (P ⊎ Q)
either_empty P Q a b sa sb = (λ h. to (or_cases a b h), from) where
  to : (a ≡ true) ⊎ (b ≡ true) → P ⊎ Q
  to (inl h) = inl (sa.0 h)
  to (inr h) = inr (sb.0 h)

  from : P ⊎ Q → (a || b) ≡ true
  from (inl h) = or_left a b (sa.1 h)
  from (inr h) = or_right a b (sb.1 h)

-- what the base of a tree marks for the empty word
abbrev pub within : FlaggedTree → ℕ → Bool
within (leaf f s) y = false
within (seq f l r) y = empties l y || ((flags l).eps && empties r y)
within (alt f l r) y = empties l y || empties r y

leaf_empty : (b : Bool) → b ≡ true → (false || b) ≡ true
leaf_empty b e = or_right false b e

pub empties_say : (t : FlaggedTree) → IsExact IsItself t → (y : ℕ) → Says (empties t y) (Marked t y [])
empties_say (leaf f s) exact y =
    let n : Says (false || f.eps_marks y) (Ends f (Letter IsItself s) (λ w. ⊥) y []) =
    node_empty (Letter IsItself s) (λ w. ⊥) f y false ((λ e. cc), λ m. absurd m) in
    (λ e. n.0 (leaf_empty (f.eps_marks y) e), λ m. unpadded (f.eps_marks y) (n.1 m))
  where
    unpadded : (b : Bool) → (false || b) ≡ true → b ≡ true
    unpadded true h = refl
    unpadded false h = h
empties_say (seq f l r) exact y = node_empty (Both l r) (λ w. Marked l y w ⊎ Cut (Spelled l) (Marked r y) w) f y (within (seq f l r) y)
    (cut_empty (Spelled l) (Marked l y) (Marked r y) (empties l y) (flags l).eps (empties r y) (empties_say l exact.1 y) (top_exact l exact.1) (empties_say r exact.2 y))
empties_say (alt f l r) exact y = node_empty (Either l r) (λ w. Marked l y w ⊎ Marked r y w) f y (within (alt f l r) y)
    (either_empty (Marked l y []) (Marked r y []) (empties l y) (empties r y) (empties_say l exact.1 y) (empties_say r exact.2 y))

-- ---- rows

-- A position shows exactly these outputs: those of the words of M that end in it, and, where it ends one of P, those at the end.
pub record Shows (P M : List ℕ → Type 0) (end : Bool) (p : ℕ) (mark : Bool) : Type 0 where
  pub to : mark ≡ true → EndsWith M p ⊎ (EndsWith P p × (end ≡ true))
  pub from : EndsWith M p ⊎ (EndsWith P p × (end ≡ true)) → mark ≡ true

-- from the base of a node to the node
module _ (f : Flags) (B M : List ℕ → Type 0) (y : ℕ) (inner : Bool) (says : Says inner (M [])) (end : Bool) (p : ℕ) (mark : Bool) where
  abbrev pub own : Bool
  own = inner || f.eps_marks y

  -- what is marked where a turn ends
  abbrev pub turn : Bool
  turn = (end || f.marks y) || (f.loops && own)

  loop_inside : (loops : Bool) (u : List ℕ) → loops ≡ true → B u → M [] → u ≢ [] → Inside loops B M u
  loop_inside true u e b m ne = record {
    front = u;
    rest = [];
    whole = sym (append-nil u);
    first = more u u [] (sym (append-nil u)) ne b (none [] refl);
    second = m;
  }
  loop_inside false u e b m ne = cc

  loop_starts : (loops : Bool) (u : List ℕ) → loops ≡ true → B u → u ≢ [] → Starts loops B u
  loop_starts true u e b ne = more u u [] (sym (append-nil u)) ne b (none [] refl)
  loop_starts false u e b ne = cc

  not_empty : (front : List ℕ) → front ++ p ∷ [] ≢ []
  not_empty front e = full_end B front p e

  by_own : f.loops ≡ true → EndsWith B p → (inner ≡ true) ⊎ (f.eps_marks y ≡ true) → EndsWith (Ends f B M y) p
  by_own loop h (inl e) = (h.0, inl (loop_inside f.loops (h.0 ++ p ∷ []) loop h.1 (says.0 e) (not_empty h.0)))
  by_own loop h (inr e) = (h.0, inr (inr (e, loop_starts f.loops (h.0 ++ p ∷ []) loop h.1 (not_empty h.0))))

  by_mark : EndsWith B p → f.marks y ≡ true → EndsWith (Ends f B M y) p
  by_mark h e = (h.0, inr (inl (e, not_empty h.0, inr (one_turn B f.loops (h.0 ++ p ∷ []) h.1))))

  by_end : EndsWith B p → (end ≡ true) ⊎ (f.marks y ≡ true) → EndsWith (Ends f B M y) p ⊎ (EndsWith (Words f B) p × (end ≡ true))
  by_end h (inl e) = inr (ends_node B f p h, e)
  by_end h (inr e) = inl (by_mark h e)

  by_loop : EndsWith B p → (f.loops ≡ true) × (own ≡ true) → EndsWith (Ends f B M y) p
  by_loop h e = by_own e.0 h (or_cases inner (f.eps_marks y) e.1)

  by_turn : EndsWith B p → ((end || f.marks y) ≡ true) ⊎ ((f.loops && own) ≡ true) → EndsWith (Ends f B M y) p ⊎ (EndsWith (Words f B) p × (end ≡ true))
  by_turn h (inl e) = by_end h (or_cases end (f.marks y) e)
  by_turn h (inr e) = inl (by_loop h (and_parts f.loops own e))

  node_to : EndsWith M p ⊎ (EndsWith B p × (turn ≡ true)) → EndsWith (Ends f B M y) p ⊎ (EndsWith (Words f B) p × (end ≡ true))
  node_to (inl h) = inl (h.0, inl (inside_now B M f.loops (h.0 ++ p ∷ []) h.1))
  node_to (inr h) = by_turn h.0 (or_cases (end || f.marks y) (f.loops && own) h.1)

  abbrev pub Told : Type 0
  Told = EndsWith M p ⊎ (EndsWith B p × (turn ≡ true))

  own_told : f.loops ≡ true → own ≡ true → turn ≡ true
  own_told loop e = or_right (end || f.marks y) (f.loops && own) (and_from f.loops own loop e)

  cut_told : f.loops ≡ true → (EndsWith (Many B) p × M []) ⊎ EndsWith M p → Told
  cut_told loop (inl h) = inr (ends_many B p h.0, own_told loop (or_left inner (f.eps_marks y) (says.1 h.1)))
  cut_told loop (inr h) = inl h

  inside_told : (loops : Bool) → f.loops ≡ loops → (front : List ℕ) → Inside loops B M (front ++ p ∷ []) → Told
  inside_told true loop front c = cut_told loop (ends_cut (Many B) M p (front, c))
  inside_told false loop front m = inl (front, m)

  starts_told : (loops : Bool) → f.loops ≡ loops → (front : List ℕ) → f.eps_marks y ≡ true → Starts loops B (front ++ p ∷ []) → Told
  starts_told true loop front e m = inr (ends_many B p (front, m), own_told loop (or_right inner (f.eps_marks y) e))
  starts_told false loop front e n = absurd (full_end B front p n)

  mark_told : (front : List ℕ) → Ends f B M y (front ++ p ∷ []) → Told
  mark_told front (inl h) = inside_told f.loops refl front h
  mark_told front (inr (inl h)) = inr (node_ends B f p (front, h.2), or_left (end || f.marks y) (f.loops && own) (or_right end (f.marks y) h.0))
  mark_told front (inr (inr h)) = starts_told f.loops refl front h.0 h.1

  node_from : EndsWith (Ends f B M y) p ⊎ (EndsWith (Words f B) p × (end ≡ true)) → Told
  node_from (inl h) = mark_told h.0 h.1
  node_from (inr h) = inr (node_ends B f p h.0, or_left (end || f.marks y) (f.loops && own) (or_left end (f.marks y) h.1))

  pub node_shows : Shows B M turn p mark → Shows (Words f B) (Ends f B M y) end p mark
  node_shows s = record { to = λ h. node_to (s.to h); from = λ h. s.from (node_from h) }

-- a position of the left part of a sequence
module _ (L R ML MR : List ℕ → Type 0) (empty : Bool) (null : Says empty (R [])) (passed : Bool) (pass : Says passed (MR [])) (end : Bool) (p : ℕ) (mark : Bool)
    (no_end : EndsWith R p → ⊥) (no_mark : EndsWith MR p → ⊥) where
  abbrev pub Within : List ℕ → Type 0
  Within w = ML w ⊎ Cut L MR w

  abbrev pub LeftTold : Type 0
  LeftTold = EndsWith ML p ⊎ (EndsWith L p × ((passed || (empty && end)) ≡ true))

  abbrev pub LeftWhole : Type 0
  LeftWhole = EndsWith Within p ⊎ (EndsWith (Cut L R) p × (end ≡ true))

  second_mark : EndsWith (Cut L MR) p → EndsWith Within p
  second_mark h = (h.0, inr h.1)

  left_both : EndsWith L p → (empty ≡ true) × (end ≡ true) → EndsWith (Cut L R) p × (end ≡ true)
  left_both h e = (ends_first L R p (null.0 e.0) h, e.1)

  left_end : EndsWith L p → (passed ≡ true) ⊎ ((empty && end) ≡ true) → LeftWhole
  left_end h (inl e) = inl (second_mark (ends_first L MR p (pass.0 e) h))
  left_end h (inr e) = inr (left_both h (and_parts empty end e))

  left_to : LeftTold → LeftWhole
  left_to (inl h) = inl (h.0, inl h.1)
  left_to (inr h) = left_end h.0 (or_cases passed (empty && end) h.1)

  left_cut : (EndsWith L p × MR []) ⊎ EndsWith MR p → LeftTold
  left_cut (inl h) = inr (h.0, or_left passed (empty && end) (pass.1 h.1))
  left_cut (inr h) = absurd (no_mark h)

  left_word : (front : List ℕ) → ML (front ++ p ∷ []) ⊎ Cut L MR (front ++ p ∷ []) → LeftTold
  left_word front (inl m) = inl (front, m)
  left_word front (inr c) = left_cut (ends_cut L MR p (front, c))

  left_ends : end ≡ true → (EndsWith L p × R []) ⊎ EndsWith R p → LeftTold
  left_ends e (inl h) = inr (h.0, or_right passed (empty && end) (and_from empty end (null.1 h.1) e))
  left_ends e (inr h) = absurd (no_end h)

  left_from : LeftWhole → LeftTold
  left_from (inl h) = left_word h.0 h.1
  left_from (inr h) = left_ends h.1 (ends_cut L R p h.0)

  pub left_shows : Shows L ML (passed || (empty && end)) p mark → Shows (Cut L R) Within end p mark
  left_shows s = record { to = λ h. left_to (s.to h); from = λ h. s.from (left_from h) }

-- a position of the right part
module _ (L R ML MR : List ℕ → Type 0) (some : HasWord L) (end : Bool) (p : ℕ) (mark : Bool) (no_end : EndsWith L p → ⊥) (no_mark : EndsWith ML p → ⊥) where
  abbrev pub RightTold : Type 0
  RightTold = EndsWith MR p ⊎ (EndsWith R p × (end ≡ true))

  abbrev pub RightWhole : Type 0
  RightWhole = EndsWith (λ w. ML w ⊎ Cut L MR w) p ⊎ (EndsWith (Cut L R) p × (end ≡ true))

  in_cut : EndsWith (Cut L MR) p → EndsWith (λ w. ML w ⊎ Cut L MR w) p
  in_cut h = (h.0, inr h.1)

  right_to : RightTold → RightWhole
  right_to (inl h) = inl (in_cut (ends_second L MR p some h))
  right_to (inr h) = inr (ends_second L R p some h.0, h.1)

  right_cut : (EndsWith L p × MR []) ⊎ EndsWith MR p → RightTold
  right_cut (inl h) = absurd (no_end h.0)
  right_cut (inr h) = inl h

  right_word : (front : List ℕ) → ML (front ++ p ∷ []) ⊎ Cut L MR (front ++ p ∷ []) → RightTold
  right_word front (inl m) = absurd (no_mark (front, m))
  right_word front (inr c) = right_cut (ends_cut L MR p (front, c))

  right_ends : end ≡ true → (EndsWith L p × R []) ⊎ EndsWith R p → RightTold
  right_ends e (inl h) = absurd (no_end h.0)
  right_ends e (inr h) = inr (h, e)

  right_from : RightWhole → RightTold
  right_from (inl h) = right_word h.0 h.1
  right_from (inr h) = right_ends h.1 (ends_cut L R p h.0)

  pub right_shows : Shows R MR end p mark → Shows (Cut L R) (λ w. ML w ⊎ Cut L MR w) end p mark
  right_shows s = record { to = λ h. right_to (s.to h); from = λ h. s.from (right_from h) }

-- a position of one of two parts
module _ (L R ML MR : List ℕ → Type 0) (end : Bool) (p : ℕ) (mark : Bool) where
  first_end : (EndsWith R p → ⊥) → (front : List ℕ) → L (front ++ p ∷ []) ⊎ R (front ++ p ∷ []) → EndsWith L p
  first_end off front (inl h) = (front, h)
  first_end off front (inr h) = absurd (off (front, h))

  pub first_shows : (EndsWith R p → ⊥) → (EndsWith MR p → ⊥) → Shows L ML end p mark → Shows (λ w. L w ⊎ R w) (λ w. ML w ⊎ MR w) end p mark
  first_shows off no_mark s = record { to = λ h. to (s.to h); from = λ h. s.from (from h) } where
    to : EndsWith ML p ⊎ (EndsWith L p × (end ≡ true)) → EndsWith (λ w. ML w ⊎ MR w) p ⊎ (EndsWith (λ w. L w ⊎ R w) p × (end ≡ true))
    to (inl h) = inl (h.0, inl h.1)
    to (inr h) = inr ((h.0.0, inl h.0.1), h.1)

    word : (front : List ℕ) → ML (front ++ p ∷ []) ⊎ MR (front ++ p ∷ []) → EndsWith ML p
    word front (inl h) = (front, h)
    word front (inr h) = absurd (no_mark (front, h))

    from : EndsWith (λ w. ML w ⊎ MR w) p ⊎ (EndsWith (λ w. L w ⊎ R w) p × (end ≡ true)) → EndsWith ML p ⊎ (EndsWith L p × (end ≡ true))
    from (inl h) = inl (word h.0 h.1)
    from (inr h) = inr (first_end off h.0.0 h.0.1, h.1)

  second_end : (EndsWith L p → ⊥) → (front : List ℕ) → L (front ++ p ∷ []) ⊎ R (front ++ p ∷ []) → EndsWith R p
  second_end off front (inr h) = (front, h)
  second_end off front (inl h) = absurd (off (front, h))

  pub second_shows : (EndsWith L p → ⊥) → (EndsWith ML p → ⊥) → Shows R MR end p mark → Shows (λ w. L w ⊎ R w) (λ w. ML w ⊎ MR w) end p mark
  second_shows off no_mark s = record { to = λ h. to (s.to h); from = λ h. s.from (from h) } where
    to : EndsWith MR p ⊎ (EndsWith R p × (end ≡ true)) → EndsWith (λ w. ML w ⊎ MR w) p ⊎ (EndsWith (λ w. L w ⊎ R w) p × (end ≡ true))
    to (inl h) = inl (h.0, inr h.1)
    to (inr h) = inr ((h.0.0, inr h.0.1), h.1)

    word : (front : List ℕ) → ML (front ++ p ∷ []) ⊎ MR (front ++ p ∷ []) → EndsWith MR p
    word front (inr h) = (front, h)
    word front (inl h) = absurd (no_mark (front, h))

    from : EndsWith (λ w. ML w ⊎ MR w) p ⊎ (EndsWith (λ w. L w ⊎ R w) p × (end ≡ true)) → EndsWith MR p ⊎ (EndsWith R p × (end ≡ true))
    from (inl h) = inl (word h.0 h.1)
    from (inr h) = inr (second_end off h.0.0 h.0.1, h.1)

-- a leaf: nothing is marked within it
leaf_shows : (f : Flags) (p y : ℕ) (end : Bool) → Shows (Letter IsItself p) (λ w. ⊥) end p end
leaf_shows f p y end = record { to = λ h. inr (([], (p, refl, refl)), h); from = from } where
  from : EndsWith (λ w. ⊥) p ⊎ (EndsWith (Letter IsItself p) p × (end ≡ true)) → end ≡ true
  from (inl h) = absurd h.1
  from (inr h) = h.1

-- Each row shows the outputs that are marked at its position.
pub rows_show : (t : FlaggedTree) → IsExact IsItself t → Distinct (leaves t) → (next : List ℕ) (ends : ℕ → Bool) (row : LeafRow) (y : ℕ)
    → In (leaf_rows t next ends) row → Shows (Spelled t) (Marked t y) (ends y) row.position (row.marks y)
rows_show (leaf f p) exact once next ends row y (inr h) = absurd h
rows_show (leaf f p) exact once next ends row y (inl e) =
    subst (λ (r : LeafRow). Shows (Spelled (leaf f p)) (Marked (leaf f p) y) (ends y) r.position (r.marks y)) e
    (node_shows f (Letter IsItself p) (λ w. ⊥) y false ((λ e. cc), λ m. absurd m) (ends y) p (marked_turn f f.eps_marks ends y)
    (leaf_shows f p y (marked_turn f f.eps_marks ends y)))
rows_show (seq f l r) exact once next ends row y h =
    let behind : List ℕ = behind_turn f (firsts (seq f l r)) next in
    let marked : ℕ → Bool = marked_turn f (empties (seq f l r)) ends in
    let left_next : List ℕ = firsts r ++ (if (flags r).eps then behind else []) in
    let left_ends : ℕ → Bool = λ y. empties r y || ((flags r).eps && marked y) in
    node_shows f (Both l r) (λ w. Marked l y w ⊎ Cut (Spelled l) (Marked r y) w) y (within (seq f l r) y)
    (cut_empty (Spelled l) (Marked l y) (Marked r y) (empties l y) (flags l).eps (empties r y) (empties_say l exact.1 y) (top_exact l exact.1) (empties_say r exact.2 y))
    (ends y) row.position (row.marks y) (elim (in_cases (leaf_rows l left_next left_ends) (leaf_rows r behind marked) row h) [
      | inl k ↦ left_shows (Spelled l) (Spelled r) (Marked l y) (Marked r y) (flags r).eps (top_exact r exact.2) (empties r y) (empties_say r exact.2 y) (marked y) row.position (row.marks y)
          (λ e. left_alone l r once row.position (row_leaf l left_next left_ends row k) (ends_leaf r row.position e))
          (λ e. left_alone l r once row.position (row_leaf l left_next left_ends row k) (mark_leaf r y row.position e))
          (rows_show l exact.1 (distinct_left (leaves l) (leaves r) once) left_next left_ends row y k)
      | inr k ↦ right_shows (Spelled l) (Spelled r) (Marked l y) (Marked r y) (has_word l) (marked y) row.position (row.marks y)
          (λ e. left_alone l r once row.position (ends_leaf l row.position e) (row_leaf r behind marked row k))
          (λ e. left_alone l r once row.position (mark_leaf l y row.position e) (row_leaf r behind marked row k))
          (rows_show r exact.2 (distinct_right (leaves l) (leaves r) once) behind marked row y k)
    ])
rows_show (alt f l r) exact once next ends row y h =
    let behind : List ℕ = behind_turn f (firsts (alt f l r)) next in
    let marked : ℕ → Bool = marked_turn f (empties (alt f l r)) ends in
    node_shows f (Either l r) (λ w. Marked l y w ⊎ Marked r y w) y (within (alt f l r) y)
    (either_empty (Marked l y []) (Marked r y []) (empties l y) (empties r y) (empties_say l exact.1 y) (empties_say r exact.2 y))
    (ends y) row.position (row.marks y) (elim (in_cases (leaf_rows l behind marked) (leaf_rows r behind marked) row h) [
      | inl k ↦ first_shows (Spelled l) (Spelled r) (Marked l y) (Marked r y) (marked y) row.position (row.marks y)
          (λ e. left_alone l r once row.position (row_leaf l behind marked row k) (ends_leaf r row.position e))
          (λ e. left_alone l r once row.position (row_leaf l behind marked row k) (mark_leaf r y row.position e))
          (rows_show l exact.1 (distinct_left (leaves l) (leaves r) once) behind marked row y k)
      | inr k ↦ second_shows (Spelled l) (Spelled r) (Marked l y) (Marked r y) (marked y) row.position (row.marks y)
          (λ e. left_alone l r once row.position (ends_leaf l row.position e) (row_leaf r behind marked row k))
          (λ e. left_alone l r once row.position (mark_leaf l y row.position e) (row_leaf r behind marked row k))
          (rows_show r exact.2 (distinct_right (leaves l) (leaves r) once) behind marked row y k)
    ])

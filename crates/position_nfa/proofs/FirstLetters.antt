-- What the trees of positions spell: their letters are their leaves, and their first positions begin their words.
use Rattle.std.proofs.Common.{◌≡◌, ◌≢◌, ◌⊎◌, ◌↔◌, ℕ, Bool, true, false, if◌then◌else◌, List, [], ◌∷◌, ◌++◌, refl, sym, ap, ◌∙◌, subst, inl, inr}
use Rattle.std.specs.Prelude.{Decides}
use Rattle.rx_lang.specs.Meaning.{Cut, Many, none, more}
use Rattle.rx_lang.specs.Copies.{IsItself}
use Rattle.rx_lang.specs.Positions.{BeginsWith, EndsWith, HasPair}
use Rattle.star_normal.specs.Trees.{Flags, FlaggedTree, leaf, seq, alt, flags, leaves, Turns, Words, Letter, TreeSpells}
use Rattle.star_normal.specs.Shapes.{IsExact}
use Rattle.position_nfa.specs.LeafRows.{firsts}
use Rattle.position_nfa.proofs.Lists.{In, in_left, in_right, in_cases, Distinct, distinct_append, distinct_left, distinct_right, distinct_apart}
use Rattle.position_nfa.proofs.Letters.{HasWord, one_turn, begins_cut, begins_first, begins_second, node_begins, begins_node}

-- the words of a tree of positions
abbrev pub Spelled : FlaggedTree → List ℕ → Type 0
Spelled t = TreeSpells IsItself t

-- what stands in a list that may be empty

pub in_if : (b : Bool) (xs : List ℕ) (x : ℕ) → In (if b then xs else []) x → (b ≡ true) × In xs x
in_if true xs x h = (refl, h)
in_if false xs x h = absurd h

pub if_in : (b : Bool) (xs : List ℕ) (x : ℕ) → b ≡ true → In xs x → In (if b then xs else []) x
if_in true xs x e h = h
if_in false xs x e h = cc

-- the flag of the empty word

pub top_exact : (t : FlaggedTree) → IsExact IsItself t → Decides (flags t).eps (Spelled t [])
top_exact (leaf f s) h = h
top_exact (seq f l r) h = h.0
top_exact (alt f l r) h = h.0

-- each tree has a word

pub has_word : (t : FlaggedTree) → HasWord (Spelled t)
has_word (leaf f s) = (s ∷ [], inr (one_turn (Letter IsItself s) f.loops (s ∷ []) (s, refl, refl)))
has_word (seq f l r) =
    let a : HasWord (Spelled l) = has_word l in
    let b : HasWord (Spelled r) = has_word r in
    (a.0 ++ b.0, inr (one_turn (Cut (Spelled l) (Spelled r)) f.loops (a.0 ++ b.0) (record { front = a.0; rest = b.0; whole = refl; first = a.1; second = b.1 })))
has_word (alt f l r) =
    let a : HasWord (Spelled l) = has_word l in
    (a.0, inr (one_turn (λ w. Spelled l w ⊎ Spelled r w) f.loops a.0 (inl a.1)))

-- ---- all letters are leaves

module _ (S : ℕ → Type 0) (B : List ℕ → Type 0) (each : (u : List ℕ) (x : ℕ) → B u → In u x → S x) where
  pub many_letters : (u : List ℕ) (x : ℕ) → Many B u → In u x → S x
  many_letters _ x (none u e) i = absurd (subst (λ w. In w x) e i)
  many_letters _ x (more u v w e ne b m) i =
      elim (in_cases v w x (subst (λ z. In z x) e i)) [ inl j ↦ each v x b j | inr j ↦ many_letters w x m j ]

  turn_letters : (loops : Bool) (u : List ℕ) (x : ℕ) → Turns loops B u → In u x → S x
  turn_letters true u x c i =
      elim (in_cases c.front c.rest x (subst (λ z. In z x) c.whole i)) [ inl j ↦ each c.front x c.first j | inr j ↦ many_letters c.rest x c.second j ]
  turn_letters false u x b i = each u x b i

  pub node_letters : (f : Flags) (u : List ℕ) (x : ℕ) → Words f B u → In u x → S x
  node_letters f u x (inl h) i = absurd (subst (λ w. In w x) h.1 i)
  node_letters f u x (inr t) i = turn_letters f.loops u x t i

letter_one : (s y x : ℕ) → s ≡ y → In (y ∷ []) x → In (s ∷ []) x
letter_one s y x e (inl h) = inl (e ∙ h)
letter_one s y x e (inr h) = absurd h

letter_leaf : (s : ℕ) (u : List ℕ) (x : ℕ) → Letter IsItself s u → In u x → In (s ∷ []) x
letter_leaf s u x h i = letter_one s h.0 x h.2 (subst (λ z. In z x) h.1 i)

module _ (ls rs : List ℕ) where
  pub cut_letters : (P Q : List ℕ → Type 0) → ((v : List ℕ) (y : ℕ) → P v → In v y → In ls y) → ((v : List ℕ) (y : ℕ) → Q v → In v y → In rs y)
      → (v : List ℕ) (y : ℕ) → Cut P Q v → In v y → In (ls ++ rs) y
  cut_letters P Q left right v y c i = elim (in_cases c.front c.rest y (subst (λ z. In z y) c.whole i)) [
    | inl k ↦ in_left ls rs y (left c.front y c.first k)
    | inr k ↦ in_right ls rs y (right c.rest y c.second k)
  ]

pub either_letters : (P Q : List ℕ → Type 0) (ls rs : List ℕ) → ((v : List ℕ) (y : ℕ) → P v → In v y → In ls y) → ((v : List ℕ) (y : ℕ) → Q v → In v y → In rs y)
    → (v : List ℕ) (y : ℕ) → P v ⊎ Q v → In v y → In (ls ++ rs) y
either_letters P Q ls rs left right v y (inl a) i = in_left ls rs y (left v y a i)
either_letters P Q ls rs left right v y (inr b) i = in_right ls rs y (right v y b i)

pub word_letters : (t : FlaggedTree) (u : List ℕ) (x : ℕ) → Spelled t u → In u x → In (leaves t) x
word_letters (leaf f s) u x h i = node_letters (λ y. In (s ∷ []) y) (Letter IsItself s) (letter_leaf s) f u x h i
word_letters (seq f l r) u x h i = node_letters (λ y. In (leaves l ++ leaves r) y) (Cut (Spelled l) (Spelled r))
    (cut_letters (leaves l) (leaves r) (Spelled l) (Spelled r) (λ v y a j. word_letters l v y a j) (λ v y b j. word_letters r v y b j)) f u x h i
word_letters (alt f l r) u x h i = node_letters (λ y. In (leaves l ++ leaves r) y) (λ w. Spelled l w ⊎ Spelled r w)
    (either_letters (Spelled l) (Spelled r) (leaves l) (leaves r) (λ v y a j. word_letters l v y a j) (λ v y b j. word_letters r v y b j)) f u x h i

pub begins_leaf : (t : FlaggedTree) (q : ℕ) → BeginsWith (Spelled t) q → In (leaves t) q
begins_leaf t q h = word_letters t (q ∷ h.0) q h.1 (inl refl)

pub ends_leaf : (t : FlaggedTree) (p : ℕ) → EndsWith (Spelled t) p → In (leaves t) p
ends_leaf t p h = word_letters t (h.0 ++ p ∷ []) p h.1 (in_right h.0 (p ∷ []) p (inl refl))

pub pair_leaf : (t : FlaggedTree) (p q : ℕ) → HasPair (Spelled t) p q → In (leaves t) p
pair_leaf t p q h = word_letters t (h.0 ++ p ∷ q ∷ h.1) p h.2 (in_right h.0 (p ∷ q ∷ h.1) p (inl refl))

-- ---- first positions

seq_second : (l r : FlaggedTree) → IsExact IsItself l → (q : ℕ) → ((q : ℕ) → In (firsts r) q → BeginsWith (Spelled r) q)
    → ((flags l).eps ≡ true) × In (firsts r) q → BeginsWith (Cut (Spelled l) (Spelled r)) q
seq_second l r exact q right k = begins_second (Spelled l) (Spelled r) q ((top_exact l exact).0 k.0) (right q k.1)

left_begins : (P Q : List ℕ → Type 0) (q : ℕ) → BeginsWith P q → BeginsWith (λ w. P w ⊎ Q w) q
left_begins P Q q b = (b.0, inl b.1)

right_begins : (P Q : List ℕ → Type 0) (q : ℕ) → BeginsWith Q q → BeginsWith (λ w. P w ⊎ Q w) q
right_begins P Q q b = (b.0, inr b.1)

pub firsts_begin : (t : FlaggedTree) → IsExact IsItself t → (q : ℕ) → In (firsts t) q → BeginsWith (Spelled t) q
firsts_begin (leaf f s) exact q (inl e) = begins_node (Letter IsItself s) f q ([], (q, refl, e))
firsts_begin (leaf f s) exact q (inr h) = absurd h
firsts_begin (seq f l r) exact q h = begins_node (Cut (Spelled l) (Spelled r)) f q (elim (in_cases (firsts l) (if (flags l).eps then firsts r else []) q h) [
  | inl k ↦ begins_first (Spelled l) (Spelled r) q (has_word r) (firsts_begin l exact.1 q k)
  | inr k ↦ seq_second l r exact.1 q (λ x i. firsts_begin r exact.2 x i) (in_if (flags l).eps (firsts r) q k)
])
firsts_begin (alt f l r) exact q h = begins_node (λ w. Spelled l w ⊎ Spelled r w) f q (elim (in_cases (firsts l) (firsts r) q h) [
  | inl k ↦ left_begins (Spelled l) (Spelled r) q (firsts_begin l exact.1 q k)
  | inr k ↦ right_begins (Spelled l) (Spelled r) q (firsts_begin r exact.2 q k)
])

letter_begins : (s q : ℕ) → BeginsWith (Letter IsItself s) q → In (s ∷ []) q
letter_begins s q b = inl (let c = b.1 in let e : q ∷ b.0 ≡ c.0 ∷ [] = c.1 in let g : s ≡ c.0 = c.2 in cc)

either_begins : (P Q : List ℕ → Type 0) (q : ℕ) (rest : List ℕ) → P (q ∷ rest) ⊎ Q (q ∷ rest) → BeginsWith P q ⊎ BeginsWith Q q
either_begins P Q q rest (inl k) = inl (rest, k)
either_begins P Q q rest (inr k) = inr (rest, k)

begins_either : (P Q : List ℕ → Type 0) (q : ℕ) → BeginsWith (λ w. P w ⊎ Q w) q → BeginsWith P q ⊎ BeginsWith Q q
begins_either P Q q b = either_begins P Q q b.0 b.1

pub begins_firsts : (t : FlaggedTree) → IsExact IsItself t → (q : ℕ) → BeginsWith (Spelled t) q → In (firsts t) q
begins_firsts (leaf f s) exact q h = letter_begins s q (node_begins (Letter IsItself s) f q h)
begins_firsts (seq f l r) exact q h = elim (begins_cut (Spelled l) (Spelled r) q (node_begins (Cut (Spelled l) (Spelled r)) f q h)) [
  | inl k ↦ in_left (firsts l) (if (flags l).eps then firsts r else []) q (begins_firsts l exact.1 q k)
  | inr k ↦ in_right (firsts l) (if (flags l).eps then firsts r else []) q
      (if_in (flags l).eps (firsts r) q ((top_exact l exact.1).1 k.0) (begins_firsts r exact.2 q k.1))
]
begins_firsts (alt f l r) exact q h = elim (begins_either (Spelled l) (Spelled r) q (node_begins (λ w. Spelled l w ⊎ Spelled r w) f q h)) [
  | inl k ↦ in_left (firsts l) (firsts r) q (begins_firsts l exact.1 q k)
  | inr k ↦ in_right (firsts l) (firsts r) q (begins_firsts r exact.2 q k)
]

pub first_leaf : (t : FlaggedTree) → IsExact IsItself t → (q : ℕ) → In (firsts t) q → In (leaves t) q
first_leaf t exact q h = begins_leaf t q (firsts_begin t exact q h)

-- no first position stands twice

pub if_distinct : (b : Bool) (xs : List ℕ) → Distinct xs → Distinct (if b then xs else [])
if_distinct true xs h = h
if_distinct false xs h = tt

pub firsts_distinct : (t : FlaggedTree) → IsExact IsItself t → Distinct (leaves t) → Distinct (firsts t)
firsts_distinct (leaf f s) exact h = h
firsts_distinct (seq f l r) exact h = distinct_append (firsts l) (if (flags l).eps then firsts r else [])
    (firsts_distinct l exact.1 (distinct_left (leaves l) (leaves r) h))
    (if_distinct (flags l).eps (firsts r) (firsts_distinct r exact.2 (distinct_right (leaves l) (leaves r) h)))
    (λ x i j. distinct_apart (leaves l) (leaves r) h x (first_leaf l exact.1 x i) (first_leaf r exact.2 x (in_if (flags l).eps (firsts r) x j).1))
firsts_distinct (alt f l r) exact h = distinct_append (firsts l) (firsts r)
    (firsts_distinct l exact.1 (distinct_left (leaves l) (leaves r) h))
    (firsts_distinct r exact.2 (distinct_right (leaves l) (leaves r) h))
    (λ x i j. distinct_apart (leaves l) (leaves r) h x (first_leaf l exact.1 x i) (first_leaf r exact.2 x j))

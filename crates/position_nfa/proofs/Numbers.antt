-- The leaves of a numbered tree are numbers in order, and what its flags say is kept.
use Rattle.std.proofs.Common.{◌≡◌, ◌∙◌, ◌⊎◌, ℕ, zero, suc, ◌+◌, ◌-◌, ◌<◌, ◌≤◌, Bool, true, false, ◌&&◌, ◌||◌, if◌then◌else◌, List, [], ◌∷◌, ◌++◌, length, map, get_or, refl, sym, ap, subst, inl, inr, arith, length-append}
use Rattle.std.proofs.lemmas.List.{map-append}
use Rattle.std.specs.Prelude.{Decides}
use Rattle.rx_lang.specs.Meaning.{Cut, Many}
use Rattle.rx_lang.specs.Copies.{IsItself}
use Rattle.star_normal.specs.Trees.{Flags, FlaggedTree, leaf, seq, alt, flags, leaves, Turns, Words, Letter}
use Rattle.star_normal.specs.Shapes.{tree_numbered, IsExact}
use Rattle.position_nfa.specs.LeafRows.{LeafRow, firsts, empties, behind_turn, marked_turn, leaf_rows}
use Rattle.position_nfa.proofs.Lists.{In, in_cases, Distinct, distinct_append}
use Rattle.position_nfa.proofs.Letters.{none_left, one_turn}
use Rattle.position_nfa.proofs.FirstLetters.{Spelled}
use Rattle.position_nfa.proofs.NodeForms.{flags_numbered}
use Rattle.position_nfa.proofs.OwnParts.{SequenceOwn, IsOwn, HasOwnBase, LoopsAreOwn}

-- ---- leaves

pub length_numbered : (t : FlaggedTree) (k : ℕ) → length (leaves (tree_numbered k t)) ≡ length (leaves t)
length_numbered (leaf f s) k = refl
length_numbered (seq f l r) k = omega (
  arith,
  length_numbered l k,
  length_numbered r (k + length (leaves l)),
  length-append (leaves (tree_numbered k l)) (leaves (tree_numbered (k + length (leaves l)) r)),
  length-append (leaves l) (leaves r),
)
length_numbered (alt f l r) k = omega (
  arith,
  length_numbered l k,
  length_numbered r (k + length (leaves l)),
  length-append (leaves (tree_numbered k l)) (leaves (tree_numbered (k + length (leaves l)) r)),
  length-append (leaves l) (leaves r),
)

pub in_numbers : (t : FlaggedTree) (k x : ℕ) → In (leaves (tree_numbered k t)) x → (k ≤ x) × (x < k + length (leaves t))
in_numbers (leaf f s) k x (inl e) = (omega arith, omega arith)
in_numbers (leaf f s) k x (inr h) = absurd h
in_numbers (seq f l r) k x h = elim (in_cases (leaves (tree_numbered k l)) (leaves (tree_numbered (k + length (leaves l)) r)) x h) [
  | inl i ↦ let b = in_numbers l k x i in let e = length-append (leaves l) (leaves r) in (b.0, omega (arith, b.1, e))
  | inr i ↦ let b = in_numbers r (k + length (leaves l)) x i in let e = length-append (leaves l) (leaves r) in (omega (arith, b.0), omega (arith, b.1, e))
]
in_numbers (alt f l r) k x h = elim (in_cases (leaves (tree_numbered k l)) (leaves (tree_numbered (k + length (leaves l)) r)) x h) [
  | inl i ↦ let b = in_numbers l k x i in let e = length-append (leaves l) (leaves r) in (b.0, omega (arith, b.1, e))
  | inr i ↦ let b = in_numbers r (k + length (leaves l)) x i in let e = length-append (leaves l) (leaves r) in (omega (arith, b.0), omega (arith, b.1, e))
]

pub numbers_distinct : (t : FlaggedTree) (k : ℕ) → Distinct (leaves (tree_numbered k t))
numbers_distinct (leaf f s) k = ((λ h. h), tt)
numbers_distinct (seq f l r) k = distinct_append (leaves (tree_numbered k l)) (leaves (tree_numbered (k + length (leaves l)) r))
    (numbers_distinct l k) (numbers_distinct r (k + length (leaves l)))
    (λ x i j. let a = in_numbers l k x i in let b = in_numbers r (k + length (leaves l)) x j in absurd (omega (arith, a.1, b.0)))
numbers_distinct (alt f l r) k = distinct_append (leaves (tree_numbered k l)) (leaves (tree_numbered (k + length (leaves l)) r))
    (numbers_distinct l k) (numbers_distinct r (k + length (leaves l)))
    (λ x i j. let a = in_numbers l k x i in let b = in_numbers r (k + length (leaves l)) x j in absurd (omega (arith, a.1, b.0)))

-- reads of two lists, one behind the other

pub get_left : (xs ys : List ℕ) (i d : ℕ) → i < length xs → get_or (xs ++ ys) i d ≡ get_or xs i d
get_left [] ys i d h = absurd (omega arith)
get_left (x ∷ xs) ys zero d h = refl
get_left (x ∷ xs) ys (suc i) d h = get_left xs ys i d (omega arith)

pub get_right : (xs ys : List ℕ) (i j d : ℕ) → i ≡ length xs + j → get_or (xs ++ ys) i d ≡ get_or ys j d
get_right [] ys i j d e = ap (λ n. get_or ys n d) (let g : i ≡ j = omega arith in g)
get_right (x ∷ xs) ys zero j d e = absurd (omega arith)
get_right (x ∷ xs) ys (suc i) j d e = get_right xs ys i j d (omega arith)

split : (i n : ℕ) → (i < n) ⊎ ((j : ℕ) × (i ≡ n + j))
split i zero = inr (i, omega arith)
split zero (suc n) = inl (omega arith)
split (suc i) (suc n) = elim (split i n) [ inl h ↦ inl (omega arith) | inr h ↦ inr (h.0, let e = h.1 in omega (arith, e)) ]

pair_at : (ls rs : List ℕ) (a b k i d : ℕ) → length ls ≡ a → ((j : ℕ) → j < a → get_or ls j d ≡ k + j) → ((j : ℕ) → j < b → get_or rs j d ≡ (k + a) + j)
    → i < a + b → (i < a) ⊎ ((j : ℕ) × (i ≡ a + j)) → get_or (ls ++ rs) i d ≡ k + i
pair_at ls rs a b k i d size left right h (inl lt) = get_left ls rs i d (omega arith) ∙ left i lt
pair_at ls rs a b k i d size left right h (inr c) =
    let e = c.1 in
    get_right ls rs i c.0 d (omega (arith, size, e)) ∙ right c.0 (omega (arith, e)) ∙ (let g : (k + a) + c.0 ≡ k + i = omega (arith, e) in g)

pub number_at : (t : FlaggedTree) (k i d : ℕ) → i < length (leaves t) → get_or (leaves (tree_numbered k t)) i d ≡ k + i
number_at (leaf f s) k zero d h = omega arith
number_at (leaf f s) k (suc i) d h = absurd (omega arith)
number_at (seq f l r) k i d h = pair_at (leaves (tree_numbered k l)) (leaves (tree_numbered (k + length (leaves l)) r)) (length (leaves l)) (length (leaves r)) k i d
    (length_numbered l k) (λ j b. number_at l k j d b) (λ j b. number_at r (k + length (leaves l)) j d b)
    (omega (arith, length-append (leaves l) (leaves r))) (split i (length (leaves l)))
number_at (alt f l r) k i d h = pair_at (leaves (tree_numbered k l)) (leaves (tree_numbered (k + length (leaves l)) r)) (length (leaves l)) (length (leaves r)) k i d
    (length_numbered l k) (λ j b. number_at l k j d b) (λ j b. number_at r (k + length (leaves l)) j d b)
    (omega (arith, length-append (leaves l) (leaves r))) (split i (length (leaves l)))

-- ---- the empty word

turn_empty : (B : List ℕ → Type 0) (loops : Bool) → Turns loops B [] → B []
turn_empty B true c = subst B (none_left c.front c.rest c.whole).0 c.first
turn_empty B false b = b

node_moves : (f : Flags) (B C : List ℕ → Type 0) → (B [] → C []) → Words f B [] → Words f C []
node_moves f B C to (inl h) = inl h
node_moves f B C to (inr t) = inr (one_turn C f.loops [] (to (turn_empty B f.loops t)))

cut_moves : (L R P Q : List ℕ → Type 0) → (L [] → P []) → (R [] → Q []) → Cut L R [] → Cut P Q []
cut_moves L R P Q left right c = record {
  front = [];
  rest = [];
  whole = refl;
  first = left (subst L (none_left c.front c.rest c.whole).0 c.first);
  second = right (subst R (none_left c.front c.rest c.whole).1 c.second);
}

or_moves : (L R P Q : Type 0) → (L → P) → (R → Q) → L ⊎ R → P ⊎ Q
or_moves L R P Q left right (inl h) = inl (left h)
or_moves L R P Q left right (inr h) = inr (right h)

no_letter : (s k : ℕ) → Letter IsItself s [] → Letter IsItself k []
no_letter s k h = let e : [] ≡ h.0 ∷ [] = h.1 in cc

to_numbered : (t : FlaggedTree) (k : ℕ) → Spelled t [] → Spelled (tree_numbered k t) []
to_numbered (leaf f s) k h = node_moves f (Letter IsItself s) (Letter IsItself k) (no_letter s k) h
to_numbered (seq f l r) k h = node_moves f (Cut (Spelled l) (Spelled r)) (Cut (Spelled (tree_numbered k l)) (Spelled (tree_numbered (k + length (leaves l)) r)))
    (cut_moves (Spelled l) (Spelled r) (Spelled (tree_numbered k l)) (Spelled (tree_numbered (k + length (leaves l)) r)) (to_numbered l k) (to_numbered r (k + length (leaves l)))) h
to_numbered (alt f l r) k h = node_moves f (λ w. Spelled l w ⊎ Spelled r w) (λ w. Spelled (tree_numbered k l) w ⊎ Spelled (tree_numbered (k + length (leaves l)) r) w)
    (or_moves (Spelled l []) (Spelled r []) (Spelled (tree_numbered k l) []) (Spelled (tree_numbered (k + length (leaves l)) r) []) (to_numbered l k) (to_numbered r (k + length (leaves l)))) h

from_numbered : (t : FlaggedTree) (k : ℕ) → Spelled (tree_numbered k t) [] → Spelled t []
from_numbered (leaf f s) k h = node_moves f (Letter IsItself k) (Letter IsItself s) (no_letter k s) h
from_numbered (seq f l r) k h = node_moves f (Cut (Spelled (tree_numbered k l)) (Spelled (tree_numbered (k + length (leaves l)) r))) (Cut (Spelled l) (Spelled r))
    (cut_moves (Spelled (tree_numbered k l)) (Spelled (tree_numbered (k + length (leaves l)) r)) (Spelled l) (Spelled r) (from_numbered l k) (from_numbered r (k + length (leaves l)))) h
from_numbered (alt f l r) k h = node_moves f (λ w. Spelled (tree_numbered k l) w ⊎ Spelled (tree_numbered (k + length (leaves l)) r) w) (λ w. Spelled l w ⊎ Spelled r w)
    (or_moves (Spelled (tree_numbered k l) []) (Spelled (tree_numbered (k + length (leaves l)) r) []) (Spelled l []) (Spelled r []) (from_numbered l k) (from_numbered r (k + length (leaves l)))) h

decides_numbered : (t : FlaggedTree) (k : ℕ) (b : Bool) → Decides b (Spelled t []) → Decides b (Spelled (tree_numbered k t) [])
decides_numbered t k b h = (λ e. to_numbered t k (h.0 e), λ w. h.1 (from_numbered t k w))

pub exact_numbered : (t : FlaggedTree) (k : ℕ) → IsExact IsItself t → IsExact IsItself (tree_numbered k t)
exact_numbered (leaf f s) k h = decides_numbered (leaf f s) k f.eps h
exact_numbered (seq f l r) k h = (decides_numbered (seq f l r) k f.eps h.0, exact_numbered l k h.1, exact_numbered r (k + length (leaves l)) h.2)
exact_numbered (alt f l r) k h = (decides_numbered (alt f l r) k f.eps h.0, exact_numbered l k h.1, exact_numbered r (k + length (leaves l)) h.2)

-- ---- loops

sequence_moves : (a b c d : Bool) (P Q R S : Type 0) → c ≡ a → d ≡ b → (P → R) → (Q → S) → SequenceOwn a b P Q → SequenceOwn c d R S
sequence_moves a b c d P Q R S ea eb left right own = record {
  one = λ e. eb ∙ own.one (sym ea ∙ e);
  left = λ e. left (own.left (sym eb ∙ e));
  right = λ e. right (own.right (sym ea ∙ e));
}

eps_numbered : (t : FlaggedTree) (k : ℕ) → (flags (tree_numbered k t)).eps ≡ (flags t).eps
eps_numbered t k = ap (λ f. f.eps) (flags_numbered k t)

own_numbered : (t : FlaggedTree) (k : ℕ) → IsOwn t → IsOwn (tree_numbered k t)
own_numbered (leaf f s) k h = h
own_numbered (seq f l r) k h = (
  h.0,
  sequence_moves (flags l).eps (flags r).eps (flags (tree_numbered k l)).eps (flags (tree_numbered (k + length (leaves l)) r)).eps
      (IsOwn l) (IsOwn r) (IsOwn (tree_numbered k l)) (IsOwn (tree_numbered (k + length (leaves l)) r))
      (eps_numbered l k) (eps_numbered r (k + length (leaves l))) (own_numbered l k) (own_numbered r (k + length (leaves l))) h.1,
)
own_numbered (alt f l r) k h = (h.0, (own_numbered l k h.1.0, own_numbered r (k + length (leaves l)) h.1.1))

base_numbered : (t : FlaggedTree) (k : ℕ) → HasOwnBase t → HasOwnBase (tree_numbered k t)
base_numbered (leaf f s) k h = h
base_numbered (seq f l r) k h = sequence_moves (flags l).eps (flags r).eps (flags (tree_numbered k l)).eps (flags (tree_numbered (k + length (leaves l)) r)).eps
    (IsOwn l) (IsOwn r) (IsOwn (tree_numbered k l)) (IsOwn (tree_numbered (k + length (leaves l)) r))
    (eps_numbered l k) (eps_numbered r (k + length (leaves l))) (own_numbered l k) (own_numbered r (k + length (leaves l))) h
base_numbered (alt f l r) k h = (own_numbered l k h.0, own_numbered r (k + length (leaves l)) h.1)

pub loops_numbered : (t : FlaggedTree) (k : ℕ) → LoopsAreOwn t → LoopsAreOwn (tree_numbered k t)
loops_numbered (leaf f s) k h = h
loops_numbered (seq f l r) k h = (λ e. base_numbered (seq f l r) k (h.0 e), loops_numbered l k h.1, loops_numbered r (k + length (leaves l)) h.2)
loops_numbered (alt f l r) k h = (λ e. base_numbered (alt f l r) k (h.0 e), loops_numbered l k h.1, loops_numbered r (k + length (leaves l)) h.2)

-- ---- rows in order

pub row_positions : (t : FlaggedTree) (next : List ℕ) (ends : ℕ → Bool) → map (λ row. row.position) (leaf_rows t next ends) ≡ leaves t
row_positions (leaf f p) next ends = refl
row_positions (seq f l r) next ends =
    let behind : List ℕ = behind_turn f (firsts (seq f l r)) next in
    let marked : ℕ → Bool = marked_turn f (empties (seq f l r)) ends in
    map-append (λ row. row.position) (leaf_rows l (firsts r ++ (if (flags r).eps then behind else [])) (λ y. empties r y || ((flags r).eps && marked y))) (leaf_rows r behind marked)
    ∙ ap (λ xs. xs ++ map (λ row. row.position) (leaf_rows r behind marked)) (row_positions l (firsts r ++ (if (flags r).eps then behind else [])) (λ y. empties r y || ((flags r).eps && marked y)))
    ∙ ap (λ xs. leaves l ++ xs) (row_positions r behind marked)
row_positions (alt f l r) next ends =
    let behind : List ℕ = behind_turn f (firsts (alt f l r)) next in
    let marked : ℕ → Bool = marked_turn f (empties (alt f l r)) ends in
    map-append (λ row. row.position) (leaf_rows l behind marked) (leaf_rows r behind marked)
    ∙ ap (λ xs. xs ++ map (λ row. row.position) (leaf_rows r behind marked)) (row_positions l behind marked)
    ∙ ap (λ xs. leaves l ++ xs) (row_positions r behind marked)

pub get_map : {A B : Type 0} (g : A → B) (xs : List A) (i : ℕ) (d : A) (e : B) → i < length xs → get_or (map g xs) i e ≡ g (get_or xs i d)
get_map g [] i d e h = absurd (omega arith)
get_map g (x ∷ xs) zero d e h = refl
get_map g (x ∷ xs) (suc i) d e h = get_map g xs i d e (omega arith)

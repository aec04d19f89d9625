-- Below a loop nothing loops: what an expression that is its own strip looks like, as a tree (after Brüggemann-Klein, 1993).
use Rattle.std.proofs.Common.{◌≡◌, ◌⊎◌, ℕ, suc, ◌+◌, ◌<◌, ◌≤◌, Bool, true, false, not, ◌&&◌, ◌||◌, if◌then◌else◌, IsTrue, List, [], ◌++◌, refl, sym, ap, ◌∙◌, subst, inl, inr, arith}
use Rattle.std.proofs.lemmas.Bool.{or_cases, or_left, or_right, and_parts, and_from}
use Rattle.std.specs.Prelude.{Decides, ⊤}
use Rattle.rx_lang.specs.Expression.{Expr, symbol, sequence, union, star, plus, optional, marked, repeated}
use Rattle.rx_lang.specs.Meaning.{Cut}
use Rattle.rx_lang.specs.Copies.{IsItself}
use Rattle.star_normal.specs.Trees.{Flags, FlaggedTree, leaf, seq, alt, flags, leaves, Turns}
use Rattle.star_normal.specs.Normal.{nullable}
use Rattle.star_normal.specs.Shapes.{strip, strip_sequence, plus_if, optional_if, shaped, plain, base, OwnStrip, AreStripped, IsExact}
use Rattle.position_nfa.specs.LeafRows.{LeafRow, firsts, empties, behind_turn, marked_turn, leaf_rows}
use Rattle.position_nfa.proofs.Lists.{In, in_left, in_right, in_cases, Distinct, Apart, distinct_append, distinct_left, distinct_right, distinct_apart}
use Rattle.position_nfa.proofs.Letters.{one_turn}
use Rattle.position_nfa.proofs.FirstLetters.{Spelled, in_if, top_exact, first_leaf, firsts_distinct}

-- ---- sizes of expressions

abbrev esize : Expr → ℕ
esize (symbol s) = 1
esize (sequence f g) = esize f + esize g + 1
esize (union f g) = esize f + esize g + 1
esize (star f) = esize f + 1
esize (plus f) = esize f + 1
esize (optional f) = esize f + 1
esize (marked f y) = esize f + 1
esize (repeated f m n) = esize f + 1

sequence_smaller : (a b : Bool) (f g sf sg : Expr) → esize sf ≤ esize f → esize sg ≤ esize g → esize (strip_sequence a b f g sf sg) ≤ esize f + esize g + 1
sequence_smaller true true f g sf sg h k = omega arith
sequence_smaller true false f g sf sg h k = omega arith
sequence_smaller false true f g sf sg h k = omega arith
sequence_smaller false false f g sf sg h k = omega arith

strip_smaller : (e : Expr) → esize (strip e) ≤ esize e
strip_smaller (symbol s) = omega arith
strip_smaller (sequence f g) = sequence_smaller (nullable f) (nullable g) f g (strip f) (strip g) (strip_smaller f) (strip_smaller g)
strip_smaller (union f g) = let a = strip_smaller f in let b = strip_smaller g in omega (arith, a, b)
strip_smaller (star f) = let a = strip_smaller f in omega (arith, a)
strip_smaller (plus f) = let a = strip_smaller f in omega (arith, a)
strip_smaller (optional f) = let a = strip_smaller f in omega (arith, a)
strip_smaller (marked f y) = let a = strip_smaller f in omega (arith, a)
strip_smaller (repeated f m n) = let a = strip_smaller f in omega (arith, a)

no_option : (e : Expr) → strip e ≡ optional e → ⊥
no_option e h = let a = strip_smaller e in let b : esize (strip e) ≡ esize e + 1 = ap esize h in absurd (omega (arith, a, b))

no_loop : (e : Expr) → strip e ≡ plus e → ⊥
no_loop e h = let a = strip_smaller e in let b : esize (strip e) ≡ esize e + 1 = ap esize h in absurd (omega (arith, a, b))

-- ---- signs of an expression that is its own strip

record Signless (f : Flags) (e : Expr) : Type 0 where
  loops : f.loops ≡ false
  eps : f.eps ≡ false
  same : strip e ≡ e

signless_by : (f : Flags) (loops eps : Bool) (e : Expr) → f.loops ≡ loops → f.eps ≡ eps → strip (optional_if eps (plus_if loops e)) ≡ optional_if eps (plus_if loops e) → Signless f e
signless_by f true true e a b h = absurd (no_option (plus e) h)
signless_by f false true e a b h = absurd (no_option e h)
signless_by f true false e a b h = absurd (no_loop e h)
signless_by f false false e a b h = record { loops = a; eps = b; same = h }

signless : (f : Flags) (e : Expr) → strip (shaped f e) ≡ shaped f e → Signless f e
signless f e h = signless_by f f.loops f.eps e refl refl h

-- ---- the empty word of a tree's expression

null_shaped : (loops eps : Bool) (e : Expr) → nullable (optional_if eps (plus_if loops e)) ≡ (eps || nullable e)
null_shaped true true e = refl
null_shaped false true e = refl
null_shaped true false e = refl
null_shaped false false e = refl

-- a base that spells the empty word makes its node spell it
covered : (eps b : Bool) → (b ≡ true → eps ≡ true) → (eps || b) ≡ eps
covered true b h = refl
covered false true h = sym (h refl)
covered false false h = refl

module _ (f : Flags) (B : List ℕ → Type 0) where
  base_empty : B [] → Turns f.loops B []
  base_empty b = one_turn B f.loops [] b

pub null_plain : (t : FlaggedTree) → IsExact IsItself t → nullable (plain t) ≡ (flags t).eps
null_plain (leaf f s) exact = null_shaped f.loops f.eps (symbol s) ∙ covered f.eps false (λ e. cc)
null_plain (seq f l r) exact =
    null_shaped f.loops f.eps (sequence (plain l) (plain r))
    ∙ ap (λ b. f.eps || b) (ap (λ b. b && nullable (plain r)) (null_plain l exact.1) ∙ ap (λ b. (flags l).eps && b) (null_plain r exact.2))
    ∙ covered f.eps ((flags l).eps && (flags r).eps) (λ e. exact.0.1 (inr (base_empty f (Cut (Spelled l) (Spelled r)) (both (and_parts (flags l).eps (flags r).eps e)))))
  where
    both : ((flags l).eps ≡ true) × ((flags r).eps ≡ true) → Cut (Spelled l) (Spelled r) []
    both h = record { front = []; rest = []; whole = refl; first = (top_exact l exact.1).0 h.0; second = (top_exact r exact.2).0 h.1 }
null_plain (alt f l r) exact =
    null_shaped f.loops f.eps (union (plain l) (plain r))
    ∙ ap (λ b. f.eps || b) (ap (λ b. b || nullable (plain r)) (null_plain l exact.1) ∙ ap (λ b. (flags l).eps || b) (null_plain r exact.2))
    ∙ covered f.eps ((flags l).eps || (flags r).eps) (λ e. exact.0.1 (inr (base_empty f (λ w. Spelled l w ⊎ Spelled r w) (either (or_cases (flags l).eps (flags r).eps e)))))
  where
    either : ((flags l).eps ≡ true) ⊎ ((flags r).eps ≡ true) → Spelled l [] ⊎ Spelled r []
    either (inl h) = inl ((top_exact l exact.1).0 h)
    either (inr h) = inr ((top_exact r exact.2).0 h)

-- ---- trees without loops where loops would repeat

-- of a sequence: at most one part spells the empty word, and then the other one has this shape again
pub record SequenceOwn (l r : Bool) (Left Right : Type 0) : Type 0 where
  pub one : l ≡ true → r ≡ false
  pub left : r ≡ true → Left
  pub right : l ≡ true → Right

-- the tree does not loop, and neither do those parts that begin and end with it
abbrev pub IsOwn : FlaggedTree → Type 0
IsOwn (leaf f s) = (f.loops ≡ false) × ⊤
IsOwn (seq f l r) = (f.loops ≡ false) × SequenceOwn (flags l).eps (flags r).eps (IsOwn l) (IsOwn r)
IsOwn (alt f l r) = (f.loops ≡ false) × (IsOwn l × IsOwn r)

-- the same of the base alone
abbrev pub HasOwnBase : FlaggedTree → Type 0
HasOwnBase (leaf f s) = ⊤
HasOwnBase (seq f l r) = SequenceOwn (flags l).eps (flags r).eps (IsOwn l) (IsOwn r)
HasOwnBase (alt f l r) = IsOwn l × IsOwn r

own_by : (a b : Bool) (f g : Expr) {Left Right : Type 0} → (strip f ≡ f → Left) → (strip g ≡ g → Right)
    → strip_sequence a b f g (strip f) (strip g) ≡ sequence f g → SequenceOwn a b Left Right
own_by true true f g left right h = cc
own_by true false f g left right h = record { one = λ e. refl; left = λ e. cc; right = λ e. right (let k = h in cc) }
own_by false true f g left right h = record { one = λ e. cc; left = λ e. left (let k = h in cc); right = λ e. cc }
own_by false false f g left right h = record { one = λ e. cc; left = λ e. cc; right = λ e. cc }

own_sequence : (l r : FlaggedTree) → IsExact IsItself l → IsExact IsItself r → (strip (plain l) ≡ plain l → IsOwn l) → (strip (plain r) ≡ plain r → IsOwn r)
    → strip (sequence (plain l) (plain r)) ≡ sequence (plain l) (plain r) → SequenceOwn (flags l).eps (flags r).eps (IsOwn l) (IsOwn r)
own_sequence l r el er left right h =
    let at_eps : strip_sequence (flags l).eps (flags r).eps (plain l) (plain r) (strip (plain l)) (strip (plain r)) ≡ sequence (plain l) (plain r) =
    ap (λ b. strip_sequence b (flags r).eps (plain l) (plain r) (strip (plain l)) (strip (plain r))) (sym (null_plain l el))
    ∙ ap (λ b. strip_sequence (nullable (plain l)) b (plain l) (plain r) (strip (plain l)) (strip (plain r))) (sym (null_plain r er)) ∙ h in
    own_by (flags l).eps (flags r).eps (plain l) (plain r) left right at_eps

union_first : (a b c d : Expr) → union a b ≡ union c d → a ≡ c
union_first a b c d h = cc

union_second : (a b c d : Expr) → union a b ≡ union c d → b ≡ d
union_second a b c d h = cc

pub own_of : (t : FlaggedTree) → IsExact IsItself t → strip (plain t) ≡ plain t → IsOwn t
own_of (leaf f s) exact h = ((signless f (symbol s) h).loops, tt)
own_of (seq f l r) exact h =
    let k : Signless f (sequence (plain l) (plain r)) = signless f (sequence (plain l) (plain r)) h in
    (k.loops, own_sequence l r exact.1 exact.2 (λ e. own_of l exact.1 e) (λ e. own_of r exact.2 e) k.same)
own_of (alt f l r) exact h =
    let k : Signless f (union (plain l) (plain r)) = signless f (union (plain l) (plain r)) h in (
      k.loops,
      (
        own_of l exact.1 (union_first (strip (plain l)) (strip (plain r)) (plain l) (plain r) k.same),
        own_of r exact.2 (union_second (strip (plain l)) (strip (plain r)) (plain l) (plain r) k.same),
      ),
    )

pub own_base : (t : FlaggedTree) → IsExact IsItself t → strip (base t) ≡ base t → HasOwnBase t
own_base (leaf f s) exact h = tt
own_base (seq f l r) exact h = own_sequence l r exact.1 exact.2 (λ e. own_of l exact.1 e) (λ e. own_of r exact.2 e) h
own_base (alt f l r) exact h = (
  own_of l exact.1 (union_first (strip (plain l)) (strip (plain r)) (plain l) (plain r) h),
  own_of r exact.2 (union_second (strip (plain l)) (strip (plain r)) (plain l) (plain r) h),
)

pub own_has_base : (t : FlaggedTree) → IsOwn t → HasOwnBase t
own_has_base (leaf f s) h = h.1
own_has_base (seq f l r) h = h.1
own_has_base (alt f l r) h = h.1

pub own_no_loop : (t : FlaggedTree) → IsOwn t → (flags t).loops ≡ false
own_no_loop (leaf f s) h = h.0
own_no_loop (seq f l r) h = h.0
own_no_loop (alt f l r) h = h.0

-- each loop stands over such a base
abbrev pub LoopsAreOwn : FlaggedTree → Type 0
LoopsAreOwn (leaf f s) = ⊤
LoopsAreOwn (seq f l r) = (f.loops ≡ true → HasOwnBase (seq f l r)) × LoopsAreOwn l × LoopsAreOwn r
LoopsAreOwn (alt f l r) = (f.loops ≡ true → HasOwnBase (alt f l r)) × LoopsAreOwn l × LoopsAreOwn r

pub stripped_own : (t : FlaggedTree) → IsExact IsItself t → AreStripped t → LoopsAreOwn t
stripped_own (leaf f s) exact h = tt
stripped_own (seq f l r) exact h = (λ e. own_base (seq f l r) exact (h.0 e), stripped_own l exact.1 h.1, stripped_own r exact.2 h.2)
stripped_own (alt f l r) exact h = (λ e. own_base (alt f l r) exact (h.0 e), stripped_own l exact.1 h.1, stripped_own r exact.2 h.2)

-- A tree, its scan node and the rest of it: what its words begin with, which pairs stand in them, and what they are marked for.
use Rattle.std.proofs.Common.{◌≡◌, ◌∙◌, ◌⊎◌, ◌↔◌, ℕ, zero, suc, ◌+◌, ◌<◌, Bool, true, false, if◌then◌else◌, IsTrue, List, [], ◌∷◌, ◌++◌, length, Option, Some, None, refl, sym, ap, subst, inl, inr, arith}
use Rattle.std.specs.Prelude.{Any, slice_index_or, ⊤}
use Rattle.rx_lang.specs.Expression.{Expr}
use Rattle.rx_lang.specs.Meaning.{Cut, Spells, SomeMarks}
use Rattle.rx_lang.specs.Copies.{IsItself}
use Rattle.rx_lang.specs.Positions.{BeginsWith, EndsWith, HasPair, IsSpelled, IsMarked}
use Rattle.star_normal.specs.Trees.{Flags, FlaggedTree, leaf, seq, alt, flags, leaves, TreeSpells, TreeMarks, Turns, Inside, Words, Ends}
use Rattle.star_normal.specs.Shapes.{IsExact, HasOneScan, NeverScans, ScansAtTop, IsUnmarked, tree_numbered, rest_part, scan_part}
use Rattle.star_normal.specs.Laws.{SomeSpells, HasWords, PartHasWords}
use Rattle.position_nfa.specs.LeafRows.{firsts, empties}
use Rattle.position_nfa.specs.TreeParts.{part_firsts}
use Rattle.position_nfa.proofs.Lists.{In, in_left, in_right, Distinct, distinct_left, distinct_right}
use Rattle.position_nfa.proofs.Letters.{node_pair, full_end, PairInTurns}
use Rattle.position_nfa.proofs.FirstLetters.{Spelled, word_letters, firsts_begin, begins_firsts, firsts_distinct}
use Rattle.position_nfa.proofs.Followed.{Either}
use Rattle.position_nfa.proofs.MarkedRows.{Marked}
use Rattle.position_nfa.proofs.NodeForms.{flags_numbered}

-- the words of a part, where it stands, and those that it marks

abbrev pub PartSpelled : Option FlaggedTree → List ℕ → Type 0
PartSpelled None u = ⊥
PartSpelled (Some t) u = Spelled t u

abbrev pub PartMarked : Option FlaggedTree → ℕ → List ℕ → Type 0
PartMarked None y u = ⊥
PartMarked (Some t) y u = Marked t y u

-- a property of a part, where it stands
abbrev pub OfPart : (FlaggedTree → Type 0) → Option FlaggedTree → Type 0
OfPart P None = ⊤
OfPart P (Some t) = P t

-- What stands in a tree stands in its scan node or in the rest of it.
pub record IsSplit (t : FlaggedTree) (rest scan : Option FlaggedTree) : Type 0 where
  pub pair_to : (p q : ℕ) → HasPair (Spelled t) p q → HasPair (PartSpelled rest) p q ⊎ HasPair (PartSpelled scan) p q
  pub pair_from : (p q : ℕ) → HasPair (PartSpelled rest) p q ⊎ HasPair (PartSpelled scan) p q → HasPair (Spelled t) p q
  pub end_to : (y p : ℕ) → EndsWith (Marked t y) p → EndsWith (PartMarked rest y) p ⊎ EndsWith (PartMarked scan y) p
  pub end_from : (y p : ℕ) → EndsWith (PartMarked rest y) p ⊎ EndsWith (PartMarked scan y) p → EndsWith (Marked t y) p
  pub rest_letters : (u : List ℕ) (x : ℕ) → PartSpelled rest u → In u x → In (leaves t) x
  pub scan_letters : (u : List ℕ) (x : ℕ) → PartSpelled scan u → In u x → In (leaves t) x
  pub rest_exact : IsExact IsItself t → OfPart (IsExact IsItself) rest
  pub scan_exact : IsExact IsItself t → OfPart (IsExact IsItself) scan
  pub rest_once : Distinct (leaves t) → OfPart (λ s. Distinct (leaves s)) rest
  pub scan_once : Distinct (leaves t) → OfPart (λ s. Distinct (leaves s)) scan

no_pair : {A : Type 0} (p q : ℕ) → HasPair (PartSpelled None) p q → A
no_pair p q h = absurd h.2

no_end : {A : Type 0} (y p : ℕ) → EndsWith (PartMarked None y) p → A
no_end y p h = absurd h.1

all_rest : (t : FlaggedTree) → IsSplit t (Some t) None
all_rest t = record {
  pair_to = λ p q h. inl h;
  pair_from = λ p q h. elim h [ inl k ↦ k | inr k ↦ no_pair p q k ];
  end_to = λ y p h. inl h;
  end_from = λ y p h. elim h [ inl k ↦ k | inr k ↦ no_end y p k ];
  rest_letters = λ u x w i. word_letters t u x w i;
  scan_letters = λ u x w i. absurd w;
  rest_exact = λ h. h;
  scan_exact = λ h. tt;
  rest_once = λ h. h;
  scan_once = λ h. tt;
}

all_scan : (t : FlaggedTree) → IsSplit t None (Some t)
all_scan t = record {
  pair_to = λ p q h. inr h;
  pair_from = λ p q h. elim h [ inl k ↦ no_pair p q k | inr k ↦ k ];
  end_to = λ y p h. inr h;
  end_from = λ y p h. elim h [ inl k ↦ no_end y p k | inr k ↦ k ];
  rest_letters = λ u x w i. absurd w;
  scan_letters = λ u x w i. word_letters t u x w i;
  rest_exact = λ h. tt;
  scan_exact = λ h. h;
  rest_once = λ h. tt;
  scan_once = λ h. h;
}

-- a union that does not loop and bears no marks
module _ (f : Flags) (l r : FlaggedTree) (plain : IsUnmarked f) where
  side_pair : (front rest : List ℕ) (p q : ℕ) → Spelled l (front ++ p ∷ q ∷ rest) ⊎ Spelled r (front ++ p ∷ q ∷ rest) → HasPair (Spelled l) p q ⊎ HasPair (Spelled r) p q
  side_pair front rest p q (inl h) = inl (front, rest, h)
  side_pair front rest p q (inr h) = inr (front, rest, h)

  turn_pair : (p q : ℕ) → PairInTurns (Either l r) f.loops p q → HasPair (Spelled l) p q ⊎ HasPair (Spelled r) p q
  turn_pair p q (inl h) = side_pair h.0 h.1 p q h.2
  turn_pair p q (inr h) = let a = h.0 in let b = plain.loops in cc

  once : (loops : Bool) → f.loops ≡ loops → loops ≡ false → (u : List ℕ) → Either l r u → Words f (Either l r) u
  once true e n u h = cc
  once false e n u h = inr (subst (λ (b : Bool). Turns b (Either l r) u) (sym e) h)

  whole_word : (u : List ℕ) → Either l r u → Spelled (alt f l r) u
  whole_word u h = once f.loops refl plain.loops u h

  pair_whole : (p q : ℕ) → HasPair (Spelled l) p q ⊎ HasPair (Spelled r) p q → HasPair (Spelled (alt f l r)) p q
  pair_whole p q (inl h) = (h.0, h.1, whole_word (h.0 ++ p ∷ q ∷ h.1) (inl h.2))
  pair_whole p q (inr h) = (h.0, h.1, whole_word (h.0 ++ p ∷ q ∷ h.1) (inr h.2))

  abbrev pub Within : ℕ → List ℕ → Type 0
  Within y w = Marked l y w ⊎ Marked r y w

  inside_by : (loops : Bool) → loops ≡ false → (y : ℕ) (u : List ℕ) → Inside loops (Either l r) (Within y) u → Within y u
  inside_by true n y u h = cc
  inside_by false n y u h = h

  by_inside : (loops : Bool) → loops ≡ false → (y : ℕ) (u : List ℕ) → Within y u → Inside loops (Either l r) (Within y) u
  by_inside true n y u h = cc
  by_inside false n y u h = h

  mark_within : (y : ℕ) (u : List ℕ) → Marked (alt f l r) y u → Within y u
  mark_within y u (inl h) = inside_by f.loops plain.loops y u h
  mark_within y u (inr (inl h)) = let a : f.marks y ≡ true = h.0 in let b = plain.marks y in cc
  mark_within y u (inr (inr h)) = let a : f.eps_marks y ≡ true = h.0 in let b = plain.eps_marks y in cc

  side_end : (front : List ℕ) (y p : ℕ) → Within y (front ++ p ∷ []) → EndsWith (Marked l y) p ⊎ EndsWith (Marked r y) p
  side_end front y p (inl h) = inl (front, h)
  side_end front y p (inr h) = inr (front, h)

  end_whole : (y p : ℕ) → EndsWith (Marked l y) p ⊎ EndsWith (Marked r y) p → EndsWith (Marked (alt f l r) y) p
  end_whole y p (inl h) = (h.0, inl (by_inside f.loops plain.loops y (h.0 ++ p ∷ []) (inl h.1)))
  end_whole y p (inr h) = (h.0, inl (by_inside f.loops plain.loops y (h.0 ++ p ∷ []) (inr h.1)))

  both_sides : IsSplit (alt f l r) (Some l) (Some r)
  both_sides = record {
    pair_to = λ p q h. turn_pair p q (node_pair (Either l r) f p q h);
    pair_from = pair_whole;
    end_to = λ y p h. side_end h.0 y p (mark_within y (h.0 ++ p ∷ []) h.1);
    end_from = end_whole;
    rest_letters = λ u x w i. in_left (leaves l) (leaves r) x (word_letters l u x w i);
    scan_letters = λ u x w i. in_right (leaves l) (leaves r) x (word_letters r u x w i);
    rest_exact = λ h. h.1;
    scan_exact = λ h. h.2;
    rest_once = λ h. distinct_left (leaves l) (leaves r) h;
    scan_once = λ h. distinct_right (leaves l) (leaves r) h;
  }

one_part : (b : Bool) (t : FlaggedTree) → IsSplit t (if b then None else Some t) (if b then Some t else None)
one_part true t = all_scan t
one_part false t = all_rest t

union_parts : (b c : Bool) (f : Flags) (l r : FlaggedTree) → (b ≡ false → c ≡ true → IsUnmarked f)
    → IsSplit (alt f l r) (if b then None else if c then Some l else Some (alt f l r)) (if b then Some (alt f l r) else if c then Some r else None)
union_parts true c f l r plain = all_scan (alt f l r)
union_parts false true f l r plain = both_sides f l r (plain refl refl)
union_parts false false f l r plain = all_rest (alt f l r)

never_top : (t : FlaggedTree) → NeverScans t → (flags t).scan ≡ false
never_top (leaf f s) h = h
never_top (seq f l r) h = h.0
never_top (alt f l r) h = h.0

plain_root : (f : Flags) (r : FlaggedTree) → NeverScans r ⊎ ((f.scan ≡ false) × IsUnmarked f × ScansAtTop r) → (flags r).scan ≡ true → IsUnmarked f
plain_root f r (inl h) e = let n = never_top r h in cc
plain_root f r (inr h) e = h.1

-- a numbered tree is split as its parts say
pub numbered_split : (t : FlaggedTree) (k : ℕ) → HasOneScan t → IsSplit (tree_numbered k t) (rest_part (tree_numbered k t)) (scan_part (tree_numbered k t))
numbered_split (leaf f s) k h = one_part f.scan (leaf f k)
numbered_split (seq f l r) k h = one_part f.scan (seq f (tree_numbered k l) (tree_numbered (k + length (leaves l)) r))
numbered_split (alt f l r) k h = union_parts f.scan (flags (tree_numbered (k + length (leaves l)) r)).scan f (tree_numbered k l) (tree_numbered (k + length (leaves l)) r)
    (λ e c. plain_root f r h.1 (ap (λ g. g.scan) (sym (flags_numbered (k + length (leaves l)) r)) ∙ c))

-- ---- statements

spelled_any : (es : List Expr) (u : List ℕ) → SomeSpells IsItself es u → IsSpelled es u
spelled_any [] u h = absurd h
spelled_any (e ∷ es) u (inl h) = (0, e, omega arith, refl, h)
spelled_any (e ∷ es) u (inr h) = let a = spelled_any es u h in (suc a.0, a.1, omega (arith, a.2), a.3, a.4)

any_at : (es : List Expr) (u : List ℕ) (k : ℕ) (e d : Expr) → k < length es → slice_index_or es k d ≡ e → Spells IsItself e u → SomeSpells IsItself es u
any_at [] u k e d h g s = absurd (omega arith)
any_at (x ∷ es) u zero e d h g s = inl (subst (λ y. Spells IsItself y u) (sym g) s)
any_at (x ∷ es) u (suc k) e d h g s = inr (any_at es u k e d (omega arith) g s)

any_spelled : (es : List Expr) (u : List ℕ) → IsSpelled es u → SomeSpells IsItself es u
any_spelled es u h = any_at es u h.0 h.1 h.1 h.2 h.3 h.4

no_statement : (es : List Expr) → es ≡ [] → (u : List ℕ) → SomeSpells IsItself es u → ⊥
no_statement es e u h = subst (λ xs. SomeSpells IsItself xs u) e h

no_mark : (es : List Expr) → es ≡ [] → (y : ℕ) (u : List ℕ) → SomeMarks IsItself es y u → ⊥
no_mark es e y u h = subst (λ xs. SomeMarks IsItself xs y u) e h

-- the words of a part are those of its statements
pub part_spelled : (es : List Expr) (part : Option FlaggedTree) → PartHasWords IsItself es part → (u : List ℕ) → PartSpelled part u → IsSpelled es u
part_spelled es None h u w = absurd w
part_spelled es (Some t) h u w = spelled_any es u ((h.spells u).0 w)

pub spelled_part : (es : List Expr) (part : Option FlaggedTree) → PartHasWords IsItself es part → (u : List ℕ) → IsSpelled es u → PartSpelled part u
spelled_part es None h u w = no_statement es h u (any_spelled es u w)
spelled_part es (Some t) h u w = (h.spells u).1 (any_spelled es u w)

pub part_marked : (es : List Expr) (part : Option FlaggedTree) → PartHasWords IsItself es part → (y : ℕ) (u : List ℕ) → PartMarked part y u → IsMarked es y u
part_marked es None h y u w = absurd w
part_marked es (Some t) h y u w = (h.marks y u).0 w

pub marked_part : (es : List Expr) (part : Option FlaggedTree) → PartHasWords IsItself es part → (y : ℕ) (u : List ℕ) → IsMarked es y u → PartMarked part y u
marked_part es None h y u w = no_mark es h y u w
marked_part es (Some t) h y u w = (h.marks y u).1 w

-- first positions

pub firsts_part : (part : Option FlaggedTree) → OfPart (IsExact IsItself) part → (q : ℕ) → In (part_firsts part) q → BeginsWith (PartSpelled part) q
firsts_part None h q i = absurd i
firsts_part (Some t) h q i = firsts_begin t h q i

pub part_begins : (part : Option FlaggedTree) → OfPart (IsExact IsItself) part → (q : ℕ) → BeginsWith (PartSpelled part) q → In (part_firsts part) q
part_begins None h q b = absurd b.1
part_begins (Some t) h q b = begins_firsts t h q b

pub part_distinct : (part : Option FlaggedTree) → OfPart (IsExact IsItself) part → OfPart (λ s. Distinct (leaves s)) part → Distinct (part_firsts part)
part_distinct None e h = tt
part_distinct (Some t) e h = firsts_distinct t e h

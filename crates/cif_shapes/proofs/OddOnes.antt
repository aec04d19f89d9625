-- Numbers that occur an odd number of times, of numbers in order.
use Rattle.std.proofs.Common.{◌≡◌, inl, inr, ℕ, ◌+◌, ◌%◌, Bool, cond, ℤ, ◌≤ℤ◌, ◌<ℤ◌, int_lt, List, [], ◌∷◌, ◌++◌, refl, sym, ◌∙◌, ap, subst, arith}
use Rattle.std.specs.List.{count_by}
use Rattle.std.specs.List.Sorted.{IsPermutation}
use Rattle.std.proofs.lemmas.Int.{ints, by_lt_z}
use Rattle.std.proofs.lemmas.List.Sorted.{sum_by-IsPermutation, IsPermutation-sym}
use Rattle.geom.specs.declared.point.Point.{Point}
use Rattle.geom.specs.Rows.{Among, Pairwise}
use Rattle.cif_shapes.specs.Changes.{Toggles, AreOddOnes, HaveChanges, AreChanges, is_right}
use Rattle.cif_shapes.proofs.Lists.{among_push, among_left, among_right, pairwise_push, pairwise_parts, pairwise_across, permuted, is_last, stands_before, last_or}
use Rattle.cif_shapes.proofs.Rays.{count_append, count_cons, one_if}

-- one number more at the end
pub count_push : {X : Type 0} (p : X → Bool) (xs : List X) (x : X) → count_by p (xs ++ x ∷ []) ≡ count_by p xs + one_if (p x)
count_push p xs x = count_append p xs (x ∷ []) ∙ ap (λ (n : ℕ). count_by p xs + n) (count_cons p x [] ∙ omega arith)

taken_parity : (o n f b : ℕ) → o ≡ n + b → o % 2 ≡ f % 2 → n % 2 ≡ (f + b) % 2
taken_parity o n f b e h = omega arith

put_parity : (o n f b : ℕ) → n ≡ o + b → o % 2 ≡ f % 2 → n % 2 ≡ (f + b) % 2
put_parity o n f b e h = omega arith

-- the number is behind all others that are kept
behind_all : (front odd : List ℤ) (number : ℤ) (back : List ℤ) → Pairwise (λ low high. low ≤ℤ high) (front ++ number ∷ back) → AreOddOnes front odd
    → ((rest : List ℤ) → odd ≡ rest ++ number ∷ [] → ⊥) → (d : ℤ) → Among odd d → d <ℤ number
behind_all front odd number back up o short d i =
    elim (last_or odd d i) [
      | is_last rest e ↦ below_last rest d e
      | stands_before rest last e j ↦
          (let l = below_last rest last e in
          let k : d <ℤ last = before_last rest last e j in omega (arith, ints, l, k))
    ]
  where
    below : (c : ℤ) → Among odd c → c ≤ℤ number
    below c j = pairwise_across (λ low high. low ≤ℤ high) front (number ∷ back) c number up (o.own c j) (inl refl)

    below_last : (rest : List ℤ) (c : ℤ) → odd ≡ rest ++ c ∷ [] → c <ℤ number
    below_last rest c e =
        let P : List ℤ → Type 0 = λ l. Among l c in
        let le : c ≤ℤ number = below c (subst P (sym e) (among_right rest (c ∷ []) c (inl refl))) in
        by_lt_z c number (λ l. l) (λ l.
        let same : c ≡ number = omega (arith, ints, le, l) in
        let Q : ℤ → Type 0 = λ v. odd ≡ rest ++ v ∷ [] in absurd (short rest (subst Q same e)))

    before_last : (rest : List ℤ) (last : ℤ) → odd ≡ rest ++ last ∷ [] → Among rest d → d <ℤ last
    before_last rest last e j =
        let P : List ℤ → Type 0 = λ l. Pairwise (λ left right. left <ℤ right) l in
        pairwise_across (λ left right. left <ℤ right) rest (last ∷ []) d last (subst P e o.rising) j (inl refl)

pub toggled : (front odd new : List ℤ) (number : ℤ) (back : List ℤ) → Pairwise (λ low high. low ≤ℤ high) (front ++ number ∷ back) → AreOddOnes front odd
    → Toggles odd number new → AreOddOnes (front ++ number ∷ []) new
toggled front odd new number back up o (inl e) = record {
  same =
      λ x. taken_parity (count_by (int_lt x) odd) (count_by (int_lt x) new) (count_by (int_lt x) front) (one_if (int_lt x number))
      (ap (count_by (int_lt x)) e ∙ count_push (int_lt x) new number) (o.same x)
      ∙ ap (λ (n : ℕ). n % 2) (sym (count_push (int_lt x) front number));
  own = λ x i. among_left front (number ∷ []) x (o.own x (let P : List ℤ → Type 0 = λ l. Among l x in subst P (sym e) (among_left new (number ∷ []) x i)));
  rising = (let P : List ℤ → Type 0 = λ l. Pairwise (λ left right. left <ℤ right) l in (pairwise_parts (λ left right. left <ℤ right) new (number ∷ []) (subst P e o.rising)).0);
}
toggled front odd new number back up o (inr (short, e)) = record {
  same =
      λ x. put_parity (count_by (int_lt x) odd) (count_by (int_lt x) new) (count_by (int_lt x) front) (one_if (int_lt x number))
      (ap (count_by (int_lt x)) e ∙ count_push (int_lt x) odd number) (o.same x)
      ∙ ap (λ (n : ℕ). n % 2) (sym (count_push (int_lt x) front number));
  own =
      λ x i. elim (among_push odd number x (let P : List ℤ → Type 0 = λ l. Among l x in subst P e i)) [
        | inl j ↦ among_left front (number ∷ []) x (o.own x j)
        | inr f ↦ among_right front (number ∷ []) x (inl f)
      ];
  rising =
      (let P : List ℤ → Type 0 = λ l. Pairwise (λ left right. left <ℤ right) l in
      subst P (sym e) (pairwise_push (λ left right. left <ℤ right) odd number o.rising (behind_all front odd number back up o short)));
}

pub no_numbers : AreOddOnes [] []
no_numbers = record { same = λ x. refl; own = λ x i. absurd i; rising = tt }

-- ---- columns of corners

pub changes_more : (corners : List Point) (columns : List ℤ) (p : Point) → HaveChanges corners columns → HaveChanges (corners ++ p ∷ []) (columns ++ p.x ∷ [])
changes_more corners columns p h = record {
  odd =
      λ x. ap (λ (n : ℕ). n % 2) (count_push (int_lt x) columns p.x)
      ∙ (as_many (count_by (int_lt x) columns) (count_by (is_right x) corners) (one_if (int_lt x p.x)) (h.odd x)
      ∙ ap (λ (n : ℕ). n % 2) (sym (count_push (is_right x) corners p)));
  own =
      λ x i. elim (among_push columns p.x x i) [
        | inl j ↦ (let f = h.own x j in (f.0, among_left corners (p ∷ []) f.0 f.1, f.2))
        | inr e ↦ (p, among_right corners (p ∷ []) p (inl refl), e)
      ];
}
  where
    as_many : (a b n : ℕ) → a % 2 ≡ b % 2 → (a + n) % 2 ≡ (b + n) % 2
    as_many a b n e = omega arith

pub changes_sorted : (corners : List Point) (columns sorted odd : List ℤ) → HaveChanges corners columns → IsPermutation columns sorted → AreOddOnes sorted odd
    → AreChanges corners odd
changes_sorted corners columns sorted odd h p o = record {
  have = record {
    odd = λ x. o.same x ∙ (ap (λ (n : ℕ). n % 2) (sum_by-IsPermutation (λ (z : ℤ). cond (int_lt x z) 1 0) columns sorted p) ∙ h.odd x);
    own = λ x i. h.own x (permuted sorted columns x (IsPermutation-sym columns sorted p) (o.own x i));
  };
  rising = o.rising;
}

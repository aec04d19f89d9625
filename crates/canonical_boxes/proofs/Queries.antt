-- Squares that are asked about row by row, and what is found at each.
use Rattle.std.proofs.Common.{◌≡◌, ℕ, ◌<◌, ◌≤◌, ◌+◌, ℤ, List, [], ◌∷◌, ◌++◌, inl, inr, Option, None, length, take, drop, get_or, set, refl, sym}
use Rattle.std.proofs.Common.{◌∙◌, ap, ap₂, arith, subst, false}
use Rattle.std.specs.List.Sorted.{IsSortedByKey, IsPermutation}
use Rattle.std.proofs.lemmas.List.Sorted.{IsPermutation-sym}
use Rattle.std.specs.Ordering.{int_cmp, is_lt}
use Rattle.std.specs.BTreeMap.{BTreeMap}
use Rattle.std.proofs.lemmas.Fn.{always_returns_same}
use Rattle.std.specs.Fn.{ComputesKey, Called}
use denote.Ref.{Bor}
use denote.Param.Members.{Mut}
use Rattle.std.proofs.lemmas.Grind.{common_steps}
use Rattle.std.proofs.lemmas.Int.{ints, by_lt_z}
use Rattle.std.proofs.Common.{get_or-set_other, get_or-set_same}
use Rattle.geom.specs.declared.point.Point.{Point}
use Rattle.geom.specs.Squares.{BoxShape}
use Rattle.geom.specs.Rows.{Among, Pairwise}
use Rattle.canonical_boxes.specs.declared.locating.Query.{Query}
use Rattle.canonical_boxes.specs.Canonical.{IsAt}
use Rattle.canonical_boxes.specs.Located.{IsLocated, AreLocated}
use Rattle.canonical_boxes.specs.Queries.{IsLower, AreQueriesBelow, AreQueries}
use Rattle.canonical_boxes.specs.Sweeps.{IsHeld}
use Rattle.canonical_boxes.proofs.Lists.{among_push, among_left, among_last, taken_at, left_at, all_taken, pairwise_steps, permuted, at_one, by_order}
use Rattle.canonical_boxes.proofs.Sweeps.{held_higher}

-- ---- the queries

abbrev query_at : ℤ → ℕ → Query
query_at y n = record { y = y; number = n }

pub no_query : (squares : List Point) → AreQueriesBelow squares 0 []
no_query squares = record { each = λ k p at l. absurd (omega arith); back = λ q i. absurd i }

pub query_more : (squares : List Point) (n : ℕ) (p : Point) (old new : List Query) → IsAt squares n p
    → new ≡ old ++ record { y = p.y; number = n } ∷ []
    → AreQueriesBelow squares n old → AreQueriesBelow squares (n + 1) new
query_more squares n p old new at e h =
    let query : Query = record { y = p.y; number = n } in
    let P : List Query → Type 0 = λ l. AreQueriesBelow squares (n + 1) l in
    subst P (sym e) (record {
      each = λ k r q l. by_order k n (λ z. among_left old (query ∷ []) _ (h.each k r q z))
          (λ z. let S : ℕ → Type 0 = λ i. IsAt squares i r in among_last old query _ (same_query k r z (at_one squares n p r at (subst S z q))))
          (λ z. absurd (omega arith));
      back = λ q i. elim (among_push old query q i) [
        | inl j ↦ h.back q j
        | inr f ↦ (let R : Query → Type 0 = λ v. (r : Point) × IsAt squares v.number r × (r.y ≡ v.y) in subst R f (p, at, refl))
      ];
    })
  where
    same_query : (k : ℕ) (r : Point) → k ≡ n → p ≡ r → query_at p.y n ≡ query_at r.y k
    same_query k r e f =
        ap₂ query_at (ap (λ (v : Point). v.y) f) (sym e)

lower_trans : (a b c : Query) → IsLower a b → IsLower b c → IsLower a c
lower_trans a b c h k = omega (arith, ints)

lower_of : (b c : Query) → is_lt (int_cmp c.y b.y) ≡ false → IsLower b c
lower_of b c h = by_lt_z c.y b.y (λ l. absurd (grind (arith, ints))) (λ l. l)

-- what `sort_by_key` ensures at the rows
pub rows_rise : {F : Type 0} {g : Mut F (Bor Query × Unit {0}) ℤ} {f : F} (squares : List Point) (xs ys : List Query) → IsPermutation xs ys
    → ((key : Query → ℤ) → ComputesKey g key f → IsSortedByKey key int_cmp ys)
    → ((a : Bor Query × Unit {0}) (r : ℤ) (f' : F) → Called g f a r f' → (r ≡ a.0.now.y) × (f' ≡ f)) → AreQueriesBelow squares
    (length squares) xs → AreQueries squares ys
rows_rise {g = g} {f = f} squares xs ys p up h all =
    let s : IsSortedByKey (λ (q : Query). q.y) int_cmp ys = up (λ (q : Query). q.y) (always_returns_same g (λ a r. r ≡ a.0.now.y) f h) in
    record {
      all = record {
        each = λ k r at l. permuted xs ys _ p (all.each k r at l);
        back = λ q i. all.back q (permuted ys xs q (IsPermutation-sym xs ys p) i);
      };
      rising = pairwise_steps IsLower lower_trans ys (λ k d l. lower_of (get_or ys k d) (get_or ys (k + 1) d) (s k d (omega arith) l));
    }

-- ---- what is found

-- What the sweep holds is right for the queries that are left; for those that were asked, what is over their squares is found.
pub record AreAsked (m : List BoxShape) (squares : List Point) (asked left : List Query) (begun : ℕ) (runs : BTreeMap ℤ ℕ)
    (found : List (Option ℕ)) : Type 0 where
  pub held : (q : Query) → Among left q → IsHeld m begun q.y runs
  pub rising : Pairwise IsLower left
  pub size : length found ≡ length squares
  pub located : (q : Query) → Among asked q → (p : Point) → IsAt squares q.number p → IsLocated m p.x p.y (get_or found q.number None)

pub none_asked : (m : List BoxShape) (squares : List Point) (queries : List Query) (begun : ℕ) (runs : BTreeMap ℤ ℕ) (found : List (Option ℕ)) →
    ((y : ℤ) → IsHeld m begun y runs)
    → AreQueries squares queries → length found ≡ length squares → AreAsked m squares [] queries begun runs found
none_asked m squares queries begun runs found h q e = record { held = λ r i. h r.y; rising = q.rising; size = e; located = λ r i. absurd i }

pub asked_more : (m : List BoxShape) (squares : List Point) (queries : List Query) (i : ℕ) (q : Query) (p : Point) (begun begun' : ℕ)
    (runs runs' : BTreeMap ℤ ℕ) (old new : List (Option ℕ)) (v : Option ℕ)
    → IsAt queries i q → IsAt squares q.number p → p.y ≡ q.y → new ≡ set old q.number v → IsLocated m p.x q.y v → IsHeld m begun' q.y runs'
    → AreAsked m squares (take i queries) (drop i queries) begun runs old → AreAsked m squares (take (i + 1) queries)
    (drop (i + 1) queries) begun' runs' new
asked_more m squares queries i q p begun begun' runs runs' old new v asked at row e over held h =
    let P : List Query → Type 0 = λ left. Pairwise IsLower left in
    let rising : Pairwise IsLower (q ∷ drop (i + 1) queries) = subst P (left_at queries i q asked.within (sym asked.is)) h.rising in
    let size : length old ≡ length squares = h.size in
    let w : q.number < length squares = at.within in
    record {
      held = λ r j. held_higher m begun' q.y r.y runs' (rising.0 r j) held;
      rising = rising.1;
      size = let z : length new ≡ length (set old q.number v) = ap length e in z ∙ same_length ∙ size;
      located = λ r j o s. by_order r.number q.number
          (λ k. other r o s j (λ f. omega arith))
          (λ k. same r o s k)
          (λ k. other r o s j (λ f. omega arith));
    }
  where
    same_length : length (set old q.number v) ≡ length old
    same_length = grind (arith, common_steps)

    same : (r : Query) (o : Point) → IsAt squares r.number o → r.number ≡ q.number → IsLocated m o.x o.y (get_or new r.number None)
    same r o s k =
        let size : length old ≡ length squares = h.size in
        let w : q.number < length squares = at.within in
        let lt : q.number < length old = omega arith in
        let P : ℕ → Type 0 = λ n. IsAt squares n o in
        let one : o ≡ p = at_one squares q.number o p (subst P k s) at in
        let put : get_or (set old q.number v) q.number None ≡ v = rw get_or-set_same refl in
        let value : get_or new r.number None ≡ v = rw (e, k) put in
        let R : ℤ → Type 0 = λ z. IsLocated m p.x z v in
        let Q : Option ℕ → Type 0 = λ z. IsLocated m p.x p.y z in
        let S : Point → Type 0 = λ z. IsLocated m z.x z.y (get_or new r.number None) in
        subst S (sym one) (subst Q (sym value) (subst R (sym row) over))

    other : (r : Query) (o : Point) → IsAt squares r.number o → Among (take (i + 1) queries) r → (r.number ≡ q.number → ⊥) → IsLocated m o.x o.y
        (get_or new r.number None)
    other r o s j ne =
        let P : List Query → Type 0 = λ t. Among t r in
        let kept : get_or (set old q.number v) r.number None ≡ get_or old r.number None = rw get_or-set_other refl in
        let Q : List (Option ℕ) → Type 0 = λ t. IsLocated m o.x o.y (get_or t r.number None) in
        let R : Option ℕ → Type 0 = λ z. IsLocated m o.x o.y z in
        elim (among_push (take i queries) q r (subst P (taken_at queries i q asked.within (sym asked.is)) j)) [
          | inl k ↦ subst Q (sym e) (subst R (sym kept) (h.located r k o s))
          | inr f ↦ absurd (ne (sym (ap (λ (z : Query). z.number) f)))
        ]

pub all_asked : (m : List BoxShape) (squares : List Point) (queries : List Query) (i : ℕ) (begun : ℕ) (runs : BTreeMap ℤ ℕ)
    (found : List (Option ℕ)) → length queries ≤ i
    → AreQueries squares queries → AreAsked m squares (take i queries) (drop i queries) begun runs found → AreLocated m squares found
all_asked m squares queries i begun runs found past all h = record {
  size = h.size;
  each = λ k p at.
      let P : List Query → Type 0 = λ l. Among l (record { y = p.y; number = k }) in
      h.located (record { y = p.y; number = k }) (subst P (sym (all_taken queries i past)) (all.all.each k p at at.within)) p at;
}

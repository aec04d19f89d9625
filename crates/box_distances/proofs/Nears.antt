-- Near pairs are those that begin above, or have a square beside.
use Rattle.std.proofs.Common.{◌≡◌, ◌↔◌, ◌⊎◌, inl, inr, ℕ, ◌<◌, ◌≤◌, ℤ, pos, ◌+ℤ◌, ◌-ℤ◌, ◌≤ℤ◌, ◌<ℤ◌, List, [], ◌∷◌, ◌++◌, length, refl, sym, ap, subst, arith}
use Rattle.std.proofs.lemmas.Int.{ints, by_lt_z}
use Rattle.geom.specs.Squares.{BoxShape, IsBox, Inside}
use Rattle.geom.specs.Rows.{Among}
use Rattle.canonical_boxes.specs.Canonical.{IsAt, IsCanonical}
use Rattle.canonical_boxes.specs.Laws.{AreNumbered}
use Rattle.box_distances.specs.declared.pairs.NearPair.{NearPair}
use Rattle.box_distances.specs.Near.{AreNear, IsNearPair, ShareNone, AreNearPairs, AreNearPairsIn, swapped, IsAbove, IsAbovePair, IsBesidePair, IsBesideColumn, AddsBesidePairs, AreAhead}
use Rattle.box_distances.proofs.Lists.{among_push, among_left, among_last}
use Rattle.box_distances.proofs.Rows.{AboveSoFar}

pub are_ahead : (reach : ℤ) (m n : List BoxShape) (k : ℕ) (mid found : List NearPair) → length m ≤ k → AboveSoFar reach m n k mid
    → AddsBesidePairs reach m n mid found → AreAhead reach m n found
are_ahead reach m n k mid found past h adds p = (
  (λ i. elim ((adds p).0 i) [ inl old ↦ inl ((h p).0 old).1 | inr q ↦ inr q ]),
  (λ c. elim c [
    | inl q ↦ let w : p.one < length m = q.first.within in (adds p).1 (inl ((h p).1 (omega arith, q)))
    | inr q ↦ (adds p).1 (inr q)
  ]),
)

module _ (numbered : AreNumbered) (reach : ℤ) (some : pos 0 ≤ℤ reach) (m n : List BoxShape) (one : IsCanonical m) (other : IsCanonical n) where
  ahead_near : (p : NearPair) → IsAbovePair reach m n p ⊎ IsBesidePair reach m n p → IsNearPair reach m n p
  ahead_near p (inl q) =
      let a : BoxShape = q.one in
      let b : BoxShape = q.other in
      let box : IsBox a = numbered.box m one p.one a q.first in
      let tall : (a.y1 <ℤ a.y2) = box.upward.order in
      let box' : IsBox b = numbered.box n other p.other b q.second in
      let tall' : (b.y1 <ℤ b.y2) = box'.upward.order in
      let low : (a.y2 ≤ℤ b.y1) = q.above.bottom in
      let left : ((a.x1 -ℤ reach) <ℤ b.x2) = q.above.left in
      record {
        one = a;
        other = b;
        first = q.first;
        second = q.second;
        near = record { right = q.above.right; left = omega (arith, ints); above = q.above.top; below = omega (arith, ints) };
      }
  ahead_near p (inr q) =
      let a : BoxShape = q.one in
      let b : BoxShape = q.other in
      let box : IsBox a = numbered.box m one p.one a q.first in
      let tall : (a.y1 <ℤ a.y2) = box.upward.order in
      let wide : (a.x1 <ℤ a.x2) = box.across.order in
      let l : (b.x1 ≤ℤ q.x) = q.inside.left in
      let r : (q.x <ℤ b.x2) = q.inside.right in
      let d : (b.y1 ≤ℤ a.y1) = q.inside.bottom in
      let t : (a.y1 <ℤ b.y2) = q.inside.top in
      record {
        one = a;
        other = b;
        first = q.first;
        second = q.second;
        near = elim q.column [
          | inl c ↦
              let u : (q.x <ℤ a.x1) = c.0 in
              let v : (a.x1 ≤ℤ (q.x +ℤ reach)) = c.1 in
              record { right = omega (arith, ints); left = omega (arith, ints); above = omega (arith, ints); below = omega (arith, ints) }
          | inr c ↦
              let u : (a.x2 ≤ℤ q.x) = c.0 in
              let v : (q.x <ℤ (a.x2 +ℤ reach)) = c.1 in
              record { right = omega (arith, ints); left = omega (arith, ints); above = omega (arith, ints); below = omega (arith, ints) }
        ];
      }

-- ---- of two near boxes without a common square the one is ahead of the other, or the other of the one

-- a square beside the first, in the row in which it begins, lies in the second
pub record HasBeside (reach : ℤ) (a b : BoxShape) : Type 0 where
  pub x : ℤ
  pub column : IsBesideColumn reach a x
  pub inside : Inside b x a.y1

beside_by : (reach : ℤ) (c d : BoxShape) → c.x1 <ℤ c.x2 → d.x1 <ℤ d.x2 → AreNear reach c d → ShareNone c d → d.y1 ≤ℤ c.y1 → c.y1 <ℤ d.y2
    → c.y1 <ℤ c.y2 → HasBeside reach c d
beside_by reach c d w w' close apart low high up =
    let right : (d.x1 <ℤ (c.x2 +ℤ reach)) = close.right in
    let left : (c.x1 <ℤ (d.x2 +ℤ reach)) = close.left in
    by_lt_z d.x1 c.x2
    (λ h. by_lt_z c.x1 d.x2
    (λ k. by_lt_z c.x1 d.x1
    (λ z. absurd (apart d.x1 c.y1
    (record { left = omega (arith, ints); right = h; bottom = omega (arith, ints); top = up })
    (record { left = omega (arith, ints); right = w'; bottom = low; top = high })))
    (λ z. absurd (apart c.x1 c.y1
    (record { left = omega (arith, ints); right = w; bottom = omega (arith, ints); top = up })
    (record { left = z; right = k; bottom = low; top = high }))))
    (λ k. record {
      x = d.x2 -ℤ pos 1;
      column = inl (omega (arith, ints), omega (arith, ints));
      inside = record { left = omega (arith, ints); right = omega (arith, ints); bottom = low; top = high };
    }))
    (λ h. record {
      x = d.x1;
      column = inr (h, right);
      inside = record { left = omega (arith, ints); right = w'; bottom = low; top = high };
    })

above_by : (reach : ℤ) (c d : BoxShape) → AreNear reach c d → c.y2 ≤ℤ d.y1 → IsAbove reach c d
above_by reach c d close h =
    let left : (c.x1 <ℤ (d.x2 +ℤ reach)) = close.left in
    record { bottom = h; top = close.above; left = omega (arith, ints); right = close.right }

turned : (reach : ℤ) (a b : BoxShape) → AreNear reach a b → AreNear reach b a
turned reach a b near = record { right = near.left; left = near.right; above = near.below; below = near.above }

-- the second is above the first, or has a square beside it
abbrev pub Ahead : ℤ → BoxShape → BoxShape → Type 0
Ahead reach a b = IsAbove reach a b ⊎ HasBeside reach a b

one_ahead : (reach : ℤ) (a b : BoxShape) → IsBox a → IsBox b → AreNear reach a b → ShareNone a b → Ahead reach a b ⊎ Ahead reach b a
one_ahead reach a b box box' near none =
    let wide : (a.x1 <ℤ a.x2) = box.across.order in
    let wide' : (b.x1 <ℤ b.x2) = box'.across.order in
    let tall : (a.y1 <ℤ a.y2) = box.upward.order in
    let tall' : (b.y1 <ℤ b.y2) = box'.upward.order in
    by_lt_z b.y1 a.y2
    (λ h. by_lt_z a.y1 b.y2
    (λ k. by_lt_z a.y1 b.y1
    (λ z. inr (inr (beside_by reach b a wide' wide (turned reach a b near) (λ x y p q. none x y q p) (omega (arith, ints)) h tall')))
    (λ z. inl (inr (beside_by reach a b wide wide' near none z k tall))))
    (λ k. inr (inl (above_by reach b a (turned reach a b near) k))))
    (λ h. inl (inl (above_by reach a b near h)))

listed : (reach : ℤ) (m n : List BoxShape) (found : List NearPair) (p : NearPair) (a b : BoxShape) → IsAt m p.one a → IsAt n p.other b
    → AreAhead reach m n found → Ahead reach a b → Among found p
listed reach m n found p a b first second h (inl above) =
    (h p).1 (inl (record { one = a; other = b; first = first; second = second; above = above }))
listed reach m n found p a b first second h (inr beside) =
    (h p).1 (inr (record { one = a; other = b; first = first; second = second; x = beside.x; column = beside.column; inside = beside.inside }))

pub near_pairs_in : (numbered : AreNumbered) (reach : ℤ) (some : pos 0 ≤ℤ reach) (m : List BoxShape) (one : IsCanonical m) (found : List NearPair)
    → AreAhead reach m m found → AreNearPairsIn reach m found
near_pairs_in numbered reach some m one found h = record {
  sound = λ p i. ahead_near numbered reach some m m one one p ((h p).0 i);
  all = λ p near none.
      let box : IsBox near.one = numbered.box m one p.one near.one near.first in
      let box' : IsBox near.other = numbered.box m one p.other near.other near.second in
      elim (one_ahead reach near.one near.other box box' near.near none) [
        | inl s ↦ inl (listed reach m m found p near.one near.other near.first near.second h s)
        | inr s ↦ inr (listed reach m m found (swapped p) near.other near.one near.second near.first h s)
      ];
}

-- ---- both orders

-- the pairs of the first list, and so many of the second in the other order
abbrev pub BothSoFar : List NearPair → List NearPair → List NearPair → Type 0
BothSoFar ahead behind found = (p : NearPair) → Among found p ↔ (Among ahead p ⊎ Among behind (swapped p))

pub none_behind : (ahead : List NearPair) → BothSoFar ahead [] ahead
none_behind ahead p = ((λ i. inl i), (λ h. elim h [ inl i ↦ i | inr i ↦ absurd i ]))

abbrev pair_of : ℕ → ℕ → NearPair
pair_of i j = record { one = i; other = j }

swap_is : (p q : NearPair) → swapped q ≡ p → q ≡ swapped p
swap_is p q e =
    let f : q.other ≡ p.one = ap (λ (v : NearPair). v.one) e in
    let g : q.one ≡ p.other = ap (λ (v : NearPair). v.other) e in
    same q.one q.other p.other p.one g f
  where
    same : (i j k l : ℕ) → i ≡ k → j ≡ l → pair_of i j ≡ pair_of k l
    same i j k l e f = rw (e, f) refl

pub behind_more : (ahead behind found after : List NearPair) (q : NearPair) → after ≡ found ++ swapped q ∷ [] → BothSoFar ahead behind found
    → BothSoFar ahead (behind ++ q ∷ []) after
behind_more ahead behind found after q e h p =
    let P : List NearPair → Type 0 = λ l. Among l p in (
      (λ i. elim (among_push found (swapped q) p (subst P e i)) [
        | inl old ↦ elim ((h p).0 old) [ inl a ↦ inl a | inr b ↦ inr (among_left behind (q ∷ []) (swapped p) b) ]
        | inr same ↦ inr (among_last behind q (swapped p) (swap_is p q same))
      ]),
      (λ c. subst P (sym e) (elim c [
        | inl a ↦ among_left found (swapped q ∷ []) p ((h p).1 (inl a))
        | inr b ↦ elim (among_push behind q (swapped p) b) [
          | inl old ↦ among_left found (swapped q ∷ []) p ((h p).1 (inr old))
          | inr same ↦ among_last found (swapped q) p (ap swapped same)
        ]
      ])),
    )

pub near_pairs : (numbered : AreNumbered) (reach : ℤ) (some : pos 0 ≤ℤ reach) (m n : List BoxShape) (one : IsCanonical m) (other : IsCanonical n)
    (ahead behind found : List NearPair) → AreAhead reach m n ahead → AreAhead reach n m behind → BothSoFar ahead behind found
    → AreNearPairs reach m n found
near_pairs numbered reach some m n one other ahead behind found h k both = record {
  sound = λ p i. elim ((both p).0 i) [
    | inl a ↦ ahead_near numbered reach some m n one other p ((h p).0 a)
    | inr b ↦
        let q : IsNearPair reach n m (swapped p) = ahead_near numbered reach some n m other one (swapped p) ((k (swapped p)).0 b) in
        record { one = q.other; other = q.one; first = q.second; second = q.first; near = turned reach q.one q.other q.near }
  ];
  all = λ p near none.
      let box : IsBox near.one = numbered.box m one p.one near.one near.first in
      let box' : IsBox near.other = numbered.box n other p.other near.other near.second in
      elim (one_ahead reach near.one near.other box box' near.near none) [
        | inl s ↦ (both p).1 (inl (listed reach m n ahead p near.one near.other near.first near.second h s))
        | inr s ↦ (both p).1 (inr (listed reach n m behind (swapped p) near.other near.one near.second near.first k s))
      ];
}

-- The touches of a canonical list, lower box by lower box.
use Rattle.std.proofs.Common.{◌≡◌, ◌↔◌, ℕ, ◌<◌, ◌≤◌, ◌+◌, List, [], ◌∷◌, ◌++◌, ◌⊎◌, inl, inr, length, get_or, refl, sym, ap, arith, subst}
use Rattle.geom.specs.Squares.{BoxShape}
use Rattle.geom.specs.Rows.{Among}
use Rattle.canonical_boxes.specs.declared.touching.Touch.{Touch}
use Rattle.canonical_boxes.specs.Canonical.{IsAt}
use Rattle.canonical_boxes.specs.Standing.{BeginsAmong}
use Rattle.canonical_boxes.specs.Touches.{StandsOn, IsTouch, AreTouches, AddsTouches}
use Rattle.canonical_boxes.proofs.Lists.{among_push, among_left, among_last, at_of, at_one, by_order}

-- the touches whose lower boxes are the first ones
abbrev pub AreTouchesBelow : List BoxShape → ℕ → List Touch → Type 0
AreTouchesBelow m n found = (t : Touch) → Among found t ↔ ((t.lower < n) × IsTouch m t)

pub none_below : (m : List BoxShape) → AreTouchesBelow m 0 []
none_below m t = ((λ h. absurd h), (λ h. absurd (omega (arith, h.0))))

pub one_more : (m : List BoxShape) (n : ℕ) (before after : List Touch) → AreTouchesBelow m n before → AddsTouches m n before after
    → AreTouchesBelow m (n + 1) after
one_more m n before after h adds t = (
  (λ i. elim ((adds t).0 i) [
    | inl old ↦ let two = (h t).0 old in (omega (arith, two.0), two.1)
    | inr new ↦ (omega (arith, new.0), new.1)
  ]),
  (λ k. by_order t.lower n
      (λ l. (adds t).1 (inl ((h t).1 (l, k.1))))
      (λ e. (adds t).1 (inr (e, k.1)))
      (λ l. absurd (omega (arith, k.0)))),
)

pub all_below : (m : List BoxShape) (n : ℕ) (found : List Touch) → length m ≤ n → AreTouchesBelow m n found → AreTouches m found
all_below m n found l h t = (
  (λ i. ((h t).0 i).1),
  (λ k. let w : t.lower < length m = k.lower.within in (h t).1 (omega arith, k)),
)

-- ---- the touches of one lower box

-- the pairs before, and those of this lower box with the upper ones from one number up to two others
abbrev pub AddsPairs : ℕ → ℕ → ℕ → ℕ → List Touch → List Touch → Type 0
AddsPairs lower first now end before found = (t : Touch) → Among found t ↔
    (Among before t ⊎ ((t.lower ≡ lower) × (first ≤ t.upper) × (t.upper < now) × (t.upper < end)))

pub no_pair : (lower first end : ℕ) (before : List Touch) → AddsPairs lower first first end before before
no_pair lower first end before t = (
  (λ i. inl i),
  (λ h. elim h [ inl i ↦ i | inr k ↦ absurd (omega (arith, k.1, k.2)) ]),
)

touch_is : (t : Touch) (l u : ℕ) → t.lower ≡ l → t.upper ≡ u → record { lower = l; upper = u } ≡ t
touch_is t l u e f = let r : record { lower = l; upper = u } ≡ record { lower = t.lower; upper = t.upper } = rw (e, f) refl in r

pub pair_more : (lower first now end : ℕ) (before found after : List Touch) → first ≤ now → now < end
    → after ≡ found ++ record { lower = lower; upper = now } ∷ []
    → AddsPairs lower first now end before found → AddsPairs lower first (now + 1) end before after
pair_more lower first now end before found after from to e h t =
    let new : Touch = record { lower = lower; upper = now } in
    let P : List Touch → Type 0 = λ l. Among l t in (
      (λ i. elim (among_push found new t (subst P e i)) [
        | inl old ↦ elim ((h t).0 old) [
          | inl k ↦ inl k
          | inr k ↦ inr (k.0, k.1, omega (arith, k.2), k.3)
        ]
        | inr same ↦
            let l : lower ≡ t.lower = ap (λ (v : Touch). v.lower) same in
            let u : now ≡ t.upper = ap (λ (v : Touch). v.upper) same in
            inr (sym l, omega arith, omega arith, omega arith)
      ]),
      (λ k. subst P (sym e) (elim k [
        | inl old ↦ among_left found (new ∷ []) t ((h t).1 (inl old))
        | inr k ↦ by_order t.upper now
            (λ l. among_left found (new ∷ []) t ((h t).1 (inr (k.0, k.1, l, k.3))))
            (λ u. among_last found new t (touch_is t lower now k.0 u))
            (λ l. absurd (omega (arith, k.2)))
      ])),
    )

pub pairs_are : (m : List BoxShape) (lower first now end : ℕ) (b : BoxShape) (before found : List Touch) → IsAt m lower b → end ≤ length m → end ≤ now
    → ((k : ℕ) (c : BoxShape) → IsAt m k c → ((first ≤ k) × (k < end)) ↔ BeginsAmong c b.y2 b.x1 b.x2)
    → AddsPairs lower first now end before found → AddsTouches m lower before found
pairs_are m lower first now end b before found at fits past numbers h t = (
  (λ i. elim ((h t).0 i) [
    | inl old ↦ inl old
    | inr k ↦
        let w : t.upper < length m = omega (arith, k.3) in
        let c : BoxShape = get_or m t.upper b in
        let q : IsAt m t.upper c = at_of m t.upper b w in
        let begins : BeginsAmong c b.y2 b.x1 b.x2 = (numbers t.upper c q).0 (k.1, k.3) in
        let P : ℕ → Type 0 = λ n. IsAt m n b in
        inr (
          k.0,
          record {
            under = b;
            over = c;
            lower = subst P (sym k.0) at;
            upper = q;
            stands = record { edge = sym begins.row; left = begins.left; right = begins.right };
          },
        )
  ]),
  (λ k. elim k [
    | inl old ↦ (h t).1 (inl old)
    | inr k ↦
        let s : IsTouch m t = k.1 in
        let P : ℕ → Type 0 = λ n. IsAt m n s.under in
        let one : s.under ≡ b = at_one m lower s.under b (subst P k.0 s.lower) at in
        let Q : BoxShape → Type 0 = λ v. StandsOn s.over v in
        let on : StandsOn s.over b = subst Q one s.stands in
        let two = (numbers t.upper s.over s.upper).1 (record { row = sym on.edge; left = on.left; right = on.right }) in
        (h t).1 (inr (k.0, two.0, omega (arith, two.1), two.1))
  ]),
)

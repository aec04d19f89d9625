-- What a sweep holds stays right as boxes begin, end, and are looked at.
use Rattle.std.proofs.Common.{◌≡◌, ◌↔◌, ℕ, ◌<◌, ◌≤◌, ◌+◌, ℤ, ◌≤ℤ◌, ◌<ℤ◌, true, false, List, inl, inr, if◌then◌else◌, Option, Some, None, is_some}
use Rattle.std.proofs.Common.{length, refl, sym, ◌∙◌, ap, arith, subst}
use Rattle.std.specs.Ordering.{int_cmp, is_eq, is_gt, is_lt}
use Rattle.std.specs.Option.{IsSome}
use Rattle.std.specs.declared.cmp.Ordering.{Ordering}
use Rattle.std.specs.declared.cmp.Ordering.TheVariants.{Less, Greater}
use Rattle.std.specs.BTreeMap.{BTreeMap, get, is_at}
use Rattle.std.proofs.lemmas.Int.{ints, by_lt_z, to_z-of_z}
use lib.Signed.{lt_z}
use mir.Syntax.{w64}
use mir.Val.{SFits, of_z, to_z}
use Rattle.geom.specs.Squares.{BoxShape, IsBox, Inside}
use Rattle.geom.specs.Rows.{Over}
use Rattle.canonical_boxes.specs.Canonical.{BeginsBefore, AreParted, IsCanonical, IsAt}
use Rattle.canonical_boxes.specs.Standing.{is_passed}
use Rattle.canonical_boxes.specs.Located.{IsOver}
use Rattle.canonical_boxes.specs.Sweeps.{IsHeld, HasBegun, IsGreatestAt, IsLatestAt, IsLatest}
use Rattle.canonical_boxes.proofs.Lists.{Numbered, among_at, Element, element_at, at_among, at_one, pair_at, by_order}
use Rattle.canonical_boxes.proofs.Parted.{OverBy, over_by, one_or_parted}
use Rattle.canonical_boxes.proofs.Counts.{passed_from, passed_is}

-- ---- keys of a map

pub other_key : (a q : ℤ) → (a ≡ q → ⊥) → is_at (int_cmp a) q ≡ false
other_key a q ne =
    let P : Ordering → Type 0 = λ o. is_eq o ≡ false in
    by_lt_z a q
    (λ l. let e : int_cmp a q ≡ Less = grind (arith, ints) in subst P (sym e) refl)
    (λ l. by_lt_z q a
    (λ k. let e : int_cmp a q ≡ Greater = grind (arith, ints) in subst P (sym e) refl)
    (λ k. absurd (ne (omega (arith, ints)))))

-- The key has the value, and the others have what they had.
pub record Sets {V : Type 0} (old new : BTreeMap ℤ V) (key : ℤ) (value : Option V) : Type 0 where
  pub at : get int_cmp new key ≡ value
  pub others : (q : ℤ) → is_at (int_cmp key) q ≡ false → get int_cmp new q ≡ get int_cmp old q

-- ---- boxes begin

pub none_held : (m : List BoxShape) (y : ℤ) (runs : BTreeMap ℤ ℕ) → ((q : ℤ) → get int_cmp runs q ≡ None) → IsHeld m 0 y runs
none_held m y runs none = record {
  few = omega arith;
  below = λ k b at l. absurd (omega arith);
  held = λ x k e. let f = none x in absurd cc;
  kept = λ k b at l. absurd (omega arith);
}

pub held_higher : (m : List BoxShape) (n : ℕ) (y z : ℤ) (runs : BTreeMap ℤ ℕ) → y ≤ℤ z → IsHeld m n y runs → IsHeld m n z runs
held_higher m n y z runs up h = record {
  few = h.few;
  below = λ k b at l. let low : (b.y1 ≤ℤ y) = h.below k b at l in omega (arith, ints);
  held = h.held;
  kept = λ k b at l top. h.kept k b at l (omega (arith, ints));
}

module _ (m : List BoxShape) (canonical : IsCanonical m) where
  -- a box that began before, at the same left edge, has ended
  left_ended : (j n : ℕ) (c b : BoxShape) (y : ℤ) → IsAt m j c → IsAt m n b → j < n → b.y1 ≤ℤ y → y <ℤ c.y2 → c.x1 ≡ b.x1 → ⊥
  left_ended j n c b y p q l low top e =
      let box : IsBox b = canonical.boxes b (at_among m n b q) in
      let box' : IsBox c = canonical.boxes c (at_among m j c p) in
      let high : (b.y1 <ℤ b.y2) = box.upward.order in
      let wide : (b.x1 <ℤ b.x2) = box.across.order in
      let wide' : (c.x1 <ℤ c.x2) = box'.across.order in
      let under : c.y1 ≤ℤ b.y1 = elim (pair_at BeginsBefore m j n c b canonical.order p q l) [
        | inl k ↦ omega (arith, ints)
        | inr k ↦ let f : c.y1 ≡ b.y1 = k.0 in omega (arith, ints)
      ] in
      elim (pair_at AreParted m j n c b canonical.parted p q l b.y1 (record { bottom = under; top = omega (arith, ints) })
      (record { bottom = omega (arith, ints); top = high })) [
        | inl z ↦ omega (arith, ints)
        | inr z ↦ omega (arith, ints)
      ]

  pub held_more : (n : ℕ) (b : BoxShape) (y : ℤ) (old new : BTreeMap ℤ ℕ) → IsAt m n b → b.y1 ≤ℤ y → Sets old new b.x1 (Some n)
      → IsHeld m n y old → IsHeld m (n + 1) y new
  held_more n b y old new at low sets h = record {
    few = let w : n < length m = at.within in omega arith;
    below = λ k c p l. by_order k n (λ z. h.below k c p z)
        (λ e. let P : ℕ → Type 0 = λ i. IsAt m i c in
        let one : b ≡ c = at_one m n b c at (subst P e p) in
        let Q : BoxShape → Type 0 = λ d. d.y1 ≤ℤ y in subst Q one low)
        (λ z. absurd (omega arith));
    held = λ x k e. by_lt_z x b.x1 (λ l. old_key x k e (λ f. omega (arith, ints)))
        (λ l. by_lt_z b.x1 x (λ l'. old_key x k e (λ f. omega (arith, ints))) (λ l'. new_key x k e (omega (arith, ints))));
    kept = λ k c p l top. by_order k n (λ z. old_box k c p z top) (λ e. new_box k c p e) (λ z. absurd (omega arith));
  }
    where
      old_key : (x : ℤ) (k : ℕ) → get int_cmp new x ≡ Some k → (b.x1 ≡ x → ⊥) → (k < n + 1) × ((c : BoxShape) → IsAt m k c → c.x1 ≡ x)
      old_key x k e ne =
          let f = h.held x k (sym (sets.others x (other_key b.x1 x ne)) ∙ e) in
          (let l : k < n = f.0 in omega arith, f.1)

      new_key : (x : ℤ) (k : ℕ) → get int_cmp new x ≡ Some k → b.x1 ≡ x → (k < n + 1) × ((c : BoxShape) → IsAt m k c → c.x1 ≡ x)
      new_key x k e same =
          let P : ℤ → Type 0 = λ q. get int_cmp new q ≡ Some k in
          let f : get int_cmp new b.x1 ≡ Some k = subst P (sym same) e in
          let s : get int_cmp new b.x1 ≡ Some n = sets.at in
          let i : n ≡ k = cc in
          (omega arith, (λ c p. let Q : ℕ → Type 0 = λ j. IsAt m j c in ap (λ (d : BoxShape). d.x1) (at_one m n c b (subst Q (sym i) p) at) ∙ same))

      old_box : (k : ℕ) (c : BoxShape) → IsAt m k c → k < n → y <ℤ c.y2 → get int_cmp new c.x1 ≡ Some k
      old_box k c p l top = sets.others c.x1 (other_key b.x1 c.x1 (λ e. left_ended k n c b y p at l low top (sym e))) ∙ h.kept k c p l top

      new_box : (k : ℕ) (c : BoxShape) → IsAt m k c → k ≡ n → get int_cmp new c.x1 ≡ Some k
      new_box k c p e =
          let P : ℕ → Type 0 = λ i. IsAt m i c in
          let one : b ≡ c = at_one m n b c at (subst P e p) in
          let Q : BoxShape → Type 0 = λ d. get int_cmp new d.x1 ≡ Some n in
          subst Q one sets.at ∙ ap (λ (i : ℕ). Some i) (sym e)

-- The boxes below the count are those that begin at or below the row.
pub begun_all : (m : List BoxShape) (y x : ℤ) (n : ℕ) → ((b : BoxShape) (i : ℕ) → IsAt m i b → b.x2 ≤ℤ x)
    → ((k : ℕ) (b : BoxShape) → IsAt m k b → (k < n) ↔ (is_passed y x b ≡ true)) → HasBegun m n y
begun_all m y x n near passed k b at = (
  (λ l. elim (passed_is y x b ((passed k b at).0 l)) [ inl z ↦ omega (arith, ints) | inr z ↦ z.0 ]),
  (λ l. (passed k b at).1 (passed_from y x b (inr (l, near b k at)))),
)

-- no more boxes have begun at a row than begin at or below it
pub none_past : (m : List BoxShape) (n end : ℕ) (y : ℤ) (runs : BTreeMap ℤ ℕ) → IsHeld m n y runs → HasBegun m end y → n ≤ end
none_past m n end y runs h all = by_order n end (λ l. omega arith) (λ e. omega arith)
    (λ l.
    let few : n ≤ length m = h.few in
    let b : Element m end = element_at m end (omega arith) in
    let k : end < end = (all end b.element b.at).1 (h.below end b.element b.at l) in
    absurd (omega arith))

-- ---- boxes end

pub held_less : (m : List BoxShape) (n : ℕ) (y x : ℤ) (k : ℕ) (b : BoxShape) (old new : BTreeMap ℤ ℕ) → IsAt m k b → b.y2 ≤ℤ y
    → get int_cmp old x ≡ Some k
    → Sets old new x None → IsHeld m n y old → IsHeld m n y new
held_less m n y x k b old new at ended was sets h = record {
  few = h.few;
  below = h.below;
  held = λ q j e. by_lt_z q x (λ l. stays q j e (λ f. omega (arith, ints)))
      (λ l. by_lt_z x q (λ l'. stays q j e (λ f. omega (arith, ints))) (λ l'. absurd (gone q j e (omega (arith, ints)))));
  kept = λ j c p l top. sets.others c.x1 (other_key x c.x1 (λ e. alive j c p l top e)) ∙ h.kept j c p l top;
}
  where
    stays : (q : ℤ) (j : ℕ) → get int_cmp new q ≡ Some j → (x ≡ q → ⊥) → (j < n) × ((c : BoxShape) → IsAt m j c → c.x1 ≡ q)
    stays q j e ne = h.held q j (sym (sets.others q (other_key x q ne)) ∙ e)

    gone : (q : ℤ) (j : ℕ) → get int_cmp new q ≡ Some j → x ≡ q → ⊥
    gone q j e same =
        let P : ℤ → Type 0 = λ z. get int_cmp new z ≡ Some j in
        let f : get int_cmp new x ≡ Some j = subst P (sym same) e in
        let s : get int_cmp new x ≡ None = sets.at in
        absurd cc

    alive : (j : ℕ) (c : BoxShape) → IsAt m j c → j < n → y <ℤ c.y2 → x ≡ c.x1 → ⊥
    alive j c p l top e =
        let P : ℤ → Type 0 = λ z. get int_cmp old z ≡ Some j in
        let f : get int_cmp old x ≡ Some j = subst P (sym e) (h.kept j c p l top) in
        let s : k ≡ j = cc in
        let Q : ℕ → Type 0 = λ i. IsAt m i c in
        let one : c ≡ b = at_one m k c b (subst Q (sym s) p) at in
        let R : BoxShape → Type 0 = λ d. y <ℤ d.y2 in
        let up : (y <ℤ b.y2) = subst R one top in
        omega (arith, ints)

-- ---- boxes are looked at

-- the key of the box that is found is its left edge
pub greatest_left : (m : List BoxShape) (n : ℕ) (y x : ℤ) (k : ℕ) (b : BoxShape) (runs : BTreeMap ℤ ℕ) → IsAt m k b → IsGreatestAt runs x k
    → IsHeld m n y runs
    → get int_cmp runs b.x1 ≡ Some k
greatest_left m n y x k b runs at greatest h =
    let P : ℤ → Type 0 = λ q. get int_cmp runs q ≡ Some k in
    subst P (sym ((h.held greatest.key k greatest.value).1 b at)) greatest.value

pub number_fits : (m : List BoxShape) (n : ℕ) (y x : ℤ) (k : ℕ) (runs : BTreeMap ℤ ℕ) → IsGreatestAt runs x k → IsHeld m n y runs → k < length m
number_fits m n y x k runs greatest h =
    let l : k < n = (h.held greatest.key k greatest.value).0 in
    let few : n ≤ length m = h.few in
    omega arith

pub latest_found : (m : List BoxShape) (n : ℕ) (y x : ℤ) (k : ℕ) (b : BoxShape) (runs : BTreeMap ℤ ℕ) → IsAt m k b → y <ℤ b.y2 → IsGreatestAt runs x k
    → IsHeld m n y runs → IsLatestAt m n x y k
latest_found m n y x k b runs at top greatest h =
    let f = h.held greatest.key k greatest.value in
    let e : b.x1 ≡ greatest.key = f.1 b at in
    let key : (greatest.key ≤ℤ x) = greatest.up_to in
    record {
      box = b;
      at = at;
      before = f.0;
      left = omega (arith, ints);
      top = top;
      last = λ j c p l up left. let z : (c.x1 ≤ℤ greatest.key) = greatest.last c.x1 j left (h.kept j c p l up) in omega (arith, ints);
    }

pub latest_none : (m : List BoxShape) (n : ℕ) (y x : ℤ) (runs : BTreeMap ℤ ℕ) → ((q : ℤ) → q ≤ℤ x → get int_cmp runs q ≡ None)
    → IsHeld m n y runs → IsLatest m n x y None
latest_none m n y x runs none h k b at l top left =
    let e : get int_cmp runs b.x1 ≡ Some k = h.kept k b at l top in
    let f : get int_cmp runs b.x1 ≡ None = none b.x1 left in
    absurd cc

module _ (m : List BoxShape) (canonical : IsCanonical m) (n : ℕ) (y x : ℤ) (begun : HasBegun m n y) where
  pub over_latest : (k : ℕ) (b : BoxShape) → IsAt m k b → x <ℤ b.x2 → IsLatestAt m n x y k → IsOver m x y k
  over_latest k b at right latest =
      let one : latest.box ≡ b = at_one m k latest.box b latest.at at in
      let P : BoxShape → Type 0 = λ c. x <ℤ c.x2 in
      record {
        box = latest.box;
        at = latest.at;
        inside = record {
          left = latest.left;
          right = subst P (sym one) right;
          bottom = (begun k latest.box latest.at).0 latest.before;
          top = latest.top;
        };
      }

  pub past_latest : (k : ℕ) (b : BoxShape) → IsAt m k b → b.x2 ≤ℤ x → IsLatestAt m n x y k → Over m x y → ⊥
  past_latest k b at right latest over =
      let P : BoxShape → Type 0 = λ d. d.x2 ≤ℤ x in
      let ends : (latest.box.x2 ≤ℤ x) = subst P (sym (at_one m k latest.box b latest.at at)) right in
      let c : OverBy m x y = over_by m x y over in
      let j : Numbered m c.box = among_at m c.box c.among in
      let i : Inside c.box x y = c.inside in
      let near : (c.box.x1 ≤ℤ latest.box.x1) = latest.last j.number c.box j.at ((begun j.number c.box j.at).1 i.bottom) i.top i.left in
      let wide : (latest.box.x1 <ℤ latest.box.x2) = (canonical.boxes latest.box (at_among m k latest.box latest.at)).across.order in
      let right' : (x <ℤ c.box.x2) = i.right in
      elim (one_or_parted m canonical k j.number latest.box c.box latest.at j.at) [
        | inl e ↦
            let Q : ℕ → Type 0 = λ z. IsAt m z c.box in
            let R : BoxShape → Type 0 = λ d. x <ℤ d.x2 in
            let late : (x <ℤ latest.box.x2) = subst R (sym (at_one m k latest.box c.box latest.at (subst Q (sym e) j.at))) right' in
            omega (arith, ints)
        | inr apart ↦ elim (apart y (record { bottom = (begun k latest.box latest.at).0 latest.before; top = latest.top })
            (record { bottom = i.bottom; top = i.top })) [
              | inl z ↦ omega (arith, ints)
              | inr z ↦ omega (arith, ints)
            ]
      ]

  pub none_latest : IsLatest m n x y None → Over m x y → ⊥
  none_latest none over =
      let c : OverBy m x y = over_by m x y over in
      let j : Numbered m c.box = among_at m c.box c.among in
      none j.number c.box j.at ((begun j.number c.box j.at).1 c.inside.bottom) c.inside.top c.inside.left

-- ---- what the map's calls say

pub greatest_at : (runs : BTreeMap ℤ ℕ) (x bound key : ℤ) (k : ℕ) → bound ≡ x → is_gt (int_cmp key bound) ≡ false → get int_cmp runs key ≡ Some k
    → ((q : ℤ) → is_gt (int_cmp q bound) ≡ false → IsSome (get int_cmp runs q) → is_lt (int_cmp key q) ≡ false) → IsGreatestAt runs x k
greatest_at runs x bound key k e up_to value last = record {
  key = key;
  up_to = at_most key up_to;
  value = value;
  last = λ q j l g.
      let P : Option ℕ → Type 0 = λ o. IsSome o in
      by_lt_z key q (λ z. let f : is_lt (int_cmp key q) ≡ false = last q (within q l) (subst P (sym g) refl) in absurd (grind (arith, ints)))
      (λ z. z);
}
  where
    at_most : (q : ℤ) → is_gt (int_cmp q bound) ≡ false → q ≤ℤ x
    at_most q h = by_lt_z bound q (λ z. absurd (grind (arith, ints))) (λ z. omega (arith, ints))

    within : (q : ℤ) → q ≤ℤ x → is_gt (int_cmp q bound) ≡ false
    within q l = let z : (q ≤ℤ bound) = omega (arith, ints) in grind (arith, ints)

-- ---- machine words

pub less_then : (a b c : ℤ) → SFits w64 a → SFits w64 b → b ≡ c → lt_z (to_z w64 (of_z w64 a)) (to_z w64 (of_z w64 b)) ≡ true → a <ℤ c
less_then a b c p q e h =
    let f : lt_z a b ≡ true = simp to_z-of_z at h in
    by_lt_z a b (λ l. omega (arith, ints)) (λ l. absurd (grind (arith, ints)))

pub less_not : (a b c : ℤ) → SFits w64 a → SFits w64 b → b ≡ c → lt_z (to_z w64 (of_z w64 a)) (to_z w64 (of_z w64 b)) ≡ false → c ≤ℤ a
less_not a b c p q e h =
    let f : lt_z a b ≡ false = simp to_z-of_z at h in
    by_lt_z a b (λ l. absurd (grind (arith, ints))) (λ l. omega (arith, ints))

pub one_fewer : (less more : ℕ) (r : Option ℕ) (k : ℕ) → r ≡ Some k → less + (if is_some r then 1 else 0) ≡ more → less < more
one_fewer less more (Some j) k e h = omega arith
one_fewer less more None k e h = absurd cc

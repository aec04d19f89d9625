-- The heights of columns while boxes are put onto them from below, and the squares between.
use Rattle.std.proofs.Common.{◌≡◌, ℕ, ◌<◌, ◌^◌, ℤ, pos, negsuc, neg_ℤ, rules, ◌-ℤ◌, ◌≤ℤ◌, ◌<ℤ◌, true, false, List, [], ◌∷◌, ◌++◌, ◌⊎◌, inl, inr}
use Rattle.std.proofs.Common.{Option, Some, None, refl, sym, ◌∙◌, arith, subst}
use Rattle.std.specs.Int.{int_max}
use Rattle.std.specs.Ordering.{int_cmp, is_gt, is_lt}
use Rattle.std.specs.Option.{IsSome}
use Rattle.std.specs.BTreeMap.{BTreeMap, get}
use Rattle.std.proofs.lemmas.Int.{ints, clamps, by_lt_z}
use lib.Signed.{lt_z}
use mir.Syntax.{w64}
use mir.Val.{SFits}
use Rattle.geom.specs.Squares.{BoxShape, Inside}
use Rattle.geom.specs.Rows.{Over}
use Rattle.geom.specs.declared.layer.Layer.{Layer}
use Rattle.canonical_boxes.specs.Skies.{IsSky, IsStepAt, HasHeight, AddsRectangle, IsBetween, AddsBelow, IsCleared, IsSplit, IsRaised}
use Rattle.canonical_boxes.proofs.Sweeps.{Sets, other_key}

-- ---- steps

pub fits_plane : (z : ℤ) → neg_ℤ (pos (2 ^ 40)) ≤ℤ z → z ≤ℤ pos (2 ^ 40) → SFits w64 z
fits_plane z low high = search (rules, ints)

pub step_found : (tops : BTreeMap ℤ ℤ) (x bound key h : ℤ) → bound ≡ x → is_gt (int_cmp key bound) ≡ false → get int_cmp tops key ≡ Some h
    → ((q : ℤ) → is_gt (int_cmp q bound) ≡ false → IsSome (get int_cmp tops q) → is_lt (int_cmp key q) ≡ false) → IsStepAt tops x key h
step_found tops x bound key h e up_to value last = record {
  up_to = at_most key up_to;
  value = value;
  last = λ q j l g.
      let P : Option ℤ → Type 0 = λ o. IsSome o in
      by_lt_z key q (λ z. let f : is_lt (int_cmp key q) ≡ false = last q (within q l) (subst P (sym g) refl) in absurd (grind (arith, ints)))
      (λ z. z);
}
  where
    at_most : (q : ℤ) → is_gt (int_cmp q bound) ≡ false → q ≤ℤ x
    at_most q f = by_lt_z bound q (λ z. absurd (grind (arith, ints))) (λ z. omega (arith, ints))

    within : (q : ℤ) → q ≤ℤ x → is_gt (int_cmp q bound) ≡ false
    within q l = let z : (q ≤ℤ bound) = omega (arith, ints) in grind (arith, ints)

-- a column has one height
height_one : (tops : BTreeMap ℤ ℤ) (x f h g k : ℤ) → IsStepAt tops x f h → IsStepAt tops x g k → h ≡ k
height_one tops x f h g k p q =
    let l : (f ≤ℤ g) = q.last f h p.up_to p.value in
    let r : (g ≤ℤ f) = p.last g k q.up_to q.value in
    let e : f ≡ g = omega (arith, ints) in
    let P : ℤ → Type 0 = λ z. get int_cmp tops z ≡ Some k in
    let v : get int_cmp tops f ≡ Some k = subst P (sym e) q.value in
    let w : get int_cmp tops f ≡ Some h = p.value in
    cc

-- ---- rectangles

over_push : (m : List BoxShape) (b : BoxShape) (x y : ℤ) → Over (m ++ b ∷ []) x y → Over m x y ⊎ Inside b x y
over_push [] b x y (inl i) = inr i
over_push [] b x y (inr h) = absurd h
over_push (c ∷ cs) b x y (inl i) = inl (inl i)
over_push (c ∷ cs) b x y (inr h) = elim (over_push cs b x y h) [ inl k ↦ inl (inr k) | inr k ↦ inr k ]

pub over_left : (m n : List BoxShape) (x y : ℤ) → Over m x y → Over (m ++ n) x y
over_left [] n x y h = absurd h
over_left (c ∷ cs) n x y (inl h) = inl h
over_left (c ∷ cs) n x y (inr h) = inr (over_left cs n x y h)

over_last : (m : List BoxShape) (b : BoxShape) (x y : ℤ) → Inside b x y → Over (m ++ b ∷ []) x y
over_last [] b x y i = inl i
over_last (c ∷ cs) b x y i = inr (over_last cs b x y i)

pub rectangle_pushed : (old new : List BoxShape) (b : BoxShape) (layer : Layer) (x1 y1 x2 y2 : ℤ)
    → b ≡ record { layer = layer; x1 = x1; y1 = y1; x2 = x2; y2 = y2 }
    → new ≡ old ++ b ∷ [] → AddsRectangle x1 y1 x2 y2 old new
rectangle_pushed old new b layer x1 y1 x2 y2 e f x y =
    let P : List BoxShape → Type 0 = λ l. Over l x y in
    let Q : BoxShape → Type 0 = λ d. Inside d x y in (
      (λ h. elim (over_push old b x y (subst P f h)) [
        | inl k ↦ inl k
        | inr i ↦ (let j = subst Q e i in inr (record { left = j.left; right = j.right; bottom = j.bottom; top = j.top }))
      ]),
      (λ h. subst P (sym f) (elim h [
        | inl k ↦ over_left old (b ∷ []) x y k
        | inr i ↦ over_last old b x y (subst Q (sym e) (record { left = i.left; right = i.right; bottom = i.bottom; top = i.top }))
      ])),
    )

pub rectangle_none : (old : List BoxShape) (x1 y1 x2 y2 : ℤ) → y2 ≤ℤ y1 → AddsRectangle x1 y1 x2 y2 old old
rectangle_none old x1 y1 x2 y2 low x y = ((λ h. inl h), (λ h. elim h [ inl k ↦ k | inr i ↦ absurd (omega (arith, ints, i.bottom, i.top)) ]))

-- ---- the squares below a row, step by step from the right

-- From column `end` on the squares are added.
pub record IsWalked (tops : BTreeMap ℤ ℤ) (from to row end : ℤ) (old now : List BoxShape) : Type 0 where
  pub left : from ≤ℤ end
  pub right : end ≤ℤ to
  pub kept : (x y : ℤ) → Over old x y → Over now x y
  pub sound : (x y : ℤ) → Over now x y → Over old x y ⊎ IsBetween tops from to row x y
  pub covers : (x y : ℤ) → end ≤ℤ x → IsBetween tops from to row x y → Over now x y
  pub heights : (x : ℤ) → end ≤ℤ x → x <ℤ to → (height : ℤ) × HasHeight tops x height

pub not_walked : (tops : BTreeMap ℤ ℤ) (from to row : ℤ) (old : List BoxShape) → from <ℤ to → IsWalked tops from to row to old old
not_walked tops from to row old order = record {
  left = omega (arith, ints);
  right = omega (arith, ints);
  kept = λ x y h. h;
  sound = λ x y h. inl h;
  covers = λ x y l i. let r : (x <ℤ to) = i.right in absurd (omega (arith, ints));
  heights = λ x l r. absurd (omega (arith, ints));
}

pub walked_more : (tops : BTreeMap ℤ ℤ) (from to row end f h : ℤ) (old now new : List BoxShape) → from <ℤ end → IsStepAt tops (end -ℤ pos 1) f h
    → AddsRectangle (int_max f from) h end row now new → IsWalked tops from to row end old now → IsWalked tops from to row (int_max f from) old new
walked_more tops from to row end f h old now new more step adds w =
    by_lt_z f from (λ l. go from (omega (arith, ints, clamps)) (omega (arith, ints)) (omega (arith, ints)) more)
    (λ l. let u : (f ≤ℤ (end -ℤ pos 1)) = step.up_to in go f (omega (arith, ints, clamps)) l (omega (arith, ints)) (omega (arith, ints)))
  where
    go : (left : ℤ) → int_max f from ≡ left → from ≤ℤ left → f ≤ℤ left → left <ℤ end → IsWalked tops from to row (int_max f from) old new
    go left e low at under =
        let P : ℤ → Type 0 = λ z. AddsRectangle z h end row now new in
        let Q : ℤ → Type 0 = λ z. IsWalked tops from to row z old new in
        let add : AddsRectangle left h end row now new = subst P e adds in
        let right : (end ≤ℤ to) = w.right in
        subst Q (sym e) (record {
          left = low;
          right = omega (arith, ints);
          kept = λ x y o. (add x y).1 (inl (w.kept x y o));
          sound = λ x y o. elim ((add x y).0 o) [
            | inl k ↦ w.sound x y k
            | inr i ↦
                let il : (left ≤ℤ x) = i.left in
                let ir : (x <ℤ end) = i.right in
                inr (record {
                  left = omega (arith, ints);
                  right = omega (arith, ints);
                  below = i.top;
                  height = h;
                  has = has x il ir;
                  above = i.bottom;
                })
          ];
          covers = λ x y l i. by_lt_z x end
              (λ k.
              let own : HasHeight tops x h = has x l k in
              let same : i.height ≡ h = height_one tops x i.has.from i.height own.from h i.has.step own.step in
              let R : ℤ → Type 0 = λ z. z ≤ℤ y in
              (add x y).1 (inr (record { left = l; right = k; bottom = subst R same i.above; top = i.below })))
              (λ k. (add x y).1 (inl (w.covers x y k i)));
          heights = λ x l r. by_lt_z x end (λ k. (h, has x l k)) (λ k. w.heights x k r);
        })
      where
        has : (x : ℤ) → left ≤ℤ x → x <ℤ end → HasHeight tops x h
        has x l k = record {
          from = f;
          step = record {
            up_to = omega (arith, ints);
            value = step.value;
            last = λ q j z g. step.last q j
                (omega (arith, ints)) g;
          };
        }

pub walked_all : (tops : BTreeMap ℤ ℤ) (from to row end : ℤ) (old now : List BoxShape) → end ≤ℤ from → IsWalked tops from to row end old now
    → AddsBelow tops from to row old now
walked_all tops from to row end old now past w = record {
  kept = w.kept;
  sound = w.sound;
  covers = λ x y i. let l : (from ≤ℤ x) = i.left in w.covers x y (omega (arith, ints)) i;
  heights = λ x l r. w.heights x (omega (arith, ints)) r;
}

pub some_step : (tops : BTreeMap ℤ ℤ) (x : ℤ) → IsSky tops → neg_ℤ (pos (2 ^ 40)) ≤ℤ x → ((q : ℤ) → q ≤ℤ x → get int_cmp tops q ≡ None) → ⊥
some_step tops x sky low none =
    let P : Option ℤ → Type 0 = λ o. IsSome o in
    let s : IsSome {T = ℤ} None = subst P (none (neg_ℤ (pos (2 ^ 40))) low) sky.ground in
    absurd cc

-- ---- machine words

pub less_is : (a b : ℤ) → lt_z a b ≡ true → a <ℤ b
less_is a b h = by_lt_z a b (λ l. l) (λ l. absurd (grind (arith, ints)))

pub less_fails : (a b : ℤ) → lt_z a b ≡ false → b ≤ℤ a
less_fails a b h = by_lt_z a b (λ l. absurd (grind (arith, ints))) (λ l. l)

pub max_less : (l f g e : ℤ) → l ≡ int_max f g → f ≤ℤ (e -ℤ pos 1) → g <ℤ e → l <ℤ e
max_less l f g e m p q = omega (arith, ints, clamps)

-- ---- a measure

-- how far a number is above 0
abbrev pub room : ℤ → ℕ
room (pos n) = n
room (negsuc n) = 0

falls : (u v : ℤ) → u <ℤ v → pos 0 <ℤ v → room u < room v
falls (pos m) (pos n) l p = omega (arith, ints)
falls (negsuc m) (pos n) l p = omega (arith, ints)
falls (pos m) (negsuc n) l p = absurd (omega (arith, ints))
falls (negsuc m) (negsuc n) l p = absurd (omega (arith, ints))

pub room_falls : (a l e : ℤ) → l <ℤ e → a <ℤ e → room (l -ℤ a) < room (e -ℤ a)
room_falls a l e p q = falls (l -ℤ a) (e -ℤ a) (omega (arith, ints)) (omega (arith, ints))

-- ---- steps that go

-- Steps have gone behind the first column and before the last, and no other has changed.
pub record IsClearing (from to : ℤ) (old now : BTreeMap ℤ ℤ) : Type 0 where
  pub others : (q : ℤ) → (q ≤ℤ from) ⊎ (to ≤ℤ q) → get int_cmp now q ≡ get int_cmp old q
  pub kept : (q h : ℤ) → get int_cmp now q ≡ Some h → get int_cmp old q ≡ Some h

pub none_cleared : (from to : ℤ) (old : BTreeMap ℤ ℤ) → IsClearing from to old old
none_cleared from to old = record { others = λ q s. refl; kept = λ q h e. e }

pub one_cleared : (from to key : ℤ) (old now new : BTreeMap ℤ ℤ) → from <ℤ key → key <ℤ to → Sets now new key None → IsClearing from to old now
    → IsClearing from to old new
one_cleared from to key old now new l r puts c = record {
  others = λ q s. puts.others q (other_key key q (λ e. elim s [ inl z ↦ omega (arith, ints) | inr z ↦ omega (arith, ints) ])) ∙ c.others q s;
  kept = λ q h e. by_lt_z q key
      (λ z. c.kept q h (sym (puts.others q (other_key key q (λ f. omega (arith, ints)))) ∙ e))
      (λ z. by_lt_z key q
      (λ k. c.kept q h (sym (puts.others q (other_key key q (λ f. omega (arith, ints)))) ∙ e))
      (λ k.
      let same : key ≡ q = omega (arith, ints) in
      let P : ℤ → Type 0 = λ v. get int_cmp new v ≡ Some h in
      let f : get int_cmp new key ≡ Some h = subst P (sym same) e in
      let g : get int_cmp new key ≡ None = puts.at in
      absurd cc));
}

pub clearing_sky : (from to : ℤ) (old now : BTreeMap ℤ ℤ) → neg_ℤ (pos (2 ^ 40)) ≤ℤ from → IsSky old → IsClearing from to old now → IsSky now
clearing_sky from to old now low sky c =
    let P : Option ℤ → Type 0 = λ o. IsSome o in
    record {
      ground = subst P (sym (c.others (neg_ℤ (pos (2 ^ 40))) (inl low))) sky.ground;
      first = λ q h e. sky.first q h (c.kept q h e);
      last = λ q h e. sky.last q h (c.kept q h e);
      bottom = λ q h e. sky.bottom q h (c.kept q h e);
      top = λ q h e. sky.top q h (c.kept q h e);
    }

pub all_cleared : (from to f h : ℤ) (old now : BTreeMap ℤ ℤ) → f ≤ℤ from → IsStepAt now (to -ℤ pos 1) f h → IsClearing from to old now
    → IsCleared from to old now
all_cleared from to f h old now past step c = record {
  gone = λ q k e. by_lt_z q to (λ l. inl (let z : (q ≤ℤ f) = step.last q k (omega (arith, ints)) e in omega (arith, ints))) (λ l. inr l);
  others = c.others;
}

pub none_left : (from to : ℤ) (old now : BTreeMap ℤ ℤ) → ((q : ℤ) → q ≤ℤ (to -ℤ pos 1) → get int_cmp now q ≡ None) → IsClearing from to old now
    → IsCleared from to old now
none_left from to old now none c = record {
  gone = λ q k e. by_lt_z q to (λ l. let n : get int_cmp now q ≡ None = none q (omega (arith, ints)) in absurd cc) (λ l. inr l);
  others = c.others;
}

-- ---- columns that are raised

pub split_sky : (to : ℤ) (old mid : BTreeMap ℤ ℤ) → neg_ℤ (pos (2 ^ 40)) <ℤ to → to ≤ℤ pos (2 ^ 40) → IsSky old → IsSplit to old mid → IsSky mid
split_sky to old mid low high sky s =
    let P : Option ℤ → Type 0 = λ o. IsSome o in
    record {
      ground = subst P (sym (s.others (neg_ℤ (pos (2 ^ 40))) (other_key to (neg_ℤ (pos (2 ^ 40))) (λ e. omega (arith, ints))))) sky.ground;
      first = λ q h e. by_key q h e (λ z. neg_ℤ (pos (2 ^ 40)) ≤ℤ q) (λ z. omega (arith, ints)) (λ f. sky.first q h f);
      last = λ q h e. by_key q h e (λ z. q ≤ℤ pos (2 ^ 40)) (λ z. omega (arith, ints)) (λ f. sky.last q h f);
      bottom = λ q h e. by_key q h e (λ z. neg_ℤ (pos (2 ^ 40)) ≤ℤ h)
          (λ z. let k : h ≡ s.height = own q h e z in let g : neg_ℤ
          (pos (2 ^ 40)) ≤ℤ s.height = sky.bottom s.has.from s.height s.has.step.value in omega (arith, ints)) (λ f. sky.bottom q h f);
      top = λ q h e. by_key q h e (λ z. h ≤ℤ pos (2 ^ 40))
          (λ z. let k : h ≡ s.height = own q h e z in let g : s.height ≤ℤ pos (2 ^ 40) = sky.top s.has.from s.height s.has.step.value in omega (arith, ints)) (λ f. sky.top q h f);
    }
  where
    own : (q h : ℤ) → get int_cmp mid q ≡ Some h → to ≡ q → h ≡ s.height
    own q h e same =
        let P : ℤ → Type 0 = λ v. get int_cmp mid v ≡ Some h in
        let f : get int_cmp mid to ≡ Some h = subst P (sym same) e in
        let g : get int_cmp mid to ≡ Some s.height = s.at in
        cc

    by_key : (q h : ℤ) → get int_cmp mid q ≡ Some h → (Q : ℤ → Type 0) → (to ≡ q → Q q) → (get int_cmp old q ≡ Some h → Q q) → Q q
    by_key q h e Q same other = by_lt_z q to
        (λ l. other (sym (s.others q (other_key to q (λ f. omega (arith, ints)))) ∙ e))
        (λ l. by_lt_z to q (λ k. other (sym (s.others q (other_key to q (λ f. omega (arith, ints)))) ∙ e)) (λ k. same (omega (arith, ints))))

module _ (from to height : ℤ) (old mid cleared new : BTreeMap ℤ ℤ) (low : neg_ℤ (pos (2 ^ 40)) ≤ℤ from) (order : from <ℤ to)
    (high : to ≤ℤ pos (2 ^ 40))
    (sky : IsSky old) (s : IsSplit to old mid) (c : IsCleared from to mid cleared) (puts : Sets cleared new from (Some height)) where
  -- a key of the raised steps
  apart : (q : ℤ) → (from ≡ q → ⊥) → get int_cmp new q ≡ get int_cmp cleared q
  apart q ne = puts.others q (other_key from q ne)

  left_of : (q : ℤ) → q <ℤ from → get int_cmp new q ≡ get int_cmp old q
  left_of q l = apart q (λ e. omega (arith, ints)) ∙ c.others q (inl (omega (arith, ints))) ∙ s.others q (other_key to q (λ e. omega (arith, ints)))

  right_of : (q : ℤ) → to <ℤ q → get int_cmp new q ≡ get int_cmp old q
  right_of q l = apart q (λ e. omega (arith, ints)) ∙ c.others q (inr (omega (arith, ints))) ∙ s.others q (other_key to q (λ e. omega (arith, ints)))

  at_to : get int_cmp new to ≡ Some s.height
  at_to = apart to (λ e. omega (arith, ints)) ∙ c.others to (inr (omega (arith, ints))) ∙ s.at

  -- no key lies between
  none_between : (q h : ℤ) → get int_cmp new q ≡ Some h → from <ℤ q → q <ℤ to → ⊥
  none_between q h e l r = elim (c.gone q h (sym (apart q (λ f. omega (arith, ints))) ∙ e)) [
    | inl z ↦ omega (arith, ints)
    | inr z ↦ omega (arith, ints)
  ]

  same_value : (q r h k : ℤ) → q ≡ r → get int_cmp new q ≡ Some h → get int_cmp new r ≡ Some k → h ≡ k
  same_value q r h k e f g = let P : ℤ → Type 0 = λ v. get int_cmp new v ≡ Some h in let z : get int_cmp new r ≡ Some h = subst P e f in cc

  raised_in : (x h : ℤ) → from ≤ℤ x → x <ℤ to → HasHeight new x h → h ≡ height
  raised_in x h l r has =
      let key : (from ≤ℤ has.from) = has.step.last from height l puts.at in
      let up : (has.from ≤ℤ x) = has.step.up_to in
      by_lt_z from has.from
      (λ z. absurd (none_between has.from h has.step.value z (omega (arith, ints))))
      (λ z. same_value has.from from h height (omega (arith, ints)) has.step.value puts.at)

  raised_left : (x h : ℤ) → x <ℤ from → HasHeight new x h → HasHeight old x h
  raised_left x h l has =
      let up : (has.from ≤ℤ x) = has.step.up_to in
      record {
        from = has.from;
        step = record {
          up_to = up;
          value = sym (left_of has.from (omega (arith, ints))) ∙ has.step.value;
          last = λ q k z e. has.step.last q k z (left_of q (omega (arith, ints)) ∙ e);
        };
      }

  raised_right : (x h : ℤ) → to ≤ℤ x → HasHeight new x h → HasHeight old x h
  raised_right x h l has =
      let key : (to ≤ℤ has.from) = has.step.last to s.height l at_to in
      let up : (has.from ≤ℤ x) = has.step.up_to in
      by_lt_z to has.from
      (λ z. record {
        from = has.from;
        step = record {
          up_to = up;
          value = sym (right_of has.from z) ∙ has.step.value;
          last = λ q k w e. by_lt_z to q (λ v. has.step.last q k w (right_of q v ∙ e)) (λ v. omega (arith, ints));
        };
      })
      (λ z.
      let same : h ≡ s.height = same_value has.from to h s.height (omega (arith, ints)) has.step.value at_to in
      let first : (s.has.from ≤ℤ to) = s.has.step.up_to in
      let P : ℤ → Type 0 = λ v. HasHeight old x v in
      subst P (sym same) (record {
        from = s.has.from;
        step = record {
          up_to = omega (arith, ints);
          value = s.has.step.value;
          last = λ q k w e. by_lt_z to q
              (λ v. let no : (q ≤ℤ has.from) = has.step.last q k w (right_of q v ∙ e) in absurd (omega (arith, ints)))
              (λ v. s.has.step.last q k v e);
        };
      }))

  raised_sky : neg_ℤ (pos (2 ^ 40)) ≤ℤ height → height ≤ℤ pos (2 ^ 40) → IsSky new
  raised_sky bottom top =
      let mids : IsSky mid = split_sky to old mid (omega (arith, ints)) high sky s in
      record {
        ground = by_lt_z (neg_ℤ (pos (2 ^ 40))) from
            (λ l. let P : Option ℤ → Type 0 = λ o. IsSome o in subst P (sym (left_of (neg_ℤ (pos (2 ^ 40))) l)) sky.ground)
            (λ l.
            let same : from ≡ neg_ℤ (pos (2 ^ 40)) = omega (arith, ints) in
            let P : ℤ → Type 0 = λ v. IsSome (get int_cmp new v) in
            let Q : Option ℤ → Type 0 = λ o. IsSome o in
            subst P same (subst Q (sym puts.at) refl));
        first = λ q h e. by_key q h e (λ v. neg_ℤ (pos (2 ^ 40)) ≤ℤ q) (λ z. omega (arith, ints)) (λ f. mids.first q h f);
        last = λ q h e. by_key q h e (λ v. q ≤ℤ pos (2 ^ 40)) (λ z. omega (arith, ints)) (λ f. mids.last q h f);
        bottom = λ q h e. by_key q h e (λ v. neg_ℤ (pos (2 ^ 40)) ≤ℤ h)
            (λ z. let k : height ≡ h = same_value from q height h z puts.at e in omega (arith, ints)) (λ f. mids.bottom q h f);
        top = λ q h e. by_key q h e (λ v. h ≤ℤ pos (2 ^ 40))
            (λ z. let k : height ≡ h = same_value from q height h z puts.at e in omega (arith, ints)) (λ f. mids.top q h f);
      }
    where
      other : (q h : ℤ) → get int_cmp new q ≡ Some h → (from ≡ q → ⊥) → get int_cmp mid q ≡ Some h
      other q h e ne =
          let f : get int_cmp cleared q ≡ Some h = sym (apart q ne) ∙ e in
          sym (c.others q (c.gone q h f)) ∙ f

      by_key : (q h : ℤ) → get int_cmp new q ≡ Some h → (Q : ℤ → Type 0) → (from ≡ q → Q q) → (get int_cmp mid q ≡ Some h → Q q) → Q q
      by_key q h e Q same rest = by_lt_z q from (λ l. rest (other q h e (λ f. omega (arith, ints))))
          (λ l. by_lt_z from q (λ k. rest (other q h e (λ f. omega (arith, ints)))) (λ k. same (omega (arith, ints))))

  pub raised_all : neg_ℤ (pos (2 ^ 40)) ≤ℤ height → height ≤ℤ pos (2 ^ 40) → IsRaised from to height old new
  raised_all bottom top = record {
    sky = raised_sky bottom top;
    raised = raised_in;
    others = λ x h side has. elim side [ inl l ↦ raised_left x h l has | inr r ↦ raised_right x h r has ];
  }

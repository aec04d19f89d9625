-- Boxes joined upward in their columns.
use Rattle.std.proofs.Common.{◌≡◌, ◌^◌, ℕ, ◌<◌, ◌≤◌, ◌+◌, ℤ, pos, ◌≤ℤ◌, ◌<ℤ◌, List, [], ◌∷◌, ◌++◌, ◌⊎◌, inl, inr, length, take, drop, get_or, refl, sym, ◌∙◌, arith, subst}
use Rattle.std.specs.Int.{int_max}
use Rattle.std.proofs.lemmas.Grind.{common_steps}
use Rattle.std.proofs.lemmas.Int.{ints, by_lt_z, clamps}
use Rattle.geom.specs.Squares.{BoxShape, IsBox}
use Rattle.geom.specs.Merged.{InRow}
use Rattle.geom.specs.Rows.{Among, Pairwise}
use Rattle.geom.specs.Columns.{IsBefore, IsBelow, InColumn, AreStacks, Reaches, over_both, Joins, Adds}
use Rattle.geom.proofs.Lists.{among_push, among_left, among_right, taken_at, left_at, pairwise_push, pairwise_front, pairwise_last, is_last, stands_before, last_or}
use Rattle.geom.proofs.Fence.{before_left}

pub both_box : (l s : BoxShape) → IsBox l → IsBox s → IsBox (over_both l s)
both_box l s p q =
    let a : l.y1 <ℤ l.y2 = p.upward.order in
    let b : l.y2 ≤ℤ pos (2 ^ 40) = p.upward.last in
    let c : s.y2 ≤ℤ pos (2 ^ 40) = q.upward.last in
    record {
      across = p.across;
      upward = record { first = p.upward.first; order = omega (arith, ints, clamps); last = omega (arith, ints, clamps) };
    }

-- boxes joined so far, and those that are left
pub record Stacking (done rest stacks : List BoxShape) : Type 0 where
  pub stacked : AreStacks done stacks
  pub behind : (d c : BoxShape) → Among stacks d → Among rest c → IsBefore d c
  pub sorted : Pairwise IsBefore rest

pub stacking_start : (rest : List BoxShape) → Pairwise IsBefore rest → Stacking [] rest []
stacking_start rest h = record {
  stacked = record {
    boxes = λ d i. absurd i;
    layers = λ l h d i. absurd i;
    back = λ d y i r. absurd i;
    forth = λ b y i r. absurd i;
    columns = tt;
  };
  behind = λ d c i j. absurd i;
  sorted = h;
}

more_done : (done : List BoxShape) (s d : BoxShape) (y : ℤ) → InColumn done d y → InColumn (done ++ s ∷ []) d y
more_done done s d y c = record { box = c.box; among = among_left done (s ∷ []) c.box c.among; left = c.left; right = c.right; row = c.row }

-- no box of a column lies between two that are before and behind it
same_left : (d l s : BoxShape) → IsBefore d l → IsBefore l s → d.x1 ≡ s.x1 → l.x1 ≡ s.x1
same_left d l s p q e =
    let a : d.x1 ≤ℤ l.x1 = before_left d l p in
    let b : l.x1 ≤ℤ s.x1 = before_left l s q in
    omega (arith, ints)

right_of : (b c : BoxShape) → IsBefore b c → b.x1 ≡ c.x1 → b.x2 ≤ℤ c.x2
right_of b c (inl h) e = absurd (omega (arith, ints))
right_of b c (inr (e', inl h)) e = omega (arith, ints)
right_of b c (inr (e', inr h)) e = let k : b.x2 ≡ c.x2 = h.0 in omega (arith, ints)

pub lower_of : (b c : BoxShape) → IsBefore b c → b.x1 ≡ c.x1 → b.x2 ≡ c.x2 → b.y1 ≤ℤ c.y1
lower_of b c (inl h) e e' = absurd (omega (arith, ints))
lower_of b c (inr (k, inl h)) e e' = absurd (omega (arith, ints))
lower_of b c (inr (k, inr h)) e e' = h.1

same_right : (d l s : BoxShape) → IsBefore d l → IsBefore l s → d.x1 ≡ s.x1 → d.x2 ≡ s.x2 → l.x2 ≡ s.x2
same_right d l s p q e e' =
    let k : l.x1 ≡ s.x1 = same_left d l s p q e in
    let a : d.x2 ≤ℤ l.x2 = right_of d l p (omega (arith, ints)) in
    let b : l.x2 ≤ℤ s.x2 = right_of l s q k in
    omega (arith, ints)

-- The next box joins the last of the stacks.
module _ (done front rest : List BoxShape) (l s : BoxShape) (box : IsBox s) (reach : Reaches l s) (h : Stacking done (s ∷ rest) (front ++ l ∷ [])) where
  abbrev both : BoxShape
  both = over_both l s

  stacks : List BoxShape
  stacks = front ++ l ∷ []

  among_last : Among (front ++ l ∷ []) l
  among_last = among_right front (l ∷ []) l (inl refl)

  among_both : Among (front ++ both ∷ []) both
  among_both = among_right front (both ∷ []) both (inl refl)

  up : l.y1 ≤ℤ s.y1
  up = lower_of l s (h.behind l s among_last (inl refl)) reach.left reach.right

  back_both : (y : ℤ) → InRow both y → InColumn (done ++ s ∷ []) both y
  back_both y r =
      let a : l.y1 ≤ℤ y = r.bottom in
      let b : y <ℤ int_max l.y2 s.y2 = r.top in
      let m : s.y1 ≤ℤ l.y2 = reach.met in
      by_lt_z y l.y2
      (λ k. let c : InColumn done l y = h.stacked.back l y among_last (record { bottom = a; top = k }) in
      record { box = c.box; among = among_left done (s ∷ []) c.box c.among; left = c.left; right = c.right; row = c.row })
      (λ k. record {
        box = s;
        among = among_right done (s ∷ []) s (inl refl);
        left = sym reach.left;
        right = sym reach.right;
        row = record { bottom = omega (arith, ints); top = omega (arith, ints, clamps) };
      })

  forth_old : (b : BoxShape) (y : ℤ) → InColumn (front ++ l ∷ []) b y → InColumn (front ++ both ∷ []) b y
  forth_old b y c = elim (among_push front l c.box c.among) [
    | inl i ↦ record { box = c.box; among = among_left front (both ∷ []) c.box i; left = c.left; right = c.right; row = c.row }
    | inr e ↦
        let P : BoxShape → Type 0 = λ v. (v.x1 ≡ b.x1) × (v.x2 ≡ b.x2) × InRow v y in
        let q : P l = subst P (sym e) (c.left, c.right, c.row) in
        let k : y <ℤ l.y2 = q.2.top in
        record { box = both; among = among_both; left = q.0; right = q.1; row = record { bottom = q.2.bottom; top = omega (arith, ints, clamps) } }
  ]

  forth_new : (y : ℤ) → InRow s y → InColumn (front ++ both ∷ []) s y
  forth_new y r =
      let a : s.y1 ≤ℤ y = r.bottom in
      let b : y <ℤ s.y2 = r.top in
      let u : l.y1 ≤ℤ s.y1 = up in
      record { box = both; among = among_both; left = reach.left; right = reach.right; row = record { bottom = omega (arith, ints); top = omega (arith, ints, clamps) } }

  pub stacking_join : Stacking (done ++ s ∷ []) rest (front ++ both ∷ [])
  stacking_join = record {
    stacked = record {
      boxes = λ d i. elim (among_push front both d i) [
        | inl j ↦ h.stacked.boxes d (among_left front (l ∷ []) d j)
        | inr e ↦ let P : BoxShape → Type 0 = λ v. IsBox v in subst P e (both_box l s (h.stacked.boxes l among_last) box)
      ];
      layers = λ layer all d i.
          let before : (b : BoxShape) → Among done b → b.layer ≡ layer = λ b j. all b (among_left done (s ∷ []) b j) in
          elim (among_push front both d i) [
            | inl j ↦ h.stacked.layers layer before d (among_left front (l ∷ []) d j)
            | inr e ↦ let P : BoxShape → Type 0 = λ v. v.layer ≡ layer in subst P e (h.stacked.layers layer before l among_last)
          ];
      back = λ d y i r. elim (among_push front both d i) [
        | inl j ↦ more_done done s d y (h.stacked.back d y (among_left front (l ∷ []) d j) r)
        | inr e ↦ let P : BoxShape → Type 0 = λ v. InRow v y → InColumn (done ++ s ∷ []) v y in subst P e (back_both y) r
      ];
      forth = λ b y i r. elim (among_push done s b i) [
        | inl j ↦ forth_old b y (h.stacked.forth b y j r)
        | inr e ↦ let P : BoxShape → Type 0 = λ v. InRow v y → InColumn (front ++ both ∷ []) v y in subst P e (forth_new y) r
      ];
      columns = pairwise_push IsBelow front both (pairwise_front IsBelow front (l ∷ []) h.stacked.columns)
          (λ d i. let z : IsBelow d l = pairwise_last IsBelow front l d h.stacked.columns i in record { before = z.before; apart = z.apart });
    };
    behind = λ d c i j. elim (among_push front both d i) [
      | inl k ↦ h.behind d c (among_left front (l ∷ []) d k) (inr j)
      | inr e ↦ let P : BoxShape → Type 0 = λ v. IsBefore v c in subst P e (h.behind l c among_last (inr j))
    ];
    sorted = h.sorted.1;
  }

-- The next box is put behind the stacks.
module _ (done stacks rest : List BoxShape) (s : BoxShape) (box : IsBox s)
    (short : (front : List BoxShape) (last : BoxShape) → stacks ≡ front ++ last ∷ [] → Reaches last s → ⊥) (h : Stacking done (s ∷ rest) stacks)
  where
    among_new : Among (stacks ++ s ∷ []) s
    among_new = among_right stacks (s ∷ []) s (inl refl)

    short_last : (front : List BoxShape) (last : BoxShape) → stacks ≡ front ++ last ∷ [] → last.x1 ≡ s.x1 → last.x2 ≡ s.x2 → last.y2 <ℤ s.y1
    short_last front last e a b = by_lt_z last.y2 s.y1 (λ k. k) (λ k. absurd (short front last e (record { left = a; right = b; met = k })))

    below_new : (d : BoxShape) → Among stacks d → IsBelow d s
    below_new d i = record {
      before = h.behind d s i (inl refl);
      apart = λ a b. elim (last_or stacks d i) [
        | is_last front e ↦ short_last front d e a b
        | stands_before front last e j ↦
            let P : List BoxShape → Type 0 = λ v. Pairwise IsBelow v in
            let z : IsBelow d last = pairwise_last IsBelow front last d (subst P e h.stacked.columns) j in
            let Q : List BoxShape → Type 0 = λ v. Among v last in
            let q : IsBefore last s = h.behind last s (subst Q (sym e) (among_right front (last ∷ []) last (inl refl))) (inl refl) in
            let x1 : last.x1 ≡ s.x1 = same_left d last s z.before q a in
            let x2 : last.x2 ≡ s.x2 = same_right d last s z.before q a b in
            let low : last.y1 ≤ℤ s.y1 = lower_of last s q x1 x2 in
            let gap : d.y2 <ℤ last.y1 = z.apart (a ∙ sym x1) (b ∙ sym x2) in
            omega (arith, ints)
      ];
    }

    pub stacking_add : Stacking (done ++ s ∷ []) rest (stacks ++ s ∷ [])
    stacking_add = record {
      stacked = record {
        boxes = λ d i. elim (among_push stacks s d i) [
          | inl j ↦ h.stacked.boxes d j
          | inr e ↦ let P : BoxShape → Type 0 = λ v. IsBox v in subst P e box
        ];
        layers = λ layer all d i.
            let before : (b : BoxShape) → Among done b → b.layer ≡ layer = λ b j. all b (among_left done (s ∷ []) b j) in
            elim (among_push stacks s d i) [
              | inl j ↦ h.stacked.layers layer before d j
              | inr e ↦ let P : BoxShape → Type 0 = λ v. v.layer ≡ layer in subst P e (all s (among_right done (s ∷ []) s (inl refl)))
            ];
        back = λ d y i r. elim (among_push stacks s d i) [
          | inl j ↦ more_done done s d y (h.stacked.back d y j r)
          | inr e ↦
              let P : BoxShape → Type 0 = λ v. InRow v y → InColumn (done ++ s ∷ []) v y in
              subst P e (λ k. record { box = s; among = among_right done (s ∷ []) s (inl refl); left = refl; right = refl; row = k }) r
        ];
        forth = λ b y i r. elim (among_push done s b i) [
          | inl j ↦ more_done stacks s b y (h.stacked.forth b y j r)
          | inr e ↦
              let P : BoxShape → Type 0 = λ v. InRow v y → InColumn (stacks ++ s ∷ []) v y in
              subst P e (λ k. record { box = s; among = among_new; left = refl; right = refl; row = k }) r
        ];
        columns = pairwise_push IsBelow stacks s h.stacked.columns below_new;
      };
      behind = λ d c i j. elim (among_push stacks s d i) [
        | inl k ↦ h.behind d c k (inr j)
        | inr e ↦ let P : BoxShape → Type 0 = λ v. IsBefore v c in subst P e (h.sorted.0 c j)
      ];
      sorted = h.sorted.1;
    }

-- the next box of a list was joined to the stacks, or put behind them
pub stacking_at : (xs : List BoxShape) (i : ℕ) (b : BoxShape) (m n : List BoxShape) → i < length xs → b ≡ get_or xs i b → IsBox b
    → Joins m b n ⊎ Adds m b n → Stacking (take i xs) (drop i xs) m → Stacking (take (i + 1) xs) (drop (i + 1) xs) n
stacking_at xs i b m n h e box step s =
    let P : List BoxShape → Type 0 = λ l. Stacking (take i xs) l m in
    let Q : List BoxShape → Type 0 = λ l. Stacking l (drop (i + 1) xs) n in
    let t : Stacking (take i xs) (b ∷ drop (i + 1) xs) m = subst P (left_at xs i b h e) s in
    subst Q (sym (taken_at xs i b h e)) (elim step [
      | inl j ↦
          let M : List BoxShape → Type 0 = λ l. Stacking (take i xs) (b ∷ drop (i + 1) xs) l in
          let N : List BoxShape → Type 0 = λ l. Stacking (take i xs ++ b ∷ []) (drop (i + 1) xs) l in
          subst N (sym j.joined) (stacking_join (take i xs) j.front (drop (i + 1) xs) j.last b box j.reaches (subst M j.whole t))
      | inr a ↦
          let N : List BoxShape → Type 0 = λ l. Stacking (take i xs ++ b ∷ []) (drop (i + 1) xs) l in
          subst N (sym a.added) (stacking_add (take i xs) m (drop (i + 1) xs) b box a.short t)
    ])

pub stacking_end : (xs : List BoxShape) (i : ℕ) (m : List BoxShape) → length xs ≤ i → Stacking (take i xs) (drop i xs) m → AreStacks xs m
stacking_end xs i m h s =
    let e : take i xs ≡ xs = grind (arith, common_steps) in
    let P : List BoxShape → Type 0 = λ l. AreStacks l m in
    subst P e s.stacked

-- stacks of boxes in another order
pub stacks_again : (xs ys m : List BoxShape) → ((b : BoxShape) → Among ys b → Among xs b) → ((b : BoxShape) → Among xs b → Among ys b) → AreStacks ys m → AreStacks xs m
stacks_again xs ys m to from s = record {
  boxes = s.boxes;
  layers = λ layer all d i. s.layers layer (λ b j. all b (to b j)) d i;
  back = λ d y i r.
      let c : InColumn ys d y = s.back d y i r in
      record { box = c.box; among = to c.box c.among; left = c.left; right = c.right; row = c.row };
  forth = λ b y i r. s.forth b y (from b i) r;
  columns = s.columns;
}

-- Squares that squares of boxes reach.
use Rattle.std.proofs.Common.{◌≡◌, ◌↔◌, ◌⊎◌, inl, inr, ℕ, ◌<◌, ◌≤◌, ◌+◌, ◌^◌, ℤ, pos, neg_ℤ, ◌+ℤ◌, ◌-ℤ◌, ◌≤ℤ◌, ◌<ℤ◌, List, [], ◌∷◌, ◌++◌, length, refl, sym, subst, arith, rules}
use Rattle.std.proofs.lemmas.Int.{ints, by_lt_z}
use mir.Val.{SFits}
use mir.Syntax.{w64}
use Rattle.geom.specs.Squares.{BoxShape, IsBox, Inside}
use Rattle.geom.specs.Rows.{Among, Over, Squares}
use Rattle.canonical_boxes.specs.Canonical.{IsAt}
use Rattle.canonical_boxes.specs.Plane.{InPlane}
use Rattle.box_distances.specs.Narrow.{IsReached, AreReached, IsReachedBox, IsLow, IsHigh}
use Rattle.box_distances.proofs.Lists.{at_among, among_at, by_order, at_one}

pub over_of : (bs : List BoxShape) (b : BoxShape) (x y : ℤ) → Among bs b → Inside b x y → Over bs x y
over_of [] b x y h i = absurd h
over_of (c ∷ cs) b x y (inl e) i = let P : BoxShape → Type 0 = λ v. Inside v x y in inl (subst P (sym e) i)
over_of (c ∷ cs) b x y (inr h) i = inr (over_of cs b x y h i)

-- a box over a square
pub record HasBox (bs : List BoxShape) (x y : ℤ) : Type 0 where
  pub box : BoxShape
  pub among : Among bs box
  pub inside : Inside box x y

pub box_of : (bs : List BoxShape) (x y : ℤ) → Over bs x y → HasBox bs x y
box_of [] x y h = absurd h
box_of (c ∷ cs) x y (inl i) = record { box = c; among = inl refl; inside = i }
box_of (c ∷ cs) x y (inr h) = let r : HasBox cs x y = box_of cs x y h in record { box = r.box; among = inr r.among; inside = r.inside }

pub widen : (back ahead : ℤ) (S T : Squares) → ((x y : ℤ) → S x y → T x y) → (x y : ℤ) → IsReached back ahead S x y → IsReached back ahead T x y
widen back ahead S T f x y h =
    record { u = h.u; v = h.v; inside = f h.u h.v h.inside; left = h.left; right = h.right; bottom = h.bottom; top = h.top }

-- ---- one box

-- between two edges there is a number that reaches x
record Reaching (from to back ahead x : ℤ) : Type 0 where
  u : ℤ
  low : from ≤ℤ u
  high : u <ℤ to
  left : u ≤ℤ (x +ℤ back)
  right : x ≤ℤ (u +ℤ ahead)

reaching : (from to back ahead x : ℤ) → from <ℤ to → pos 0 ≤ℤ back → pos 0 ≤ℤ ahead → (from -ℤ back) ≤ℤ x → x <ℤ (to +ℤ ahead)
    → Reaching from to back ahead x
reaching from to back ahead x wide b a low high =
    by_lt_z x from
    (λ h. record { u = from; low = omega (arith, ints); high = wide; left = omega (arith, ints); right = omega (arith, ints) })
    (λ h. by_lt_z x to
    (λ k. record { u = x; low = h; high = k; left = omega (arith, ints); right = omega (arith, ints) })
    (λ k. record { u = to -ℤ pos 1; low = omega (arith, ints); high = omega (arith, ints); left = omega (arith, ints); right = omega (arith, ints) }))

-- a number not far beyond the plane
pub fits_far : (z : ℤ) → neg_ℤ (pos (2 ^ 42)) ≤ℤ z → z ≤ℤ pos (2 ^ 42) → SFits w64 z
fits_far z low high = search (rules, ints)

-- ---- edges that are kept within the plane

low_edge : (edge kept x : ℤ) → IsLow edge kept → kept ≤ℤ x → edge ≤ℤ x
low_edge edge kept x h l = by_lt_z edge (neg_ℤ (pos (2 ^ 40)))
    (λ z. let e = h.beyond (omega (arith, ints)) in omega (arith, ints))
    (λ z. let e = h.same z in omega (arith, ints))

low_back : (edge kept x : ℤ) → IsLow edge kept → neg_ℤ (pos (2 ^ 40)) ≤ℤ x → edge ≤ℤ x → kept ≤ℤ x
low_back edge kept x h p l = by_lt_z edge (neg_ℤ (pos (2 ^ 40)))
    (λ z. let e = h.beyond (omega (arith, ints)) in omega (arith, ints))
    (λ z. let e = h.same z in omega (arith, ints))

high_edge : (edge kept x : ℤ) → IsHigh edge kept → x <ℤ kept → x <ℤ edge
high_edge edge kept x h l = by_lt_z (pos (2 ^ 40)) edge
    (λ z. let e = h.beyond (omega (arith, ints)) in omega (arith, ints))
    (λ z. let e = h.same z in omega (arith, ints))

high_back : (edge kept x : ℤ) → IsHigh edge kept → x <ℤ pos (2 ^ 40) → x <ℤ edge → x <ℤ kept
high_back edge kept x h p l = by_lt_z (pos (2 ^ 40)) edge
    (λ z. let e = h.beyond (omega (arith, ints)) in omega (arith, ints))
    (λ z. let e = h.same z in omega (arith, ints))

pub reached_box : (back ahead : ℤ) (b g : BoxShape) → IsBox b → pos 0 ≤ℤ back → pos 0 ≤ℤ ahead
    → IsLow (b.x1 -ℤ back) g.x1 → IsLow (b.y1 -ℤ back) g.y1 → IsHigh (b.x2 +ℤ ahead) g.x2 → IsHigh (b.y2 +ℤ ahead) g.y2
    → IsReachedBox back ahead b g
reached_box back ahead b g box some more x1 y1 x2 y2 = record { squares = λ x y. (to x y, from x y) }
  where
    to : (x y : ℤ) → Inside g x y → InPlane x y × IsReached back ahead (Inside b) x y
    to x y h =
        let p1 = x1.plane in
        let p2 = y1.plane in
        let p3 = x2.plane in
        let p4 = y2.plane in
        let l : (g.x1 ≤ℤ x) = h.left in
        let r : (x <ℤ g.x2) = h.right in
        let d : (g.y1 ≤ℤ y) = h.bottom in
        let t : (y <ℤ g.y2) = h.top in
        let a : Reaching b.x1 b.x2 back ahead x = reaching b.x1 b.x2 back ahead x box.across.order some more
        (low_edge (b.x1 -ℤ back) g.x1 x x1 l) (high_edge (b.x2 +ℤ ahead) g.x2 x x2 r) in
        let c : Reaching b.y1 b.y2 back ahead y = reaching b.y1 b.y2 back ahead y box.upward.order some more
        (low_edge (b.y1 -ℤ back) g.y1 y y1 d) (high_edge (b.y2 +ℤ ahead) g.y2 y y2 t) in (
          record { left = omega (arith, ints); right = omega (arith, ints); bottom = omega (arith, ints); top = omega (arith, ints) },
          record {
            u = a.u;
            v = c.u;
            inside = record { left = a.low; right = a.high; bottom = c.low; top = c.high };
            left = a.left;
            right = a.right;
            bottom = c.left;
            top = c.right;
          },
        )

    from : (x y : ℤ) → InPlane x y × IsReached back ahead (Inside b) x y → Inside g x y
    from x y h =
        let p = h.0 in
        let q = h.1 in
        let l : (b.x1 ≤ℤ q.u) = q.inside.left in
        let r : (q.u <ℤ b.x2) = q.inside.right in
        let d : (b.y1 ≤ℤ q.v) = q.inside.bottom in
        let t : (q.v <ℤ b.y2) = q.inside.top in
        let ul : (q.u ≤ℤ (x +ℤ back)) = q.left in
        let ur : (x ≤ℤ (q.u +ℤ ahead)) = q.right in
        let vd : (q.v ≤ℤ (y +ℤ back)) = q.bottom in
        let vt : (y ≤ℤ (q.v +ℤ ahead)) = q.top in
        record {
          left = low_back (b.x1 -ℤ back) g.x1 x x1 p.left (omega (arith, ints));
          right = high_back (b.x2 +ℤ ahead) g.x2 x x2 p.right (omega (arith, ints));
          bottom = low_back (b.y1 -ℤ back) g.y1 y y1 p.bottom (omega (arith, ints));
          top = high_back (b.y2 +ℤ ahead) g.y2 y y2 p.top (omega (arith, ints));
        }

-- the box has squares, and stays in the plane
pub in_order : (back ahead from to low high : ℤ) → from <ℤ to → neg_ℤ (pos (2 ^ 40)) ≤ℤ from → to ≤ℤ pos (2 ^ 40) → pos 0 ≤ℤ back → pos 0 ≤ℤ ahead
    → IsLow (from -ℤ back) low → IsHigh (to +ℤ ahead) high → low <ℤ high
in_order back ahead from to low high wide first last b a l h =
    let p : (low ≤ℤ from) = low_back (from -ℤ back) low from l first (omega (arith, ints)) in
    let q : (from <ℤ high) = high_back (to +ℤ ahead) high from h (omega (arith, ints)) (omega (arith, ints)) in
    omega (arith, ints)

-- ---- box by box

-- what squares of the first boxes reach
pub record InFirst (bs : List BoxShape) (k : ℕ) (u v : ℤ) : Type 0 where
  pub number : ℕ
  pub box : BoxShape
  pub at : IsAt bs number box
  pub below : number < k
  pub inside : Inside box u v

abbrev pub GrownSoFar : ℤ → ℤ → List BoxShape → ℕ → List BoxShape → Type 0
GrownSoFar back ahead bs k grown = (x y : ℤ) → Over grown x y ↔ (InPlane x y × IsReached back ahead (InFirst bs k) x y)

pub none_grown : (back ahead : ℤ) (bs : List BoxShape) → GrownSoFar back ahead bs 0 []
none_grown back ahead bs x y = ((λ h. absurd h), (λ h. let l : h.1.inside.number < 0 = h.1.inside.below in absurd (omega arith)))

over_push : (bs : List BoxShape) (b : BoxShape) (x y : ℤ) → Over (bs ++ b ∷ []) x y → Over bs x y ⊎ Inside b x y
over_push [] b x y (inl i) = inr i
over_push [] b x y (inr h) = absurd h
over_push (c ∷ cs) b x y (inl i) = inl (inl i)
over_push (c ∷ cs) b x y (inr h) = elim (over_push cs b x y h) [ inl o ↦ inl (inr o) | inr i ↦ inr i ]

over_left : (bs cs : List BoxShape) (x y : ℤ) → Over bs x y → Over (bs ++ cs) x y
over_left [] cs x y h = absurd h
over_left (b ∷ bs) cs x y (inl i) = inl i
over_left (b ∷ bs) cs x y (inr h) = inr (over_left bs cs x y h)

over_last : (bs : List BoxShape) (b : BoxShape) (x y : ℤ) → Inside b x y → Over (bs ++ b ∷ []) x y
over_last [] b x y i = inl i
over_last (c ∷ cs) b x y i = inr (over_last cs b x y i)

pub over_pushed : (bs new : List BoxShape) (b : BoxShape) → new ≡ bs ++ b ∷ [] → (x y : ℤ) → Over new x y ↔ (Over bs x y ⊎ Inside b x y)
over_pushed bs new b e x y =
    let P : List BoxShape → Type 0 = λ l. Over l x y in (
      (λ o. over_push bs b x y (subst P e o)),
      (λ h. subst P (sym e) (elim h [ inl o ↦ over_left bs (b ∷ []) x y o | inr i ↦ over_last bs b x y i ])),
    )

pub grown_more : (back ahead : ℤ) (bs : List BoxShape) (k : ℕ) (b g : BoxShape) (old new : List BoxShape) → IsAt bs k b → IsReachedBox back ahead b g
    → new ≡ old ++ g ∷ [] → GrownSoFar back ahead bs k old → GrownSoFar back ahead bs (k + 1) new
grown_more back ahead bs k b g old new at is e h x y = (
  (λ o. elim ((over_pushed old new g e x y).0 o) [
    | inl p ↦ let q = (h x y).0 p in (q.0, widen back ahead (InFirst bs k) (InFirst bs (k + 1)) later x y q.1)
    | inr i ↦ let q = (is.squares x y).0 i in (q.0, widen back ahead (Inside b) (InFirst bs (k + 1)) this x y q.1)
  ]),
  (λ q. let f = q.1.inside in
      let l : f.number < k + 1 = f.below in
      by_order f.number k
      (λ z. (over_pushed old new g e x y).1 (inl ((h x y).1 (
        q.0,
        record {
          u = q.1.u;
          v = q.1.v;
          inside = record { number = f.number; box = f.box; at = f.at; below = z; inside = f.inside };
          left = q.1.left;
          right = q.1.right;
          bottom = q.1.bottom;
          top = q.1.top;
        },
      ))))
      (λ z.
      let P : ℕ → Type 0 = λ i. IsAt bs i f.box in
      let same : f.box ≡ b = at_one bs k f.box b (subst P z f.at) at in
      let Q : BoxShape → Type 0 = λ c. Inside c q.1.u q.1.v in
      (over_pushed old new g e x y).1 (inr ((is.squares x y).1 (
        q.0,
        record {
          u = q.1.u;
          v = q.1.v;
          inside = subst Q same f.inside;
          left = q.1.left;
          right = q.1.right;
          bottom = q.1.bottom;
          top = q.1.top;
        },
      ))))
      (λ z. absurd (omega arith))),
)
  where
    later : (u v : ℤ) → InFirst bs k u v → InFirst bs (k + 1) u v
    later u v f = let l : f.number < k = f.below in record { number = f.number; box = f.box; at = f.at; below = omega arith; inside = f.inside }

    this : (u v : ℤ) → Inside b u v → InFirst bs (k + 1) u v
    this u v i = record { number = k; box = b; at = at; below = omega arith; inside = i }

pub all_grown : (back ahead : ℤ) (bs : List BoxShape) (k : ℕ) (grown : List BoxShape) → length bs ≤ k → GrownSoFar back ahead bs k grown
    → AreReached back ahead bs grown
all_grown back ahead bs k grown past h x y = (
  (λ o. let q = (h x y).0 o in (q.0, widen back ahead (InFirst bs k) (Over bs) (λ u v f. over_of bs f.box u v (at_among bs f.number f.box f.at) f.inside) x y q.1)),
  (λ q. (h x y).1 (q.0, widen back ahead (Over bs) (InFirst bs k) first x y q.1)),
)
  where
    first : (u v : ℤ) → Over bs u v → InFirst bs k u v
    first u v o =
        let b : HasBox bs u v = box_of bs u v o in
        let n = among_at bs b.box b.among in
        let w : n.number < length bs = n.at.within in
        record { number = n.number; box = b.box; at = n.at; below = omega arith; inside = b.inside }

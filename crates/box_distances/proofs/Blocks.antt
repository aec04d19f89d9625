-- The squares that lie in no block of a set.
use Rattle.std.proofs.Common.{◌≡◌, ◌↔◌, ◌⊎◌, inl, inr, ◌^◌, ℤ, pos, neg_ℤ, ◌+ℤ◌, ◌-ℤ◌, ◌≤ℤ◌, ◌<ℤ◌, Bool, true, false, List, [], ◌∷◌, ◌++◌, refl, arith}
use Rattle.std.proofs.lemmas.Int.{ints, by_lt_z}
use Rattle.geom.specs.Squares.{BoxShape, IsBox, Inside}
use Rattle.geom.specs.Rows.{Among, Over, Squares}
use Rattle.canonical_boxes.specs.Canonical.{IsCanonical}
use Rattle.canonical_boxes.specs.Plane.{InPlane}
use Rattle.box_distances.specs.Narrow.{InBlock, AreThin, IsReached, AreReached, is_narrow, AreNarrow, IsCorner, AreCorners, AreBlocks, IsStrip}
use Rattle.box_distances.proofs.Reached.{HasBox, box_of, over_of, over_pushed}

-- ---- a square is covered or not

inside_or : (b : BoxShape) (x y : ℤ) → Inside b x y ⊎ (Inside b x y → ⊥)
inside_or b x y =
    by_lt_z x b.x1 (λ h. inr (λ i. let l : (b.x1 ≤ℤ x) = i.left in omega (arith, ints)))
    (λ l. by_lt_z x b.x2
    (λ r. by_lt_z y b.y1 (λ h. inr (λ i. let d : (b.y1 ≤ℤ y) = i.bottom in omega (arith, ints)))
    (λ d. by_lt_z y b.y2 (λ t. inl (record { left = l; right = r; bottom = d; top = t }))
    (λ h. inr (λ i. let t : (y <ℤ b.y2) = i.top in omega (arith, ints)))))
    (λ h. inr (λ i. let r : (x <ℤ b.x2) = i.right in omega (arith, ints))))

pub over_or : (m : List BoxShape) (x y : ℤ) → Over m x y ⊎ (Over m x y → ⊥)
over_or [] x y = inr (λ h. h)
over_or (b ∷ bs) x y = elim (inside_or b x y) [
  | inl i ↦ inl (inl i)
  | inr not ↦ elim (over_or bs x y) [
    | inl o ↦ inl (inr o)
    | inr none ↦ inr (λ h. elim h [ inl i ↦ not i | inr o ↦ none o ])
  ]
]

pub canonical_plane : (m : List BoxShape) → IsCanonical m → (x y : ℤ) → Over m x y → InPlane x y
canonical_plane m canonical x y o =
    let b : HasBox m x y = box_of m x y o in
    let box : IsBox b.box = canonical.boxes b.box b.among in
    let a1 : (neg_ℤ (pos (2 ^ 40)) ≤ℤ b.box.x1) = box.across.first in
    let a2 : (b.box.x2 ≤ℤ pos (2 ^ 40)) = box.across.last in
    let c1 : (neg_ℤ (pos (2 ^ 40)) ≤ℤ b.box.y1) = box.upward.first in
    let c2 : (b.box.y2 ≤ℤ pos (2 ^ 40)) = box.upward.last in
    let l : (b.box.x1 ≤ℤ x) = b.inside.left in
    let r : (x <ℤ b.box.x2) = b.inside.right in
    let d : (b.box.y1 ≤ℤ y) = b.inside.bottom in
    let t : (y <ℤ b.box.y2) = b.inside.top in
    record { left = omega (arith, ints); right = omega (arith, ints); bottom = omega (arith, ints); top = omega (arith, ints) }

-- ---- corners of blocks

pub strip_is : (x1 y1 : ℤ) (b : BoxShape) → b.x1 ≡ x1 → b.y1 ≡ y1 → b.x2 ≡ pos (2 ^ 40) → b.y2 ≡ pos (2 ^ 40) → neg_ℤ (pos (2 ^ 40)) ≤ℤ x1
    → neg_ℤ (pos (2 ^ 40)) ≤ℤ y1 → IsStrip x1 y1 b
strip_is x1 y1 b e f g h l d = record {
  squares = λ x y. (
    (λ i.
        let il : (b.x1 ≤ℤ x) = i.left in
        let ir : (x <ℤ b.x2) = i.right in
        let ib : (b.y1 ≤ℤ y) = i.bottom in
        let it : (y <ℤ b.y2) = i.top in (
          record { left = omega (arith, ints); right = omega (arith, ints); bottom = omega (arith, ints); top = omega (arith, ints) },
          omega (arith, ints),
          omega (arith, ints),
        )),
    (λ k.
        let p = k.0 in
        let pr : (x <ℤ pos (2 ^ 40)) = p.right in
        let pt : (y <ℤ pos (2 ^ 40)) = p.top in
        let a : (x1 ≤ℤ x) = k.1 in
        let c : (y1 ≤ℤ y) = k.2 in
        record { left = omega (arith, ints); right = omega (arith, ints); bottom = omega (arith, ints); top = omega (arith, ints) }),
  );
}

module _ (last : ℤ) (some : pos 1 ≤ℤ last) (m beyond : List BoxShape)
    (squares : (x y : ℤ) → Over beyond x y ↔ (InPlane x y × (Over m x y → ⊥))) (plane : (x y : ℤ) → Over m x y → InPlane x y) where
  -- the squares that are no corners of blocks
  abbrev pub Others : Squares
  Others x y = (InPlane x y × IsReached last (pos 0) (Over beyond) x y)
      ⊎ (InPlane x y × ((pos (2 ^ 40) -ℤ last) ≤ℤ x) × (neg_ℤ (pos (2 ^ 40)) ≤ℤ y))
      ⊎ (InPlane x y × (neg_ℤ (pos (2 ^ 40)) ≤ℤ x) × ((pos (2 ^ 40) -ℤ last) ≤ℤ y))

  corner_of : (u v : ℤ) → Over m u v → (Others u v → ⊥) → IsCorner last (Over m) u v
  corner_of u v over none s t sl sr tl tr =
      let p : InPlane u v = plane u v over in
      let pl : (neg_ℤ (pos (2 ^ 40)) ≤ℤ u) = p.left in
      let pb : (neg_ℤ (pos (2 ^ 40)) ≤ℤ v) = p.bottom in
      let right : (s <ℤ pos (2 ^ 40)) = by_lt_z s (pos (2 ^ 40)) (λ h. h) (λ h. absurd (none (inr (inl (p, omega (arith, ints), p.bottom))))) in
      let top : (t <ℤ pos (2 ^ 40)) = by_lt_z t (pos (2 ^ 40)) (λ h. h) (λ h. absurd (none (inr (inr (p, p.left, omega (arith, ints)))))) in
      elim (over_or m s t) [
        | inl o ↦ o
        | inr not ↦
            let q : InPlane s t = record { left = omega (arith, ints); right = right; bottom = omega (arith, ints); top = top } in
            absurd (none (inl (
              p,
              record {
                u = s;
                v = t;
                inside = (squares s t).1 (q, not);
                left = omega (arith, ints);
                right = omega (arith, ints);
                bottom = omega (arith, ints);
                top = omega (arith, ints);
              },
            )))
      ]

  at : (z : ℤ) → z ≤ℤ z
  at z = omega (arith, ints)

  no_other : (u v : ℤ) → IsCorner last (Over m) u v → Others u v → ⊥
  no_other u v corner (inl h) =
      let r = h.1 in
      let l : (r.u ≤ℤ (u +ℤ last)) = r.left in
      let k : (u ≤ℤ (r.u +ℤ pos 0)) = r.right in
      let d : (r.v ≤ℤ (v +ℤ last)) = r.bottom in
      let t : (v ≤ℤ (r.v +ℤ pos 0)) = r.top in
      ((squares r.u r.v).0 r.inside).1 (corner r.u r.v (omega (arith, ints)) (omega (arith, ints)) (omega (arith, ints)) (omega (arith, ints)))
  no_other u v corner (inr (inl h)) =
      let e : ((pos (2 ^ 40) -ℤ last) ≤ℤ u) = h.1 in
      let p : InPlane (u +ℤ last) v = plane (u +ℤ last) v (corner (u +ℤ last) v (omega (arith, ints)) (at (u +ℤ last)) (at v) (omega (arith, ints))) in
      let r : ((u +ℤ last) <ℤ pos (2 ^ 40)) = p.right in
      omega (arith, ints)
  no_other u v corner (inr (inr h)) =
      let e : ((pos (2 ^ 40) -ℤ last) ≤ℤ v) = h.2 in
      let p : InPlane u (v +ℤ last) = plane u (v +ℤ last) (corner u (v +ℤ last) (at u) (omega (arith, ints)) (omega (arith, ints)) (at (v +ℤ last))) in
      let r : ((v +ℤ last) <ℤ pos (2 ^ 40)) = p.top in
      omega (arith, ints)

  pub corners_are : (others corners : List BoxShape) → ((x y : ℤ) → Over others x y ↔ Others x y)
      → ((x y : ℤ) → Over corners x y ↔ (Over m x y × (Over others x y → ⊥))) → AreCorners last m corners
  corners_are others corners are rest u v = (
    (λ o. let k = (rest u v).0 o in corner_of u v k.0 (λ z. k.1 ((are u v).1 z))),
    (λ c. (rest u v).1 (c u v (at u) (omega (arith, ints)) (at v) (omega (arith, ints)), (λ z. no_other u v c ((are u v).0 z)))),
  )

pub others_are : (last : ℤ) (beyond grown one two : List BoxShape) (a b : BoxShape) → AreReached last (pos 0) beyond grown
    → IsStrip (pos (2 ^ 40) -ℤ last) (neg_ℤ (pos (2 ^ 40))) a → IsStrip (neg_ℤ (pos (2 ^ 40))) (pos (2 ^ 40) -ℤ last) b
    → one ≡ grown ++ a ∷ [] → two ≡ one ++ b ∷ [] → (x y : ℤ)
    → Over two x y ↔ ((InPlane x y × IsReached last (pos 0) (Over beyond) x y)
    ⊎ (InPlane x y × ((pos (2 ^ 40) -ℤ last) ≤ℤ x) × (neg_ℤ (pos (2 ^ 40)) ≤ℤ y))
    ⊎ (InPlane x y × (neg_ℤ (pos (2 ^ 40)) ≤ℤ x) × ((pos (2 ^ 40) -ℤ last) ≤ℤ y)))
others_are last beyond grown one two a b reached right top e f x y = (
  (λ o. elim ((over_pushed one two b f x y).0 o) [
    | inl p ↦ elim ((over_pushed grown one a e x y).0 p) [
      | inl q ↦ inl ((reached x y).0 q)
      | inr i ↦ inr (inl ((right.squares x y).0 i))
    ]
    | inr i ↦ inr (inr ((top.squares x y).0 i))
  ]),
  (λ h. elim h [
    | inl r ↦ (over_pushed one two b f x y).1 (inl ((over_pushed grown one a e x y).1 (inl ((reached x y).1 r))))
    | inr k ↦ elim k [
      | inl r ↦ (over_pushed one two b f x y).1 (inl ((over_pushed grown one a e x y).1 (inr ((right.squares x y).1 r))))
      | inr r ↦ (over_pushed one two b f x y).1 (inr ((top.squares x y).1 r))
    ]
  ]),
)

-- ---- blocks

pub blocks_are : (last : ℤ) (m corners blocks : List BoxShape) → ((x y : ℤ) → Over m x y → InPlane x y) → AreCorners last m corners
    → AreReached (pos 0) last corners blocks → AreBlocks last m blocks
blocks_are last m corners blocks plane are reached x y = (
  (λ o.
      let r = ((reached x y).0 o).1 in
      let l : (r.u ≤ℤ (x +ℤ pos 0)) = r.left in
      let d : (r.v ≤ℤ (y +ℤ pos 0)) = r.bottom in
      record {
        u = r.u;
        v = r.v;
        left = omega (arith, ints);
        right = r.right;
        bottom = omega (arith, ints);
        top = r.top;
        all = (are r.u r.v).0 r.inside;
      }),
  (λ b.
      let l : (b.u ≤ℤ x) = b.left in
      let d : (b.v ≤ℤ y) = b.bottom in
      (reached x y).1 (
        plane x y (b.all x y b.left b.right b.bottom b.top),
        record {
          u = b.u;
          v = b.v;
          inside = (are b.u b.v).1 b.all;
          left = omega (arith, ints);
          right = b.right;
          bottom = omega (arith, ints);
          top = b.top;
        },
      )),
)

-- ---- narrow boxes decide

-- in a box that is not narrow a block has each square
record Side (from to side x : ℤ) : Type 0 where
  u : ℤ
  low : from ≤ℤ u
  high : (u +ℤ side) ≤ℤ to
  left : u ≤ℤ x
  right : x <ℤ (u +ℤ side)

side_at : (from to side x : ℤ) → pos 2 ≤ℤ side → (from +ℤ side) ≤ℤ to → from ≤ℤ x → x <ℤ to → Side from to side x
side_at from to side x some wide l r = by_lt_z to (x +ℤ side)
    (λ h. record { u = to -ℤ side; low = omega (arith, ints); high = omega (arith, ints); left = omega (arith, ints); right = omega (arith, ints) })
    (λ h. record { u = x; low = l; high = h; left = omega (arith, ints); right = omega (arith, ints) })

wide_block : (side : ℤ) (some : pos 2 ≤ℤ side) (m : List BoxShape) (b : BoxShape) (x y : ℤ) → Among m b → Inside b x y → (b.x1 +ℤ side) ≤ℤ b.x2
    → (b.y1 +ℤ side) ≤ℤ b.y2 → InBlock side (Over m) x y
wide_block side some m b x y among i w t =
    let a : Side b.x1 b.x2 side x = side_at b.x1 b.x2 side x some w i.left i.right in
    let c : Side b.y1 b.y2 side y = side_at b.y1 b.y2 side y some t i.bottom i.top in
    let al = a.low in
    let ah = a.high in
    let cl = c.low in
    let ch = c.high in
    record {
      u = a.u;
      v = c.u;
      left = a.left;
      right = a.right;
      bottom = c.left;
      top = c.right;
      all = λ s t sl sr tl tr. over_of m b s t among
          (record { left = omega (arith, ints); right = omega (arith, ints); bottom = omega (arith, ints); top = omega (arith, ints) });
    }

is_wide : (side : ℤ) (b : BoxShape) → is_narrow side b ≡ false → ((b.x1 +ℤ side) ≤ℤ b.x2) × ((b.y1 +ℤ side) ≤ℤ b.y2)
is_wide side b e = (
  by_lt_z (b.x2 -ℤ b.x1) side (λ h. absurd (grind (arith, ints))) (λ h. omega (arith, ints)),
  by_lt_z (b.y2 -ℤ b.y1) side (λ h. absurd (grind (arith, ints))) (λ h. omega (arith, ints)),
)

module _ (side : ℤ) (some : pos 2 ≤ℤ side) (m narrow set around part blocks thin : List BoxShape)
    (are : AreNarrow side m narrow) (cover : (x y : ℤ) → Over set x y ↔ Over narrow x y)
    (reached : AreReached (side -ℤ pos 1) (side -ℤ pos 1) set around)
    (both : (x y : ℤ) → Over part x y ↔ (Over m x y × Over around x y))
    (plane : (x y : ℤ) → Over m x y → InPlane x y)
    (in_blocks : AreBlocks (side -ℤ pos 1) part blocks)
    (rest : (x y : ℤ) → Over thin x y ↔ (Over set x y × (Over blocks x y → ⊥))) where
  of_narrow : (x y : ℤ) → Over set x y → Over m x y
  of_narrow x y o =
      let b : HasBox narrow x y = box_of narrow x y ((cover x y).0 o) in
      over_of m b.box x y ((are b.box).0 b.among).0 b.inside

  block_in : (x y : ℤ) → Over set x y → InBlock side (Over m) x y → Over blocks x y
  block_in x y o k =
      let l : (k.u ≤ℤ x) = k.left in
      let r : (x <ℤ (k.u +ℤ side)) = k.right in
      let d : (k.v ≤ℤ y) = k.bottom in
      let t : (y <ℤ (k.v +ℤ side)) = k.top in
      (in_blocks x y).1 (record {
        u = k.u;
        v = k.v;
        left = l;
        right = omega (arith, ints);
        bottom = d;
        top = omega (arith, ints);
        all = λ s q sl sr ql qr.
            let over : Over m s q = k.all s q sl (omega (arith, ints)) ql (omega (arith, ints)) in
            (both s q).1 (
              over,
              (reached s q).1 (
                plane s q over,
                record {
                  u = x;
                  v = y;
                  inside = o;
                  left = omega (arith, ints);
                  right = omega (arith, ints);
                  bottom = omega (arith, ints);
                  top = omega (arith, ints);
                },
              ),
            );
      })

  of_blocks : (x y : ℤ) → Over blocks x y → InBlock side (Over m) x y
  of_blocks x y o =
      let k = (in_blocks x y).0 o in
      let r : (x ≤ℤ (k.u +ℤ (side -ℤ pos 1))) = k.right in
      let t : (y ≤ℤ (k.v +ℤ (side -ℤ pos 1))) = k.top in
      record {
        u = k.u;
        v = k.v;
        left = k.left;
        right = omega (arith, ints);
        bottom = k.bottom;
        top = omega (arith, ints);
        all = λ s q sl sr ql qr. ((both s q).0 (k.all s q sl (omega (arith, ints)) ql (omega (arith, ints)))).0;
      }

  is_thin : (x y : ℤ) → Over m x y → (InBlock side (Over m) x y → ⊥) → Over set x y
  is_thin x y o none =
      let b : HasBox m x y = box_of m x y o in
      by_test b (is_narrow side b.box) refl
    where
      by_test : (b : HasBox m x y) (t : Bool) → is_narrow side b.box ≡ t → Over set x y
      by_test b true e = (cover x y).1 (over_of narrow b.box x y ((are b.box).1 (b.among, e)) b.inside)
      by_test b false e = let w = is_wide side b.box e in absurd (none (wide_block side some m b.box x y b.among b.inside w.0 w.1))

  pub thin_is : AreThin side m thin
  thin_is x y = (
    (λ o. let k = (rest x y).0 o in (of_narrow x y k.0, (λ b. k.1 (block_in x y k.0 b)))),
    (λ h. (rest x y).1 (is_thin x y h.0 h.1, (λ o. h.1 (of_blocks x y o)))),
  )

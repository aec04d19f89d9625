-- Squares that share sides, and sets of them that are full rectangles.
use Rattle.std.proofs.Common.{◌≡◌, ◌↔◌, inl, inr, ℕ, zero, suc, ℤ, pos, ◌+ℤ◌, ◌-ℤ◌, ◌≤ℤ◌, ◌<ℤ◌, arith, refl, subst, ◌∙◌, Bool, true, false}
use Rattle.std.proofs.lemmas.Int.{ints, by_lt_z}
use Rattle.geom.specs.Conduction.{Drawing, IsChannel, ShareSide, Leads}
use Rattle.geom.specs.Conduction.Leads.{here, step}
use Rattle.geom.specs.Merged.{InRow}
use Rattle.geom.specs.Rows.{Squares}
use Rattle.geom.specs.Squares.{BoxShape, Inside}
use Rattle.nmos_model.specs.Channels.{Begins, IsFull, IsImplanted, HasTerminals, InColumn, Above, Below, LeftOf, RightOf}
use Rattle.nmos_model.proofs.Boxes.{distance}
use Rattle.nmos_model.proofs.Places.{side_back}

module _ (S : Squares) where
  pub leads_within : (x y u v : ℤ) → S x y → Leads S x y u v → S u v
  leads_within _ _ _ _ start (here x y) = start
  leads_within _ _ _ _ start (step x y u v s t side next rest) = leads_within u v s t next rest

  pub leads_join : (x y u v s t : ℤ) → Leads S x y u v → Leads S u v s t → Leads S x y s t
  leads_join _ _ _ _ s t (here x y) more = more
  leads_join _ _ _ _ s t (step x y u v p q side next rest) more = step x y u v s t side next (leads_join u v p q s t rest more)

  pub leads_more : (x y u v s t : ℤ) → Leads S x y u v → ShareSide u v s t → S s t → Leads S x y s t
  leads_more x y u v s t path side next = leads_join x y u v s t path (step u v s t s t side next (here s t))

  pub leads_back : (x y u v : ℤ) → S x y → Leads S x y u v → Leads S u v x y
  leads_back _ _ _ _ start (here x y) = here x y
  leads_back _ _ _ _ start (step x y u v s t side next rest) =
      leads_more s t u v x y (leads_back u v s t next rest) (side_back x y u v side) start

  pub leads_to : (x y u v s t : ℤ) → u ≡ s → v ≡ t → Leads S x y u v → Leads S x y s t
  leads_to x y u v s t a b path = subst (λ k. Leads S x y k t) a (subst (λ k. Leads S x y u k) b path)

  pub leads_from : (x y s t u v : ℤ) → x ≡ s → y ≡ t → Leads S x y u v → Leads S s t u v
  leads_from x y s t u v a b path = subst (λ k. Leads S k t u v) a (subst (λ k. Leads S x k u v) b path)

  to_the_right : (n : ℕ) (x y u : ℤ) → u ≡ x +ℤ pos n → ((k : ℤ) → x ≤ℤ k → k ≤ℤ u → S k y) → Leads S x y u y
  to_the_right zero x y u e all = let same : x ≡ u = omega (arith, ints) in subst (λ k. Leads S x y k y) same (here x y)
  to_the_right (suc n) x y u e all =
      step x y (x +ℤ pos 1) y u y (inr (refl, inl refl)) (all (x +ℤ pos 1) (omega (arith, ints)) (omega (arith, ints)))
      (to_the_right n (x +ℤ pos 1) y u (omega (arith, ints)) (λ k from to. all k (omega (arith, ints)) to))

  upward : (n : ℕ) (x y v : ℤ) → v ≡ y +ℤ pos n → ((k : ℤ) → y ≤ℤ k → k ≤ℤ v → S x k) → Leads S x y x v
  upward zero x y v e all = let same : y ≡ v = omega (arith, ints) in subst (λ k. Leads S x y x k) same (here x y)
  upward (suc n) x y v e all =
      step x y x (y +ℤ pos 1) x v (inl (refl, inl refl)) (all (y +ℤ pos 1) (omega (arith, ints)) (omega (arith, ints)))
      (upward n x (y +ℤ pos 1) v (omega (arith, ints)) (λ k from to. all k (omega (arith, ints)) to))

  -- no square of the line belongs to the set
  abbrev pub AreNone : Squares → Type 0
  AreNone Line = (x y : ℤ) → Line x y → S x y → ⊥

  -- The set fills the rectangle, and none of its squares is next to it.
  pub record Fills (r : BoxShape) : Type 0 where
    pub all : (x y : ℤ) → Inside r x y → S x y
    pub above : AreNone (Above r)
    pub below : AreNone (Below r)
    pub left : AreNone (LeftOf r)
    pub right : AreNone (RightOf r)

  module _ (r : BoxShape) (fills : Fills r) where
    next_inside : (x y u v : ℤ) → Inside r x y → ShareSide x y u v → S u v → Inside r u v
    next_inside x y u v i (inl (same, inl e)) next =
        let l = i.left in let h = i.right in let b = i.bottom in let t = i.top in
        by_lt_z v r.y2 (λ lt. record { left = omega (arith, ints); right = omega (arith, ints); bottom = omega (arith, ints); top = lt })
        (λ ge. absurd (fills.above u v (record { left = omega (arith, ints); right = omega (arith, ints) }, omega (arith, ints)) next))
    next_inside x y u v i (inl (same, inr e)) next =
        let l = i.left in let h = i.right in let b = i.bottom in let t = i.top in
        by_lt_z v r.y1 (λ lt. absurd (fills.below u v (record { left = omega (arith, ints); right = omega (arith, ints) }, omega (arith, ints)) next))
        (λ ge. record { left = omega (arith, ints); right = omega (arith, ints); bottom = ge; top = omega (arith, ints) })
    next_inside x y u v i (inr (same, inl e)) next =
        let l = i.left in let h = i.right in let b = i.bottom in let t = i.top in
        by_lt_z u r.x2 (λ lt. record { left = omega (arith, ints); right = lt; bottom = omega (arith, ints); top = omega (arith, ints) })
        (λ ge. absurd (fills.right u v (record { bottom = omega (arith, ints); top = omega (arith, ints) }, omega (arith, ints)) next))
    next_inside x y u v i (inr (same, inr e)) next =
        let l = i.left in let h = i.right in let b = i.bottom in let t = i.top in
        by_lt_z u r.x1 (λ lt. absurd (fills.left u v (record { bottom = omega (arith, ints); top = omega (arith, ints) }, omega (arith, ints)) next))
        (λ ge. record { left = ge; right = omega (arith, ints); bottom = omega (arith, ints); top = omega (arith, ints) })

    stays : (x y u v : ℤ) → Inside r x y → Leads S x y u v → Inside r u v
    stays _ _ _ _ i (here x y) = i
    stays _ _ _ _ i (step x y u v s t side next rest) = stays u v s t (next_inside x y u v i side next) rest

    reaches : (u v : ℤ) → Inside r u v → Leads S r.x1 r.y1 u v
    reaches u v i =
        let l = i.left in let h = i.right in let b = i.bottom in let t = i.top in
        let across = distance r.x1 u l in
        let up = distance r.y1 v b in
        leads_join r.x1 r.y1 u r.y1 u v
        (to_the_right across.0 r.x1 r.y1 u across.1
        (λ k from to. fills.all k r.y1 (record { left = from; right = omega (arith, ints); bottom = omega (arith, ints); top = omega (arith, ints) })))
        (upward up.0 u r.y1 v up.1
        (λ k from to. fills.all u k (record { left = l; right = h; bottom = from; top = omega (arith, ints) })))

    -- the squares to which those of the set lead from the lower left one
    pub filled_class : r.x1 <ℤ r.x2 → r.y1 <ℤ r.y2 → (u v : ℤ) → Leads S r.x1 r.y1 u v ↔ Inside r u v
    filled_class across up u v = (
      λ path. stays r.x1 r.y1 u v (record { left = omega (arith, ints); right = across; bottom = omega (arith, ints); top = up }) path,
      λ i. reaches u v i,
    )

module _ (Drawn : Drawing) (x y : ℤ) (r : BoxShape) (full : IsFull Drawn x y r) where
  pub first_inside : Inside r x y
  first_inside = (full.squares x y).0 (here x y)

  pub full_channel : (u v : ℤ) → Inside r u v → IsChannel Drawn u v
  full_channel u v i = leads_within (IsChannel Drawn) x y u v full.channel ((full.squares u v).1 i)

  -- a channel square beside one of the region is one of the region
  full_next : (u v s t : ℤ) → Inside r u v → ShareSide u v s t → IsChannel Drawn s t → Inside r s t
  full_next u v s t i side next = (full.squares s t).0 (leads_more (IsChannel Drawn) x y u v s t ((full.squares u v).1 i) side next)

  pub full_fills : Fills (IsChannel Drawn) r
  full_fills = record {
    all = full_channel;
    above = λ u v line next.
        let i = first_inside in let l = line.0.left in let h = line.0.right in let e = line.1 in let b = i.bottom in let t = i.top in
        let beside = full_next u (v -ℤ pos 1) u v (record { left = l; right = h; bottom = omega (arith, ints); top = omega (arith, ints) })
        (inl (refl, inl (omega (arith, ints)))) next in
        let over = beside.top in omega (arith, ints);
    below = λ u v line next.
        let i = first_inside in let l = line.0.left in let h = line.0.right in let e = line.1 in let b = i.bottom in let t = i.top in
        let beside = full_next u (v +ℤ pos 1) u v (record { left = l; right = h; bottom = omega (arith, ints); top = omega (arith, ints) })
        (inl (refl, inr refl)) next in
        let over = beside.bottom in omega (arith, ints);
    left = λ u v line next.
        let i = first_inside in let b = line.0.bottom in let t = line.0.top in let e = line.1 in let l = i.left in let h = i.right in
        let beside = full_next (u +ℤ pos 1) v u v (record { left = omega (arith, ints); right = omega (arith, ints); bottom = b; top = t })
        (inr (refl, inr refl)) next in
        let over = beside.left in omega (arith, ints);
    right = λ u v line next.
        let i = first_inside in let b = line.0.bottom in let t = line.0.top in let e = line.1 in let l = i.left in let h = i.right in
        let beside = full_next (u -ℤ pos 1) v u v (record { left = omega (arith, ints); right = omega (arith, ints); bottom = b; top = t })
        (inr (refl, inl (omega (arith, ints)))) next in
        let over = beside.right in omega (arith, ints);
  }

  -- the lower left square of a rectangle is its first
  pub first_corner : Begins Drawn x y → (r.x1 ≡ x) × (r.y1 ≡ y)
  first_corner begins =
      let i = first_inside in
      let l = i.left in let h = i.right in let b = i.bottom in let t = i.top in
      let corner : Inside r r.x1 r.y1 = record { left = omega (arith, ints); right = omega (arith, ints); bottom = omega (arith, ints); top = omega (arith, ints) } in
      elim (begins.first r.x1 r.y1 ((full.squares r.x1 r.y1).1 corner)) [
        | inl lt ↦ absurd (omega (arith, ints))
        | inr h ↦ let e = h.0 in let le = h.1 in (omega (arith, ints), omega (arith, ints))
      ]

  pub full_sides : (r.x1 <ℤ r.x2) × (r.y1 <ℤ r.y2)
  full_sides =
      let i = first_inside in
      let l = i.left in let h = i.right in let b = i.bottom in let t = i.top in
      (omega (arith, ints), omega (arith, ints))

  -- the region of another of its squares
  pub full_from : (u v : ℤ) → Inside r u v → IsFull Drawn u v r
  full_from u v i =
      let path = (full.squares u v).1 i in
      let back = leads_back (IsChannel Drawn) x y u v full.channel path in
      record {
        channel = full_channel u v i;
        squares = λ s t. (
          λ leads. (full.squares s t).0 (leads_join (IsChannel Drawn) x y u v s t path leads),
          λ j. leads_join (IsChannel Drawn) u v x y s t back ((full.squares s t).1 j),
        );
      }

  pub corner_inside : Inside r r.x1 r.y1
  corner_inside =
      let sides = full_sides in let across = sides.0 in let up = sides.1 in
      record { left = omega (arith, ints); right = across; bottom = omega (arith, ints); top = up }

  pub last_inside : Inside r (r.x2 -ℤ pos 1) (r.y2 -ℤ pos 1)
  last_inside =
      let sides = full_sides in let across = sides.0 in let up = sides.1 in
      record { left = omega (arith, ints); right = omega (arith, ints); bottom = omega (arith, ints); top = omega (arith, ints) }

  -- it lies in another rectangle that is the same region
  pub full_lies : (s : BoxShape) → IsFull Drawn x y s → (s.x1 ≤ℤ r.x1) × (s.y1 ≤ℤ r.y1) × (r.x2 ≤ℤ s.x2) × (r.y2 ≤ℤ s.y2)
  full_lies s other =
      let first = (other.squares r.x1 r.y1).0 ((full.squares r.x1 r.y1).1 corner_inside) in
      let last = (other.squares (r.x2 -ℤ pos 1) (r.y2 -ℤ pos 1)).0 ((full.squares (r.x2 -ℤ pos 1) (r.y2 -ℤ pos 1)).1 last_inside) in
      let right = last.right in let top = last.top in
      (first.left, first.bottom, omega (arith, ints), omega (arith, ints))

-- Two rectangles have the same edges.
pub record SameEdges (r s : BoxShape) : Type 0 where
  pub x1 : r.x1 ≡ s.x1
  pub y1 : r.y1 ≡ s.y1
  pub x2 : r.x2 ≡ s.x2
  pub y2 : r.y2 ≡ s.y2

-- the region is one rectangle
pub full_once : (Drawn : Drawing) (x y : ℤ) (r s : BoxShape) → IsFull Drawn x y r → IsFull Drawn x y s → SameEdges r s
full_once Drawn x y r s one other =
    let a = full_lies Drawn x y r one s other in let b = full_lies Drawn x y s other r one in
    let a0 = a.0 in let a1 = a.1 in let a2 = a.2 in let a3 = a.3 in let b0 = b.0 in let b1 = b.1 in let b2 = b.2 in let b3 = b.3 in
    record { x1 = omega (arith, ints); y1 = omega (arith, ints); x2 = omega (arith, ints); y2 = omega (arith, ints) }

module _ (r s : BoxShape) (same : SameEdges r s) (x y : ℤ) where
  pub inside_same : Inside r x y → Inside s x y
  inside_same i = record {
    left = subst (λ k. k ≤ℤ x) same.x1 i.left;
    right = subst (λ k. x <ℤ k) same.x2 i.right;
    bottom = subst (λ k. k ≤ℤ y) same.y1 i.bottom;
    top = subst (λ k. y <ℤ k) same.y2 i.top;
  }

  column_same : InColumn r x → InColumn s x
  column_same i = record { left = subst (λ k. k ≤ℤ x) same.x1 i.left; right = subst (λ k. x <ℤ k) same.x2 i.right }

  row_same : InRow r y → InRow s y
  row_same i = record { bottom = subst (λ k. k ≤ℤ y) same.y1 i.bottom; top = subst (λ k. y <ℤ k) same.y2 i.top }

  pub above_same : Above r x y → Above s x y
  above_same line = (column_same line.0, line.1 ∙ same.y2)

  pub below_same : Below r x y → Below s x y
  below_same line = (column_same line.0, line.1 ∙ same.y1)

  pub left_same : LeftOf r x y → LeftOf s x y
  left_same line = (row_same line.0, line.1 ∙ same.x1)

  pub right_same : RightOf r x y → RightOf s x y
  right_same line = (row_same line.0, line.1 ∙ same.x2)

-- what fills a rectangle fills another with its edges
pub fills_same : (S : Squares) (r s : BoxShape) → SameEdges s r → Fills S r → Fills S s
fills_same S r s same fills = record {
  all = λ x y i. fills.all x y (inside_same s r same x y i);
  above = λ x y line. fills.above x y (above_same s r same x y line);
  below = λ x y line. fills.below x y (below_same s r same x y line);
  left = λ x y line. fills.left x y (left_same s r same x y line);
  right = λ x y line. fills.right x y (right_same s r same x y line);
}

-- terminals of a rectangle are those of another with its edges
pub terminals_same : (Drawn : Drawing) (upright : Bool) (r s : BoxShape) → SameEdges s r → HasTerminals Drawn upright r → HasTerminals Drawn upright s
terminals_same Drawn true r s same h = (
  λ x y line. h.0 x y (above_same s r same x y line),
  λ x y line. h.1 x y (below_same s r same x y line),
  λ x y line. h.2 x y (left_same s r same x y line),
  λ x y line. h.3 x y (right_same s r same x y line),
)
terminals_same Drawn false r s same h = (
  λ x y line. h.0 x y (left_same s r same x y line),
  λ x y line. h.1 x y (right_same s r same x y line),
  λ x y line. h.2 x y (above_same s r same x y line),
  λ x y line. h.3 x y (below_same s r same x y line),
)

pub implanted_same : (Drawn : Drawing) (depletion : Bool) (r s : BoxShape) → SameEdges s r → IsImplanted Drawn depletion r → IsImplanted Drawn depletion s
implanted_same Drawn true r s same h = λ x y i. h x y (inside_same s r same x y i)
implanted_same Drawn false r s same h = λ x y i. h x y (inside_same s r same x y i)

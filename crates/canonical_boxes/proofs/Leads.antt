-- Squares of a canonical list lead to each other exactly where their boxes do, touch by touch.
use Rattle.std.proofs.Common.{◌≡◌, ◌↔◌, ℕ, zero, suc, ℤ, pos, negsuc, ◌+ℤ◌, ◌-ℤ◌, ◌≤ℤ◌, ◌<ℤ◌, List, ◌⊎◌, inl, inr, refl, sym, arith, subst}
use Rattle.std.proofs.lemmas.Int.{ints, by_lt_z}
use Rattle.geom.specs.Squares.{BoxShape, IsBox, Inside}
use Rattle.geom.specs.Rows.{Squares, Over}
use Rattle.geom.specs.Conduction.{ShareSide, Leads}
use Rattle.geom.specs.Conduction.Leads.{here, step}
use Rattle.canonical_boxes.specs.Canonical.{AreParted, IsCanonical, IsAt}
use Rattle.canonical_boxes.specs.Touches.{StandsOn}
use Rattle.canonical_boxes.specs.Laws.{AreTouching, BoxesLead}
use Rattle.canonical_boxes.specs.Laws.BoxesLead.{here as at_box, step as to_box}
use Rattle.canonical_boxes.proofs.Lists.{Numbered, among_at, at_among, at_one}
use Rattle.canonical_boxes.proofs.Parted.{OverBy, over_by, over_of, one_or_parted, same_number}

-- ---- through a box

chain : (S : Squares) (x y u v s t : ℤ) → Leads S x y u v → Leads S u v s t → Leads S x y s t
chain S _ _ _ _ s t (here x y) q = q
chain S _ _ _ _ s t (step x y a b u v side member p) q = step x y a b s t side member (chain S a b u v s t p q)

still : (S : Squares) (x y s t : ℤ) → x ≡ s → y ≡ t → Leads S x y s t
still S x y s t e f = rw (e, f) (here s t)

-- the difference of two numbers in order
steps : (a b : ℤ) → a ≤ℤ b → (n : ℕ) × (b ≡ a +ℤ pos n)
steps a b h = difference (b -ℤ a) refl
  where
    difference : (d : ℤ) → b -ℤ a ≡ d → (n : ℕ) × (b ≡ a +ℤ pos n)
    difference (pos n) e = (n, omega (arith, ints))
    difference (negsuc n) e = absurd (omega (arith, ints))

module _ (S : Squares) (b : BoxShape) (all : (x y : ℤ) → Inside b x y → S x y) where
  east : (n : ℕ) (x y s : ℤ) → s ≡ x +ℤ pos n → Inside b x y → Inside b s y → Leads S x y s y
  east zero x y s e i k = still S x y s y (omega (arith, ints)) refl
  east (suc n) x y s e i k =
      let next : Inside b (x +ℤ pos 1) y = record { left = omega (arith, ints); right = omega (arith, ints); bottom = i.bottom; top = i.top } in
      step x y (x +ℤ pos 1) y s y (inr (refl, inl refl)) (all (x +ℤ pos 1) y next) (east n (x +ℤ pos 1) y s (omega (arith, ints)) next k)

  west : (n : ℕ) (x y s : ℤ) → x ≡ s +ℤ pos n → Inside b x y → Inside b s y → Leads S x y s y
  west zero x y s e i k = still S x y s y (omega (arith, ints)) refl
  west (suc n) x y s e i k =
      let next : Inside b (x -ℤ pos 1) y = record { left = omega (arith, ints); right = omega (arith, ints); bottom = i.bottom; top = i.top } in
      step x y (x -ℤ pos 1) y s y (inr (refl, inr (omega (arith, ints)))) (all (x -ℤ pos 1) y next)
      (west n (x -ℤ pos 1) y s (omega (arith, ints)) next k)

  north : (n : ℕ) (x y t : ℤ) → t ≡ y +ℤ pos n → Inside b x y → Inside b x t → Leads S x y x t
  north zero x y t e i k = still S x y x t refl (omega (arith, ints))
  north (suc n) x y t e i k =
      let next : Inside b x (y +ℤ pos 1) = record { left = i.left; right = i.right; bottom = omega (arith, ints); top = omega (arith, ints) } in
      step x y x (y +ℤ pos 1) x t (inl (refl, inl refl)) (all x (y +ℤ pos 1) next) (north n x (y +ℤ pos 1) t (omega (arith, ints)) next k)

  south : (n : ℕ) (x y t : ℤ) → y ≡ t +ℤ pos n → Inside b x y → Inside b x t → Leads S x y x t
  south zero x y t e i k = still S x y x t refl (omega (arith, ints))
  south (suc n) x y t e i k =
      let next : Inside b x (y -ℤ pos 1) = record { left = i.left; right = i.right; bottom = omega (arith, ints); top = omega (arith, ints) } in
      step x y x (y -ℤ pos 1) x t (inl (refl, inr (omega (arith, ints)))) (all x (y -ℤ pos 1) next)
      (south n x (y -ℤ pos 1) t (omega (arith, ints)) next k)

  along : (x y s : ℤ) → Inside b x y → Inside b s y → Leads S x y s y
  along x y s i k = by_lt_z x s
      (λ below. let d = steps x s (omega (arith, ints)) in east d.0 x y s d.1 i k)
      (λ above. let d = steps s x above in west d.0 x y s d.1 i k)

  upward : (x y t : ℤ) → Inside b x y → Inside b x t → Leads S x y x t
  upward x y t i k = by_lt_z y t
      (λ below. let d = steps y t (omega (arith, ints)) in north d.0 x y t d.1 i k)
      (λ above. let d = steps t y above in south d.0 x y t d.1 i k)

  -- Any two squares of a box lead to each other within it.
  through : (x y s t : ℤ) → Inside b x y → Inside b s t → Leads S x y s t
  through x y s t i k =
      let corner : Inside b s y = record { left = k.left; right = k.right; bottom = i.bottom; top = i.top } in
      chain S x y s y s t (along x y s i corner) (upward s y t corner k)

-- ---- from box to box

-- two squares that share a side across the edge of two boxes
record Crossing (upper lower : BoxShape) : Type 0 where
  column : ℤ
  below : ℤ
  over : Inside upper column (below +ℤ pos 1)
  under : Inside lower column below

crossing : (upper lower : BoxShape) → IsBox upper → IsBox lower → StandsOn upper lower → Crossing upper lower
crossing upper lower box box' on =
    let e : lower.y2 ≡ upper.y1 = on.edge in
    let l : (lower.x1 <ℤ upper.x2) = on.left in
    let r : (upper.x1 <ℤ lower.x2) = on.right in
    let high : (upper.y1 <ℤ upper.y2) = box.upward.order in
    let high' : (lower.y1 <ℤ lower.y2) = box'.upward.order in
    let wide : (upper.x1 <ℤ upper.x2) = box.across.order in
    let wide' : (lower.x1 <ℤ lower.x2) = box'.across.order in
    by_lt_z upper.x1 lower.x1
    (λ h. record {
      column = lower.x1;
      below = upper.y1 -ℤ pos 1;
      over = record { left = omega (arith, ints); right = l; bottom = omega (arith, ints); top = omega (arith, ints) };
      under = record { left = omega (arith, ints); right = wide'; bottom = omega (arith, ints); top = omega (arith, ints) };
    })
    (λ h. record {
      column = upper.x1;
      below = upper.y1 -ℤ pos 1;
      over = record { left = omega (arith, ints); right = wide; bottom = omega (arith, ints); top = omega (arith, ints) };
      under = record { left = h; right = r; bottom = omega (arith, ints); top = omega (arith, ints) };
    })

module _ (m : List BoxShape) (h : IsCanonical m) where
  within : (i : ℕ) (b : BoxShape) → IsAt m i b → (x y u v : ℤ) → Inside b x y → Inside b u v → Leads (Over m) x y u v
  within i b at x y u v = through (Over m) b (λ s t k. over_of m b s t (at_among m i b at) k) x y u v

  box_at : (i : ℕ) (b : BoxShape) → IsAt m i b → IsBox b
  box_at i b at = h.boxes b (at_among m i b at)

  -- from a square of one box into a box that touches it
  across : (i j : ℕ) (a : BoxShape) (x y : ℤ) → IsAt m i a → Inside a x y → AreTouching m i j
      → (b : BoxShape) × (u : ℤ) × (v : ℤ) × IsAt m j b × Inside b u v × Leads (Over m) x y u v
  across i j a x y at k (inl t) =
      let one : t.under ≡ a = at_one m i t.under a t.lower at in
      let P : BoxShape → Type 0 = λ v. Inside v x y in
      let c : Crossing t.over t.under = crossing t.over t.under (box_at j t.over t.upper) (box_at i t.under t.lower) t.stands in (
        t.over,
        c.column,
        c.below +ℤ pos 1,
        t.upper,
        c.over,
        chain (Over m) x y c.column c.below c.column (c.below +ℤ pos 1) (within i t.under t.lower x y c.column c.below (subst P (sym one) k) c.under)
            (step c.column c.below c.column (c.below +ℤ pos 1) c.column (c.below +ℤ pos 1) (inl (refl, inl refl))
            (over_of m t.over c.column (c.below +ℤ pos 1) (at_among m j t.over t.upper) c.over) (here c.column (c.below +ℤ pos 1))),
      )
  across i j a x y at k (inr t) =
      let one : t.over ≡ a = at_one m i t.over a t.upper at in
      let P : BoxShape → Type 0 = λ v. Inside v x y in
      let c : Crossing t.over t.under = crossing t.over t.under (box_at i t.over t.upper) (box_at j t.under t.lower) t.stands in (
        t.under,
        c.column,
        c.below,
        t.lower,
        c.under,
        chain (Over m) x y c.column (c.below +ℤ pos 1) c.column c.below
            (within i t.over t.upper x y c.column (c.below +ℤ pos 1) (subst P (sym one) k) c.over)
            (step c.column (c.below +ℤ pos 1) c.column c.below c.column c.below (inl (refl, inr refl))
            (over_of m t.under c.column c.below (at_among m j t.under t.lower) c.under) (here c.column c.below)),
      )

  from_boxes : (i j : ℕ) → BoxesLead m i j → (a b : BoxShape) (x y u v : ℤ) → IsAt m i a → IsAt m j b → Inside a x y → Inside b u v → Leads
      (Over m) x y u v
  from_boxes _ _ (at_box i) a b x y u v p q k l =
      let P : BoxShape → Type 0 = λ c. Inside c u v in
      within i a p x y u v k (subst P (at_one m i b a q p) l)
  from_boxes _ _ (to_box i j n touch rest) a b x y u v p q k l =
      let c = across i j a x y p k touch in
      chain (Over m) x y c.1 c.2 u v c.5 (from_boxes j n rest c.0 b c.1 c.2 u v c.3 q c.4 l)

  -- The box of a square beside one of a box is that box, or touches it.
  next_box : (i j : ℕ) (a b : BoxShape) (x y u v : ℤ) → IsAt m i a → IsAt m j b → Inside a x y → Inside b u v → ShareSide x y u v →
      (i ≡ j) ⊎ AreTouching m i j
  next_box i j a b x y u v p q k l side = elim (one_or_parted m h i j a b p q) [
    | inl e ↦ inl e
    | inr apart ↦ elim side [
      | inr level ↦ beside apart level
      | inl upright ↦ elim upright.1 [
        | inl up ↦ above apart upright.0 up
        | inr down ↦ below apart upright.0 down
      ]
    ]
  ]
    where
      beside : AreParted a b → ((y ≡ v) × ((u ≡ x +ℤ pos 1) ⊎ (x ≡ u +ℤ pos 1))) → (i ≡ j) ⊎ AreTouching m i j
      beside apart level =
          let e : y ≡ v = level.0 in
          let lb : (b.y1 ≤ℤ v) = l.bottom in
          let lt : (v <ℤ b.y2) = l.top in
          elim (apart y (record { bottom = k.bottom; top = k.top }) (record { bottom = omega (arith, ints); top = omega (arith, ints) })) [
            | inl z ↦ absurd (elim level.1 [ inl n ↦ omega (arith, ints) | inr n ↦ omega (arith, ints) ])
            | inr z ↦ absurd (elim level.1 [ inl n ↦ omega (arith, ints) | inr n ↦ omega (arith, ints) ])
          ]

      above : AreParted a b → x ≡ u → v ≡ y +ℤ pos 1 → (i ≡ j) ⊎ AreTouching m i j
      above apart e up = by_lt_z v a.y2
          (λ z. absurd (elim (apart v (record { bottom = omega (arith, ints); top = z })
          (record { bottom = l.bottom; top = l.top })) [ inl n ↦ omega (arith, ints) | inr n ↦ omega (arith, ints) ]))
          (λ z. by_lt_z y b.y1
          (λ w. inr (inl (record {
            under = a;
            over = b;
            lower = p;
            upper = q;
            stands = record { edge = omega (arith, ints); left = omega (arith, ints); right = omega (arith, ints) };
          })))
          (λ w. absurd (elim (apart y (record { bottom = k.bottom; top = k.top })
          (record { bottom = w; top = omega (arith, ints) })) [ inl n ↦ omega (arith, ints) | inr n ↦ omega (arith, ints) ])))

      below : AreParted a b → x ≡ u → y ≡ v +ℤ pos 1 → (i ≡ j) ⊎ AreTouching m i j
      below apart e down = by_lt_z y b.y2
          (λ z. absurd (elim (apart y (record { bottom = k.bottom; top = k.top })
          (record { bottom = omega (arith, ints); top = z })) [ inl n ↦ omega (arith, ints) | inr n ↦ omega (arith, ints) ]))
          (λ z. by_lt_z v a.y1
          (λ w. inr (inr (record {
            under = b;
            over = a;
            lower = q;
            upper = p;
            stands = record { edge = omega (arith, ints); left = omega (arith, ints); right = omega (arith, ints) };
          })))
          (λ w. absurd (elim (apart v (record { bottom = w; top = omega (arith, ints) })
          (record { bottom = l.bottom; top = l.top })) [ inl n ↦ omega (arith, ints) | inr n ↦ omega (arith, ints) ])))

  from_squares : (x y s t : ℤ) → Leads (Over m) x y s t → (i j : ℕ) (a b : BoxShape) → IsAt m i a → IsAt m j b → Inside a x y → Inside b s t
      → BoxesLead m i j
  from_squares _ _ _ _ (here x y) i j a b p q k l =
      let P : ℕ → Type 0 = λ n. BoxesLead m i n in
      subst P (same_number m h i j a b x y p q k l) (at_box i)
  from_squares _ _ _ _ (step x y u v s t side member rest) i j a b p q k l =
      let c : OverBy m u v = over_by m u v member in
      let n : Numbered m c.box = among_at m c.box c.among in
      let more : BoxesLead m n.number j = from_squares u v s t rest n.number j c.box b n.at q c.inside l in
      elim (next_box i n.number a c.box x y u v p n.at k c.inside side) [
        | inl e ↦ (let P : ℕ → Type 0 = λ z. BoxesLead m z j in subst P (sym e) more)
        | inr touch ↦ to_box i n.number j touch more
      ]

  pub leads_by_touches : (i j : ℕ) (a b : BoxShape) (x y u v : ℤ) → IsAt m i a → IsAt m j b → Inside a x y → Inside b u v → Leads
      (Over m) x y u v ↔ BoxesLead m i j
  leads_by_touches i j a b x y u v p q k l = (
    (λ path. from_squares x y u v path i j a b p q k l),
    (λ path. from_boxes i j path a b x y u v p q k l),
  )

-- Squares beside boxes, and what lies over them.
use Rattle.std.proofs.Common.{◌≡◌, ◌↔◌, ◌⊎◌, inl, inr, ℕ, ◌<◌, ◌≤◌, ◌+◌, ℤ, pos, ◌+ℤ◌, ◌-ℤ◌, ◌≤ℤ◌, ◌<ℤ◌, List, [], ◌∷◌, ◌++◌, length, map, get_or, Option, Some, None, refl, sym, ◌∙◌, ap, subst, arith}
use Rattle.std.proofs.lemmas.Int.{ints, by_lt_z}
use Rattle.geom.specs.Squares.{BoxShape, Inside}
use Rattle.geom.specs.Rows.{Among}
use Rattle.canonical_boxes.specs.Canonical.{IsAt, IsCanonical}
use Rattle.canonical_boxes.specs.Laws.{AreNumbered}
use Rattle.canonical_boxes.specs.Located.{IsOver, IsLocated, AreLocated}
use Rattle.box_distances.specs.declared.pairs.NearPair.{NearPair}
use Rattle.box_distances.specs.declared.pairs.BesideSquare.{BesideSquare}
use Rattle.box_distances.specs.Near.{IsBesideColumn, IsBeside, AddsBeside, AreBeside, IsBesidePair, AddsBesidePairs, AddsOver}
use Rattle.box_distances.proofs.Lists.{among_push, among_left, among_last, among_at, at_among, at_one, by_order, map_at}
use Rattle.box_distances.proofs.Rows.{pair, pair_is}

abbrev pub beside : ℕ → ℤ → ℤ → BesideSquare
beside number x y = record { number = number; square = record { x = x; y = y } }

beside_is : (s : BesideSquare) (number : ℕ) (x y : ℤ) → s.number ≡ number → s.square.x ≡ x → s.square.y ≡ y → beside number x y ≡ s
beside_is s number x y e f g = let r : beside number x y ≡ beside s.number s.square.x s.square.y = rw (e, f, g) refl in r

-- ---- the squares beside one box

-- The column is to the left or to the right of the box, fewer than so many columns away.
abbrev pub Within : ℤ → BoxShape → ℤ → Type 0
Within gap b x = ((x <ℤ b.x1) × (b.x1 ≤ℤ (x +ℤ gap))) ⊎ ((b.x2 ≤ℤ x) × (x <ℤ (b.x2 +ℤ gap)))

abbrev pub SquaresSoFar : ℤ → BoxShape → ℕ → List BesideSquare → List BesideSquare → Type 0
SquaresSoFar gap b number before found = (s : BesideSquare) → Among found s
    ↔ (Among before s ⊎ ((s.number ≡ number) × (s.square.y ≡ b.y1) × Within gap b s.square.x))

pub no_square : (gap : ℤ) (b : BoxShape) (number : ℕ) (before : List BesideSquare) → gap ≤ℤ pos 0 → SquaresSoFar gap b number before before
no_square gap b number before e s = (
  (λ i. inl i),
  (λ h. elim h [
    | inl i ↦ i
    | inr k ↦ elim k.2 [
      | inl l ↦ let p : (s.square.x <ℤ b.x1) = l.0 in let q : (b.x1 ≤ℤ (s.square.x +ℤ gap)) = l.1 in absurd (omega (arith, ints))
      | inr r ↦ let p : (b.x2 ≤ℤ s.square.x) = r.0 in let q : (s.square.x <ℤ (b.x2 +ℤ gap)) = r.1 in absurd (omega (arith, ints))
    ]
  ]),
)

abbrev left_square : ℤ → BoxShape → ℕ → BesideSquare
left_square gap b number = beside number ((b.x1 -ℤ pos 1) -ℤ gap) b.y1

abbrev right_square : ℤ → BoxShape → ℕ → BesideSquare
right_square gap b number = beside number (b.x2 +ℤ gap) b.y1

abbrev Has : BesideSquare → List BesideSquare → Type 0
Has s l = Among l s

pub square_more : (gap : ℤ) (b : BoxShape) (number : ℕ) (before found mid after : List BesideSquare) → pos 0 ≤ℤ gap
    → mid ≡ found ++ beside number ((b.x1 -ℤ pos 1) -ℤ gap) b.y1 ∷ [] → after ≡ mid ++ beside number (b.x2 +ℤ gap) b.y1 ∷ []
    → SquaresSoFar gap b number before found → SquaresSoFar (gap +ℤ pos 1) b number before after
square_more gap b number before found mid after some e f h s = (to, from)
  where
    wider : Within gap b s.square.x → Within (gap +ℤ pos 1) b s.square.x
    wider (inl l) = let p : (s.square.x <ℤ b.x1) = l.0 in let q : (b.x1 ≤ℤ (s.square.x +ℤ gap)) = l.1 in inl (l.0, omega (arith, ints))
    wider (inr r) = let p : (b.x2 ≤ℤ s.square.x) = r.0 in let q : (s.square.x <ℤ (b.x2 +ℤ gap)) = r.1 in inr (r.0, omega (arith, ints))

    at_left : left_square gap b number ≡ s → (s.number ≡ number) × (s.square.y ≡ b.y1) × Within (gap +ℤ pos 1) b s.square.x
    at_left same =
        let x : (b.x1 -ℤ pos 1) -ℤ gap ≡ s.square.x = ap (λ (v : BesideSquare). v.square.x) same in (
          sym (ap (λ (v : BesideSquare). v.number) same),
          sym (ap (λ (v : BesideSquare). v.square.y) same),
          inl (omega (arith, ints), omega (arith, ints)),
        )

    at_right : right_square gap b number ≡ s → (s.number ≡ number) × (s.square.y ≡ b.y1) × Within (gap +ℤ pos 1) b s.square.x
    at_right same =
        let x : b.x2 +ℤ gap ≡ s.square.x = ap (λ (v : BesideSquare). v.square.x) same in (
          sym (ap (λ (v : BesideSquare). v.number) same),
          sym (ap (λ (v : BesideSquare). v.square.y) same),
          inr (omega (arith, ints), omega (arith, ints)),
        )

    to : Among after s → Among before s ⊎ ((s.number ≡ number) × (s.square.y ≡ b.y1) × Within (gap +ℤ pos 1) b s.square.x)
    to i = elim (among_push mid (right_square gap b number) s (subst (Has s) f i)) [
      | inl j ↦ elim (among_push found (left_square gap b number) s (subst (Has s) e j)) [
        | inl old ↦ elim ((h s).0 old) [ inl k ↦ inl k | inr k ↦ inr (k.0, k.1, wider k.2) ]
        | inr same ↦ inr (at_left same)
      ]
      | inr same ↦ inr (at_right same)
    ]

    keep : Among found s → Among after s
    keep i = subst (Has s) (sym f) (among_left mid (right_square gap b number ∷ []) s (subst (Has s) (sym e) (among_left found (left_square gap b number ∷ []) s i)))

    is_left : left_square gap b number ≡ s → Among after s
    is_left same = subst (Has s) (sym f) (among_left mid (right_square gap b number ∷ []) s (subst (Has s) (sym e) (among_last found (left_square gap b number) s same)))

    from : Among before s ⊎ ((s.number ≡ number) × (s.square.y ≡ b.y1) × Within (gap +ℤ pos 1) b s.square.x) → Among after s
    from (inl old) = keep ((h s).1 (inl old))
    from (inr k) = elim k.2 [
      | inl l ↦
          let p : (s.square.x <ℤ b.x1) = l.0 in
          let q : (b.x1 ≤ℤ (s.square.x +ℤ (gap +ℤ pos 1))) = l.1 in
          by_lt_z (s.square.x +ℤ gap) b.x1
          (λ z. is_left (beside_is s number ((b.x1 -ℤ pos 1) -ℤ gap) b.y1 k.0 (omega (arith, ints)) k.1))
          (λ z. keep ((h s).1 (inr (k.0, k.1, inl (l.0, z)))))
      | inr r ↦
          let p : (b.x2 ≤ℤ s.square.x) = r.0 in
          let q : (s.square.x <ℤ (b.x2 +ℤ (gap +ℤ pos 1))) = r.1 in
          by_lt_z s.square.x (b.x2 +ℤ gap)
          (λ z. keep ((h s).1 (inr (k.0, k.1, inr (r.0, z)))))
          (λ z. subst (Has s) (sym f) (among_last mid (right_square gap b number) s (beside_is s number (b.x2 +ℤ gap) b.y1 k.0 (omega (arith, ints)) k.1)))
    ]

pub square_step : (gap l r y : ℤ) (b : BoxShape) (number : ℕ) (before found mid after : List BesideSquare) → pos 0 ≤ℤ gap
    → l ≡ (b.x1 -ℤ pos 1) -ℤ gap → r ≡ b.x2 +ℤ gap → y ≡ b.y1
    → mid ≡ found ++ beside number l y ∷ [] → after ≡ mid ++ beside number r y ∷ []
    → SquaresSoFar gap b number before found → SquaresSoFar (gap +ℤ pos 1) b number before after
square_step gap l r y b number before found mid after some el er ey e f h =
    let left : beside number l y ≡ left_square gap b number = rw (el, ey) refl in
    let right : beside number r y ≡ right_square gap b number = rw (er, ey) refl in
    square_more gap b number before found mid after some (e ∙ ap (λ (v : BesideSquare). found ++ v ∷ []) left)
    (f ∙ ap (λ (v : BesideSquare). mid ++ v ∷ []) right) h

pub squares_are : (reach gap : ℤ) (b : BoxShape) (number : ℕ) (before found : List BesideSquare) → reach ≤ℤ gap → gap ≤ℤ reach
    → SquaresSoFar gap b number before found → AddsBeside reach b number before found
squares_are reach gap b number before found l g h =
    let same : gap ≡ reach = omega (arith, ints) in
    let P : ℤ → Type 0 = λ z. SquaresSoFar z b number before found in
    subst P same h

-- ---- box by box

abbrev pub BesideSoFar : ℤ → List BoxShape → ℕ → List BesideSquare → Type 0
BesideSoFar reach m k found = (s : BesideSquare) → Among found s ↔ ((s.number < k) × IsBeside reach m s)

pub none_beside : (reach : ℤ) (m : List BoxShape) → BesideSoFar reach m 0 []
none_beside reach m s = ((λ h. absurd h), (λ h. absurd (omega (arith, h.0))))

pub beside_more : (reach : ℤ) (m : List BoxShape) (k : ℕ) (b : BoxShape) (before after : List BesideSquare) → IsAt m k b → BesideSoFar reach m k before
    → AddsBeside reach b k before after → BesideSoFar reach m (k + 1) after
beside_more reach m k b before after at h adds s = (
  (λ i. elim ((adds s).0 i) [
    | inl old ↦ let two = (h s).0 old in (omega (arith, two.0), two.1)
    | inr new ↦
        let P : ℕ → Type 0 = λ i. IsAt m i b in
        (omega (arith, new.0), record { box = b; at = subst P (sym new.0) at; row = new.1; column = new.2 })
  ]),
  (λ q. by_order s.number k
      (λ l. (adds s).1 (inl ((h s).1 (l, q.1))))
      (λ e.
      let w = q.1 in
      let P : ℕ → Type 0 = λ i. IsAt m i w.box in
      let same : w.box ≡ b = at_one m k w.box b (subst P e w.at) at in
      let Q : BoxShape → Type 0 = λ v. IsBesideColumn reach v s.square.x in
      (adds s).1 (inr (e, w.row ∙ ap (λ (v : BoxShape). v.y1) same, subst Q same w.column)))
      (λ l. absurd (omega (arith, q.0)))),
)

pub all_beside : (reach : ℤ) (m : List BoxShape) (k : ℕ) (found : List BesideSquare) → length m ≤ k → BesideSoFar reach m k found → AreBeside reach m found
all_beside reach m k found l h s = (
  (λ i. ((h s).0 i).1),
  (λ q. let w : s.number < length m = q.at.within in (h s).1 (omega arith, q)),
)

-- ---- what lies over the squares

-- Of one of the first squares, beside this box, this one is the box over it.
pub record IsFoundBelow (squares : List BesideSquare) (over : List (Option ℕ)) (k : ℕ) (p : NearPair) : Type 0 where
  pub number : ℕ
  pub below : number < k
  pub square : BesideSquare
  pub at : IsAt squares number square
  pub one : square.number ≡ p.one
  pub other : get_or over number None ≡ Some p.other

abbrev pub FoundSoFar : List BesideSquare → List (Option ℕ) → ℕ → List NearPair → List NearPair → Type 0
FoundSoFar squares over k before found = (p : NearPair) → Among found p ↔ (Among before p ⊎ IsFoundBelow squares over k p)

pub no_found : (squares : List BesideSquare) (over : List (Option ℕ)) (before : List NearPair) → FoundSoFar squares over 0 before before
no_found squares over before p = (
  (λ i. inl i),
  (λ h. elim h [ inl i ↦ i | inr k ↦ let l : k.number < 0 = k.below in absurd (omega arith) ]),
)

later : (squares : List BesideSquare) (over : List (Option ℕ)) (k : ℕ) (p : NearPair) → IsFoundBelow squares over k p → IsFoundBelow squares over (k + 1) p
later squares over k p h =
    let l : h.number < k = h.below in
    record { number = h.number; below = omega arith; square = h.square; at = h.at; one = h.one; other = h.other }

pub found_none : (squares : List BesideSquare) (over : List (Option ℕ)) (k : ℕ) (before found : List NearPair) → get_or over k None ≡ None
    → FoundSoFar squares over k before found → FoundSoFar squares over (k + 1) before found
found_none squares over k before found e h p = (
  (λ i. elim ((h p).0 i) [ inl old ↦ inl old | inr q ↦ inr (later squares over k p q) ]),
  (λ c. elim c [
    | inl old ↦ (h p).1 (inl old)
    | inr q ↦
        let l : q.number < k + 1 = q.below in
        by_order q.number k
        (λ z. (h p).1 (inr (record { number = q.number; below = z; square = q.square; at = q.at; one = q.one; other = q.other })))
        (λ z. let f : get_or over k None ≡ Some p.other = ap (λ i. get_or over i None) (sym z) ∙ q.other in absurd (cc))
        (λ z. absurd (omega arith))
  ]),
)

pub found_more : (squares : List BesideSquare) (over : List (Option ℕ)) (k other : ℕ) (s : BesideSquare) (before found after : List NearPair)
    → IsAt squares k s → get_or over k None ≡ Some other → after ≡ found ++ pair s.number other ∷ []
    → FoundSoFar squares over k before found → FoundSoFar squares over (k + 1) before after
found_more squares over k other s before found after at e f h p =
    let P : List NearPair → Type 0 = λ l. Among l p in (
      (λ i. elim (among_push found (pair s.number other) p (subst P f i)) [
        | inl old ↦ elim ((h p).0 old) [ inl c ↦ inl c | inr q ↦ inr (later squares over k p q) ]
        | inr same ↦ inr (record {
          number = k;
          below = omega arith;
          square = s;
          at = at;
          one = ap (λ (v : NearPair). v.one) same;
          other = e ∙ ap Some (ap (λ (v : NearPair). v.other) same);
        })
      ]),
      (λ c. subst P (sym f) (elim c [
        | inl old ↦ among_left found (pair s.number other ∷ []) p ((h p).1 (inl old))
        | inr q ↦
            let l : q.number < k + 1 = q.below in
            by_order q.number k
            (λ z. among_left found (pair s.number other ∷ []) p
            ((h p).1 (inr (record { number = q.number; below = z; square = q.square; at = q.at; one = q.one; other = q.other }))))
            (λ z.
            let Q : ℕ → Type 0 = λ i. IsAt squares i q.square in
            let same : q.square ≡ s = at_one squares k q.square s (subst Q z q.at) at in
            let one : p.one ≡ s.number = sym q.one ∙ ap (λ (v : BesideSquare). v.number) same in
            let g : Some other ≡ Some p.other = sym e ∙ ap (λ i. get_or over i None) (sym z) ∙ q.other in
            let two : p.other ≡ other = cc in
            among_last found (pair s.number other) p (pair_is p s.number other one two))
            (λ z. absurd (omega arith))
      ])),
    )

pub found_step : (squares : List BesideSquare) (over : List (Option ℕ)) (k : ℕ) (s : BesideSquare) (o : Option ℕ) (before found after : List NearPair)
    → IsAt squares k s → get_or over k None ≡ o → AddsOver s.number o found after
    → FoundSoFar squares over k before found → FoundSoFar squares over (k + 1) before after
found_step squares over k s (Some other) before found after at e adds h = found_more squares over k other s before found after at e adds h
found_step squares over k s None before found after at e adds h =
    let P : List NearPair → Type 0 = λ l. FoundSoFar squares over (k + 1) before l in
    subst P (sym adds) (found_none squares over k before found e h)

pub found_are : (numbered : AreNumbered) (reach : ℤ) (m n : List BoxShape) (canonical : IsCanonical n) (squares : List BesideSquare)
    (over : List (Option ℕ)) (k : ℕ) (before found : List NearPair) → AreBeside reach m squares → AreLocated n (map (λ s. s.square) squares) over
    → length squares ≤ k → FoundSoFar squares over k before found → AddsBesidePairs reach m n before found
found_are numbered reach m n canonical squares over k before found are located past h p = (
  (λ i. elim ((h p).0 i) [ inl old ↦ inl old | inr q ↦ inr (besides q) ]),
  (λ c. elim c [ inl old ↦ (h p).1 (inl old) | inr q ↦ (h p).1 (inr (is_found q)) ]),
)
  where
    square_at : (i : ℕ) (s : BesideSquare) → IsAt squares i s → IsLocated n s.square.x s.square.y (get_or over i None)
    square_at i s at = located.each i s.square (map_at (λ (v : BesideSquare). v.square) squares i s at)

    besides : IsFoundBelow squares over k p → IsBesidePair reach m n p
    besides q =
        let s : BesideSquare = q.square in
        let b : IsBeside reach m s = (are s).0 (at_among squares q.number s q.at) in
        let L : Option ℕ → Type 0 = λ o. IsLocated n s.square.x s.square.y o in
        let o : IsOver n s.square.x s.square.y p.other = subst L q.other (square_at q.number s q.at) in
        let P : ℕ → Type 0 = λ i. IsAt m i b.box in
        let Q : ℤ → Type 0 = λ y. Inside o.box s.square.x y in
        record {
          one = b.box;
          other = o.box;
          first = subst P q.one b.at;
          second = o.at;
          x = s.square.x;
          column = b.column;
          inside = subst Q b.row o.inside;
        }

    told : (o : Option ℕ) (x y : ℤ) → IsLocated n x y o → IsOver n x y p.other → o ≡ Some p.other
    told (Some i) x y there here = ap Some (numbered.one n canonical i p.other x y there here)
    told None x y there here = absurd (there (numbered.covers n p.other x y here))

    is_found : IsBesidePair reach m n p → IsFoundBelow squares over k p
    is_found q =
        let s : BesideSquare = beside p.one q.x q.one.y1 in
        let b : IsBeside reach m s = record { box = q.one; at = q.first; row = refl; column = q.column } in
        let there = among_at squares s ((are s).1 b) in
        let w : there.number < length squares = there.at.within in
        record {
          number = there.number;
          below = omega arith;
          square = s;
          at = there.at;
          one = refl;
          other = told (get_or over there.number None) q.x q.one.y1 (square_at there.number s there.at)
              (record { box = q.other; at = q.second; inside = q.inside });
        }

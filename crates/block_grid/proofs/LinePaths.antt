-- A line that never returns to itself comes to each place but its ends by one side and leaves it by another.
use Rattle.std.proofs.Common.{◌≡◌, ◌≢◌, ℕ, ◌+◌, ◌-◌, ◌<◌, ◌≤◌, ◌⊎◌, inl, inr, Bool, true, false, IsTrue, nat_lt, nat_eq, ◌&&◌, List, [], ◌∷◌, refl, sym, ◌∙◌, arith, rules}
use Rattle.std.proofs.lemmas.Bool.Decides.{nat_tests}
use Rattle.block_grid.specs.declared.kind.BlockKind.TheVariants.{Empty, Horizontal, Vertical}
use Rattle.block_grid.specs.Lines.{BlockPlace, row_of, col_of, norths, wests, is_straight, IsOnStretch}
use Rattle.block_grid.specs.Sheets.{Sheet, block_at}
use Rattle.block_grid.specs.Laying.{IsOnLine, NeverReturns, IsFreeBetween, IsFreeLine}
use Rattle.block_grid.proofs.Stretches.{north_by, west_by, sides_by, IsAt, StretchFacts, stretch_facts}

abbrev pub sides_along : BlockPlace → List BlockPlace → ℕ → ℕ → ℕ
sides_along p rest r c = norths p rest r c + norths p rest (r + 1) c + wests p rest r c + wests p rest r (c + 1)

abbrev pub last_of : BlockPlace → List BlockPlace → BlockPlace
last_of p [] = p
last_of p (q ∷ rest) = last_of q rest

pub last_on : (p : BlockPlace) (rest : List BlockPlace) → IsOnLine p rest (row_of (last_of p rest)) (col_of (last_of p rest))
last_on p [] = (refl, refl)
last_on p (q ∷ rest) = inr (last_on q rest)

straight_first : (a b : Bool) → IsTrue (a && b) → a ≡ true
straight_first true b h = refl
straight_first false b h = absurd (search rules)

straight_rest : (a b : Bool) → IsTrue (a && b) → IsTrue b
straight_rest true b h = h
straight_rest false b h = absurd (search rules)

rest_straight : (p q : BlockPlace) (rest : List BlockPlace) → IsTrue (is_straight p (q ∷ rest)) → IsTrue (is_straight q rest)
rest_straight p q rest straight = straight_rest _ _ straight

first_stretch : (p q : BlockPlace) (rest : List BlockPlace) (r c : ℕ) → IsTrue (is_straight p (q ∷ rest)) → NeverReturns p (q ∷ rest) →
    StretchFacts p q r c
first_stretch p q rest r c straight alone = stretch_facts p q r c (straight_first _ _ straight) alone.0

-- a line that crosses a border lies on both places at it
record Crossed (p : BlockPlace) (rest : List BlockPlace) (r c : ℕ) : Type 0 where
  north : 0 < norths p rest r c → IsOnLine p rest r c × (1 ≤ r) × IsOnLine p rest (r - 1) c
  south : 0 < norths p rest (r + 1) c → IsOnLine p rest r c × IsOnLine p rest (r + 1) c
  west : 0 < wests p rest r c → IsOnLine p rest r c × (1 ≤ c) × IsOnLine p rest r (c - 1)
  east : 0 < wests p rest r (c + 1) → IsOnLine p rest r c × IsOnLine p rest r (c + 1)

either : (a b : ℕ) → 0 < a + b → (0 < a) ⊎ (0 < b)
either a b h = elim (nat_lt 0 a) as (λ x. nat_lt 0 a ≡ x → (0 < a) ⊎ (0 < b)) [
  | true ↦ λ e. inl (grind (arith, nat_tests))
  | false ↦
      λ e. let z : a ≤ 0 = grind (arith, nat_tests) in inr (omega arith)
] refl

crossed : (p : BlockPlace) (rest : List BlockPlace) (r c : ℕ) → IsTrue (is_straight p rest) → NeverReturns p rest → Crossed p rest r c
crossed p [] r c straight alone = record {
  north = λ h. absurd (omega arith);
  south = λ h. absurd (omega arith);
  west = λ h. absurd (omega arith);
  east = λ h. absurd (omega arith);
}
crossed p (q ∷ rest) r c straight alone =
    let first : StretchFacts p q r c = first_stretch p q rest r c straight alone in
    let later : Crossed q rest r c = crossed q rest r c (rest_straight p q rest straight) alone.2 in
    record {
      north = λ h. elim (either (north_by p q r c) (norths q rest r c) h) as (λ _. IsOnLine p (q ∷ rest) r c × (1 ≤ r) × IsOnLine p (q ∷ rest)
          (r - 1) c) [
            | inl x ↦ let k = first.goes_north x in (inl k.0, k.1, inl k.2)
            | inr y ↦ let k = later.north y in (inr k.0, k.1, inr k.2)
          ];
      south = λ h. elim (either (north_by p q (r + 1) c) (norths q rest (r + 1) c) h) as (λ _. IsOnLine p (q ∷ rest) r c × IsOnLine p
          (q ∷ rest) (r + 1) c) [
            | inl x ↦ let k = first.goes_south x in (inl k.0, inl k.1)
            | inr y ↦ let k = later.south y in (inr k.0, inr k.1)
          ];
      west = λ h. elim (either (west_by p q r c) (wests q rest r c) h) as (λ _. IsOnLine p (q ∷ rest) r c × (1 ≤ c) × IsOnLine p (q ∷ rest) r
          (c - 1)) [
            | inl x ↦ let k = first.goes_west x in (inl k.0, k.1, inl k.2)
            | inr y ↦ let k = later.west y in (inr k.0, k.1, inr k.2)
          ];
      east = λ h. elim (either (west_by p q r (c + 1)) (wests q rest r (c + 1)) h) as (λ _. IsOnLine p (q ∷ rest) r c × IsOnLine p
          (q ∷ rest) r (c + 1)) [
            | inl x ↦ let k = first.goes_east x in (inl k.0, inl k.1)
            | inr y ↦ let k = later.east y in (inr k.0, inr k.1)
          ];
    }

-- a line that comes to a place lies on it
comes_on : (p : BlockPlace) (rest : List BlockPlace) (r c : ℕ) → IsTrue (is_straight p rest) → NeverReturns p rest →
    0 < sides_along p rest r c → IsOnLine p rest r c
comes_on p rest r c straight alone some =
    let k : Crossed p rest r c = crossed p rest r c straight alone in
    elim (either (norths p rest r c + norths p rest (r + 1) c + wests p rest r c) (wests p rest r (c + 1)) some) as (λ _. IsOnLine p rest r c) [
      | inr e ↦ (k.east e).0
      | inl x ↦ elim (either (norths p rest r c + norths p rest (r + 1) c) (wests p rest r c) x) as (λ _. IsOnLine p rest r c) [
        | inr w ↦ (k.west w).0
        | inl y ↦ elim (either (norths p rest r c) (norths p rest (r + 1) c) y) as (λ _. IsOnLine p rest r c) [
          | inr s ↦ (k.south s).0
          | inl n ↦ (k.north n).0
        ]
      ]
    ]

stretch_on : (p q : BlockPlace) (r c : ℕ) → StretchFacts p q r c → 0 < sides_by p q r c → IsOnStretch p q r c
stretch_on p q r c k some =
    elim (either (north_by p q r c + north_by p q (r + 1) c + west_by p q r c) (west_by p q r (c + 1)) some) as (λ _. IsOnStretch p q r c) [
      | inr e ↦ (k.goes_east e).0
      | inl x ↦ elim (either (north_by p q r c + north_by p q (r + 1) c) (west_by p q r c) x) as (λ _. IsOnStretch p q r c) [
        | inr w ↦ (k.goes_west w).0
        | inl y ↦ elim (either (north_by p q r c) (north_by p q (r + 1) c) y) as (λ _. IsOnStretch p q r c) [
          | inr s ↦ (k.goes_south s).0
          | inl n ↦ (k.goes_north n).0
        ]
      ]
    ]

-- the line goes over the place, where nothing is in its way
abbrev pub GoesOver : Sheet → BlockPlace → List BlockPlace → ℕ → ℕ → Type 0
GoesOver s p rest r c =
    (block_at s r c ≡ Empty)
    ⊎ ((block_at s r c ≡ Horizontal) × (wests p rest r c + wests p rest r (c + 1) ≡ 0))
    ⊎ ((block_at s r c ≡ Vertical) × (norths p rest r c + norths p rest (r + 1) c ≡ 0))

abbrev some_end : List BlockPlace → ℕ
some_end [] = 0
some_end (q ∷ rest) = 1

pub record LineFacts (p : BlockPlace) (rest : List BlockPlace) (r c : ℕ) : Type 0 where
  pub north : norths p rest r c ≤ 1
  pub south : norths p rest (r + 1) c ≤ 1
  pub west : wests p rest r c ≤ 1
  pub east : wests p rest r (c + 1) ≤ 1
  pub first : IsAt p r c → sides_along p rest r c ≡ some_end rest
  pub last : (IsAt p r c → ⊥) → IsAt (last_of p rest) r c → sides_along p rest r c ≡ 1
  pub inner : (IsAt p r c → ⊥) → (IsAt (last_of p rest) r c → ⊥) → 0 < sides_along p rest r c → sides_along p rest r c ≡ 2
  pub over : (s : Sheet) → IsFreeLine s p rest → (IsAt p r c → ⊥) → (IsAt (last_of p rest) r c → ⊥) → 0 < sides_along p rest r c →
      GoesOver s p rest r c

pub at_or_not : (p : BlockPlace) (r c : ℕ) → IsAt p r c ⊎ (IsAt p r c → ⊥)
at_or_not p r c =
    elim (nat_eq r (row_of p)) as (λ x. nat_eq r (row_of p) ≡ x → IsAt p r c ⊎ (IsAt p r c → ⊥)) [
      | true ↦ λ e. elim (nat_eq c (col_of p)) as (λ y. nat_eq c (col_of p) ≡ y → IsAt p r c ⊎ (IsAt p r c → ⊥)) [
        | true ↦ λ f. inl (grind (arith, nat_tests), grind (arith, nat_tests))
        | false ↦ λ f. let ne : c ≢ col_of p = grind (arith, nat_tests) in inr (λ h. ne h.1)
      ] refl
      | false ↦ λ e. let ne : r ≢ row_of p = grind (arith, nat_tests) in inr (λ h. ne h.0)
    ] refl

free_rest : (s : Sheet) (p q : BlockPlace) (rest : List BlockPlace) → IsFreeLine s p (q ∷ rest) → IsFreeLine s q rest
free_rest s p q [] free = tt
free_rest s p q (t ∷ rest) free = free.2

free_first : (s : Sheet) (p q : BlockPlace) (rest : List BlockPlace) → IsFreeLine s p (q ∷ rest) → IsFreeBetween s p q
free_first s p q [] free = free
free_first s p q (t ∷ rest) free = free.0

pub none_at : (n : ℕ) → (0 < n → ⊥) → n ≡ 0
none_at n h = elim (nat_lt 0 n) as (λ x. nat_lt 0 n ≡ x → n ≡ 0) [
  | true ↦ λ e. absurd (h (grind (arith, nat_tests)))
  | false ↦
      λ e. grind (arith, nat_tests)
] refl

pub is_on_stretch_start : (p q : BlockPlace) → IsOnStretch p q (row_of p) (col_of p)
is_on_stretch_start p q = (omega arith, omega arith, omega arith, omega arith)

is_on_stretch_end : (p q : BlockPlace) → IsOnStretch p q (row_of q) (col_of q)
is_on_stretch_end p q = (omega arith, omega arith, omega arith, omega arith)

bound : (a b : ℕ) → a ≤ 1 → b ≤ 1 → (0 < a → 0 < b → ⊥) → a + b ≤ 1
bound a b ha hb never = elim (nat_lt 0 a) as (λ x. nat_lt 0 a ≡ x → a + b ≤ 1) [
  | true ↦ λ e. elim (nat_lt 0 b) as (λ y. nat_lt 0 b ≡ y → a + b ≤ 1) [
    | true ↦ λ f. absurd (never (grind (arith, nat_tests)) (grind (arith, nat_tests)))
    | false ↦ λ f. let z : b ≤ 0 = grind (arith, nat_tests) in omega arith
  ] refl
  | false ↦ λ e. let z : a ≤ 0 = grind (arith, nat_tests) in omega arith
] refl

module _ (p q : BlockPlace) (rest : List BlockPlace) (r c : ℕ) (straight : IsTrue (is_straight p (q ∷ rest))) (alone : NeverReturns p
    (q ∷ rest)) (k : StretchFacts p q r c) (m : LineFacts q rest r c) where
  -- the stretch keeps away from the place
  facts_away : sides_by p q r c ≡ 0 → LineFacts p (q ∷ rest) r c
  facts_away none =
      let not_first : IsAt p r c → ⊥ = λ h. let one : sides_by p q r c ≡ 1 = k.first h in omega arith in
      let not_turn : IsAt q r c → ⊥ = λ h. let one : sides_by p q r c ≡ 1 = k.last h in omega arith in
      let n2 : norths q rest r c ≤ 1 = m.north in
      let s2 : norths q rest (r + 1) c ≤ 1 = m.south in
      let w2 : wests q rest r c ≤ 1 = m.west in
      let e2 : wests q rest r (c + 1) ≤ 1 = m.east in
      record {
        north = omega arith;
        south = omega arith;
        west = omega arith;
        east = omega arith;
        first = λ h. absurd (not_first h);
        last = λ h at. let one : sides_along q rest r c ≡ 1 = m.last not_turn at in omega arith;
        inner = λ h other some. let two : sides_along q rest r c ≡ 2 = m.inner not_turn other (omega arith) in omega arith;
        over = λ s free h other some.
            let n1 : north_by p q r c ≡ 0 = omega arith in
            let s1 : north_by p q (r + 1) c ≡ 0 = omega arith in
            let w1 : west_by p q r c ≡ 0 = omega arith in
            let e1 : west_by p q r (c + 1) ≡ 0 = omega arith in
            elim (m.over s (free_rest s p q rest free) not_turn other (omega arith)) as (λ _. GoesOver s p (q ∷ rest) r c) [
              | inl x ↦ inl x
              | inr y ↦ elim y as (λ _. GoesOver s p (q ∷ rest) r c) [
                | inl u ↦ let z : wests q rest r c + wests q rest r (c + 1) ≡ 0 = u.1 in inr (inl (u.0, omega arith))
                | inr v ↦ let z : norths q rest r c + norths q rest (r + 1) c ≡ 0 = v.1 in inr (inr (v.0, omega arith))
              ]
            ];
      }

  -- the place is on the stretch before its end
  facts_on : 0 < sides_by p q r c → (IsAt q r c → ⊥) → LineFacts p (q ∷ rest) r c
  facts_on some not_turn =
      let on : IsOnStretch p q r c = stretch_on p q r c k some in
      let later : sides_along q rest r c ≡ 0 = none_at (sides_along q rest r c) (λ more. not_turn (alone.1 r c on (comes_on q rest r c
      (rest_straight p q rest straight) alone.2 more))) in
      let n1 : north_by p q r c ≤ 1 = k.north in
      let s1 : north_by p q (r + 1) c ≤ 1 = k.south in
      let w1 : west_by p q r c ≤ 1 = k.west in
      let e1 : west_by p q r (c + 1) ≤ 1 = k.east in
      record {
        north = omega arith;
        south = omega arith;
        west = omega arith;
        east = omega arith;
        first = λ h. let one : sides_by p q r c ≡ 1 = k.first h in omega arith;
        last = λ h at. absurd (not_turn (alone.1 r c on (moved_on at (last_on q rest))));
        inner = λ h other more. let two : sides_by p q r c ≡ 2 = k.inner h not_turn some in omega arith;
        over = λ s free h other more.
            elim (free_first s p q rest free r c on (λ x y. h (x, y)) (λ x y. not_turn (x, y))) as (λ _. GoesOver s p (q ∷ rest) r c) [
              | inl x ↦ inl x
              | inr y ↦ elim y as (λ _. GoesOver s p (q ∷ rest) r c) [
                | inl u ↦ let z : west_by p q r c + west_by p q r (c + 1) ≡ 0 = k.upright u.1 in inr (inl (u.0, omega arith))
                | inr v ↦ let z : north_by p q r c + north_by p q (r + 1) c ≡ 0 = k.level v.1 in inr (inr (v.0, omega arith))
              ]
            ];
      }
    where
      moved_on : IsAt (last_of q rest) r c → IsOnLine q rest (row_of (last_of q rest)) (col_of (last_of q rest)) → IsOnLine q rest r c
      moved_on at h = rw (at.0, at.1) h

  -- no border is crossed by the stretch and by what follows, at the end of the stretch
  facts_bounds : IsAt q r c →
      (north_by p q r c + norths q rest r c ≤ 1) × (north_by p q (r + 1) c + norths q rest (r + 1) c ≤ 1) ×
      (west_by p q r c + wests q rest r c ≤ 1) × (west_by p q r (c + 1) + wests q rest r (c + 1) ≤ 1)
  facts_bounds at =
      let after : Crossed q rest r c = crossed q rest r c (rest_straight p q rest straight) alone.2 in (
        bound _ _ k.north m.north (λ x y. let u = k.goes_north x in let v = after.north y in let same = alone.1 (r - 1) c u.2 v.2 in omega arith),
        bound _ _ k.south m.south (λ x y. let u = k.goes_south x in let v = after.south y in let same = alone.1 (r + 1) c u.1 v.1 in omega arith),
        bound _ _ k.west m.west (λ x y. let u = k.goes_west x in let v = after.west y in let same = alone.1 r (c - 1) u.2 v.2 in omega arith),
        bound _ _ k.east m.east (λ x y. let u = k.goes_east x in let v = after.east y in let same = alone.1 r (c + 1) u.1 v.1 in omega arith),
      )

-- the place is the end of the first stretch
facts_turn : (p q : BlockPlace) (rest : List BlockPlace) (r c : ℕ) → IsTrue (is_straight p (q ∷ rest)) → NeverReturns p (q ∷ rest) →
    StretchFacts p q r c → LineFacts q rest r c → IsAt q r c → LineFacts p (q ∷ rest) r c
facts_turn p q [] r c straight alone k m at =
    let bounds = facts_bounds p q [] r c straight alone k m at in
    let one : sides_by p q r c ≡ 1 = k.last at in
    record {
      north = bounds.0;
      south = bounds.1;
      west = bounds.2;
      east = bounds.3;
      first = λ h. omega arith;
      last = λ h other. omega arith;
      inner = λ h other some. absurd (other at);
      over = λ s free h other some. absurd (other at);
    }
facts_turn p q (t ∷ rest) r c straight alone k m at =
    let bounds = facts_bounds p q (t ∷ rest) r c straight alone k m at in
    let one : sides_by p q r c ≡ 1 = k.last at in
    let more : sides_along q (t ∷ rest) r c ≡ 1 = m.first at in
    let second : StretchFacts q t r c = first_stretch q t rest r c (rest_straight p q (t ∷ rest) straight) alone.2 in
    let never : IsOnLine t rest r c → ⊥ = λ on. never_back (alone.2.1 r c (rw (at.0, at.1) (is_on_stretch_start q t)) on) in
    record {
      north = bounds.0;
      south = bounds.1;
      west = bounds.2;
      east = bounds.3;
      first = λ h. absurd (alone.0 (sym h.0 ∙ at.0) (sym h.1 ∙ at.1));
      last = λ h other. absurd (never (moved_on other (last_on t rest)));
      inner = λ h other some. omega arith;
      over = λ s free h other some.
          let gone : sides_along t rest r c ≡ 0 = none_at (sides_along t rest r c) (λ x. never (comes_on t rest r c (rest_straight q t rest
          (rest_straight p q (t ∷ rest) straight)) alone.2.2 x)) in
          let here : block_at s r c ≡ block_at s (row_of q) (col_of q) = rw (at.0, at.1) refl in
          elim free.1 as (λ _. GoesOver s p (q ∷ (t ∷ rest)) r c) [
            | inl x ↦ inl (here ∙ x)
            | inr y ↦ elim y as (λ _. GoesOver s p (q ∷ (t ∷ rest)) r c) [
              | inl u ↦ let z : west_by p q r c + west_by p q r (c + 1) ≡ 0 = k.upright u.1 in
                  let z' : west_by q t r c + west_by q t r (c + 1) ≡ 0 = second.upright u.2 in inr (inl (here ∙ u.0, omega arith))
              | inr v ↦ let z : north_by p q r c + north_by p q (r + 1) c ≡ 0 = k.level v.1 in
                  let z' : north_by q t r c + north_by q t (r + 1) c ≡ 0 = second.level v.2 in inr (inr (here ∙ v.0, omega arith))
            ]
          ];
    }
  where
    never_back : IsAt t r c → ⊥
    never_back h = alone.2.0 (sym at.0 ∙ h.0) (sym at.1 ∙ h.1)

    moved_on : IsAt (last_of t rest) r c → IsOnLine t rest (row_of (last_of t rest)) (col_of (last_of t rest)) → IsOnLine t rest r c
    moved_on other h = rw (other.0, other.1) h

pub line_facts : (p : BlockPlace) (rest : List BlockPlace) (r c : ℕ) → IsTrue (is_straight p rest) → NeverReturns p rest → LineFacts p rest r c
line_facts p [] r c straight alone = record {
  north = omega arith;
  south = omega arith;
  west = omega arith;
  east = omega arith;
  first = λ h. refl;
  last = λ h at. absurd (h at);
  inner = λ h other some. absurd (omega arith);
  over = λ s free h other some. absurd (omega arith);
}
line_facts p (q ∷ rest) r c straight alone =
    let k : StretchFacts p q r c = first_stretch p q rest r c straight alone in
    let m : LineFacts q rest r c = line_facts q rest r c (rest_straight p q rest straight) alone.2 in
    elim (at_or_not q r c) as (λ _. LineFacts p (q ∷ rest) r c) [
      | inl at ↦ facts_turn p q rest r c straight alone k m at
      | inr off ↦ elim (nat_lt 0 (sides_by p q r c)) as (λ x. nat_lt 0 (sides_by p q r c) ≡ x → LineFacts p (q ∷ rest) r c) [
        | true ↦ λ e. facts_on p q rest r c straight alone k m (grind (arith, nat_tests)) off
        | false ↦ λ e. facts_away p q rest r c straight alone k m (grind (arith, nat_tests))
      ] refl
    ]

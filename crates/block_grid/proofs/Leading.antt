-- An edge leads along its line, from each place that it comes to, to its child.
use Rattle.std.proofs.Common.{◌≡◌, ℕ, zero, suc, ◌+◌, ◌-◌, ◌<◌, ◌≤◌, ◌⊎◌, inl, inr, Bool, true, false, IsTrue, nat_lt, nat_eq, ◌==◌, cond, ◌&&◌, ◌||◌, min, max, Some, List, [], ◌∷◌, ◌++◌, length, get_or, All, refl, sym, ap, subst, ◌∙◌, arith, rules}
use Rattle.std.proofs.lemmas.Bool.{eqb-true}
use Rattle.std.proofs.lemmas.Bool.Decides.{nat_tests}
use Rattle.std.proofs.lemmas.List.Elements.{All-head, All-tail, All-push}
use Rattle.block_grid.specs.Lines.{BlockPlace, row_of, col_of, separates, stretch_crossings, norths, wests, is_straight, IsOnStretch}
use Rattle.block_grid.specs.Sheets.{DrawnEdge, Sheet, line_of, north_of, west_of, IsOnSheet, IsDrawn, IsSheet}
use Rattle.block_grid.specs.Laying.{IsOnLine}
use Rattle.block_grid.specs.Bundles.{CrossesSouth, CrossesEast, Leads, ComesTo, EdgesLead}
use Rattle.block_grid.specs.Bundles.Leads.{there, south, north, east, west}
use Rattle.block_grid.proofs.Bits.{bit, bit_cases, along_on}
use Rattle.block_grid.proofs.Inside.{starts_inside, finishes_inside}
use Rattle.block_grid.proofs.LinePaths.{last_of}
use Rattle.block_grid.proofs.BundleEdges.{IsOne, found_north, found_west, crosses_north, crosses_west}

-- ---- along a stretch

-- what passes on at each border between two numbers, both ways, passes from one of them to all between
along_stretch : (R : ℕ → Type 0) (p q : ℕ) → ((a : ℕ) → min p q ≤ a → a + 1 ≤ max p q → R (a + 1) → R a)
    → ((a : ℕ) → min p q ≤ a → a + 1 ≤ max p q → R a → R (a + 1)) → R q → (a : ℕ) → min p q ≤ a → a ≤ max p q → R a
along_stretch R p q back on start a low high = by (nat_lt a q) refl
  where
    down : (n a : ℕ) → a + n ≡ q → min p q ≤ a → R a
    down zero a e low = subst R (let same : q ≡ a = omega arith in same) start
    down (suc n) a e low = back a low (omega arith) (down n (a + 1) (omega arith) (omega arith))

    up : (n a : ℕ) → q + n ≡ a → a ≤ max p q → R a
    up zero a e high = subst R (let same : q ≡ a = omega arith in same) start
    up (suc n) a e high =
        let same : q + n + 1 ≡ a = omega arith in
        subst R same (on (q + n) (omega arith) (omega arith) (up n (q + n) refl (omega arith)))

    by : (b : Bool) → nat_lt a q ≡ b → R a
    by true e = let less : a < q = grind (arith, nat_tests) in down (q - a) a (omega arith) low
    by false e = let more : q ≤ a = grind (arith, nat_tests) in up (a - q) a (omega arith) high

-- ---- which places are on a line

either : (a b : ℕ) → 0 < a + b → (0 < a) ⊎ (0 < b)
either zero b h = inr (omega arith)
either (suc a) b h = inl (omega arith)

record Separated (f g : BlockPlace → ℕ) (p q : BlockPlace) (a x : ℕ) : Type 0 where
  first : g p ≡ x
  second : g q ≡ x
  low : min (f p) (f q) < a
  high : a ≤ max (f p) (f q)

crossing_on : (f g : BlockPlace → ℕ) (p q : BlockPlace) (a x : ℕ) → 0 < stretch_crossings f g p q a x → Separated f g p q a x
crossing_on f g p q a x h = by (nat_eq (g p) x) refl (nat_eq (g q) x) refl
  where
    none : 0 < 0 → Separated f g p q a x
    none z = absurd (omega arith)

    both : g p ≡ x → g q ≡ x → Separated f g p q a x
    both e k =
        let some : 0 < bit (f p) (f q) a = subst (λ n. 0 < n) (along_on f g p q a x e k) h in
        elim (bit_cases (f p) (f q) a) as (λ _. Separated f g p q a x) [
          | inl is ↦ record { first = e; second = k; low = is.1; high = is.2 }
          | inr is ↦ let off : bit (f p) (f q) a ≡ 0 = is.0 in absurd (omega arith)
        ]

    by : (b : Bool) → nat_eq (g p) x ≡ b → (d : Bool) → nat_eq (g q) x ≡ d → Separated f g p q a x
    by true e true k = both (eqb-true (g p) x e) (eqb-true (g q) x k)
    by true e false k = none (subst (λ n. 0 < n) (off e k) h)
      where
        off : nat_eq (g p) x ≡ true → nat_eq (g q) x ≡ false → stretch_crossings f g p q a x ≡ 0
        off e k = rw (e, k) refl
    by false e d k = none (subst (λ n. 0 < n) (off e) h)
      where
        off : nat_eq (g p) x ≡ false → stretch_crossings f g p q a x ≡ 0
        off e = rw e refl

on_north : (p : BlockPlace) (rest : List BlockPlace) (r c : ℕ) → 0 < norths p rest r c → IsOnLine p rest r c
on_north p [] r c h = absurd (omega arith)
on_north p (q ∷ rest) r c h = elim (either (stretch_crossings row_of col_of p q r c) (norths q rest r c) h) as (λ _. IsOnLine p (q ∷ rest) r c) [
  | inl x ↦ let k = crossing_on row_of col_of p q r c x in let e = k.first in let f = k.second in let low = k.low in let high = k.high in
      inl (omega arith, omega arith, omega arith, omega arith)
  | inr y ↦ inr (on_north q rest r c y)
]

on_south : (p : BlockPlace) (rest : List BlockPlace) (r c : ℕ) → 0 < norths p rest (r + 1) c → IsOnLine p rest r c
on_south p [] r c h = absurd (omega arith)
on_south p (q ∷ rest) r c h =
    elim (either (stretch_crossings row_of col_of p q (r + 1) c) (norths q rest (r + 1) c) h) as (λ _. IsOnLine p (q ∷ rest) r c) [
      | inl x ↦ let k = crossing_on row_of col_of p q (r + 1) c x in let e = k.first in let f = k.second in let low = k.low in let high = k.high in
          inl (omega arith, omega arith, omega arith, omega arith)
      | inr y ↦ inr (on_south q rest r c y)
    ]

on_west : (p : BlockPlace) (rest : List BlockPlace) (r c : ℕ) → 0 < wests p rest r c → IsOnLine p rest r c
on_west p [] r c h = absurd (omega arith)
on_west p (q ∷ rest) r c h = elim (either (stretch_crossings col_of row_of p q c r) (wests q rest r c) h) as (λ _. IsOnLine p (q ∷ rest) r c) [
  | inl x ↦ let k = crossing_on col_of row_of p q c r x in let e = k.first in let f = k.second in let low = k.low in let high = k.high in
      inl (omega arith, omega arith, omega arith, omega arith)
  | inr y ↦ inr (on_west q rest r c y)
]

on_east : (p : BlockPlace) (rest : List BlockPlace) (r c : ℕ) → 0 < wests p rest r (c + 1) → IsOnLine p rest r c
on_east p [] r c h = absurd (omega arith)
on_east p (q ∷ rest) r c h =
    elim (either (stretch_crossings col_of row_of p q (c + 1) r) (wests q rest r (c + 1)) h) as (λ _. IsOnLine p (q ∷ rest) r c) [
      | inl x ↦ let k = crossing_on col_of row_of p q (c + 1) r x in let e = k.first in let f = k.second in let low = k.low in let high = k.high in
          inl (omega arith, omega arith, omega arith, omega arith)
      | inr y ↦ inr (on_east q rest r c y)
    ]

-- ---- along a line

bit_between : (a b r : ℕ) → min a b < r → r ≤ max a b → bit a b r ≡ 1
bit_between a b r low high = elim (bit_cases a b r) as (λ _. bit a b r ≡ 1) [
  | inl is ↦ is.0
  | inr is ↦ elim is.1 as (λ _. bit a b r ≡ 1) [ inl x ↦ absurd (omega arith) | inr y ↦ absurd (omega arith) ]
]

straight_rest : (a b : Bool) → IsTrue (a && b) → IsTrue b
straight_rest true b h = h
straight_rest false b h = absurd (search rules)

straight_first : (a b : Bool) → IsTrue (a && b) → a ≡ true
straight_first true b h = refl
straight_first false b h = absurd (search rules)

one_same : (a b : Bool) → (a || b) ≡ true → (a ≡ true) ⊎ (b ≡ true)
one_same true b e = inl refl
one_same false b e = inr e

pub last_push : (p : BlockPlace) (turns : List BlockPlace) (q : BlockPlace) → last_of p (turns ++ q ∷ []) ≡ q
last_push p [] q = refl
last_push p (t ∷ turns) q = last_push t turns q

module _ (s : Sheet) (sheet : IsSheet s) (e : DrawnEdge) (one : IsOne s e) (t d : ℕ) where
  abbrev To : ℕ → ℕ → Type 0
  To r c = Leads s e t d r c

  -- the borders that a line crosses are crossed by the edge
  record IsPartOf (p : BlockPlace) (rest : List BlockPlace) : Type 0 where
    north : (r c : ℕ) → norths p rest r c ≤ north_of e r c
    west : (r c : ℕ) → wests p rest r c ≤ west_of e r c

  later_part : (p q : BlockPlace) (rest : List BlockPlace) → IsPartOf p (q ∷ rest) → IsPartOf q rest
  later_part p q rest part = record {
    north = λ r c. let h = part.north r c in omega arith;
    west = λ r c. let h = part.west r c in omega arith;
  }

  module _ (p q : BlockPlace) (rest : List BlockPlace) (part : IsPartOf p (q ∷ rest)) (first : IsOnSheet s p) (second : IsOnSheet s q) where
    upright : col_of p ≡ col_of q → To (row_of q) (col_of q) → (r c : ℕ) → IsOnStretch p q r c → To r c
    upright same reached r c on =
        let x = col_of q in
        let o0 = on.0 in
        let o1 = on.1 in
        let o2 = on.2 in
        let o3 = on.3 in
        let here : x ≡ c = omega arith in
        let r1 = first.0 in
        let r2 = second.0 in
        let step : (a : ℕ) → min (row_of p) (row_of q) ≤ a → a + 1 ≤ max (row_of p) (row_of q) → CrossesSouth s e a x =
        λ a low high.
        let crossed : stretch_crossings row_of col_of p q (a + 1) x ≡ 1 =
        along_on row_of col_of p q (a + 1) x same refl ∙ bit_between (row_of p) (row_of q) (a + 1) (omega arith) high in
        let more = part.north (a + 1) x in
        record { row = omega arith; col = second.1; crosses = found_north s sheet e one (a + 1) x (omega arith) } in
        subst (To r) here
        (along_stretch (λ a. To a x) (row_of p) (row_of q) (λ a low high h. south a x (step a low high) h)
        (λ a low high h. north a x (step a low high) h) reached r o0 o1)

    level : row_of p ≡ row_of q → To (row_of q) (col_of q) → (r c : ℕ) → IsOnStretch p q r c → To r c
    level same reached r c on =
        let y = row_of q in
        let o0 = on.0 in
        let o1 = on.1 in
        let o2 = on.2 in
        let o3 = on.3 in
        let here : y ≡ r = omega arith in
        let c1 = first.1 in
        let c2 = second.1 in
        let step : (a : ℕ) → min (col_of p) (col_of q) ≤ a → a + 1 ≤ max (col_of p) (col_of q) → CrossesEast s e y a =
        λ a low high.
        let crossed : stretch_crossings col_of row_of p q (a + 1) y ≡ 1 =
        along_on col_of row_of p q (a + 1) y same refl ∙ bit_between (col_of p) (col_of q) (a + 1) (omega arith) high in
        let more = part.west y (a + 1) in
        record { row = second.0; col = omega arith; crosses = found_west s sheet e one y (a + 1) (omega arith) } in
        subst (λ z. To z c) here
        (along_stretch (λ a. To y a) (col_of p) (col_of q) (λ a low high h. east y a (step a low high) h)
        (λ a low high h. west y a (step a low high) h) reached c o2 o3)

  along_line : (p : BlockPlace) (rest : List BlockPlace) → IsOnSheet s p → All (IsOnSheet s) rest → IsTrue (is_straight p rest) → IsPartOf p rest
      → To (row_of (last_of p rest)) (col_of (last_of p rest)) → (r c : ℕ) → IsOnLine p rest r c → To r c
  along_line p [] inside all straight part reached r c on = subst (λ x. To x c) (sym on.0) (subst (λ y. To (row_of p) y) (sym on.1) reached)
  along_line p (q ∷ rest) inside all straight part reached r c on =
      let head = All-head (IsOnSheet s) q rest all in
      let tail = All-tail (IsOnSheet s) q rest all in
      let later = along_line q rest head tail (straight_rest _ _ straight) (later_part p q rest part) reached in
      elim on as (λ _. To r c) [
        | inr h ↦ later r c h
        | inl h ↦ elim (one_same (row_of p == row_of q) (col_of p == col_of q) (straight_first _ _ straight)) as (λ _. To r c) [
          | inl same ↦ level p q rest part inside head (eqb-true _ _ same) (later (row_of q) (col_of q) (start q rest)) r c h
          | inr same ↦ upright p q rest part inside head (eqb-true _ _ same) (later (row_of q) (col_of q) (start q rest)) r c h
        ]
      ]
    where
      start : (q : BlockPlace) (rest : List BlockPlace) → IsOnLine q rest (row_of q) (col_of q)
      start q [] = (refl, refl)
      start q (u ∷ rest) = inl (omega arith, omega arith, omega arith, omega arith)

pub edges_lead : EdgesLead
edges_lead s e r c sheet comes = elim comes as (λ _. Leads s e (row_of e.finish) (col_of e.finish) r c) [
  | inl n ↦ let k = crosses_north s r c e n in led k.0 (on_north e.start (line_of e) r c k.1)
  | inr rest ↦ elim rest as (λ _. Leads s e (row_of e.finish) (col_of e.finish) r c) [
    | inl t ↦ let k = crosses_north s (r + 1) c e t in led k.0 (on_south e.start (line_of e) r c k.1)
    | inr sides ↦ elim sides as (λ _. Leads s e (row_of e.finish) (col_of e.finish) r c) [
      | inl w ↦ let k = crosses_west s r c e w in led k.0 (on_west e.start (line_of e) r c k.1)
      | inr x ↦ let k = crosses_west s r (c + 1) e x in led k.0 (on_east e.start (line_of e) r c k.1)
    ]
  ]
]
  where
    drawn_of : IsOne s e → IsDrawn s e
    drawn_of one = subst (IsDrawn s) (one.at e) (sheet.drawn one.k e one.lt)

    led : IsOne s e → IsOnLine e.start (line_of e) r c → Leads s e (row_of e.finish) (col_of e.finish) r c
    led one on =
        let drawn = drawn_of one in
        let finish = finishes_inside s e sheet drawn in
        let last = last_push e.start e.turns e.finish in
        along_line s sheet e one (row_of e.finish) (col_of e.finish) e.start (line_of e) (starts_inside s e sheet drawn)
        (All-push (IsOnSheet s) e.turns e.finish drawn.inside finish) drawn.straight
        (record { north = λ r c. omega arith; west = λ r c. omega arith })
        (subst (λ p. Leads s e (row_of e.finish) (col_of e.finish) (row_of p) (col_of p)) (sym last) there) r c on

-- How many sides a ray meets, told by corners, whether it is odd.
use Rattle.std.proofs.Common.{◌≡◌, inl, inr, ℕ, ◌+◌, ◌%◌, Bool, true, false, not, cond, ◌&&◌, ℤ, ◌-ℤ◌, ◌≤ℤ◌, ◌<ℤ◌, int_lt, int_le, List, [], ◌∷◌, ◌++◌, length, take, drop, nat_le, refl, sym, ◌∙◌, ap, subst, arith}
use Rattle.std.specs.List.{count_by, flat_map, list_all}
use Rattle.std.specs.Int.{int_min, int_max}
use Rattle.std.proofs.lemmas.Int.{by_lt_z}
use Rattle.std.proofs.lemmas.List.{take-append-drop}
use Rattle.std.proofs.lemmas.List.Sums.{sum_by-cons, sum_by-append}
use Rattle.std.proofs.lemmas.List.Sorted.{sum_by-IsPermutation}
use Rattle.geom.specs.declared.point.Point.{Point}
use Rattle.geom.specs.Rows.{Among}
use Rattle.geom.specs.CifShapes.{Segment, segments_from, polygon_sides, is_zero, is_axis_side, is_rectilinear, meets_ray}
use Rattle.cif_shapes.specs.Changes.{ends_of, side_ends, AreCorners, is_right, HaveChanges, ReachRow}
use Rattle.cif_shapes.proofs.Integers.{le_true, le_false, lt_true, lt_false, crossing, zero_same}

-- one of the test's numbers, or none
abbrev pub one_if : Bool → ℕ
one_if b = cond b 1 0

pub count_cons : {X : Type 0} (p : X → Bool) (x : X) (xs : List X) → count_by p (x ∷ xs) ≡ one_if (p x) + count_by p xs
count_cons {X} p x xs = sum_by-cons (λ (y : X). cond (p y) 1 0) x xs

pub count_append : {X : Type 0} (p : X → Bool) (xs ys : List X) → count_by p (xs ++ ys) ≡ count_by p xs + count_by p ys
count_append {X} p xs ys = sum_by-append (λ (y : X). cond (p y) 1 0) xs ys

-- the corner stands to the right of the column, in the row or below it
abbrev pub is_past : ℤ → ℤ → Point → Bool
is_past x y p = int_lt x p.x && int_le p.y y

lt_not : (y b : ℤ) → int_lt y b ≡ not (int_le b y)
lt_not y b = by_lt_z y b (λ h. rw (lt_true y b h, le_false b y h) refl) (λ h. rw (lt_false y b h, le_true b y h) refl)

crosses_not : (a b y : ℤ) → (int_le (int_min a b) y && int_lt y (int_max a b)) ≡ cond (int_le a y) (not (int_le b y)) (int_le b y)
crosses_not a b y = crossing a b y ∙ ap (λ (v : Bool). cond (int_le a y) v (int_le b y)) (lt_not y b)

-- ---- one side

ends_parity : (l u v le lt : Bool) → (le && lt) ≡ cond u (not v) v → (one_if (l && u) + one_if (l && v)) % 2 ≡ one_if (((true && l) && le) && lt) % 2
ends_parity true u v le lt e = parity u v (le && lt) e
  where
    parity : (u v w : Bool) → w ≡ cond u (not v) v → (one_if u + one_if v) % 2 ≡ one_if w % 2
    parity true true w e = ap (λ (b : Bool). one_if b % 2) (sym e)
    parity true false w e = ap (λ (b : Bool). one_if b % 2) (sym e)
    parity false true w e = ap (λ (b : Bool). one_if b % 2) (sym e)
    parity false false w e = ap (λ (b : Bool). one_if b % 2) (sym e)
ends_parity false u v le lt e = refl

two_counted : (p : Point → Bool) (a b : Point) → count_by p (a ∷ b ∷ []) ≡ one_if (p a) + one_if (p b)
two_counted p a b = count_cons p a (b ∷ []) ∙ ap (λ (n : ℕ). one_if (p a) + n) (count_cons p b [] ∙ omega arith)

side_parity : (x y : ℤ) (s : Segment) → count_by (is_past x y) (ends_of s) % 2 ≡ one_if (meets_ray x y s) % 2
side_parity x y s = at (is_zero (s.stop.x -ℤ s.start.x)) refl
  where
    at : (z : Bool) → is_zero (s.stop.x -ℤ s.start.x) ≡ z → count_by (is_past x y) (ends_of s) % 2 ≡ one_if (meets_ray x y s) % 2
    at true e =
        let same : s.start.x ≡ s.stop.x = zero_same s.start.x s.stop.x e in
        let P : ℤ → Type 0 =
        λ v. (one_if (int_lt x s.start.x && int_le s.start.y y) + one_if (int_lt x v && int_le s.stop.y y)) % 2
        ≡ one_if (((true && int_lt x s.start.x) && int_le (int_min s.start.y s.stop.y) y) && int_lt y (int_max s.start.y s.stop.y)) % 2 in
        let q = subst P same (ends_parity (int_lt x s.start.x) (int_le s.start.y y) (int_le s.stop.y y) (int_le (int_min s.start.y s.stop.y) y)
        (int_lt y (int_max s.start.y s.stop.y)) (crosses_not s.start.y s.stop.y y)) in
        rw e (ap (λ (n : ℕ). n % 2) (two_counted (is_past x y) s.start s.stop) ∙ q)
    at false e = rw e refl

both_parities : (a b m n : ℕ) → a % 2 ≡ m % 2 → b % 2 ≡ n % 2 → (a + b) % 2 ≡ (m + n) % 2
both_parities a b m n e f = omega arith

sides_parity : (x y : ℤ) (ss : List Segment) → count_by (is_past x y) (flat_map ends_of ss) % 2 ≡ count_by (meets_ray x y) ss % 2
sides_parity x y [] = refl
sides_parity x y (s ∷ ss) =
    ap (λ (n : ℕ). n % 2) (count_append (is_past x y) (ends_of s) (flat_map ends_of ss))
    ∙ (both_parities (count_by (is_past x y) (ends_of s)) (count_by (is_past x y) (flat_map ends_of ss)) (one_if (meets_ray x y s)) (count_by (meets_ray x y) ss)
    (side_parity x y s) (sides_parity x y ss) ∙ ap (λ (n : ℕ). n % 2) (sym (count_cons (meets_ray x y) s ss)))

-- ---- corners up to a row

and_true : (b c : Bool) → c ≡ true → (b && c) ≡ b
and_true true c e = e
and_true false c e = refl

and_false : (b c : Bool) → c ≡ false → (b && c) ≡ false
and_false true c e = e
and_false false c e = refl

past_all : (x y : ℤ) (ps : List Point) → ((p : Point) → Among ps p → p.y ≤ℤ y) → count_by (is_past x y) ps ≡ count_by (is_right x) ps
past_all x y [] h = refl
past_all x y (p ∷ ps) h =
    let e : is_past x y p ≡ is_right x p = and_true (int_lt x p.x) (int_le p.y y) (le_true p.y y (h p (inl refl))) in
    let r : count_by (is_past x y) ps ≡ count_by (is_right x) ps = past_all x y ps (λ q i. h q (inr i)) in
    count_cons (is_past x y) p ps ∙ (ap (λ (b : Bool). one_if b + count_by (is_past x y) ps) e
    ∙ (ap (λ (n : ℕ). one_if (is_right x p) + n) r ∙ sym (count_cons (is_right x) p ps)))

past_none : (x y : ℤ) (ps : List Point) → ((p : Point) → Among ps p → y <ℤ p.y) → count_by (is_past x y) ps ≡ 0
past_none x y [] h = refl
past_none x y (p ∷ ps) h =
    let e : is_past x y p ≡ false = and_false (int_lt x p.x) (int_le p.y y) (le_false p.y y (h p (inl refl))) in
    count_cons (is_past x y) p ps ∙ (ap (λ (b : Bool). one_if b + count_by (is_past x y) ps) e ∙ omega (arith, past_none x y ps (λ q i. h q (inr i))))

past_front : (x y : ℤ) (corners : List Point) (n : ℕ) → ReachRow corners n y → count_by (is_past x y) corners ≡ count_by (is_right x) (take n corners)
past_front x y corners n r =
    ap (count_by (is_past x y)) (sym (take-append-drop n corners))
    ∙ (count_append (is_past x y) (take n corners) (drop n corners)
    ∙ omega (arith, past_all x y (take n corners) r.below, past_none x y (drop n corners) r.above))

-- Of the columns of the corners up to a row as many stand to the right of a column as sides are met there, as far as parity goes.
pub row_parity : (points corners : List Point) (n : ℕ) (columns : List ℤ) (x y : ℤ) → AreCorners points corners → ReachRow corners n y
    → HaveChanges (take n corners) columns → count_by (int_lt x) columns % 2 ≡ count_by (meets_ray x y) (polygon_sides points) % 2
row_parity points corners n columns x y c r h =
    h.odd x ∙ (ap (λ (k : ℕ). k % 2) (sym (past_front x y corners n r))
    ∙ (ap (λ (k : ℕ). k % 2) (sum_by-IsPermutation (λ (p : Point). cond (is_past x y p) 1 0) (side_ends points) corners c.same)
    ∙ sides_parity x y (polygon_sides points)))

-- ---- a ray from the left of all points

abbrev below : ℤ → Point → ℕ
below y p = one_if (int_le p.y y)

last_of : Point → List Point → Point
last_of p [] = p
last_of p (q ∷ qs) = last_of q qs

last_push : (p : Point) (ps : List Point) (r : Point) → last_of p (ps ++ r ∷ []) ≡ r
unfolding last_of
last_push p [] r = refl
last_push p (q ∷ qs) r = last_push q qs r

step_parity : (x y : ℤ) (s : Segment) → is_axis_side s ≡ true → x <ℤ s.start.x → one_if (meets_ray x y s) % 2 ≡ (below y s.start + below y s.stop) % 2
step_parity x y s axis left = at (is_zero (s.stop.x -ℤ s.start.x)) refl
  where
    flat : (d : Bool) → d ≡ true → s.start.y ≡ s.stop.y → 0 ≡ (below y s.start + below y s.stop) % 2
    flat d t e =
        let P : ℤ → Type 0 = λ v. 0 ≡ (below y s.start + one_if (int_le v y)) % 2 in
        subst P e (double (int_le s.start.y y))
      where
        double : (b : Bool) → 0 ≡ (one_if b + one_if b) % 2
        double true = refl
        double false = refl

    at : (z : Bool) → is_zero (s.stop.x -ℤ s.start.x) ≡ z → one_if (meets_ray x y s) % 2 ≡ (below y s.start + below y s.stop) % 2
    at true e =
        rw e (sym (ends_parity true (int_le s.start.y y) (int_le s.stop.y y) (int_le (int_min s.start.y s.stop.y) y)
        (int_lt y (int_max s.start.y s.stop.y)) (crosses_not s.start.y s.stop.y y)
        ∙ ap (λ (b : Bool). one_if (((true && b) && int_le (int_min s.start.y s.stop.y) y) && int_lt y (int_max s.start.y s.stop.y)) % 2)
        (sym (lt_true x s.start.x left))))
    at false e =
        let z : is_zero (s.stop.y -ℤ s.start.y) ≡ true = rw e at axis in
        rw e (flat true refl (zero_same s.start.y s.stop.y z))

walk_parity : (x y : ℤ) (p : Point) (ps : List Point) → list_all is_axis_side (segments_from p ps) ≡ true → x <ℤ p.x → ((q : Point) → Among ps q → x <ℤ q.x)
    → count_by (meets_ray x y) (segments_from p ps) % 2 ≡ (below y p + below y (last_of p ps)) % 2
unfolding last_of
walk_parity x y p [] axis l h = double (int_le p.y y)
  where
    double : (b : Bool) → 0 ≡ (one_if b + one_if b) % 2
    double true = refl
    double false = refl
walk_parity x y p (q ∷ qs) axis l h =
    let s : Segment = record { start = p; stop = q } in
    let e = step_parity x y s (first_axis (is_axis_side s) (list_all is_axis_side (segments_from q qs)) axis) l in
    let r = walk_parity x y q qs (rest_axis (is_axis_side s) (list_all is_axis_side (segments_from q qs)) axis) (h q (inl refl)) (λ t i. h t (inr i)) in
    ap (λ (n : ℕ). n % 2) (count_cons (meets_ray x y) s (segments_from q qs))
    ∙ joined (one_if (meets_ray x y s)) (count_by (meets_ray x y) (segments_from q qs)) (below y p) (below y q) (below y (last_of q qs)) e r
  where
    joined : (a b p q r : ℕ) → a % 2 ≡ (p + q) % 2 → b % 2 ≡ (q + r) % 2 → (a + b) % 2 ≡ (p + r) % 2
    joined a b p q r e f = omega arith

    first_axis : (a b : Bool) → (a && b) ≡ true → a ≡ true
    first_axis true b e = refl
    first_axis false b e = absurd cc

    rest_axis : (a b : Bool) → (a && b) ≡ true → b ≡ true
    rest_axis true b e = e
    rest_axis false b e = absurd cc

rectilinear_sides : (points : List Point) → is_rectilinear points ≡ true → list_all is_axis_side (polygon_sides points) ≡ true
rectilinear_sides points h = second (nat_le 4 (length points)) (list_all is_axis_side (polygon_sides points)) h
  where
    second : (a b : Bool) → (a && b) ≡ true → b ≡ true
    second true b e = e
    second false b e = absurd cc

-- A ray that begins to the left of all points meets an even number of sides.
pub even_beyond : (points : List Point) (x y : ℤ) → is_rectilinear points ≡ true → ((p : Point) → Among points p → x <ℤ p.x)
    → count_by (meets_ray x y) (polygon_sides points) % 2 ≡ 0
even_beyond [] x y r h = refl
even_beyond (p ∷ ps) x y r h =
    let w = walk_parity x y p (ps ++ p ∷ []) (rectilinear_sides (p ∷ ps) r) (h p (inl refl)) (λ q i. h q (closed p ps q i)) in
    let P : Point → Type 0 = λ q. count_by (meets_ray x y) (polygon_sides (p ∷ ps)) % 2 ≡ (below y p + below y q) % 2 in
    subst P (last_push p ps p) w ∙ even (below y p)
  where
    even : (n : ℕ) → (n + n) % 2 ≡ 0
    even n = omega arith

    closed : (p : Point) (ps : List Point) (q : Point) → Among (ps ++ p ∷ []) q → Among (p ∷ ps) q
    closed p [] q (inl e) = inl e
    closed p [] q (inr i) = absurd i
    closed p (r ∷ rs) q (inl e) = inr (inl e)
    closed p (r ∷ rs) q (inr i) = elim (closed p rs q i) [ inl e ↦ inl e | inr j ↦ inr (inr j) ]

-- The sides of polygons, one by one.
use Rattle.std.proofs.Common.{◌≡◌, ◌⊎◌, inl, inr, ℕ, zero, suc, ◌+◌, ◌<◌, ◌≤◌, Bool, true, false, cond, ℤ, List, [], ◌∷◌, ◌++◌, length, get_or, drop, refl, sym, ◌∙◌, ap, subst, arith}
use Rattle.std.specs.List.{count_by, flat_map}
use Rattle.std.proofs.lemmas.List.{length-append, get_or_append_left, get_or_push, drop_all, append_assoc, append-nil}
use Rattle.std.proofs.lemmas.List.Sums.{sum_by-cons}
use Rattle.geom.specs.declared.point.Point.{Point}
use Rattle.geom.specs.CifShapes.{Segment, segments_from, polygon_sides, meets_ray}
use Rattle.cif_shapes.specs.Changes.{ends_of, side_ends}

pub length_segments : (p : Point) (ps : List Point) → length (segments_from p ps) ≡ length ps
length_segments p [] = refl
length_segments p (q ∷ qs) = ap suc (length_segments q qs)

pub length_sides : (points : List Point) → length (polygon_sides points) ≡ length points
length_sides [] = refl
length_sides (p ∷ ps) = length_segments p (ps ++ p ∷ []) ∙ (length-append ps (p ∷ []) ∙ omega arith)

-- the segment of this number, and those behind it
pub left_segments : (p : Point) (ps : List Point) (i : ℕ) (d : Point) → i < length ps
    → drop i (segments_from p ps) ≡ record { start = get_or (p ∷ ps) i d; stop = get_or ps i d } ∷ drop (i + 1) (segments_from p ps)
left_segments p [] i d h = absurd (omega arith)
left_segments p (q ∷ qs) zero d h = refl
left_segments p (q ∷ qs) (suc i) d h =
    let e : suc i + 1 ≡ suc (i + 1) = omega arith in
    let P : ℕ → Type 0 = λ j. drop i (segments_from q qs) ≡ record { start = get_or (q ∷ qs) i d; stop = get_or qs i d } ∷ drop j (segments_from p (q ∷ qs)) in
    subst P (sym e) (left_segments q qs i d (omega arith))

-- The number of the next point: that behind the last is the first.
abbrev pub IsNext : List Point → ℕ → ℕ → Type 0
IsNext points at next = ((next ≡ at + 1) × (at + 1 < length points)) ⊎ ((next ≡ 0) × (length points ≤ at + 1))

next_point : (p : Point) (ps : List Point) (at next : ℕ) (d : Point) → at < length (p ∷ ps) → IsNext (p ∷ ps) at next
    → get_or (ps ++ p ∷ []) at d ≡ get_or (p ∷ ps) next d
next_point p ps at next d h (inl (e, k)) =
    let f : next ≡ suc at = omega arith in
    let P : ℕ → Type 0 = λ j. get_or (ps ++ p ∷ []) at d ≡ get_or (p ∷ ps) j d in
    subst P (sym f) (get_or_append_left ps (p ∷ []) d at (omega arith))
next_point p ps at next d h (inr (e, k)) =
    let P : ℕ → Type 0 = λ j. get_or (ps ++ p ∷ []) at d ≡ get_or (p ∷ ps) j d in
    subst P (sym e) (get_or_push ps p d at (omega arith))

pub side_at : (points : List Point) (at next : ℕ) (d : Point) → at < length points → IsNext points at next
    → drop at (polygon_sides points) ≡ record { start = get_or points at d; stop = get_or points next d } ∷ drop (at + 1) (polygon_sides points)
side_at [] at next d h n = absurd (omega arith)
side_at (p ∷ ps) at next d h n =
    let short : at < length (ps ++ p ∷ []) = omega (arith, length-append ps (p ∷ [])) in
    let s : get_or ((p ∷ ps) ++ p ∷ []) at d ≡ get_or (p ∷ ps) at d = get_or_append_left (p ∷ ps) (p ∷ []) d at h in
    let Q : Point → Type 0 =
    λ q. drop at (polygon_sides (p ∷ ps)) ≡ record { start = q; stop = get_or (ps ++ p ∷ []) at d } ∷ drop (at + 1) (polygon_sides (p ∷ ps)) in
    let R : Point → Type 0 =
    λ q. drop at (polygon_sides (p ∷ ps)) ≡ record { start = get_or (p ∷ ps) at d; stop = q } ∷ drop (at + 1) (polygon_sides (p ∷ ps)) in
    subst R (next_point p ps at next d h n) (subst Q s (left_segments p (ps ++ p ∷ []) at d short))

-- ---- sides that a ray meets

-- so many of the sides before this one are met
pub record HasMet (points : List Point) (x y : ℤ) (at met : ℕ) : Type 0 where
  pub few : met ≤ at
  pub total : met + count_by (meets_ray x y) (drop at (polygon_sides points)) ≡ count_by (meets_ray x y) (polygon_sides points)

pub none_met : (points : List Point) (x y : ℤ) → HasMet points x y 0 0
none_met points x y = record { few = omega arith; total = omega arith }

one_more : (points : List Point) (x y : ℤ) (at : ℕ) (s : Segment) (b : Bool) → drop at (polygon_sides points) ≡ s ∷ drop (at + 1) (polygon_sides points) → meets_ray x y s ≡ b
    → count_by (meets_ray x y) (drop at (polygon_sides points)) ≡ cond b 1 0 + count_by (meets_ray x y) (drop (at + 1) (polygon_sides points))
one_more points x y at s b e m =
    ap (count_by (meets_ray x y)) e ∙ (sum_by-cons (λ (t : Segment). cond (meets_ray x y t) 1 0) s (drop (at + 1) (polygon_sides points))
    ∙ ap (λ (v : Bool). cond v 1 0 + count_by (meets_ray x y) (drop (at + 1) (polygon_sides points))) m)

pub met_more : (points : List Point) (x y : ℤ) (at met : ℕ) (s : Segment) → drop at (polygon_sides points) ≡ s ∷ drop (at + 1) (polygon_sides points)
    → meets_ray x y s ≡ true → HasMet points x y at met → HasMet points x y (at + 1) (met + 1)
met_more points x y at met s e m h = record { few = omega arith; total = omega (arith, one_more points x y at s true e m) }

pub met_as_many : (points : List Point) (x y : ℤ) (at met : ℕ) (s : Segment) → drop at (polygon_sides points) ≡ s ∷ drop (at + 1) (polygon_sides points)
    → meets_ray x y s ≡ false → HasMet points x y at met → HasMet points x y (at + 1) met
met_as_many points x y at met s e m h = record { few = omega arith; total = omega (arith, one_more points x y at s false e m) }

pub all_met : (points : List Point) (x y : ℤ) (at met : ℕ) → length points ≤ at → HasMet points x y at met → met ≡ count_by (meets_ray x y) (polygon_sides points)
all_met points x y at met past h =
    let e : drop at (polygon_sides points) ≡ [] = drop_all at (polygon_sides points) (omega (arith, length_sides points)) in
    let n : count_by (meets_ray x y) (drop at (polygon_sides points)) ≡ 0 = ap (count_by (meets_ray x y)) e in
    omega arith

-- ---- ends of vertical sides

-- these are the ends of the sides before this one
abbrev pub HasEnds : List Point → ℕ → List Point → Type 0
HasEnds points at ends = ends ++ flat_map ends_of (drop at (polygon_sides points)) ≡ side_ends points

pub ends_more : (points : List Point) (at : ℕ) (ends new : List Point) (s : Segment) → drop at (polygon_sides points) ≡ s ∷ drop (at + 1) (polygon_sides points)
    → new ≡ ends ++ ends_of s → HasEnds points at ends → HasEnds points (at + 1) new
ends_more points at ends new s e n h =
    let P : List Point → Type 0 = λ l. l ++ flat_map ends_of (drop (at + 1) (polygon_sides points)) ≡ side_ends points in
    let Q : List Segment → Type 0 = λ l. ends ++ flat_map ends_of l ≡ side_ends points in
    subst P (sym n) (append_assoc ends (ends_of s) (flat_map ends_of (drop (at + 1) (polygon_sides points))) ∙ subst Q e h)

pub ends_all : (points : List Point) (at : ℕ) (ends : List Point) → length points ≤ at → HasEnds points at ends → ends ≡ side_ends points
ends_all points at ends past h =
    let e : drop at (polygon_sides points) ≡ [] = drop_all at (polygon_sides points) (omega (arith, length_sides points)) in
    let Q : List Segment → Type 0 = λ l. ends ++ flat_map ends_of l ≡ side_ends points in
    sym (append-nil ends) ∙ subst Q e h

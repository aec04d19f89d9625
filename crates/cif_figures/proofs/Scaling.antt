-- Points in λ.
use Rattle.std.proofs.Common.{◌≡◌, inl, inr, ℕ, zero, suc, ◌^◌, ◌≤◌, nat_le, Bool, true, false, not, ◌&&◌, if◌then◌else◌, ℤ, pos, negsuc, ◌-ℤ◌, ◌*ℤ◌, ◌<ℤ◌, List, [], ◌∷◌, ◌++◌, length, map, refl, sym, ◌∙◌, ap, subst, arith}
use mir.Syntax.{w64}
use mir.Val.{to_z, of_z}
use Rattle.std.specs.Int.RustNames.{FitsSigned, unsigned_abs}
use Rattle.std.specs.List.{list_all}
use Rattle.std.proofs.lemmas.Int.{ints, by_lt_z, to_z-of_z, fits_signed_from_abs}
use Rattle.geom.specs.declared.point.Point.{Point}
use Rattle.geom.specs.Rows.{Among}
use Rattle.geom.specs.Turns.{IsReachable}
use Rattle.geom.specs.CifShapes.{segments_from, polygon_sides, is_zero, is_axis_side, is_rectilinear}
use Rattle.geom.specs.CifDrawings.{scaled, scaled_point}
use Rattle.cif_shapes.specs.Polygons.{IsPolygon}
use Rattle.cif_codes.specs.declared.scale.Scale.{Scale}
use Rattle.cif_codes.specs.Scales.{ratio, grid_of, IsScale}
use Rattle.cif_figures.specs.Scaling.{IsScaled, IsScaledPoint, AreScaledPoints}
use Rattle.cif_figures.proofs.Multiples.{scaled_lt}

-- ---- one coordinate

-- twice a number, in machine words
pub twice_word : (v : ℤ) → FitsSigned w64 v → unsigned_abs (pos 2 *ℤ v) ≤ 2 ^ 55 → to_z w64 (of_z w64 (pos 2 *ℤ to_z w64 (of_z w64 v))) ≡ pos 2 *ℤ v
twice_word v f h =
    ap (λ (z : ℤ). to_z w64 (of_z w64 (pos 2 *ℤ z))) (to_z-of_z w64 v f)
    ∙ to_z-of_z w64 (pos 2 *ℤ v) (fits_signed_from_abs w64 (pos 2 *ℤ v) (omega (arith, h)))

pub scaled_by : (scale : Scale) (units w r : ℤ) → w ≡ pos 2 *ℤ units → r ≡ scaled (ratio scale) w
    → r *ℤ pos (grid_of scale) ≡ w *ℤ pos scale.times → IsReachable r
    → IsScaled scale units r
scaled_by scale units w r e f g h = record {
  is = f ∙ ap (scaled (ratio scale)) e;
  exact = g ∙ ap (λ (z : ℤ). z *ℤ pos scale.times) e;
  reachable = h;
}

-- ---- order

positive_no : (z : ℤ) → pos 0 <ℤ z → is_zero z ≡ false
positive_no (pos zero) h = absurd (omega (arith, ints, h))
positive_no (pos (suc n)) h = refl
positive_no (negsuc n) h = refl

negative_no : (z : ℤ) → z <ℤ pos 0 → is_zero z ≡ false
negative_no (pos zero) h = absurd (omega (arith, ints, h))
negative_no (pos (suc n)) h = refl
negative_no (negsuc n) h = refl

zero_self : (z : ℤ) → is_zero (z -ℤ z) ≡ true
zero_self z = let e : z -ℤ z ≡ pos 0 = omega (arith, ints) in ap is_zero e

scaled_less : (scale : Scale) (a b u v : ℤ) → IsScale scale → IsScaled scale a u → IsScaled scale b v → a <ℤ b → u <ℤ v
scaled_less scale a b u v s h k l =
    let p = s.some_per in
    scaled_lt (pos 2 *ℤ a) (pos 2 *ℤ b) u v scale.times (grid_of scale) (omega (arith, ints, l)) s.some_times (omega (arith, p)) h.exact k.exact

-- coordinates in λ differ where those in units do
zero_same : (scale : Scale) (a b u v : ℤ) → IsScale scale → IsScaled scale a u → IsScaled scale b v → is_zero (v -ℤ u) ≡ is_zero (b -ℤ a)
zero_same scale a b u v s h k =
    by_lt_z a b (λ l. above (scaled_less scale a b u v s h k l) l)
    (λ m. by_lt_z b a (λ l. below (scaled_less scale b a v u s k h l) l) (λ n. same (omega (arith, ints, m, n))))
  where
    above : u <ℤ v → a <ℤ b → is_zero (v -ℤ u) ≡ is_zero (b -ℤ a)
    above l m = positive_no (v -ℤ u) (omega (arith, ints, l)) ∙ sym (positive_no (b -ℤ a) (omega (arith, ints, m)))

    below : v <ℤ u → b <ℤ a → is_zero (v -ℤ u) ≡ is_zero (b -ℤ a)
    below l m = negative_no (v -ℤ u) (omega (arith, ints, l)) ∙ sym (negative_no (b -ℤ a) (omega (arith, ints, m)))

    same : b ≡ a → is_zero (v -ℤ u) ≡ is_zero (b -ℤ a)
    same e =
        let f : v ≡ u = k.is ∙ (ap (λ (z : ℤ). scaled (ratio scale) (pos 2 *ℤ z)) e ∙ sym h.is) in
        (ap (λ (z : ℤ). is_zero (z -ℤ u)) f ∙ zero_self u) ∙ sym (ap (λ (z : ℤ). is_zero (z -ℤ a)) e ∙ zero_self a)

-- ---- sides

side_same : (scale : Scale) (p q a b : Point) → IsScale scale → IsScaledPoint scale p a → IsScaledPoint scale q b
    → is_axis_side (record { start = a; stop = b }) ≡ is_axis_side (record { start = p; stop = q })
side_same scale p q a b s h k =
    ap (λ (t : Bool). if t then not (is_zero (b.y -ℤ a.y)) else is_zero (b.y -ℤ a.y)) (zero_same scale p.x q.x a.x b.x s h.0 k.0)
    ∙ ap (λ (t : Bool). if is_zero (q.x -ℤ p.x) then not t else t) (zero_same scale p.y q.y a.y b.y s h.1 k.1)

sides_same : (scale : Scale) (p a : Point) (ps qs : List Point) → IsScale scale → IsScaledPoint scale p a → AreScaledPoints scale ps qs
    → list_all is_axis_side (segments_from a qs) ≡ list_all is_axis_side (segments_from p ps)
sides_same scale p a [] [] s h k = refl
sides_same scale p a [] (b ∷ qs) s h k = absurd k
sides_same scale p a (q ∷ ps) [] s h k = absurd k
sides_same scale p a (q ∷ ps) (b ∷ qs) s h k =
    ap (λ (t : Bool). t && list_all is_axis_side (segments_from b qs)) (side_same scale p q a b s h k.0)
    ∙ ap (λ (t : Bool). is_axis_side (record { start = p; stop = q }) && t) (sides_same scale q b ps qs s k.0 k.1)

scaled_push : (scale : Scale) (ps qs : List Point) (p q : Point) → AreScaledPoints scale ps qs → IsScaledPoint scale p q
    → AreScaledPoints scale (ps ++ p ∷ []) (qs ++ q ∷ [])
scaled_push scale [] [] p q h k = (k, tt)
scaled_push scale [] (b ∷ qs) p q h k = absurd h
scaled_push scale (a ∷ ps) [] p q h k = absurd h
scaled_push scale (a ∷ ps) (b ∷ qs) p q h k = (h.0, scaled_push scale ps qs p q h.1 k)

scaled_length : (scale : Scale) (ps qs : List Point) → AreScaledPoints scale ps qs → length qs ≡ length ps
scaled_length scale [] [] h = refl
scaled_length scale [] (b ∷ qs) h = absurd h
scaled_length scale (a ∷ ps) [] h = absurd h
scaled_length scale (a ∷ ps) (b ∷ qs) h = ap suc (scaled_length scale ps qs h.1)

rectilinear_same : (scale : Scale) (ps qs : List Point) → IsScale scale → AreScaledPoints scale ps qs → is_rectilinear qs ≡ is_rectilinear ps
rectilinear_same scale [] [] s h = refl
rectilinear_same scale [] (b ∷ qs) s h = absurd h
rectilinear_same scale (a ∷ ps) [] s h = absurd h
rectilinear_same scale (a ∷ ps) (b ∷ qs) s h =
    ap (λ (n : ℕ). nat_le 4 n && list_all is_axis_side (polygon_sides (b ∷ qs))) (scaled_length scale (a ∷ ps) (b ∷ qs) h)
    ∙ ap (λ (t : Bool). nat_le 4 (length (a ∷ ps)) && t)
    (sides_same scale a b (ps ++ a ∷ []) (qs ++ b ∷ []) s h.0 (scaled_push scale ps qs a b h.1 h.0))

-- ---- all points

reach_x : (scale : Scale) (ps qs : List Point) → AreScaledPoints scale ps qs → (q : Point) → Among qs q → IsReachable q.x
reach_x scale [] [] h q m = absurd m
reach_x scale [] (b ∷ qs) h q m = absurd h
reach_x scale (a ∷ ps) [] h q m = absurd h
reach_x scale (a ∷ ps) (b ∷ qs) h q (inl e) = let P : Point → Type 0 = λ v. IsReachable v.x in subst P e h.0.0.reachable
reach_x scale (a ∷ ps) (b ∷ qs) h q (inr m) = reach_x scale ps qs h.1 q m

reach_y : (scale : Scale) (ps qs : List Point) → AreScaledPoints scale ps qs → (q : Point) → Among qs q → IsReachable q.y
reach_y scale [] [] h q m = absurd m
reach_y scale [] (b ∷ qs) h q m = absurd h
reach_y scale (a ∷ ps) [] h q m = absurd h
reach_y scale (a ∷ ps) (b ∷ qs) h q (inl e) = let P : Point → Type 0 = λ v. IsReachable v.y in subst P e h.0.1.reachable
reach_y scale (a ∷ ps) (b ∷ qs) h q (inr m) = reach_y scale ps qs h.1 q m

pub scaled_polygon : (scale : Scale) (ps qs : List Point) → IsScale scale → AreScaledPoints scale ps qs → is_rectilinear ps ≡ true → IsPolygon qs
scaled_polygon scale ps qs s h e =
    record { rectilinear = rectilinear_same scale ps qs s h ∙ e; across = reach_x scale ps qs h; upward = reach_y scale ps qs h }

pub same_point : (p q : Point) → p.x ≡ q.x → p.y ≡ q.y → p ≡ q
same_point p q e f = λ i. record { x = e i; y = f i }

pub scaled_points_are : (scale : Scale) (ps qs : List Point) → AreScaledPoints scale ps qs → qs ≡ map (scaled_point (ratio scale)) ps
scaled_points_are scale [] [] h = refl
scaled_points_are scale [] (b ∷ qs) h = absurd h
scaled_points_are scale (a ∷ ps) [] h = absurd h
scaled_points_are scale (a ∷ ps) (b ∷ qs) h =
    ap (λ (p : Point). p ∷ qs) (same_point b (scaled_point (ratio scale) a) h.0.0.is h.0.1.is)
    ∙ ap (λ (l : List Point). scaled_point (ratio scale) a ∷ l) (scaled_points_are scale ps qs h.1)

-- Tests of boxes.
use Rattle.std.proofs.Common.{◌≡◌, ◌^◌, Bool, true, false, ◌&&◌, ℤ, pos, neg_ℤ, ◌≤ℤ◌, ◌<ℤ◌, int_lt, int_le, List, [], ◌∷◌, inl, inr, refl, sym, ◌∙◌, ap, subst, arith}
use Rattle.std.specs.Int.{int_min, int_max}
use Rattle.std.specs.List.{list_all}
use Rattle.std.proofs.lemmas.Int.{ints, clamps, by_lt_z}
use Rattle.geom.specs.Squares.{BoxShape, IsSide, IsBox}
use Rattle.geom.specs.Rows.{Among}
use Rattle.cif_drawing.specs.Placements.{IsOrdered}
use Rattle.cif_drawing.specs.Measures.{is_side, is_box}
use Rattle.cif_drawing.proofs.Placed.{both}

pub le_true : (a b : ℤ) → a ≤ℤ b → int_le a b ≡ true
le_true a b h = grind (arith, ints)

pub le_false : (a b : ℤ) → b <ℤ a → int_le a b ≡ false
le_false a b h = grind (arith, ints)

pub lt_true : (a b : ℤ) → a <ℤ b → int_lt a b ≡ true
lt_true a b h = grind (arith, ints)

pub true_lt : (a b : ℤ) → int_lt a b ≡ true → a <ℤ b
true_lt a b h = by_lt_z a b (λ l. l) (λ l. absurd (grind (arith, ints)))

pub true_le : (a b : ℤ) → int_le a b ≡ true → a ≤ℤ b
true_le a b h = by_lt_z b a (λ l. absurd (grind (arith, ints))) (λ l. l)

-- ---- tests and facts

pub and_left : (a b : Bool) → (a && b) ≡ true → a ≡ true
and_left true b h = refl
and_left false b h = absurd cc

pub and_right : (a b : Bool) → (a && b) ≡ true → b ≡ true
and_right true b h = h
and_right false b h = absurd cc

pub and_true : (a b : Bool) → a ≡ true → b ≡ true → (a && b) ≡ true
and_true a b p q = ap (λ (v : Bool). v && b) p ∙ q

pub side_of_test : (a b : ℤ) → is_side a b ≡ true → IsSide a b
side_of_test a b h =
    let p : Bool = int_le (neg_ℤ (pos (2 ^ 40))) a in
    let q : Bool = int_lt a b in
    let r : Bool = int_le b (pos (2 ^ 40)) in
    let pq : (p && q) ≡ true = and_left (p && q) r h in
    record {
      first = true_le (neg_ℤ (pos (2 ^ 40))) a (and_left p q pq);
      order = true_lt a b (and_right p q pq);
      last = true_le b (pos (2 ^ 40)) (and_right (p && q) r h);
    }

pub test_of_side : (a b : ℤ) → IsSide a b → is_side a b ≡ true
test_of_side a b s =
    let p : Bool = int_le (neg_ℤ (pos (2 ^ 40))) a in
    let q : Bool = int_lt a b in
    let r : Bool = int_le b (pos (2 ^ 40)) in
    and_true (p && q) r (and_true p q (le_true (neg_ℤ (pos (2 ^ 40))) a s.first) (lt_true a b s.order)) (le_true b (pos (2 ^ 40)) s.last)

pub box_of_test : (b : BoxShape) → is_box b ≡ true → IsBox b
box_of_test b h = record {
  across = side_of_test b.x1 b.x2 (and_left (is_side b.x1 b.x2) (is_side b.y1 b.y2) h);
  upward = side_of_test b.y1 b.y2 (and_right (is_side b.x1 b.x2) (is_side b.y1 b.y2) h);
}

pub test_of_box : (b : BoxShape) → IsBox b → is_box b ≡ true
test_of_box b h =
    and_true (is_side b.x1 b.x2) (is_side b.y1 b.y2) (test_of_side b.x1 b.x2 h.across) (test_of_side b.y1 b.y2 h.upward)

pub no_box_of_test : (b : BoxShape) → is_box b ≡ false → IsBox b → ⊥
no_box_of_test b h k = let e : true ≡ false = sym (test_of_box b k) ∙ h in cc

pub ordered_box : (b : BoxShape) → IsBox b → IsOrdered b
ordered_box b h = record { across = h.across.order; upward = h.upward.order }

-- ---- of lists

pub all_boxes : (boxes : List BoxShape) → list_all is_box boxes ≡ true → (b : BoxShape) → Among boxes b → IsBox b
all_boxes [] h b i = absurd i
all_boxes (c ∷ cs) h b (inl e) = let P : BoxShape → Type 0 = λ v. IsBox v in subst P e (box_of_test c (and_left (is_box c) (list_all is_box cs) h))
all_boxes (c ∷ cs) h b (inr i) = all_boxes cs (and_right (is_box c) (list_all is_box cs) h) b i

pub some_no_box : (boxes : List BoxShape) → list_all is_box boxes ≡ false → (b : BoxShape) × Among boxes b × (IsBox b → ⊥)
some_no_box [] h = absurd cc
some_no_box (c ∷ cs) h = by (is_box c) refl (some_no_box cs)
  where
    by : (v : Bool) → is_box c ≡ v → (list_all is_box cs ≡ false → (b : BoxShape) × Among cs b × (IsBox b → ⊥))
        → (b : BoxShape) × Among (c ∷ cs) b × (IsBox b → ⊥)
    by true e more = let f = more (ap (λ (v : Bool). v && list_all is_box cs) (sym e) ∙ h) in (f.0, inr f.1, f.2)
    by false e more = (c, inl refl, no_box_of_test c e)

-- ---- the least rectangle round two

side_short : (a b : ℤ) → a <ℤ b → is_side a b ≡ (int_le (neg_ℤ (pos (2 ^ 40))) a && int_le b (pos (2 ^ 40)))
side_short a b h = by (int_le (neg_ℤ (pos (2 ^ 40))) a) (int_lt a b) (int_le b (pos (2 ^ 40))) (lt_true a b h)
  where
    by : (p q r : Bool) → q ≡ true → ((p && q) && r) ≡ (p && r)
    by true q r e = ap (λ (v : Bool). v && r) e
    by false q r e = refl

le_min : (f a b : ℤ) → int_le f (int_min a b) ≡ (int_le f a && int_le f b)
le_min f a b =
    by_lt_z a f (λ h. le_false f (int_min a b) (omega (arith, ints, clamps)) ∙ sym (ap (λ (v : Bool). v && int_le f b) (le_false f a h)))
    (λ h. by_lt_z b f
    (λ k. le_false f (int_min a b) (omega (arith, ints, clamps)) ∙ sym (ap (λ (v : Bool). v && int_le f b) (le_true f a h) ∙ le_false f b k))
    (λ k. le_true f (int_min a b) (omega (arith, ints, clamps)) ∙ sym (and_true (int_le f a) (int_le f b) (le_true f a h) (le_true f b k))))

max_le : (a b f : ℤ) → int_le (int_max a b) f ≡ (int_le a f && int_le b f)
max_le a b f =
    by_lt_z f a (λ h. le_false (int_max a b) f (omega (arith, ints, clamps)) ∙ sym (ap (λ (v : Bool). v && int_le b f) (le_false a f h)))
    (λ h. by_lt_z f b
    (λ k. le_false (int_max a b) f (omega (arith, ints, clamps)) ∙ sym (ap (λ (v : Bool). v && int_le b f) (le_true a f h) ∙ le_false b f k))
    (λ k. le_true (int_max a b) f (omega (arith, ints, clamps)) ∙ sym (and_true (int_le a f) (int_le b f) (le_true a f h) (le_true b f k))))

exchange : (a b c d : Bool) → ((a && b) && (c && d)) ≡ ((a && c) && (b && d))
exchange true true c d = refl
exchange true false true d = refl
exchange true false false d = refl
exchange false b c d = refl

side_both : (a b c d : ℤ) → a <ℤ b → c <ℤ d → is_side (int_min a c) (int_max b d) ≡ (is_side a b && is_side c d)
side_both a b c d h k =
    let n : ℤ = neg_ℤ (pos (2 ^ 40)) in
    let f : ℤ = pos (2 ^ 40) in
    side_short (int_min a c) (int_max b d) (omega (arith, ints, clamps))
    ∙ (ap (λ (v : Bool). v && int_le (int_max b d) f) (le_min n a c)
    ∙ (ap (λ (v : Bool). (int_le n a && int_le n c) && v) (max_le b d f)
    ∙ (exchange (int_le n a) (int_le n c) (int_le b f) (int_le d f)
    ∙ (ap (λ (v : Bool). v && (int_le n c && int_le d f)) (sym (side_short a b h))
    ∙ ap (λ (v : Bool). is_side a b && v) (sym (side_short c d k))))))

pub box_both : (b c : BoxShape) → IsOrdered b → IsOrdered c → is_box (both b c) ≡ (is_box b && is_box c)
box_both b c h k =
    ap (λ (v : Bool). v && is_side (int_min b.y1 c.y1) (int_max b.y2 c.y2)) (side_both b.x1 b.x2 c.x1 c.x2 h.across k.across)
    ∙ (ap (λ (v : Bool). (is_side b.x1 b.x2 && is_side c.x1 c.x2) && v) (side_both b.y1 b.y2 c.y1 c.y2 h.upward k.upward)
    ∙ exchange (is_side b.x1 b.x2) (is_side c.x1 c.x2) (is_side b.y1 b.y2) (is_side c.y1 c.y2))

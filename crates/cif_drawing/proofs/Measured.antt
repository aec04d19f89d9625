-- Measures of boxes, of both of two lists, and of boxes at a call.
use Rattle.std.proofs.Common.{◌≡◌, ℕ, suc, ◌+◌, ◌≤◌, min, Bool, true, false, ◌&&◌, List, [], ◌∷◌, ◌++◌, length, map, Option, Some, None, inl, inr, refl, sym, ◌∙◌, ap, subst, arith, length-append}
use Rattle.std.specs.List.{list_all}
use Rattle.std.proofs.lemmas.List.{map-append}
use Rattle.std.proofs.lemmas.List.Folds.{list_all-append}
use Rattle.std.proofs.lemmas.Int.{ints, clamps}
use Rattle.geom.specs.declared.layer.Layer.TheVariants.{Metal}
use Rattle.geom.specs.Squares.{BoxShape, IsBox}
use Rattle.geom.specs.Rows.{Among}
use Rattle.cif_drawing.specs.declared.placement.Placement.{Placement}
use Rattle.cif_drawing.specs.declared.wide_point.WidePoint.{WidePoint}
use Rattle.cif_drawing.specs.declared.measure.Extent.{Extent}
use Rattle.cif_drawing.specs.declared.measure.Measure.{Measure}
use Rattle.cif_drawing.specs.Placements.{IsOrdered, placed}
use Rattle.cif_drawing.specs.Measures.{is_box, extent_box, RoundBoth, Measures, IsMeasure}
use Rattle.cif_drawing.proofs.Lists.{append_nil, among_cases, among_map}
use Rattle.cif_drawing.proofs.Near.{near_extent_more}
use Rattle.cif_drawing.proofs.Placed.{box_same, both, behind, placed_behind, placed_ordered, placed_both}
use Rattle.cif_drawing.proofs.Tests.{box_both, ordered_box}

abbrev pub extent_of : BoxShape → Extent
extent_of b = record { low = record { x = b.x1; y = b.y1 }; high = record { x = b.x2; y = b.y2 } }

and_nothing : (a : Bool) → a ≡ (a && true)
and_nothing true = refl
and_nothing false = refl

pub measures_one : (m : Measure) (b : BoxShape) → IsBox b → m.count ≡ 1 → m.extent.low ≡ (extent_of b).low → m.extent.high ≡ (extent_of b).high
    → Measures m (b ∷ [])
measures_one m b h n low high =
    let e : extent_of b ≡ m.extent = same_extent (extent_of b).low (extent_of b).high m.extent.low m.extent.high (sym low) (sym high) in
    let P : Extent → Type 0 = λ x. is_box (extent_box x) ≡ list_all is_box (b ∷ []) in
    let Q : Extent → Type 0 = λ x. (p : Placement) → is_box (placed p (extent_box x)) ≡ list_all is_box (map (placed p) (b ∷ [])) in
    let R : Extent → Type 0 = λ x. IsOrdered (extent_box x) in
    record {
      count = n;
      here = subst P e (and_nothing (is_box b));
      anywhere = subst Q e (λ p. and_nothing (is_box (placed p b)));
      order = subst R e (record { across = h.across.order; upward = h.upward.order });
      ordered = λ c i. elim i [ inl f ↦ (let S : BoxShape → Type 0 = λ v. IsOrdered v in subst S f (ordered_box b h)) | inr j ↦ absurd j ];
    }
  where
    same_extent : (p q r s : WidePoint) → p ≡ r → q ≡ s
        → (let e : Extent = record { low = p; high = q } in e) ≡ (let e : Extent = record { low = r; high = s } in e)
    same_extent p q r s g k = ap (λ (v : WidePoint). record { low = v; high = q }) g ∙ ap (λ (v : WidePoint). record { low = r; high = v }) k

round_both : (e f r : Extent) → RoundBoth e f r → extent_box r ≡ both (extent_box e) (extent_box f)
round_both e f r h = box_same Metal _ _ _ _ _ _ _ _ h.left h.bottom h.right h.top

pub measures_both : (m n r : Measure) (xs ys : List BoxShape) → r.count ≡ min (m.count + n.count) 8000001 → RoundBoth m.extent n.extent r.extent
    → Measures m xs → Measures n ys → Measures r (xs ++ ys)
measures_both m n r xs ys c h a b = record {
  count = omega (arith, c, a.count, b.count, length-append xs ys);
  here =
      ap is_box e ∙ (box_both (extent_box m.extent) (extent_box n.extent) a.order b.order
      ∙ (ap (λ (v : Bool). v && is_box (extent_box n.extent)) a.here ∙ (ap (λ (v : Bool). list_all is_box xs && v) b.here
      ∙ sym (list_all-append is_box xs ys))));
  anywhere = λ p.
      ap (λ (v : BoxShape). is_box (placed p v)) e ∙ (ap is_box (placed_both p (extent_box m.extent) (extent_box n.extent) a.order b.order)
      ∙ (box_both (placed p (extent_box m.extent)) (placed p (extent_box n.extent)) (placed_ordered p (extent_box m.extent) a.order) (placed_ordered p (extent_box n.extent) b.order)
      ∙ (ap (λ (v : Bool). v && is_box (placed p (extent_box n.extent))) (a.anywhere p) ∙ (ap (λ (v : Bool). list_all is_box (map (placed p) xs) && v) (b.anywhere p)
      ∙ (sym (list_all-append is_box (map (placed p) xs) (map (placed p) ys)) ∙ ap (list_all is_box) (sym (map-append (placed p) xs ys)))))));
  order = (let P : BoxShape → Type 0 = λ v. IsOrdered v in subst P (sym e) (record {
    across = omega (arith, ints, clamps, a.order.across, b.order.across);
    upward = omega (arith, ints, clamps, a.order.upward, b.order.upward);
  }));
  ordered = λ v i. elim (among_cases xs ys v i) [ inl j ↦ a.ordered v j | inr j ↦ b.ordered v j ];
}
  where
    e : extent_box r.extent ≡ both (extent_box m.extent) (extent_box n.extent)
    e = round_both m.extent n.extent r.extent h

pub measures_called : (m r : Measure) (c : Placement) (boxes : List BoxShape) → r.count ≡ m.count → extent_box r.extent ≡ placed c (extent_box m.extent)
    → Measures m boxes → Measures r (map (placed c) boxes)
measures_called m r c boxes n e a = record {
  count = n ∙ (a.count ∙ ap (λ (k : ℕ). min k 8000001) (sym (length_placed boxes)));
  here = ap is_box e ∙ a.anywhere c;
  anywhere = λ p.
      ap (λ (v : BoxShape). is_box (placed p v)) e ∙ (ap is_box (sym (placed_behind c p (extent_box m.extent)))
      ∙ (a.anywhere (behind c p) ∙ ap (list_all is_box) (twice p boxes)));
  order = (let P : BoxShape → Type 0 = λ v. IsOrdered v in subst P (sym e) (placed_ordered c (extent_box m.extent) a.order));
  ordered = λ v i.
      let f = among_map (placed c) boxes v i in
      let P : BoxShape → Type 0 = λ u. IsOrdered u in
      subst P f.2 (placed_ordered c f.0 (a.ordered f.0 f.1));
}
  where
    length_placed : (bs : List BoxShape) → length (map (placed c) bs) ≡ length bs
    length_placed [] = refl
    length_placed (b ∷ bs) = ap (λ (k : ℕ). suc k) (length_placed bs)

    twice : (p : Placement) (bs : List BoxShape) → map (placed (behind c p)) bs ≡ map (placed p) (map (placed c) bs)
    twice p [] = refl
    twice p (b ∷ bs) = ap (λ (v : BoxShape). v ∷ map (placed (behind c p)) bs) (placed_behind c p b) ∙ ap (λ (l : List BoxShape). placed p (placed c b) ∷ l) (twice p bs)

-- ---- of lists that may be empty

pub measure_more : (m n : ℕ) (o : Option Measure) (boxes : List BoxShape) → m ≤ n → IsMeasure m o boxes → IsMeasure n o boxes
measure_more m n None boxes h a = a
measure_more m n (Some x) boxes h a = (a.0, a.1, near_extent_more m n x.extent h a.2)

pub measure_left : (n : ℕ) (o : Option Measure) (xs ys : List BoxShape) → IsMeasure n o xs → ys ≡ [] → IsMeasure n o (xs ++ ys)
measure_left n o xs ys a e =
    let P : List BoxShape → Type 0 = λ l. IsMeasure n o l in subst P (sym (ap (λ (l : List BoxShape). xs ++ l) e ∙ append_nil xs)) a

pub measure_right : (n : ℕ) (o : Option Measure) (xs ys : List BoxShape) → xs ≡ [] → IsMeasure n o ys → IsMeasure n o (xs ++ ys)
measure_right n o xs ys e a = let P : List BoxShape → Type 0 = λ l. IsMeasure n o (l ++ ys) in subst P (sym e) a

-- what a measure says of its boxes' order
pub measure_ordered : (n : ℕ) (o : Option Measure) (boxes : List BoxShape) → IsMeasure n o boxes → (b : BoxShape) → Among boxes b → IsOrdered b
measure_ordered n None boxes a b i = let P : List BoxShape → Type 0 = λ l. Among l b in absurd (subst P a i)
measure_ordered n (Some m) boxes a b i = a.1.ordered b i

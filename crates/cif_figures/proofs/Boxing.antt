-- Boxes that meet no code.
use Rattle.std.proofs.Common.{◌≡◌, inl, inr, ℕ, ◌^◌, ◌≤◌, ◌<◌, Bool, true, false, cond, not, ℤ, pos, negsuc, neg_ℤ, ◌+ℤ◌, ◌-ℤ◌, ◌*ℤ◌, ◌<ℤ◌, ◌≤ℤ◌, List, [], ◌∷◌, map, flat_map, Option, Some, None, refl, sym, ◌∙◌, ap, subst, arith}
use Rattle.std.specs.Int.RustNames.{unsigned_abs}
use Rattle.std.proofs.Math.Nat.{pos_of_ne-zero}
use Rattle.std.proofs.lemmas.Bool.{true_from_ne_false}
use Rattle.std.proofs.lemmas.Int.{ints}
use Rattle.geom.specs.declared.layer.Layer.{Layer}
use Rattle.geom.specs.declared.point.Point.{Point}
use Rattle.geom.specs.declared.cif_code.CifCode.TheVariants.{C7, C8, C9}
use Rattle.geom.specs.CifCommands.{CifScale, DrawsBox, command_parts}
use Rattle.geom.specs.CifShapes.{Outline, is_zero, is_along_axis, outlined_box}
use Rattle.geom.specs.CifDrawings.{direction_or_east, centred_outline, box_outlines, scaled}
use Rattle.geom.specs.CifCodes.{SomeIs, IsTooGreat, IsOffGrid, IsFarOff, part_numbers, outline_distances}
use Rattle.cif_values.specs.declared.boxes.Sides.{Sides}
use Rattle.cif_values.specs.Values.{DirectionStands, AreNearSides}
use Rattle.cif_codes.specs.declared.scale.Scale.{Scale}
use Rattle.cif_codes.specs.declared.edges.Edges.{Edges}
use Rattle.cif_codes.specs.Scales.{ratio, grid_of}
use Rattle.cif_figures.specs.Boxes.{IsClearBox, is_upright, centred_edges}
use Rattle.cif_figures.specs.Rectangles.{outline_of, IsDrawn}
use Rattle.cif_figures.proofs.Clear.{drawn_edge}
use Rattle.cif_figures.proofs.Scaling.{same_point}
use Rattle.cif_figures.proofs.Words.{word, number_word}

-- ---- what no code says

-- the numbers are those that are written, no side is 0, and the edges are on the grid and near
pub record Told (scale : Scale) (along across : ℕ) (centre : Point) (direction : Option Point) (sides : Sides) : Type 0 where
  pub along_is : sides.along ≡ pos along
  pub across_is : sides.across ≡ pos across
  pub centre_is : sides.centre ≡ centre
  pub some_along : 0 < along
  pub some_across : 0 < across
  pub axis : is_along_axis (direction_or_east direction).x (direction_or_east direction).y ≡ true
  pub upright : is_upright sides.direction ≡ not (is_zero (direction_or_east direction).y)
  pub on_grid : SomeIs (IsOffGrid (ratio scale)) (flat_map outline_distances (box_outlines along across centre (direction_or_east direction))) → ⊥
  pub not_far : SomeIs (IsFarOff (ratio scale)) (flat_map outline_distances (box_outlines along across centre (direction_or_east direction))) → ⊥

upright_is : (m : ℕ) (written found : Option Point) → DirectionStands m written found
    → ((p : Point) → written ≡ Some p → IsTooGreat p.y → ⊥) → is_upright found ≡ not (is_zero (direction_or_east written).y)
upright_is m None None h n = refl
upright_is m None (Some q) h n = absurd h
upright_is m (Some p) None h n = absurd h
upright_is m (Some p) (Some q) h n = ap (λ (z : ℤ). not (is_zero z)) (h.1.exact (λ g. n p refl g))

pub told : (scale : Scale) (layer : Layer) (along across : ℕ) (centre : Point) (direction : Option Point) (sides : Sides)
    → IsClearBox scale layer along across centre direction sides → Told scale along across centre direction sides
told scale layer along across centre direction sides h =
    let none : SomeIs IsTooGreat (flat_map part_numbers (command_parts (DrawsBox along across centre direction))) → ⊥ = λ g. h.clear C8 (inl g) in
    let x = h.stand.centre_is.0.exact (λ g. none (inr (inr (inl g)))) in
    let y = h.stand.centre_is.1.exact (λ g. none (inr (inr (inr (inl g))))) in
    let P : CifScale → Type 0 = λ s. SomeIs (IsOffGrid s) (flat_map outline_distances (box_outlines along across centre
    (direction_or_east direction))) → ⊥ in
    let Q : CifScale → Type 0 = λ s. SomeIs (IsFarOff s) (flat_map outline_distances (box_outlines along across centre
    (direction_or_east direction))) → ⊥ in
    record {
      along_is = h.stand.along_is.exact (λ g. none (inl g));
      across_is = h.stand.across_is.exact (λ g. none (inr (inl g)));
      centre_is = same_point sides.centre centre x y;
      some_along = pos_of_ne-zero (λ e. h.clear C9 (inl e));
      some_across = pos_of_ne-zero (λ e. h.clear C9 (inr (inl e)));
      axis = true_from_ne_false (is_along_axis (direction_or_east direction).x (direction_or_east direction).y) (λ e. h.clear C9 (inr (inr e)));
      upright = upright_is (grid_of scale) direction sides.direction h.stand.direction_is (λ p e g. none (great_direction p e g));
      on_grid = subst P h.scale_is (λ k. h.clear C7 k);
      not_far = subst Q h.scale_is (λ k. h.clear C8 (inr k));
    }
  where
    great_direction : (p : Point) → direction ≡ Some p → IsTooGreat p.y
        → SomeIs IsTooGreat (flat_map part_numbers (command_parts (DrawsBox along across centre direction)))
    great_direction p e g =
        let R : Option Point → Type 0 = λ d. SomeIs IsTooGreat (flat_map part_numbers (command_parts (DrawsBox along across centre d))) in
        subst R (sym e) (inr (inr (inr (inr (inr (inl g))))))

-- ---- the edges

pub outlines_by : (along across : ℕ) (centre d : Point) (t : Bool) → is_along_axis d.x d.y ≡ true → is_zero d.y ≡ t
    → box_outlines along across centre d ≡ cond t (centred_outline centre along across) (centred_outline centre across along) ∷ []
outlines_by along across centre d t e f =
    ap (λ (v : Bool). cond v (cond (is_zero d.y) (centred_outline centre along across) (centred_outline centre across along) ∷ []) []) e
    ∙ ap (λ (v : Bool). cond v (centred_outline centre along across) (centred_outline centre across along) ∷ []) f

abs_bounds : (u : ℤ) (n : ℕ) → unsigned_abs u ≤ n → (neg_ℤ (pos n) ≤ℤ u) × (u ≤ℤ pos n)
abs_bounds (pos a) n h = (omega (arith, ints, h), omega (arith, ints, h))
abs_bounds (negsuc a) n h = (omega (arith, ints, h), omega (arith, ints, h))

bounds_abs : (u : ℤ) (n : ℕ) → neg_ℤ (pos n) ≤ℤ u → u ≤ℤ pos n → unsigned_abs u ≤ n
bounds_abs (pos a) n l m = omega (arith, ints, l, m)
bounds_abs (negsuc a) n l m = omega (arith, ints, l, m)

pub lower_near : (u v : ℤ) → unsigned_abs u ≤ 2 ^ 52 → unsigned_abs v ≤ 2 ^ 52 → unsigned_abs (pos 2 *ℤ u -ℤ v) ≤ 2 ^ 55
lower_near u v h k =
    let a = abs_bounds u (2 ^ 52) h in
    let b = abs_bounds v (2 ^ 52) k in
    bounds_abs (pos 2 *ℤ u -ℤ v) (2 ^ 55) (omega (arith, ints, a.0, a.1, b.0, b.1)) (omega (arith, ints, a.0, a.1, b.0, b.1))

pub upper_near : (u v : ℤ) → unsigned_abs u ≤ 2 ^ 52 → unsigned_abs v ≤ 2 ^ 52 → unsigned_abs (pos 2 *ℤ u +ℤ v) ≤ 2 ^ 55
upper_near u v h k =
    let a = abs_bounds u (2 ^ 52) h in
    let b = abs_bounds v (2 ^ 52) k in
    bounds_abs (pos 2 *ℤ u +ℤ v) (2 ^ 55) (omega (arith, ints, a.0, a.1, b.0, b.1)) (omega (arith, ints, a.0, a.1, b.0, b.1))

-- a rectangle by its centre and its sides, which are positive
pub drawn_centred : (scale : CifScale) (p : Point) (w h : ℕ) (centre : Point) (wide high : ℤ) → centre ≡ p → wide ≡ pos w → high ≡ pos h → 0 < w
    → 0 < h
    → unsigned_abs centre.x ≤ 2 ^ 52 → unsigned_abs centre.y ≤ 2 ^ 52 → unsigned_abs wide ≤ 2 ^ 52 → unsigned_abs high ≤ 2 ^ 52
    → (SomeIs (IsOffGrid scale) (outline_distances (centred_outline p w h)) → ⊥)
    → (SomeIs (IsFarOff scale) (outline_distances (centred_outline p w h)) → ⊥)
    → IsDrawn scale (centred_edges centre wide high)
drawn_centred scale p w h centre wide high e f g sw sh nx ny nw nh a b =
    let x : centre.x ≡ p.x = ap (λ (q : Point). q.x) e in
    let y : centre.y ≡ p.y = ap (λ (q : Point). q.y) e in
    record {
      left = drawn_edge scale (pos 2 *ℤ p.x -ℤ pos w) (pos 2 *ℤ centre.x -ℤ wide) (lower centre.x p.x wide w x f) (lower_near centre.x wide nx nw)
          (λ k. a (inl k)) (λ k. b (inl k));
      bottom = drawn_edge scale (pos 2 *ℤ p.y -ℤ pos h) (pos 2 *ℤ centre.y -ℤ high) (lower centre.y p.y high h y g) (lower_near centre.y high ny nh)
          (λ k. a (inr (inl k))) (λ k. b (inr (inl k)));
      right = drawn_edge scale (pos 2 *ℤ p.x +ℤ pos w) (pos 2 *ℤ centre.x +ℤ wide) (upper centre.x p.x wide w x f) (upper_near centre.x wide nx nw)
          (λ k. a (inr (inr (inl k)))) (λ k. b (inr (inr (inl k))));
      top = drawn_edge scale (pos 2 *ℤ p.y +ℤ pos h) (pos 2 *ℤ centre.y +ℤ high) (upper centre.y p.y high h y g) (upper_near centre.y high ny nh)
          (λ k. a (inr (inr (inr (inl k))))) (λ k. b (inr (inr (inr (inl k)))));
      across = ordered centre.x wide w f sw;
      upward = ordered centre.y high h g sh;
    }
  where
    lower : (u c v : ℤ) (n : ℕ) → u ≡ c → v ≡ pos n → pos 2 *ℤ u -ℤ v ≡ pos 2 *ℤ c -ℤ pos n
    lower u c v n e f = ap (λ (z : ℤ). pos 2 *ℤ z -ℤ v) e ∙ ap (λ (z : ℤ). pos 2 *ℤ c -ℤ z) f

    upper : (u c v : ℤ) (n : ℕ) → u ≡ c → v ≡ pos n → pos 2 *ℤ u +ℤ v ≡ pos 2 *ℤ c +ℤ pos n
    upper u c v n e f = ap (λ (z : ℤ). pos 2 *ℤ z +ℤ v) e ∙ ap (λ (z : ℤ). pos 2 *ℤ c +ℤ z) f

    ordered : (u v : ℤ) (n : ℕ) → v ≡ pos n → 0 < n → (pos 2 *ℤ u -ℤ v) <ℤ (pos 2 *ℤ u +ℤ v)
    ordered u v n e s = omega (arith, ints, e, s)

-- the outline of these edges is that of the box
pub centred_is : (p : Point) (w h : ℕ) (centre : Point) (wide high : ℤ) → centre ≡ p → wide ≡ pos w → high ≡ pos h
    → outline_of (centred_edges centre wide high) ≡ centred_outline p w h
centred_is p w h centre wide high e f g =
    ap (λ (q : Point). outline_of (centred_edges q wide high)) e
    ∙ (ap (λ (z : ℤ). outline_of (centred_edges p z high)) f ∙ ap (λ (z : ℤ). outline_of (centred_edges p (pos w) z)) g)

-- ---- the box

-- the edges of the box, and the box that it draws
pub record Boxed (scale : Scale) (layer : Layer) (along across : ℕ) (centre : Point) (direction : Option Point) (edges : Edges) : Type 0 where
  pub drawn : IsDrawn (ratio scale) edges
  pub box : outlined_box layer (scaled (ratio scale)) (outline_of edges) ∷ []
      ≡ map (outlined_box layer (scaled (ratio scale))) (box_outlines along across centre (direction_or_east direction))

negated : (t z u : Bool) → t ≡ not z → t ≡ not u → z ≡ u
negated t true true e f = refl
negated t true false e f = let y : false ≡ true = sym e ∙ f in absurd cc
negated t false true e f = let y : true ≡ false = sym e ∙ f in absurd cc
negated t false false e f = refl

boxed_by : (scale : Scale) (layer : Layer) (along across : ℕ) (centre : Point) (direction : Option Point) (sides : Sides) (edges : Edges)
    (t : Bool) (w h : ℕ) (wide high : ℤ)
    → Told scale along across centre direction sides → is_zero (direction_or_east direction).y ≡ t
    → cond t (centred_outline centre along across) (centred_outline centre across along) ≡ centred_outline centre w h → wide ≡ pos w
    → high ≡ pos h → 0 < w → 0 < h
    → unsigned_abs sides.centre.x ≤ 2 ^ 52 → unsigned_abs sides.centre.y ≤ 2 ^ 52 → unsigned_abs wide ≤ 2 ^ 52 → unsigned_abs high ≤ 2 ^ 52
    → edges ≡ centred_edges sides.centre wide high → Boxed scale layer along across centre direction edges
boxed_by scale layer along across centre direction sides edges t w h wide high k z o f g sw sh nx ny nw nh e =
    let d : Point = direction_or_east direction in
    let is : box_outlines along across centre d ≡ centred_outline centre w h ∷ [] =
    outlines_by along across centre d t k.axis z ∙ ap (λ (v : Outline). v ∷ []) o in
    let P : List Outline → Type 0 = λ l. SomeIs (IsOffGrid (ratio scale)) (flat_map outline_distances l) → ⊥ in
    let Q : List Outline → Type 0 = λ l. SomeIs (IsFarOff (ratio scale)) (flat_map outline_distances l) → ⊥ in
    let R : Edges → Type 0 = λ v. IsDrawn (ratio scale) v in
    record {
      drawn = subst R (sym e)
          (drawn_centred (ratio scale) centre w h sides.centre wide high k.centre_is f g sw sh nx ny nw nh (subst P is k.on_grid)
          (subst Q is k.not_far));
      box =
          ap (λ (v : Edges). outlined_box layer (scaled (ratio scale)) (outline_of v) ∷ []) e
          ∙ (ap (λ (v : Outline). outlined_box layer (scaled (ratio scale)) v ∷ []) (centred_is centre w h sides.centre wide high k.centre_is f g)
          ∙ ap (map (outlined_box layer (scaled (ratio scale)))) (sym is));
    }

pub boxed_upright : (scale : Scale) (layer : Layer) (along across : ℕ) (centre : Point) (direction : Option Point) (sides : Sides)
    (edges : Edges) (t : Bool)
    → IsClearBox scale layer along across centre direction sides → AreNearSides sides → t ≡ is_upright sides.direction → t ≡ true
    → edges ≡ centred_edges sides.centre (word sides.across) (word sides.along) → Boxed scale layer along across centre direction edges
boxed_upright scale layer along across centre direction sides edges t c n u e f =
    let k = told scale layer along across centre direction sides c in
    let wa = number_word sides.along n.along_near in
    let wc = number_word sides.across n.across_near in
    let P : ℤ → Type 0 = λ v. unsigned_abs v ≤ 2 ^ 52 in
    boxed_by scale layer along across centre direction sides edges false across along (word sides.across) (word sides.along) k
    (negated t (is_zero (direction_or_east direction).y) false (u ∙ k.upright) e) refl (wc ∙ k.across_is) (wa ∙ k.along_is) k.some_across
    k.some_along
    n.centre_near.0 n.centre_near.1 (subst P (sym wc) n.across_near) (subst P (sym wa) n.along_near) f

pub boxed_flat : (scale : Scale) (layer : Layer) (along across : ℕ) (centre : Point) (direction : Option Point) (sides : Sides) (edges : Edges)
    (t : Bool)
    → IsClearBox scale layer along across centre direction sides → AreNearSides sides → t ≡ is_upright sides.direction → t ≡ false
    → edges ≡ centred_edges sides.centre (word sides.along) (word sides.across) → Boxed scale layer along across centre direction edges
boxed_flat scale layer along across centre direction sides edges t c n u e f =
    let k = told scale layer along across centre direction sides c in
    let wa = number_word sides.along n.along_near in
    let wc = number_word sides.across n.across_near in
    let P : ℤ → Type 0 = λ v. unsigned_abs v ≤ 2 ^ 52 in
    boxed_by scale layer along across centre direction sides edges true along across (word sides.along) (word sides.across) k
    (negated t (is_zero (direction_or_east direction).y) true (u ∙ k.upright) e) refl (wa ∙ k.along_is) (wc ∙ k.across_is) k.some_along k.some_across
    n.centre_near.0 n.centre_near.1 (subst P (sym wa) n.along_near) (subst P (sym wc) n.across_near) f

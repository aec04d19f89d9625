-- Tests of lists of boxes that compute, and what they tell of the squares.
use Rattle.std.proofs.Common.{◌≡◌, ℤ, pos, ◌≤ℤ◌, ◌<ℤ◌, int_le, int_lt, Bool, true, false, not, ◌&&◌, ◌||◌, List, [], ◌∷◌, inl, inr, refl, sym, ◌∙◌, ap, subst, arith}
use Rattle.std.specs.Int.{int_min, int_max}
use Rattle.std.specs.Int.Signed.{le_z_yes, lt_z_yes}
use Rattle.std.proofs.lemmas.Float.{T_from_true}
use Rattle.std.proofs.lemmas.Int.{ints, clamps}
use Rattle.std.proofs.lemmas.Bool.{and_parts, or_cases, both_ways}
use Rattle.geom.specs.declared.layer.Layer.{Layer}
use Rattle.geom.specs.declared.layer.Layer.TheVariants.{Diffusion, Poly, Metal, Cut, Implant}
use Rattle.geom.specs.Squares.{BoxShape, Inside, Covered}
use Rattle.geom.specs.Rows.{Among}
use Rattle.micro_tiles.specs.Boxes.{IsInTile}
use Rattle.micro_tiles.specs.Sides.{same}

pub le_true : (a b : ℤ) → int_le a b ≡ true → a ≤ℤ b
le_true a b e = le_z_yes (T_from_true (int_le a b) e)

pub lt_true : (a b : ℤ) → int_lt a b ≡ true → a <ℤ b
lt_true a b e = lt_z_yes (T_from_true (int_lt a b) e)

pub same_self : (a b : Layer) → a ≡ b → same a b ≡ true
same_self a b e = rw e (self b)
  where
    self : (l : Layer) → same l l ≡ true
    self Diffusion = refl
    self Poly = refl
    self Metal = refl
    self Cut = refl
    self Implant = refl

pub same_eq : (a b : Layer) → same a b ≡ true → a ≡ b
same_eq Diffusion Diffusion h = refl
same_eq Poly Poly h = refl
same_eq Metal Metal h = refl
same_eq Cut Cut h = refl
same_eq Implant Implant h = refl
same_eq _ _ h = cc

negated : (t : Bool) → not t ≡ true → t ≡ false
negated true h = cc
negated false h = refl

-- each box of the layer passes
abbrev pub each : Layer → (BoxShape → Bool) → List BoxShape → Bool
each layer p [] = true
each layer p (b ∷ bs) = (not (same b.layer layer) || p b) && each layer p bs

-- some box of the layer passes
abbrev pub some : Layer → (BoxShape → Bool) → List BoxShape → Bool
some layer p [] = false
some layer p (b ∷ bs) = (same b.layer layer && p b) || some layer p bs

-- a box of the layer in the list that passes the test
pub record Passes (layer : Layer) (p : BoxShape → Bool) (bs : List BoxShape) : Type 0 where
  pub box : BoxShape
  pub among : Among bs box
  pub is : box.layer ≡ layer
  pub passes : p box ≡ true

pub each_at : (layer : Layer) (p : BoxShape → Bool) (bs : List BoxShape) (b : BoxShape)
    → each layer p bs ≡ true → Among bs b → b.layer ≡ layer → p b ≡ true
each_at layer p [] b h among is = absurd among
each_at layer p (c ∷ cs) b h among is =
    let parts = and_parts _ _ h in
    elim among [
      | inl e ↦ elim (or_cases _ _ parts.0) [
        | inl other ↦ absurd (both_ways (same c.layer layer) (negated (same c.layer layer) other) (same_self c.layer layer (ap (λ (d : BoxShape). d.layer) e ∙ is)))
        | inr passes ↦ ap p (sym e) ∙ passes
      ]
      | inr rest ↦ each_at layer p cs b parts.1 rest is
    ]

pub some_at : (layer : Layer) (p : BoxShape → Bool) (bs : List BoxShape) → some layer p bs ≡ true → Passes layer p bs
some_at layer p [] h = cc
some_at layer p (c ∷ cs) h = elim (or_cases _ _ h) [
  | inl first ↦
      let parts = and_parts _ _ first in
      record { box = c; among = inl refl; is = same_eq c.layer layer parts.0; passes = parts.1 }
  | inr rest ↦
      let r = some_at layer p cs rest in
      record { box = r.box; among = inr r.among; is = r.is; passes = r.passes }
]

-- a box of the list over the square
pub record Over (layer : Layer) (bs : List BoxShape) (x y : ℤ) : Type 0 where
  pub box : BoxShape
  pub among : Among bs box
  pub is : box.layer ≡ layer
  pub inside : Inside box x y

pub over : (layer : Layer) (bs : List BoxShape) (x y : ℤ) → Covered bs layer x y → Over layer bs x y
over layer [] x y h = absurd h
over layer (b ∷ bs) x y h = elim h [
  | inl first ↦ record { box = b; among = inl refl; is = first.0; inside = first.1 }
  | inr rest ↦
      let r = over layer bs x y rest in
      record { box = r.box; among = inr r.among; is = r.is; inside = r.inside }
]

pub covered : (layer : Layer) (bs : List BoxShape) (b : BoxShape) (x y : ℤ) → Among bs b → b.layer ≡ layer → Inside b x y → Covered bs layer x y
covered layer [] b x y among is inside = absurd among
covered layer (c ∷ cs) b x y among is inside = elim among [
  | inl e ↦ inl (ap (λ (d : BoxShape). d.layer) e ∙ is, subst (λ (d : BoxShape). Inside d x y) (sym e) inside)
  | inr rest ↦ inr (covered layer cs b x y rest is inside)
]

-- ---- a box in the tile

abbrev pub in_tile : BoxShape → Bool
in_tile b = int_le (pos 0) b.x1 && int_lt b.x1 b.x2 && int_le b.x2 (pos 14) && int_le (pos 0) b.y1 && int_lt b.y1 b.y2 && int_le b.y2 (pos 14)

pub in_tile_is : (b : BoxShape) → in_tile b ≡ true → IsInTile b
in_tile_is b h =
    let top = and_parts _ _ h in
    let upward = and_parts _ _ top.0 in
    let bottom = and_parts _ _ upward.0 in
    let right = and_parts _ _ bottom.0 in
    let left = and_parts _ _ right.0 in
    record {
      left = le_true (pos 0) b.x1 left.0;
      across = lt_true b.x1 b.x2 left.1;
      right = le_true b.x2 (pos 14) right.1;
      bottom = le_true (pos 0) b.y1 bottom.1;
      upward = lt_true b.y1 b.y2 upward.1;
      top = le_true b.y2 (pos 14) top.1;
    }

-- ---- a box against a rectangle

-- the rectangle lies in the box
abbrev pub holds : BoxShape → BoxShape → Bool
holds r b = int_le b.x1 r.x1 && int_le r.x2 b.x2 && int_le b.y1 r.y1 && int_le r.y2 b.y2

-- the two share no square
abbrev pub avoids : BoxShape → BoxShape → Bool
avoids r b = int_le b.x2 r.x1 || int_le r.x2 b.x1 || int_le b.y2 r.y1 || int_le r.y2 b.y1

pub record IsHeld (r b : BoxShape) : Type 0 where
  pub left : b.x1 ≤ℤ r.x1
  pub right : r.x2 ≤ℤ b.x2
  pub bottom : b.y1 ≤ℤ r.y1
  pub top : r.y2 ≤ℤ b.y2

pub held : (r b : BoxShape) → holds r b ≡ true → IsHeld r b
held r b h =
    let top = and_parts _ _ h in
    let bottom = and_parts _ _ top.0 in
    let across = and_parts _ _ bottom.0 in
    record {
      left = le_true b.x1 r.x1 across.0;
      right = le_true r.x2 b.x2 across.1;
      bottom = le_true b.y1 r.y1 bottom.1;
      top = le_true r.y2 b.y2 top.1;
    }

pub held_square : (r b : BoxShape) (x y : ℤ) → IsHeld r b → Inside r x y → Inside b x y
held_square r b x y h i = record { left = omega (arith, ints); right = omega (arith, ints); bottom = omega (arith, ints); top = omega (arith, ints) }

pub avoided : (r b : BoxShape) (x y : ℤ) → avoids r b ≡ true → Inside r x y → Inside b x y → ⊥
avoided r b x y h i k = elim (or_cases _ _ h) [
  | inr top ↦ let t = le_true r.y2 b.y1 top in omega (arith, ints)
  | inl three ↦ elim (or_cases _ _ three) [
    | inr bottom ↦ let t = le_true b.y2 r.y1 bottom in omega (arith, ints)
    | inl two ↦ elim (or_cases _ _ two) [
      | inl left ↦ let t = le_true b.x2 r.x1 left in omega (arith, ints)
      | inr right ↦ let t = le_true r.x2 b.x1 right in omega (arith, ints)
    ]
  ]
]

-- ---- a layer against a rectangle

-- Some box of the layer holds the rectangle, so the layer covers it.
pub filled : (layer : Layer) (bs : List BoxShape) (r : BoxShape) → some layer (holds r) bs ≡ true
    → (x y : ℤ) → Inside r x y → Covered bs layer x y
filled layer bs r h x y i =
    let s = some_at layer (holds r) bs h in
    covered layer bs s.box x y s.among s.is (held_square r s.box x y (held r s.box s.passes) i)

-- All boxes of the layer avoid the rectangle, so the layer has no square of it.
pub clear : (layer : Layer) (bs : List BoxShape) (r : BoxShape) → each layer (avoids r) bs ≡ true
    → (x y : ℤ) → Inside r x y → Covered bs layer x y → ⊥
clear layer bs r h x y i c =
    let o = over layer bs x y c in
    avoided r o.box x y (each_at layer (avoids r) bs o.box h o.among o.is) i o.inside

-- All boxes of the layer lie in the rectangle, so all its squares do.
pub enclosed : (layer : Layer) (bs : List BoxShape) (r : BoxShape) → each layer (λ b. holds b r) bs ≡ true
    → (x y : ℤ) → Covered bs layer x y → Inside r x y
enclosed layer bs r h x y c =
    let o = over layer bs x y c in
    held_square o.box r x y (held o.box r (each_at layer (λ b. holds b r) bs o.box h o.among o.is)) o.inside

-- ---- where two layers meet

abbrev meet : BoxShape → BoxShape → BoxShape
meet a b = record { layer = a.layer; x1 = int_max a.x1 b.x1; y1 = int_max a.y1 b.y1; x2 = int_min a.x2 b.x2; y2 = int_min a.y2 b.y2 }

in_meet : (a b : BoxShape) (x y : ℤ) → Inside a x y → Inside b x y → Inside (meet a b) x y
in_meet a b x y i k = record {
  left = omega (arith, ints, clamps);
  right = omega (arith, ints, clamps);
  bottom = omega (arith, ints, clamps);
  top = omega (arith, ints, clamps);
}

-- the two share no square, or the squares that they share lie in the rectangle
abbrev pub meets_in : BoxShape → BoxShape → BoxShape → Bool
meets_in r a b = avoids a b || holds (meet a b) r

-- each box of one layer passes with each box of the other
abbrev pub each_two : Layer → Layer → (BoxShape → BoxShape → Bool) → List BoxShape → List BoxShape → Bool
each_two one other p [] cs = true
each_two one other p (b ∷ bs) cs = (not (same b.layer one) || each other (p b) cs) && each_two one other p bs cs

pub each_two_at : (one other : Layer) (p : BoxShape → BoxShape → Bool) (bs cs : List BoxShape) (b c : BoxShape)
    → each_two one other p bs cs ≡ true → Among bs b → b.layer ≡ one → Among cs c → c.layer ≡ other → p b c ≡ true
each_two_at one other p [] cs b c h among is rest it = absurd among
each_two_at one other p (d ∷ ds) cs b c h among is rest it =
    let parts = and_parts _ _ h in
    elim among [
      | inl e ↦ elim (or_cases _ _ parts.0) [
        | inl unlike ↦ absurd (both_ways (same d.layer one) (negated (same d.layer one) unlike) (same_self d.layer one (ap (λ (k : BoxShape). k.layer) e ∙ is)))
        | inr passes ↦ subst (λ (k : BoxShape). p k c ≡ true) e (each_at other (p d) cs c passes rest it)
      ]
      | inr more ↦ each_two_at one other p ds cs b c parts.1 more is rest it
    ]

-- All squares of both layers lie in the rectangle.
pub meeting : (one other : Layer) (bs : List BoxShape) (r : BoxShape) → each_two one other (meets_in r) bs bs ≡ true
    → (x y : ℤ) → Covered bs one x y → Covered bs other x y → Inside r x y
meeting one other bs r h x y c d =
    let o = over one bs x y c in
    let p = over other bs x y d in
    elim (or_cases _ _ (each_two_at one other (meets_in r) bs bs o.box p.box h o.among o.is p.among p.is)) [
      | inl apart ↦ absurd (avoided o.box p.box x y apart o.inside p.inside)
      | inr inner ↦ held_square (meet o.box p.box) r x y (held (meet o.box p.box) r inner) (in_meet o.box p.box x y o.inside p.inside)
    ]

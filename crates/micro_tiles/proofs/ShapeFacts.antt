-- The boxes of every tile, and how far its squares are from its border.
use Rattle.std.proofs.Common.{◌≡◌, ℕ, ℤ, pos, ◌-ℤ◌, int_le, Bool, true, false, not, ◌&&◌, ◌||◌, List, [], ◌∷◌, Option, Some, None, inl, inr, refl, sym, ◌∙◌, ap, arith}
use Rattle.std.specs.List.{list_all}
use Rattle.std.specs.Option.{is_some}
use Rattle.std.proofs.lemmas.Int.{ints}
use Rattle.std.proofs.lemmas.Bool.{and_parts, or_cases}
use Rattle.micro_tiles.proofs.EachTile.{each_tile, at_tile}
use Rattle.geom.specs.declared.layer.Layer.{Layer}
use Rattle.geom.specs.declared.layer.Layer.TheVariants.{Diffusion, Poly, Metal, Cut, Implant}
use Rattle.geom.specs.Squares.{BoxShape, Inside, Covered}
use Rattle.geom.specs.Rows.{Among}
use Rattle.micro_tiles.specs.declared.device.Transistor.{Transistor}
use Rattle.micro_tiles.specs.Boxes.{box, cut, IsInTile}
use Rattle.micro_tiles.specs.Shapes.{least_side, IsWide, TilesHaveWideBoxes, contact, IsContact, CutsAreContacts, IsInner, TilesKeepInside, PolyAvoidsDiffusion}
use Rattle.micro_tiles.specs.Table.{design_of, boxes, transistor_at}
use Rattle.micro_tiles.proofs.BoxTests.{le_true, in_tile, in_tile_is, each, each_at, some, over, holds, filled, enclosed, meets_in, each_two, each_two_at, meeting}

-- ---- boxes

abbrev is_wide : BoxShape → Bool
is_wide b = in_tile b && int_le (least_side b.layer) (b.x2 -ℤ b.x1) && int_le (least_side b.layer) (b.y2 -ℤ b.y1)

is_wide_is : (b : BoxShape) → is_wide b ≡ true → IsWide b
is_wide_is b h =
    let height = and_parts _ _ h in
    let width = and_parts _ _ height.0 in
    record {
      within = in_tile_is b width.0;
      width = le_true (least_side b.layer) (b.x2 -ℤ b.x1) width.1;
      height = le_true (least_side b.layer) (b.y2 -ℤ b.y1) height.1;
    }

all_among : (p : BoxShape → Bool) (bs : List BoxShape) (b : BoxShape) → list_all p bs ≡ true → Among bs b → p b ≡ true
all_among p [] b h among = absurd among
all_among p (c ∷ cs) b h among =
    let parts = and_parts _ _ h in
    elim among [ inl e ↦ ap p (sym e) ∙ parts.0 | inr rest ↦ all_among p cs b parts.1 rest ]

all_wide : each_tile (λ tile. list_all is_wide (boxes tile)) ≡ true
unfolding each_tile boxes design_of
all_wide = refl

pub tiles_have_wide_boxes : TilesHaveWideBoxes
tiles_have_wide_boxes tile b below among = is_wide_is b
    (all_among is_wide (boxes tile) b (at_tile _ tile all_wide below) among)

-- ---- contacts

abbrev is_contact : List BoxShape → Bool
is_contact bs = some Cut (holds cut) bs && some Metal (holds contact) bs && (some Poly (holds contact) bs || some Diffusion (holds contact) bs)

-- the tile has no cut, or it is a contact and has no transistor
abbrev cuts_pass : List BoxShape → Option Transistor → Bool
cuts_pass bs transistor = each Cut (λ b. holds b cut) bs && (each Cut (λ b. false) bs || (is_contact bs && not (is_some transistor)))

no_transistor : (o : Option Transistor) → not (is_some o) ≡ true → o ≡ None
no_transistor None h = refl
no_transistor (Some transistor) h = cc

contact_is : (bs : List BoxShape) → each Cut (λ b. holds b cut) bs ≡ true → is_contact bs ≡ true → IsContact bs
contact_is bs around h =
    let other = and_parts _ _ h in
    let metal = and_parts _ _ other.0 in
    record {
      squares = λ x y. (enclosed Cut bs cut around x y, filled Cut bs cut metal.0 x y);
      metal = filled Metal bs contact metal.1;
      other = elim (or_cases _ _ other.1) [
        | inl poly ↦ inl (filled Poly bs contact poly)
        | inr diffusion ↦ inr (filled Diffusion bs contact diffusion)
      ];
    }

pub nothing : (layer : Layer) (bs : List BoxShape) (x y : ℤ) → each layer (λ b. false) bs ≡ true → Covered bs layer x y → ⊥
nothing layer bs x y h c = let o = over layer bs x y c in let e = each_at layer (λ b. false) bs o.box h o.among o.is in cc

cuts_are : (bs : List BoxShape) (transistor : Option Transistor) (x y : ℤ) → cuts_pass bs transistor ≡ true → Covered bs Cut x y
    → IsContact bs × (transistor ≡ None)
cuts_are bs transistor x y h c =
    let parts = and_parts _ _ h in
    elim (or_cases _ _ parts.1) [
      | inl none ↦ absurd (nothing Cut bs x y none c)
      | inr both ↦
          let two = and_parts _ _ both in
          (contact_is bs parts.0 two.0, no_transistor transistor two.1)
    ]

all_cuts_pass : each_tile (λ tile. cuts_pass (boxes tile) (transistor_at tile)) ≡ true
unfolding each_tile boxes design_of
all_cuts_pass = refl

pub cuts_are_contacts : CutsAreContacts
cuts_are_contacts tile x y below c = cuts_are (boxes tile) (transistor_at tile) x y
    (at_tile _ tile all_cuts_pass below) c

-- ---- margins

-- the squares of a tile that are so far from its border
abbrev inner : ℕ → ℕ → BoxShape
inner from to = box Metal from from to to

abbrev stays_inside : List BoxShape → Bool
stays_inside bs = each Cut (λ b. holds b (inner 3 11)) bs && each Implant (λ b. holds b (inner 1 13)) bs && each_two Diffusion Poly (meets_in (inner 3 11)) bs bs

all_stay_inside : each_tile (λ tile. stays_inside (boxes tile)) ≡ true
unfolding each_tile boxes design_of
all_stay_inside = refl

in_three : (x y : ℤ) → Inside (inner 3 11) x y → IsInner (pos 3) x y
in_three x y i = record { left = i.left; right = i.right; bottom = i.bottom; top = i.top }

in_one : (x y : ℤ) → Inside (inner 1 13) x y → IsInner (pos 1) x y
in_one x y i = record { left = i.left; right = i.right; bottom = i.bottom; top = i.top }

in_box : (b : BoxShape) (x y : ℤ) → IsInTile b → Inside b x y → IsInner (pos 0) x y
in_box b x y within i = record { left = omega (arith, ints); right = omega (arith, ints); bottom = omega (arith, ints); top = omega (arith, ints) }

pub tiles_keep_inside : TilesKeepInside
tiles_keep_inside tile below =
    let passes = at_tile _ tile all_stay_inside below in
    let channel = and_parts _ _ passes in
    let cut = and_parts _ _ channel.0 in
    record {
      all = λ layer x y c. let o = over layer (boxes tile) x y c in in_box o.box x y (tiles_have_wide_boxes tile o.box below o.among).within o.inside;
      cut = λ x y c. in_three x y (enclosed Cut (boxes tile) (inner 3 11) cut.0 x y c);
      channel = λ x y c. in_three x y (meeting Diffusion Poly (boxes tile) (inner 3 11) channel.1 x y c.diffusion c.poly);
      implant = λ x y c. in_one x y (enclosed Implant (boxes tile) (inner 1 13) cut.1 x y c);
    }

-- ---- poly and diffusion

-- no box of one of the layers, or a transistor
abbrev poly_passes : List BoxShape → Option Transistor → Bool
poly_passes bs transistor = is_some transistor || each_two Poly Diffusion (λ b c. false) bs bs

all_poly_pass : each_tile (λ tile. poly_passes (boxes tile) (transistor_at tile)) ≡ true
unfolding each_tile boxes design_of
all_poly_pass = refl

pub is_there : (o : Option Transistor) → is_some o ≡ true → (t : Transistor) × (o ≡ Some t)
is_there None h = cc
is_there (Some t) h = (t, refl)

poly_and_diffusion : (bs : List BoxShape) (transistor : Option Transistor) (x y u v : ℤ) → poly_passes bs transistor ≡ true
    → Covered bs Poly x y → Covered bs Diffusion u v → (t : Transistor) × (transistor ≡ Some t)
poly_and_diffusion bs transistor x y u v h c d = elim (or_cases _ _ h) [
  | inl there ↦ is_there transistor there
  | inr none ↦
      let o = over Poly bs x y c in
      let p = over Diffusion bs u v d in
      let e = each_two_at Poly Diffusion (λ b c. false) bs bs o.box p.box none o.among o.is p.among p.is in
      cc
]

pub poly_avoids_diffusion : PolyAvoidsDiffusion
poly_avoids_diffusion tile x y u v below c d = poly_and_diffusion (boxes tile) (transistor_at tile) x y u v
    (at_tile _ tile all_poly_pass below) c d
